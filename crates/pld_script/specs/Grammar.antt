-- What the words of a line say.
use Rattle.std.specs.Prelude.{ℕ, ◌-◌, Bool, true, false, ◌==◌, ◌&&◌, ◌||◌, nat_le, if◌then◌else◌, List, [], ◌∷◌, length, take, drop, Option, Some, None, codes}
use Rattle.std.specs.List.{list_any}
use Rattle.std.specs.Option.{option_map}
use Rattle.std.specs.Str.{bytes_eq}
use Rattle.pld_base.specs.Names.{name_in}
use Rattle.pld_base.specs.declared.event.End.{End}
use Rattle.pld_base.specs.declared.event.Kind.{Kind}
use Rattle.pld_base.specs.declared.event.Kind.TheVariants.{Soft, Hard}
use Rattle.pld_base.specs.declared.event.PortNo.{PortNo}
use Rattle.pld_base.specs.declared.event.Side.{Side}
use Rattle.pld_base.specs.declared.event.Side.TheVariants.{In, Out}
use Rattle.pld_graph.specs.declared.parts.Cut.{Cut}
use Rattle.pld_graph.specs.declared.parts.Cut.TheVariants.{Port, Host}
use Rattle.pld_script.specs.Words.{words_of, are_only}
use Rattle.pld_script.specs.Numbers.{word_in, short_number_in, depth_in, window_of}
use Rattle.pld_script.specs.declared.line.LineKind.{LineKind}
use Rattle.pld_script.specs.declared.line.LineKind.TheVariants.{Skipped, Opens, Single}
use Rattle.pld_script.specs.declared.statement.Statement.{Statement}
use Rattle.pld_script.specs.declared.statement.Statement.TheVariants as says
use Rattle.pld_script.specs.declared.statement.Statement.TheVariants.{Build, Run, DumpImage, DumpTables, Stats, Quit}
use Rattle.pld_script.specs.declared.statement.Edit.{Edit}
use Rattle.pld_script.specs.declared.statement.Edit.TheVariants.{Op, Replace, Remove, Connect, Disconnect, Input, Output, Pin, Unpin, Pages, Levels, Window, Feed, Clear}

-- a comment's first word, which begins with `#`
abbrev pub starts_comment : List ℕ → Bool
starts_comment [] = false
starts_comment (b ∷ word) = b == 35

-- whether a line whose first word is this one opens a text
abbrev pub opens_text : List ℕ → Bool
opens_text first = bytes_eq first (codes "op") || bytes_eq first (codes "replace")

-- What a line with these words is, where no text is open: a line without words and a comment are skipped,
-- and one that begins with `op` or `replace` opens a text.
abbrev pub kind_of_words : List (List ℕ) → LineKind
kind_of_words [] = Skipped
kind_of_words (first ∷ words) =
    if starts_comment first then Skipped
    else if opens_text first then Opens
    else Single

-- what a line is, where no text is open
abbrev pub kind_of : List ℕ → LineKind
kind_of line = kind_of_words (words_of line)

-- the line that ends a text
abbrev pub closes_text : List ℕ → Bool
closes_text line = are_only (codes "end") (words_of line)

-- the kind of page that is asked for
abbrev pub page_kind_in : List ℕ → Option Kind
page_kind_in word =
    if bytes_eq word (codes "soft") then Some Soft
    else if bytes_eq word (codes "hard") then Some Hard
    else None

-- `i` for an in-port, `o` for an out-port
abbrev pub side_in : ℕ → Option Side
side_in b = if b == 105 then Some In else if b == 111 then Some Out else None

-- a digit from 0 to 7
abbrev pub port_number_in : ℕ → Option PortNo
port_number_in b = if nat_le 48 b then (if nat_le b 55 then Some (record { 0 = b - 48 }) else None) else None

-- a port of its three parts, where each is one
abbrev pub end_of : Option (List ℕ) → Option Side → Option PortNo → Option End
end_of (Some name) (Some side) (Some port) = Some (record { op = name; side = side; port = port })
end_of (Some name) (Some side) None = None
end_of (Some name) None port = None
end_of None side port = None

-- a port behind its operator's name: a dot, a side and a number
abbrev pub port_of : List ℕ → List ℕ → Option End
port_of name (dot ∷ side ∷ number ∷ []) = if dot == 46 then end_of (name_in name) (side_in side) (port_number_in number) else None
port_of name tail = None

-- A port: a name, and the three bytes behind it.
abbrev pub port_in : List ℕ → Option End
port_in word = port_of (take (length word - 3) word) (drop (length word - 3) word)

-- the depth of a tree: 1 to 6
abbrev pub page_count_of : Option ℕ → Option ℕ
page_count_of None = None
page_count_of (Some n) = depth_in n

abbrev pub page_count_in : List ℕ → Option ℕ
page_count_in word = page_count_of (short_number_in word)

-- the window of a channel: 1 to 64 words
abbrev pub window_size_of : Option ℕ → Option ℕ
window_size_of None = None
window_size_of (Some n) = window_of n

abbrev pub window_size_in : List ℕ → Option ℕ
window_size_in word = window_size_of (short_number_in word)

-- a dot stands in the word
abbrev pub has_dot : List ℕ → Bool
has_dot word = list_any (λ b. b == 46) word

-- what is to be disconnected: a port, if a dot stands in the word, or else a name
abbrev pub cut_in : List ℕ → Option Cut
cut_in word = if has_dot word then option_map Port (port_in word) else option_map Host (name_in word)

-- the word, where there is one
abbrev pub only_in : List (List ℕ) → Option (List ℕ)
only_in (word ∷ []) = Some word
only_in words = None

-- the two words, where there are two
abbrev pub two_in : List (List ℕ) → Option (List ℕ × List ℕ)
two_in (first ∷ second ∷ []) = Some (first, second)
two_in words = None

-- what is made of two parts, where each is one
abbrev pub of_both : {A B C : Type 0} → (A → B → C) → Option A → Option B → Option C
of_both make (Some a) (Some b) = Some (make a b)
of_both make (Some a) None = None
of_both make None b = None

-- whether there are two upward links: `t` for one, `p` for two
abbrev pub links_in : ℕ → Option Bool
links_in b = if b == 116 then Some false else if b == 112 then Some true else None

-- the upward links of each level by its letter, from the leaves' level up
abbrev pub letters_in : List ℕ → Option (List Bool)
letters_in [] = Some []
letters_in (b ∷ letters) = of_both (λ two levels. two ∷ levels) (links_in b) (letters_in letters)

-- one to five letters, each of them a level's
abbrev pub levels_in : List ℕ → Option (List Bool)
levels_in word = if nat_le 1 (length word) && nat_le (length word) 5 then letters_in word else None

-- a name, and nothing else
abbrev pub only_name_in : List (List ℕ) → Option (List ℕ)
only_name_in (name ∷ []) = name_in name
only_name_in words = None

-- the words behind `remove`: NAME
abbrev pub remove_in : List (List ℕ) → Option Edit
remove_in words = option_map Remove (only_name_in words)

-- the words behind `connect`: PORT PORT
abbrev pub connect_in : List (List ℕ) → Option Edit
connect_in (from ∷ to ∷ []) = of_both Connect (port_in from) (port_in to)
connect_in words = None

-- the words behind `disconnect`: PORT, or NAME
abbrev pub disconnect_in : List (List ℕ) → Option Edit
disconnect_in (what ∷ []) = option_map Disconnect (cut_in what)
disconnect_in words = None

-- the words behind `input`: NAME PORT
abbrev pub input_in : List (List ℕ) → Option Edit
input_in (name ∷ port ∷ []) = of_both Input (name_in name) (port_in port)
input_in words = None

-- the words behind `output`: PORT NAME
abbrev pub output_in : List (List ℕ) → Option Edit
output_in (port ∷ name ∷ []) = of_both Output (port_in port) (name_in name)
output_in words = None

-- the words behind `pin`: NAME NUMBER
abbrev pub pin_in : List (List ℕ) → Option Edit
pin_in (name ∷ leaf ∷ []) = of_both Pin (name_in name) (short_number_in leaf)
pin_in words = None

-- the words behind `unpin`: NAME
abbrev pub unpin_in : List (List ℕ) → Option Edit
unpin_in words = option_map Unpin (only_name_in words)

-- the words behind `pages`: NUMBER
abbrev pub pages_in : List (List ℕ) → Option Edit
pages_in (count ∷ []) = option_map Pages (page_count_in count)
pages_in words = None

-- the words behind `pattern`: LETTERS
abbrev pub pattern_in : List (List ℕ) → Option Edit
pattern_in (letters ∷ []) = option_map Levels (levels_in letters)
pattern_in words = None

-- the words behind `window`: NUMBER
abbrev pub window_in : List (List ℕ) → Option Edit
window_in (size ∷ []) = option_map Window (window_size_in size)
window_in words = None

-- a number in front of others, where each is one
abbrev pub with_number : Option ℕ → Option (List ℕ) → Option (List ℕ)
with_number (Some n) (Some numbers) = Some (n ∷ numbers)
with_number (Some n) None = None
with_number None numbers = None

-- the values of these words, None where one is no number
abbrev pub numbers_in : List (List ℕ) → Option (List ℕ)
numbers_in [] = Some []
numbers_in (word ∷ words) = with_number (word_in word) (numbers_in words)

-- the words behind `feed`: NAME { WORD }
abbrev pub feed_in : List (List ℕ) → Option Edit
feed_in [] = None
feed_in (name ∷ words) = of_both Feed (name_in name) (numbers_in words)

-- the words behind `clear`: NAME
abbrev pub clear_in : List (List ℕ) → Option Edit
clear_in words = option_map Clear (only_name_in words)

-- nothing stands behind a statement's only word
abbrev pub alone : Statement → List (List ℕ) → Option Statement
alone statement [] = Some statement
alone statement (word ∷ words) = None

-- the words behind `dump`: `image` NAME, or `tables`
abbrev pub dump_in : List (List ℕ) → Option Statement
dump_in [] = None
dump_in (what ∷ words) =
    if bytes_eq what (codes "image") then option_map DumpImage (only_name_in words)
    else if bytes_eq what (codes "tables") then alone DumpTables words
    else None

-- orders to the host, by their first word and those behind it
abbrev pub order_in : List ℕ → List (List ℕ) → Option Statement
order_in first words =
    if bytes_eq first (codes "build") then alone Build words
    else if bytes_eq first (codes "run") then alone Run words
    else if bytes_eq first (codes "dump") then dump_in words
    else if bytes_eq first (codes "stats") then alone Stats words
    else if bytes_eq first (codes "quit") then alone Quit words
    else None

-- edits that stand in one line, but `feed`, by their first word and those behind it
abbrev pub edit_in : List ℕ → List (List ℕ) → Option Edit
edit_in first words =
    if bytes_eq first (codes "remove") then remove_in words
    else if bytes_eq first (codes "connect") then connect_in words
    else if bytes_eq first (codes "disconnect") then disconnect_in words
    else if bytes_eq first (codes "input") then input_in words
    else if bytes_eq first (codes "output") then output_in words
    else if bytes_eq first (codes "pin") then pin_in words
    else if bytes_eq first (codes "unpin") then unpin_in words
    else if bytes_eq first (codes "pages") then pages_in words
    else if bytes_eq first (codes "pattern") then pattern_in words
    else if bytes_eq first (codes "window") then window_in words
    else if bytes_eq first (codes "clear") then clear_in words
    else None

-- the edit, or else an order
abbrev pub or_order : Option Edit → List ℕ → List (List ℕ) → Option Statement
or_order (Some edit) first words = Some (says.Edit edit)
or_order None first words = order_in first words

-- what a line with this first word says, and these behind it
abbrev pub said_in : List ℕ → List (List ℕ) → Option Statement
said_in first words = if bytes_eq first (codes "feed") then option_map says.Edit (feed_in words) else or_order (edit_in first words) first words

-- the statement of a line with these words, None where it is in no statement's grammar
abbrev pub statement_in : List (List ℕ) → Option Statement
statement_in [] = None
statement_in (first ∷ words) = said_in first words

-- the statement of a line that opens no text, None for a bad line
abbrev pub line_statement : List ℕ → Option Statement
line_statement line = statement_in (words_of line)

-- the words behind `op`: NAME KIND
abbrev pub op_in : List (List ℕ) → List ℕ → Option Edit
op_in (name ∷ kind ∷ []) text = of_both (λ n k. Op n k text) (name_in name) (page_kind_in kind)
op_in words text = None

-- the words behind `replace`: NAME KIND
abbrev pub replace_in : List (List ℕ) → List ℕ → Option Edit
replace_in (name ∷ kind ∷ []) text = of_both (λ n k. Replace n k text) (name_in name) (page_kind_in kind)
replace_in words text = None

-- the edit of a line with this first word, of those behind it and of the text that the line opens
abbrev pub edit_with : List ℕ → List (List ℕ) → List ℕ → Option Edit
edit_with first words text =
    if bytes_eq first (codes "op") then op_in words text
    else if bytes_eq first (codes "replace") then replace_in words text
    else None

-- the statement of a line with these words and of the text that it opens, None where they are in no statement's grammar
abbrev pub statement_with : List (List ℕ) → List ℕ → Option Statement
statement_with [] text = None
statement_with (first ∷ words) text = option_map says.Edit (edit_with first words text)

-- the statement of a line that opens a text, with the bytes of that text, None for a bad line
abbrev pub text_statement : List ℕ → List ℕ → Option Statement
text_statement head text = statement_with (words_of head) text

-- The text of a large session: a chain of operators, each of which adds its own number to each of 256 words.
use Rattle.std.specs.Prelude.{ℕ, zero, suc, ◌+◌, ◌-◌, ◌*◌, ◌%◌, ◌==◌, if◌then◌else◌, List, [], ◌∷◌, ◌++◌, codes, decimal}
use Rattle.pld_script.specs.Statements.{text_of}

abbrev pub line_of : List ℕ → List ℕ
line_of line = line ++ 10 ∷ []

-- the texts for each number below n, in order
abbrev pub texts_below : (ℕ → List ℕ) → ℕ → List ℕ
texts_below text zero = []
texts_below text (suc n) = texts_below text n ++ text n

-- every other operator is on a softcore
abbrev pub kind_word : ℕ → List ℕ
kind_word k = if k % 2 == 1 then codes "soft" else codes "hard"

abbrev pub op_line : ℕ → List ℕ
op_line k = line_of (codes "op g" ++ decimal k ++ codes " " ++ kind_word k)

-- an operator's text up to the number that it adds
unfoldable pub before_number : List ℕ
before_number = text_of (codes "void add(in a, out b) {" ∷ codes "  uint32_t x;" ∷ codes "  uint32_t i;" ∷ codes "  for (i = 0; i < 256; i++) {" ∷ codes "    x = read(a);" ∷ []) ++ codes "    write(b, x + "

-- an operator's text behind that number
unfoldable pub behind_number : List ℕ
behind_number = text_of (codes ");" ∷ codes "  }" ∷ codes "}" ∷ codes "end" ∷ [])

-- the k-th operator, which adds k
unfoldable pub operator_text : ℕ → List ℕ
operator_text k = op_line k ++ before_number ++ decimal k ++ behind_number

-- the first n operators
abbrev pub operators_text : ℕ → List ℕ
operators_text n = texts_below (λ i. operator_text (i + 1)) n

-- the channel from the k-th operator to the next one
abbrev pub connect_line : ℕ → List ℕ
connect_line k = line_of (codes "connect g" ++ decimal k ++ codes ".o0 g" ++ decimal (k + 1) ++ codes ".i0")

-- the channels between the first n operators
abbrev pub channels_text : ℕ → List ℕ
channels_text n = texts_below (λ i. connect_line (i + 1)) (n - 1)

abbrev pub output_line : ℕ → List ℕ
output_line n = line_of (codes "output g" ++ decimal n ++ codes ".o0 y")

-- the first n multiples of 7, each behind a space
unfoldable pub sevens : ℕ → List ℕ
sevens n = texts_below (λ i. codes " " ++ decimal (7 * i)) n

abbrev pub feed_line : List ℕ
feed_line = line_of (codes "feed s" ++ sevens 256)

-- a chain of n operators, with its input and its output
unfoldable pub design_text : ℕ → List ℕ
design_text n = line_of (codes "pages 6") ++ operators_text n ++ line_of (codes "input s g1.i0") ++ channels_text n ++ output_line n

-- a session that makes this chain, feeds it 256 words, and builds and runs it
unfoldable pub script_of : ℕ → List ℕ
script_of n = design_text n ++ feed_line ++ text_of (codes "build" ∷ codes "run" ∷ [])

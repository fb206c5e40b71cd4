-- The replies to all but runs, tables and refusals. Each line ends with byte 10.
use Rattle.std.specs.Prelude.{ℕ, ◌+◌, ◌/◌, ◌%◌, nat_lt, if◌then◌else◌, List, [], ◌∷◌, ◌++◌, length, flat_map, codes, decimal}
use Rattle.fabric_run.specs.Reply.{line_of}
use Rattle.fabric_core.specs.declared.counts.Counts.{Counts}

abbrev pub ok_reply : List ℕ
ok_reply = line_of (codes "ok")

-- so many operators stand, and so many images were made
abbrev pub built_reply : ℕ → ℕ → List ℕ
built_reply operators compiled = line_of (codes "built " ++ decimal operators ++ codes " compiled " ++ decimal compiled)

-- what a run counted
abbrev pub stats_reply : Counts → List ℕ
stats_reply counts =
    line_of (codes "stats rounds " ++ decimal counts.rounds ++ codes " packets " ++ decimal counts.packets ++ codes " deflected " ++ decimal counts.deflected ++ codes " configs " ++ decimal counts.configs)

-- the digits 0 to 9 begin at `0`, 10 to 15 at `a`
abbrev pub hex_digit : ℕ → ℕ
hex_digit value = if nat_lt value 10 then 48 + value else 87 + value

-- the high four bits first
abbrev pub hex_byte : ℕ → List ℕ
hex_byte byte = hex_digit (byte / 16) ∷ hex_digit (byte % 16) ∷ []

-- lower-case hexadecimal, two digits a byte
abbrev pub hex : List ℕ → List ℕ
hex bytes = flat_map hex_byte bytes

-- the count of an image's bytes, and the bytes
abbrev pub image_reply : List ℕ → List ℕ → List ℕ
image_reply name bytes = line_of (codes "image " ++ name ++ codes " " ++ decimal (length bytes) ++ codes " " ++ hex bytes)

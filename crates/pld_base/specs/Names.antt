-- Identifiers, and the field of 32 bytes that keeps one.
use Rattle.std.specs.Prelude.{◌≡◌, ℕ, ◌-◌, ◌≤◌, ◌==◌, List, [], ◌∷◌, ◌++◌, length, take, drop, replicate, Bool, false, ◌&&◌, ◌||◌, nat_le, Option, Some, None, if◌then◌else◌}
use Rattle.std.specs.List.{list_all}
use Rattle.std.proofs.Common.{sym, ap, ◌∙◌, arith}
use Rattle.std.proofs.lemmas.List.{take-append-drop, length-take-le}
use Rattle.pld_base.specs.declared.name.Name.TheInside.{Inside}

abbrev pub is_digit : ℕ → Bool
is_digit b = nat_le 48 b && nat_le b 57

-- a letter of either case, or an underscore
abbrev pub is_letter : ℕ → Bool
is_letter b = (nat_le 65 b && nat_le b 90) || (nat_le 97 b && nat_le b 122) || (b == 95)

abbrev pub is_letter_or_digit : ℕ → Bool
is_letter_or_digit b = is_letter b || is_digit b

-- a letter, and then letters and digits
abbrev pub is_identifier : List ℕ → Bool
is_identifier [] = false
is_identifier (b ∷ bytes) = is_letter b && list_all is_letter_or_digit bytes

-- the name with this text, if it is an identifier of at most 32 bytes
abbrev pub name_in : List ℕ → Option (List ℕ)
name_in text = if nat_le (length text) 32 && is_identifier text then Some text else None

abbrev pub padded : List ℕ → List ℕ
padded l = l ++ replicate (32 - length l) 0

pub padded_gives_back : (a : Inside) → a.len ≤ 32 → length a.bytes ≡ 32 → drop a.len a.bytes ≡ replicate (32 - a.len) 0 → record { bytes = padded (take a.len a.bytes); len = length (take a.len a.bytes) } ≡ a
padded_gives_back a within whole zeros =
    let fits : a.len ≤ length a.bytes = omega (arith, within, whole) in
    let n : length (take a.len a.bytes) ≡ a.len = length-take-le a.len a.bytes fits in
    let b : padded (take a.len a.bytes) ≡ a.bytes = ap (λ m. take a.len a.bytes ++ replicate (32 - m) 0) n ∙ ap (λ l. take a.len a.bytes ++ l) (sym zeros) ∙ take-append-drop a.len a.bytes in
    let make : List ℕ → ℕ → Inside = λ x y. record { bytes = x; len = y } in
    ap (λ x. make x (length (take a.len a.bytes))) b ∙ ap (λ y. make a.bytes y) n

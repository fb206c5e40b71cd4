-- Reading the fields of an image in order, up to the first that is cut short or out of range.
use Rattle.std.specs.Prelude.{◌≡◌, ℕ, zero, suc, ◌-◌, ◌&&◌, List, [], ◌∷◌, ◌++◌, length, take, drop, is_some, Result, Ok, Err, nat_lt, nat_le, ◌==◌, if◌then◌else◌}
use Rattle.std.specs.Int.{w16, w32, from_le_bytes}
use Rattle.pld_base.specs.declared.memory.Refused.{Refused}
use Rattle.pld_base.specs.declared.memory.Refused.TheVariants as refused
use Rattle.pld_base.specs.declared.event.Kind.{Kind}
use Rattle.pld_base.specs.declared.event.Kind.TheVariants as kinds
use Rattle.rv_isa.specs.Reading.{decoded}
use Rattle.image_form.specs.declared.stop.Bad.{Bad}
use Rattle.image_form.specs.declared.stop.Stop.{Stop}
use Rattle.image_form.specs.declared.stop.Stop.TheVariants as stop
use Rattle.image_form.specs.declared.form.BadImage.{BadImage}

-- a value; or, at a bad field, how many bytes are left from that field on
abbrev pub Found : Type 0 → Type 0
Found A = Result A ℕ

-- a value, and the bytes behind it
abbrev pub Read : Type 0 → Type 0
Read A = Found (A × List ℕ)

infixl 10 ◌>>=◌
abbrev pub ◌>>=◌ : {A B : Type 0} → Found A → (A → Found B) → Found B
(Ok x) >>= f = f x
(Err left) >>= f = Err left

-- so many values, each in view of those before it
unfoldable pub many : {A : Type 0} → (List A → List ℕ → Read A) → ℕ → List A → List ℕ → Read (List A)
many one zero before bytes = Ok (before, bytes)
many one (suc n) before bytes = do
  x ← one before bytes
  many one n (before ++ x.0 ∷ []) x.1

-- a bad field at the front of these bytes
abbrev pub bad : {A : Type 0} → List ℕ → Found A
bad bytes = Err (length bytes)

abbrev pub byte_at : List ℕ → Read ℕ
byte_at [] = Err 0
byte_at (b ∷ bytes) = Ok (b, bytes)

-- four bytes, the lowest first
abbrev pub word_at : List ℕ → Read ℕ
word_at bytes = if nat_lt (length bytes) 4 then bad bytes else Ok (from_le_bytes w32 (take 4 bytes), drop 4 bytes)

-- a byte from low to high
unfoldable pub byte_in : (low high : ℕ) → List ℕ → Read ℕ
byte_in low high bytes = do
  b ← byte_at bytes
  if nat_le low b.0 && nat_le b.0 high then Ok b else bad bytes

-- a word from low to high
unfoldable pub word_in : (low high : ℕ) → List ℕ → Read ℕ
word_in low high bytes = do
  w ← word_at bytes
  if nat_le low w.0 && nat_le w.0 high then Ok w else bad bytes

-- two bytes, the lowest first
abbrev pub half_at : List ℕ → Read ℕ
half_at bytes = if nat_lt (length bytes) 2 then bad bytes else Ok (from_le_bytes w16 (take 2 bytes), drop 2 bytes)

-- the kind, `S` or `H`
unfoldable pub kind_at : List ℕ → Read Kind
kind_at bytes = do
  b ← byte_at bytes
  if b.0 == 83 then Ok (kinds.Soft, b.1) else (if b.0 == 72 then Ok (kinds.Hard, b.1) else bad bytes)

-- the word of `PLDI`
abbrev pub magic : ℕ
magic = 0x49444c50

pub record Header : Type 0 where
  pub kind : Kind
  pub ins : ℕ
  pub outs : ℕ

unfoldable pub header_at : List ℕ → Read Header
header_at bytes = do
  mark ← word_in magic magic bytes
  kind ← kind_at mark.1
  ins ← byte_in 0 8 kind.1
  outs ← byte_in 0 8 ins.1
  reserved ← byte_in 0 0 outs.1
  Ok (record { kind = kind.0; ins = ins.0; outs = outs.0 }, reserved.1)

-- the word of an instruction
unfoldable pub code_at : List ℕ → Read ℕ
code_at bytes = do
  w ← word_at bytes
  if is_some (decoded w.0) then Ok w else bad bytes

-- a count of words, and so many words
unfoldable pub soft_at : List ℕ → Read (List ℕ)
soft_at bytes = do
  n ← word_in 1 32767 bytes
  many (λ before. code_at) n.0 [] n.1

-- the offset of the field with so many bytes left from it on
abbrev pub offset : {A : Type 0} → List ℕ → Found A → Result A ℕ
offset bytes (Ok x) = Ok x
offset bytes (Err left) = Err (length bytes - left)

-- what a function gives, seen by view, is what reading gives
abbrev pub Tells : {X Y : Type 0} → (X → Y) → Result X Bad → Found Y → Type 0
Tells view (Ok x) found = found ≡ Ok (view x)
Tells view (Err b) found = found ≡ Err b.left

abbrev pub Fails : {Y : Type 0} → Stop → Found Y → Type 0
Fails stop.Memory found = Unit {0}
Fails (stop.BadField b) found = found ≡ Err b.left

-- the same, unless memory ran out
abbrev pub Gives : {X Y : Type 0} → (X → Y) → Result X Stop → Found Y → Type 0
Gives view (Ok x) found = found ≡ Ok (view x)
Gives view (Err e) found = Fails e found

abbrev pub IsRefused : {Y : Type 0} → Refused BadImage → Result Y ℕ → Type 0
IsRefused refused.NoMemory read = Unit {0}
IsRefused (refused.Fault f) read = read ≡ Err f.place

-- an image where reading gives one, and the first bad field's offset where it gives that
abbrev pub Reads : {X Y : Type 0} → (X → Y) → Result X (Refused BadImage) → Result Y ℕ → Type 0
Reads view (Ok x) read = read ≡ Ok (view x)
Reads view (Err e) read = IsRefused e read

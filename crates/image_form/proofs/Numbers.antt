-- A field that is read is the field that was written, and what was written is read again.
use Rattle.std.proofs.Common.{◌≡◌, ℕ, suc, ◌+◌, ◌^◌, ◌<◌, ◌≤◌, Bool, true, false, cond, ltb, List, [], ◌∷◌, ◌++◌, length, get_or, take, drop, Ok, Err, refl, sym, ap, subst, ◌∙◌, append_assoc, arith, inl, inr}
use Rattle.std.specs.Prelude.{◌&&◌, nat_le}
use Rattle.std.specs.Int.{w32, from_le_bytes, to_le_bytes}
use Rattle.std.proofs.lemmas.Bool.{cases_lt, ltb-false, le-ltb, and_parts}
use Rattle.std.proofs.lemmas.Bool.Decides.{nat_tests}
use Rattle.std.proofs.lemmas.List.{take-append-drop, length-append, length-take, get_or-drop, get_or-take, get_or_past}
use Rattle.std.proofs.lemmas.Nat.{le_bytes_4, from_le_bytes-to_le_bytes_4}
use Rattle.image_form.specs.Spelling.{word}
use Rattle.image_form.specs.Reading.{◌>>=◌, Found, bad, byte_at, word_at, byte_in, word_in}

abbrev pub IsBytes : List ℕ → Type 0
IsBytes bytes = (i : ℕ) → get_or bytes i 0 < 256

pub IsBytes-drop : (n : ℕ) (bytes : List ℕ) → IsBytes bytes → IsBytes (drop n bytes)
IsBytes-drop n bytes h i = rw get_or-drop (h (n + i))

pub IsBytes-take : (n : ℕ) (bytes : List ℕ) → IsBytes bytes → IsBytes (take n bytes)
IsBytes-take n bytes h i =
    elim (cases_lt i n) [
      | inl lt ↦ rw (get_or-take n bytes i 0 lt) (h i)
      | inr le ↦ rw (get_or_past (take n bytes) i 0 (omega (arith, length-take n bytes))) (omega arith)
    ]

-- the value of a step that did not fail
pub bind_ok : {A B : Type 0} (r : Found A) (f : A → Found B) (y : B) → (r >>= f) ≡ Ok y → (x : A) × (r ≡ Ok x) × (f x ≡ Ok y)
bind_ok (Ok x) f y e = (x, refl, e)
bind_ok (Err d) f y e = absurd cc

abbrev pub done : {A : Type 0} → A → Found A
done x = Ok x

pub ok_is : {A : Type 0} (x y : A) → done x ≡ done y → x ≡ y
ok_is x y e = cc

-- a test that passed
pub test_ok : {A : Type 0} (b : Bool) (left : ℕ) (x y : A) → cond b (Ok x) (Err left) ≡ Ok y → (b ≡ true) × (x ≡ y)
test_ok true left x y e = (refl, cc)
test_ok false left x y e = absurd cc

-- a test that let it pass
pub guard_ok : {A : Type 0} (b : Bool) (left : ℕ) (x y : A) → cond b (Err left) (Ok x) ≡ Ok y → (b ≡ false) × (x ≡ y)
guard_ok true left x y e = absurd cc
guard_ok false left x y e = (refl, cc)

-- what a reader took from the front
pub record Takes (bytes text rest : List ℕ) : Type 0 where
  pub parts : bytes ≡ text ++ rest
  pub rest_fits : IsBytes rest

pub Takes-then : (a x b y c : List ℕ) → Takes a x b → Takes b y c → Takes a (x ++ y) c
Takes-then a x b y c p q = record { parts = p.parts ∙ ap (λ (t : List ℕ). x ++ t) q.parts ∙ sym (append_assoc x y c); rest_fits = q.rest_fits }

-- ---- bytes and words

pub byte_takes : (bytes : List ℕ) (x : ℕ × List ℕ) → IsBytes bytes → byte_at bytes ≡ Ok x → Takes bytes (x.0 ∷ []) x.1 × (x.0 < 256)
byte_takes [] x fits e = absurd cc
byte_takes (b ∷ bytes) x fits e =
    subst (λ (y : ℕ × List ℕ). Takes (b ∷ bytes) (y.0 ∷ []) y.1 × (y.0 < 256)) (ok_is (b, bytes) x e) (record { parts = refl; rest_fits = λ i. fits (suc i) }, fits 0)

pub word_takes : (bytes : List ℕ) (x : ℕ × List ℕ) → IsBytes bytes → word_at bytes ≡ Ok x → Takes bytes (word x.0) x.1 × (x.0 < 2 ^ 32)
word_takes bytes x fits e =
    let g = guard_ok (ltb (length bytes) 4) (length bytes) (from_le_bytes w32 (take 4 bytes), drop 4 bytes) x e in
    let long : 4 ≤ length bytes = ltb-false _ _ g.0 in
    let front = IsBytes-take 4 bytes fits in
    let back : to_le_bytes w32 (from_le_bytes w32 (take 4 bytes)) ≡ take 4 bytes = le_bytes_4 (take 4 bytes) _ (omega (arith, length-take 4 bytes)) front refl in
    let below : from_le_bytes w32 (take 4 bytes) < 2 ^ 32 = omega (arith, front 0, front 1, front 2, front 3) in
    subst (λ (y : ℕ × List ℕ). Takes bytes (word y.0) y.1 × (y.0 < 2 ^ 32)) g.1
    (record { parts = sym (take-append-drop 4 bytes) ∙ ap (λ (t : List ℕ). t ++ drop 4 bytes) (sym back); rest_fits = IsBytes-drop 4 bytes fits }, below)

pub word_again : (n : ℕ) (rest : List ℕ) → n < 2 ^ 32 → word_at (word n ++ rest) ≡ Ok (n, rest)
word_again n rest lt =
    let long : ltb (length (word n ++ rest)) 4 ≡ false = le-ltb _ _ (omega (arith, length-append (word n) rest)) in
    rw long (ap (λ (t : ℕ). done (t, rest)) (from_le_bytes-to_le_bytes_4 n lt))

-- ---- in a range

abbrev pub Between : ℕ → ℕ → ℕ → Type 0
Between low high n = (low ≤ n) × (n ≤ high)

between : (low high n : ℕ) → (nat_le low n && nat_le n high) ≡ true → Between low high n
between low high n e = let p = and_parts (nat_le low n) (nat_le n high) e in (grind (arith, nat_tests, p.0), grind (arith, nat_tests, p.1))

between_true : (low high n : ℕ) → Between low high n → (nat_le low n && nat_le n high) ≡ true
between_true low high n h = grind (arith, nat_tests, h.0, h.1)

pub byte_in_takes : (low high : ℕ) (bytes : List ℕ) (x : ℕ × List ℕ) → IsBytes bytes → byte_in low high bytes ≡ Ok x → Takes bytes (x.0 ∷ []) x.1 × Between low high x.0
unfolding byte_in
byte_in_takes low high bytes x fits e =
    let a = bind_ok (byte_at bytes) (λ b. cond (nat_le low b.0 && nat_le b.0 high) (Ok b) (bad bytes)) x e in
    let t = test_ok _ (length bytes) a.0 x a.2 in
    subst (λ (y : ℕ × List ℕ). Takes bytes (y.0 ∷ []) y.1 × Between low high y.0) t.1 ((byte_takes bytes a.0 fits a.1).0, between low high a.0.0 t.0)

pub word_in_takes : (low high : ℕ) (bytes : List ℕ) (x : ℕ × List ℕ) → IsBytes bytes → word_in low high bytes ≡ Ok x → Takes bytes (word x.0) x.1 × Between low high x.0
unfolding word_in
word_in_takes low high bytes x fits e =
    let a = bind_ok (word_at bytes) (λ b. cond (nat_le low b.0 && nat_le b.0 high) (Ok b) (bad bytes)) x e in
    let t = test_ok _ (length bytes) a.0 x a.2 in
    subst (λ (y : ℕ × List ℕ). Takes bytes (word y.0) y.1 × Between low high y.0) t.1 ((word_takes bytes a.0 fits a.1).0, between low high a.0.0 t.0)

pub byte_in_again : (low high n : ℕ) (rest : List ℕ) → Between low high n → byte_in low high (n ∷ rest) ≡ Ok (n, rest)
unfolding byte_in
byte_in_again low high n rest h = rw (between_true low high n h) refl

pub word_in_again : (low high n : ℕ) (rest : List ℕ) → n < 2 ^ 32 → Between low high n → word_in low high (word n ++ rest) ≡ Ok (n, rest)
unfolding word_in
word_in_again low high n rest lt h =
    ap (λ r. r >>= λ b. cond (nat_le low b.0 && nat_le b.0 high) (Ok b) (bad (word n ++ rest))) (word_again n rest lt) ∙ rw (between_true low high n h) refl

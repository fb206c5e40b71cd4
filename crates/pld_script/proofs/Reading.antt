-- How far a reader has come, and what that says of the statements.
use Rattle.std.proofs.Common.{◌≡◌, ℕ, ◌+◌, ◌-◌, Bool, false, List, [], ◌∷◌, ◌++◌, length, take, drop, refl, sym, ap, ◌∙◌, append_assoc, append-nil, subst, arith}
use Rattle.std.proofs.lemmas.List.{drop-drop, length-drop, take_all}
use Rattle.pld_script.specs.Lines.{lines}
use Rattle.pld_script.specs.Statements.{statements_from, statements_at, text_of, MayFollow, IsLine, HoldsNone, Reads}

-- ---- a reader of lines

-- the lines behind the next one
pub next_lines : (ended : Bool) (bytes line : List ℕ) (at used : ℕ) → IsLine ended (drop at bytes) line used → (e : Bool) (more : List ℕ) → MayFollow ended e more
    → lines e (drop at bytes ++ more) ≡ line ∷ lines e (drop (at + used) bytes ++ more)
next_lines ended bytes line at used h e more m =
    h.first e more m ∙ ap (λ l. line ∷ lines e (l ++ more)) (drop-drop used at bytes)

pub reads_none : (ended : Bool) (bytes : List ℕ) (blank at : ℕ) → Reads ended bytes blank [] at → lines ended (drop at bytes) ≡ [] → HoldsNone ended bytes
reads_none ended bytes blank at r none = λ number.
    let m : MayFollow ended ended [] = record { end = λ q. q; none = λ q. refl } in
    ap (statements_at ended number) (sym (append-nil bytes))
    ∙ r.same number ended [] m
    ∙ ap (statements_from ended (number + blank) []) (ap (lines ended) (append-nil (drop at bytes)) ∙ none)

pub reads_more : (bytes : List ℕ) (blank : ℕ) (head : List ℕ) (text : List (List ℕ)) (at : ℕ)
    → Reads false bytes blank (head ∷ text) at → lines false (drop at bytes) ≡ [] → HoldsNone false bytes
reads_more bytes blank head text at r none = λ number.
    let m : MayFollow false false [] = record { end = λ q. q; none = λ q. refl } in
    ap (statements_at false number) (sym (append-nil bytes))
    ∙ r.same number false [] m
    ∙ ap (statements_from false (number + blank) (head ∷ text)) (ap (lines false) (append-nil (drop at bytes)) ∙ none)

pub text_of-append : (text : List (List ℕ)) (line : List ℕ) → text_of (text ++ line ∷ []) ≡ text_of text ++ (line ++ 10 ∷ [])
text_of-append [] line = append-nil (line ++ 10 ∷ [])
text_of-append (first ∷ text) line = ap (λ l. (first ++ 10 ∷ []) ++ l) (text_of-append text line) ∙ sym (append_assoc (first ++ 10 ∷ []) (text_of text) (line ++ 10 ∷ []))

-- a slice from a place on
pub rest_of : (bytes : List ℕ) (at : ℕ) → take (length bytes - at) (drop at bytes) ≡ drop at bytes
rest_of bytes at = take_all (length bytes - at) (drop at bytes) (omega (arith, length-drop {A = ℕ}))

pub reads_none_at : (ended e : Bool) (bytes : List ℕ) (blank at : ℕ) → ended ≡ e → Reads ended bytes blank [] at
    → lines ended (take (length bytes - at) (drop at bytes)) ≡ [] → HoldsNone e bytes
reads_none_at ended e bytes blank at same r none =
    let P : Bool → Type 0 = λ x. HoldsNone x bytes in
    subst P same (reads_none ended bytes blank at r (ap (lines ended) (sym (rest_of bytes at)) ∙ none))

pub reads_more_at : (ended : Bool) (bytes : List ℕ) (blank : ℕ) (head : List ℕ) (text : List (List ℕ)) (at : ℕ) → ended ≡ false
    → Reads ended bytes blank (head ∷ text) at → lines ended (take (length bytes - at) (drop at bytes)) ≡ [] → HoldsNone false bytes
reads_more_at ended bytes blank head text at same r none =
    let P : Bool → Type 0 = λ x. Reads x bytes blank (head ∷ text) at in
    let Q : Bool → Type 0 = λ x. lines x (take (length bytes - at) (drop at bytes)) ≡ [] in
    reads_more bytes blank head text at (subst P same r) (ap (lines false) (sym (rest_of bytes at)) ∙ subst Q same none)

-- What a scan has found, and that its place stays one where the bytes grow.
use Rattle.std.proofs.Common.{◌≡◌, ◌≢◌, ℕ, ◌+◌, ◌-◌, ◌<◌, ◌≤◌, Bool, true, false, cond, List, [], ◌∷◌, ◌++◌, length, take, drop, get_or, Some, None, refl, sym, ap, ◌∙◌, append_assoc, append-nil, subst, arith, inl, inr, length-append}
use Rattle.std.proofs.lemmas.List.{length-drop, take-append-drop, take-append-le, take_more, get_or-take, get_or-drop, length-take, get_or_append_left}
use Rattle.std.proofs.lemmas.Bool.{cases_lt}
use Rattle.std.proofs.Math.Seq.{take-add}
use Rattle.pld_script.specs.Lines.{lines, HasNoEnd, stripped}
use Rattle.pld_script.specs.Grammar.{kind_of, closes_text, line_statement}
use Rattle.pld_script.specs.declared.line.LineKind.{LineKind}
use Rattle.pld_script.specs.declared.line.LineKind.TheVariants.{Skipped, Opens, Single}
use Rattle.pld_script.specs.Statements.{Placed, statements_from, statements_at, IsOpen, HoldsNone, HoldsOne, Scanned, after_line, after_kind}
use Rattle.pld_script.proofs.Lining.{lines-line, lines-open, none_of}
use Rattle.pld_script.proofs.Reading.{rest_of}

-- no line end stands up to the one that was found
pub clean_more : (bytes : List ℕ) (line seen n : ℕ) → ((k : ℕ) → line ≤ k → k < seen → get_or bytes k 0 ≢ 10)
    → ((k : ℕ) → k < n → get_or (take (length bytes - seen) (drop seen bytes)) k 0 ≢ 10)
    → (k : ℕ) → line ≤ k → k < seen + n → get_or bytes k 0 ≢ 10
clean_more bytes line seen n before behind k p q e =
    elim (cases_lt k seen) [
      | inl h ↦ before k p h e
      | inr h ↦ behind (k - seen) (omega arith)
          (ap (λ l. get_or l (k - seen) 0) (rest_of bytes seen) ∙ get_or-drop seen bytes (k - seen) 0 ∙ ap (λ m. get_or bytes m 0) (omega arith) ∙ e)
    ]

pub found_at : (bytes : List ℕ) (seen n : ℕ) → get_or (take (length bytes - seen) (drop seen bytes)) n 0 ≡ 10 → get_or bytes (seen + n) 0 ≡ 10
found_at bytes seen n e = sym (get_or-drop seen bytes n 0) ∙ ap (λ l. get_or l n 0) (sym (rest_of bytes seen)) ∙ e

-- the line up to a line end
clean_line : (bytes : List ℕ) (line n : ℕ) → line + n ≤ length bytes → ((k : ℕ) → line ≤ k → k < line + n → get_or bytes k 0 ≢ 10) → HasNoEnd (take n (drop line bytes))
clean_line bytes line n h clean =
    none_of (take n (drop line bytes)) (λ k p e.
    let q : k < n = omega (arith, length-take {A = ℕ}, length-drop {A = ℕ}) in
    clean (line + k) (omega arith) (omega arith) (sym (get_or-drop line bytes k 0) ∙ sym (get_or-take n (drop line bytes) k 0 q) ∙ e))

scan_line : (bytes : List ℕ) (line end : ℕ) → line ≤ end → end < length bytes → get_or bytes end 0 ≡ 10
    → take (end + 1) bytes ≡ take line bytes ++ (take (end - line) (drop line bytes) ++ 10 ∷ [])
scan_line bytes line end h k e =
    let one : take (end + 1) bytes ≡ take end bytes ++ get_or bytes end 0 ∷ [] = take_more bytes end 0 k in
    let n : line + (end - line) ≡ end = omega arith in
    let two : take end bytes ≡ take line bytes ++ take (end - line) (drop line bytes) = ap (λ m. take m bytes) (sym n) ∙ take-add line (end - line) bytes in
    one ∙ ap (λ l. l ++ get_or bytes end 0 ∷ []) two ∙ append_assoc (take line bytes) (take (end - line) (drop line bytes)) (get_or bytes end 0 ∷ [])
    ∙ ap (λ b. take line bytes ++ (take (end - line) (drop line bytes) ++ b ∷ [])) e

-- the statements of the bytes up to a line end, and of what follows
scan_same : (bytes : List ℕ) (line seen end : ℕ) (in_text : Bool) (s : Scanned bytes line seen in_text) → line ≤ end → end < length bytes → get_or bytes end 0 ≡ 10
    → HasNoEnd (take (end - line) (drop line bytes)) → (number : ℕ) (e : Bool) (more : List ℕ)
    → statements_at e number (take (end + 1) bytes ++ more)
    ≡ statements_from e (number + s.skipped) s.begun (stripped (take (end - line) (drop line bytes)) ∷ lines e more)
scan_same bytes line seen end in_text s h k ten clean number e more =
    let whole = take (end - line) (drop line bytes) in
    ap (λ l. statements_at e number (l ++ more)) (scan_line bytes line end h k ten)
    ∙ ap (statements_at e number) (append_assoc (take line bytes) (whole ++ 10 ∷ []) more ∙ ap (λ l. take line bytes ++ l) (append_assoc whole (10 ∷ []) more))
    ∙ s.same number e (whole ++ 10 ∷ more)
    ∙ ap (statements_from e (number + s.skipped) s.begun) (lines-line e whole more clean)

-- a line that ends no statement
record Step (line : List ℕ) (in_text : Bool) (skipped : ℕ) (begun : List (List ℕ)) : Type 0 where
  later : List (List ℕ)
  count : ℕ
  is_open : IsOpen in_text later
  same : (number : ℕ) (e : Bool) (ls : List (List ℕ)) → statements_from e (number + skipped) begun (line ∷ ls) ≡ statements_from e (number + count) later ls

pub from_skipped : (e : Bool) (number : ℕ) (line : List ℕ) (ls : List (List ℕ)) → kind_of line ≡ Skipped → statements_from e number [] (line ∷ ls) ≡ statements_from e (number + 1) [] ls
from_skipped e number line ls is =
    ap (λ (k : LineKind). elim k as (λ _. List Placed) [ Skipped ↦ statements_from e (number + 1) [] ls | Opens ↦ statements_from e number (line ∷ []) ls | Single ↦ record { number = number; said = line_statement line } ∷ statements_from e (number + 1) [] ls ]) is

pub from_opens : (e : Bool) (number : ℕ) (line : List ℕ) (ls : List (List ℕ)) → kind_of line ≡ Opens → statements_from e number [] (line ∷ ls) ≡ statements_from e number (line ∷ []) ls
from_opens e number line ls is =
    ap (λ (k : LineKind). elim k as (λ _. List Placed) [ Skipped ↦ statements_from e (number + 1) [] ls | Opens ↦ statements_from e number (line ∷ []) ls | Single ↦ record { number = number; said = line_statement line } ∷ statements_from e (number + 1) [] ls ]) is

pub from_single : (e : Bool) (number : ℕ) (line : List ℕ) (ls : List (List ℕ)) → kind_of line ≡ Single → statements_from e number [] (line ∷ ls) ≡ record { number = number; said = line_statement line } ∷ statements_from e (number + 1) [] ls
from_single e number line ls is =
    ap (λ (k : LineKind). elim k as (λ _. List Placed) [ Skipped ↦ statements_from e (number + 1) [] ls | Opens ↦ statements_from e number (line ∷ []) ls | Single ↦ record { number = number; said = line_statement line } ∷ statements_from e (number + 1) [] ls ]) is

step_none : (kind : LineKind) (line : List ℕ) (next : Bool) (skipped : ℕ) → kind_of line ≡ kind
    → after_kind kind ≡ Some next → Step line next skipped []
step_none Skipped line next skipped is e = record {
  later = [];
  count = skipped + 1;
  is_open = cc;
  same = λ number f ls. from_skipped f (number + skipped) line ls is ∙ ap (λ n. statements_from f n [] ls) (omega arith);
}
step_none Opens line next skipped is e = record {
  later = line ∷ [];
  count = skipped;
  is_open = cc;
  same = λ number f ls. from_opens f (number + skipped) line ls is;
}
step_none Single line next skipped is e = cc

step_some : (c : Bool) (line head : List ℕ) (text : List (List ℕ)) (next : Bool) (skipped : ℕ) → closes_text line ≡ c → cond c None (Some true) ≡ Some next → Step line next skipped (head ∷ text)
step_some true line head text next skipped is e = cc
step_some false line head text next skipped is e = record {
  later = head ∷ (text ++ line ∷ []);
  count = skipped;
  is_open = cc;
  same = λ number f ls. rw is refl;
}

step_of : (line : List ℕ) (in_text next : Bool) (skipped : ℕ) (begun : List (List ℕ)) → IsOpen in_text begun → after_line in_text line ≡ Some next → Step line next skipped begun
step_of line true next skipped [] o e = cc
step_of line false next skipped [] o e = step_none (kind_of line) line next skipped refl e
step_of line true next skipped (head ∷ text) o e = step_some (closes_text line) line head text next skipped refl e
step_of line false next skipped (head ∷ text) o e = cc

pub scan_on : (bytes : List ℕ) (line seen n : ℕ) (in_text next : Bool) → Scanned bytes line seen in_text → seen + n < length bytes
    → ((k : ℕ) → k < n → get_or (take (length bytes - seen) (drop seen bytes)) k 0 ≢ 10) → get_or (take (length bytes - seen) (drop seen bytes)) n 0 ≡ 10
    → after_line in_text (stripped (take (seen + n - line) (drop line bytes))) ≡ Some next
    → Scanned bytes (seen + n + 1) (seen + n + 1) next
scan_on bytes line seen n in_text next s h clean ten e =
    let end = seen + n in
    let order : line ≤ end = omega (arith, s.in_order) in
    let in_line : line + (end - line) ≡ end = omega arith in
    let found : get_or bytes end 0 ≡ 10 = found_at bytes seen n ten in
    let none : HasNoEnd (take (end - line) (drop line bytes)) =
    clean_line bytes line (end - line) (omega arith) (λ k p q. clean_more bytes line seen n s.clean clean k p (omega arith)) in
    let t : Step (stripped (take (end - line) (drop line bytes))) next s.skipped s.begun = step_of (stripped (take (end - line) (drop line bytes))) in_text next s.skipped s.begun s.is_open e in
    record {
      in_order = omega arith;
      within = omega arith;
      clean = λ k p q. absurd (omega arith);
      begun = t.later;
      skipped = t.count;
      is_open = t.is_open;
      same = λ number f more. scan_same bytes line seen end in_text s order h found none number f more ∙ t.same number f (lines f more);
    }

not_nil : {A : Type 0} (x : A) (xs ys : List A) → ys ≡ x ∷ xs → ys ≢ []
not_nil x xs ys e f = cc

ends_none : (kind : LineKind) (line : List ℕ) (number : ℕ) → kind_of line ≡ kind
    → after_kind kind ≡ None → statements_from false number [] (line ∷ []) ≢ []
ends_none Skipped line number is e = cc
ends_none Opens line number is e = cc
ends_none Single line number is e = λ f. not_nil _ _ _ (from_single false number line [] is) f

ends_some : (c : Bool) (line head : List ℕ) (text : List (List ℕ)) (number : ℕ) → closes_text line ≡ c → cond c None (Some true) ≡ None → statements_from false number (head ∷ text) (line ∷ []) ≢ []
ends_some true line head text number is e = rw is (λ f. cc)
ends_some false line head text number is e = cc

ends : (line : List ℕ) (in_text : Bool) (number : ℕ) (begun : List (List ℕ)) → IsOpen in_text begun → after_line in_text line ≡ None → statements_from false number begun (line ∷ []) ≢ []
ends line true number [] o e = cc
ends line false number [] o e = ends_none (kind_of line) line number refl e
ends line true number (head ∷ text) o e = ends_some (closes_text line) line head text number refl e
ends line false number (head ∷ text) o e = cc

pub scan_found : (bytes : List ℕ) (line seen n : ℕ) (in_text : Bool) → Scanned bytes line seen in_text → seen + n < length bytes
    → ((k : ℕ) → k < n → get_or (take (length bytes - seen) (drop seen bytes)) k 0 ≢ 10) → get_or (take (length bytes - seen) (drop seen bytes)) n 0 ≡ 10
    → after_line in_text (stripped (take (seen + n - line) (drop line bytes))) ≡ None
    → HoldsOne (take (seen + n + 1) bytes)
scan_found bytes line seen n in_text s h clean ten e number none =
    let end = seen + n in
    let order : line ≤ end = omega (arith, s.in_order) in
    let in_line : line + (end - line) ≡ end = omega arith in
    let found : get_or bytes end 0 ≡ 10 = found_at bytes seen n ten in
    let no_end : HasNoEnd (take (end - line) (drop line bytes)) =
    clean_line bytes line (end - line) (omega arith) (λ k p q. clean_more bytes line seen n s.clean clean k p (omega arith)) in
    ends (stripped (take (end - line) (drop line bytes))) in_text (number + s.skipped) s.begun s.is_open e
    (sym (scan_same bytes line seen end in_text s order h found no_end number false [])
    ∙ ap (statements_at false number) (append-nil (take (end + 1) bytes)) ∙ none)

pub open_none : (begun : List (List ℕ)) (number : ℕ) → statements_from false number begun [] ≡ []
open_none [] number = refl
open_none (head ∷ text) number = refl

pub scan_none : (bytes : List ℕ) (line seen n : ℕ) (in_text : Bool) → Scanned bytes line seen in_text → seen + n ≡ length bytes
    → ((k : ℕ) → k < n → get_or (take (length bytes - seen) (drop seen bytes)) k 0 ≢ 10)
    → Scanned bytes line (seen + n) in_text × HoldsNone false bytes
scan_none bytes line seen n in_text s h clean =
    let all : (k : ℕ) → line ≤ k → k < seen + n → get_or bytes k 0 ≢ 10 = clean_more bytes line seen n s.clean clean in
    let order : line ≤ length bytes = omega (arith, s.in_order) in
    let none : HasNoEnd (drop line bytes) =
    none_of (drop line bytes) (λ k p e. all (line + k) (omega arith) (omega (arith, length-drop {A = ℕ})) (sym (get_or-drop line bytes k 0) ∙ e)) in (
      record {
        in_order = omega (arith, s.in_order);
        within = omega arith;
        clean = all;
        begun = s.begun;
        skipped = s.skipped;
        is_open = s.is_open;
        same = s.same;
      },
      λ number. ap (statements_at false number) (sym (take-append-drop line bytes)) ∙ s.same number false (drop line bytes)
          ∙ ap (statements_from false (number + s.skipped) s.begun) (lines-open (drop line bytes) none) ∙ open_none s.begun (number + s.skipped),
    )

-- a reader's place stays one where the bytes grow
pub Scanned-append : (bytes more : List ℕ) (line seen : ℕ) (in_text : Bool) → Scanned bytes line seen in_text → Scanned (bytes ++ more) line seen in_text
Scanned-append bytes more line seen in_text s =
    let order : line ≤ length bytes = omega (arith, s.in_order, s.within) in
    record {
      in_order = s.in_order;
      within = omega (arith, s.within, length-append {A = ℕ});
      clean = λ k p q e. s.clean k p q (sym (get_or_append_left bytes more 0 k (omega (arith, s.within))) ∙ e);
      begun = s.begun;
      skipped = s.skipped;
      is_open = s.is_open;
      same = λ number f rest. ap (λ l. statements_at f number (l ++ rest)) (take-append-le line bytes more order) ∙ s.same number f rest;
    }

pub Scanned-new : (bytes : List ℕ) → Scanned bytes 0 0 false
Scanned-new bytes = record {
  in_order = omega arith;
  within = omega arith;
  clean = λ k p q. absurd (omega arith);
  begun = [];
  skipped = 0;
  is_open = refl;
  same = λ number f more. ap (λ n. statements_from f n [] (lines f more)) (omega arith);
}

pub scan_end : (bytes : List ℕ) (line seen : ℕ) (in_text : Bool) → Scanned bytes line seen in_text → length bytes ≤ seen
    → Scanned bytes line seen in_text × HoldsNone false bytes
scan_end bytes line seen in_text s h =
    let end : seen + 0 ≡ length bytes = omega (arith, s.within) in
    let e : seen + 0 ≡ seen = omega arith in
    let P : ℕ → Type 0 = λ x. Scanned bytes line x in_text × HoldsNone false bytes in
    subst P e (scan_none bytes line seen 0 in_text s end (λ k p. absurd (omega arith)))

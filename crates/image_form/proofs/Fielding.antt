-- Micros that are read are in range and spelled so, and the other way.
use Rattle.std.proofs.Common.{◌≡◌, ℕ, ◌^◌, ◌<◌, ◌≤◌, ◌&&◌, ◌==◌, Bool, true, false, cond, List, [], ◌∷◌, ◌++◌, length, take, drop, Option, Some, None, Ok, Err, refl, sym, ap, subst, ◌∙◌, arith, ltb}
use Rattle.std.specs.Prelude.{if◌then◌else◌, nat_eq}
use Rattle.std.specs.Int.{w16, from_le_bytes, to_le_bytes}
use Rattle.std.proofs.lemmas.Bool.{ltb-false, le-ltb, and_parts, eqb-true}
use Rattle.std.proofs.lemmas.Bool.Decides.{nat_tests}
use Rattle.std.proofs.lemmas.List.{take-append-drop, length-append, length-take}
use Rattle.std.proofs.lemmas.Nat.{le_bytes_2, from_le_bytes-to_le_bytes_2}
use Rattle.fsm_core.specs.declared.micro.MicroOp.{MicroOp}
use Rattle.fsm_core.specs.declared.micro.MicroOp.TheVariants as op
use Rattle.fsm_core.specs.declared.micro.Micro.{Micro}
use Rattle.fsm_core.specs.declared.micro.Next.{Next}
use Rattle.fsm_core.specs.declared.micro.Next.TheVariants.{Goto, Branch, End}
use Rattle.image_form.specs.Ops.{number_of, ops, op_among, op_of}
use Rattle.image_form.specs.Spelling.{half, word, micro_bytes, next_bytes}
use Rattle.image_form.specs.Reading.{◌>>=◌, Found, Read, bad, byte_at, half_at}
use Rattle.image_form.specs.Tables.{Bounds, may_follow, some_of, one_field, op_at, micro_parts, micro_checked, micro_at, next_of, leads, next_parts, next_at}
use Rattle.image_form.proofs.Numbers.{IsBytes, IsBytes-take, IsBytes-drop, bind_ok, ok_is, done, test_ok, guard_ok, Takes, Takes-then, byte_takes, word_takes, word_again}

pub half_takes : (bytes : List ℕ) (x : ℕ × List ℕ) → IsBytes bytes → half_at bytes ≡ Ok x → Takes bytes (half x.0) x.1
half_takes bytes x fits e =
    let g = guard_ok (ltb (length bytes) 2) (length bytes) (from_le_bytes w16 (take 2 bytes), drop 2 bytes) x e in
    let long : 2 ≤ length bytes = ltb-false _ _ g.0 in
    let front = IsBytes-take 2 bytes fits in
    let back : to_le_bytes w16 (from_le_bytes w16 (take 2 bytes)) ≡ take 2 bytes = le_bytes_2 (take 2 bytes) _ (omega (arith, length-take 2 bytes)) front refl in
    subst (λ (y : ℕ × List ℕ). Takes bytes (half y.0) y.1) g.1
    (record { parts = sym (take-append-drop 2 bytes) ∙ ap (λ (t : List ℕ). t ++ drop 2 bytes) (sym back); rest_fits = IsBytes-drop 2 bytes fits })

pub half_again : (n : ℕ) (rest : List ℕ) → n < 2 ^ 16 → half_at (half n ++ rest) ≡ Ok (n, rest)
half_again n rest lt =
    let long : ltb (length (half n ++ rest)) 2 ≡ false = le-ltb _ _ (omega (arith, length-append (half n) rest)) in
    rw long (ap (λ (t : ℕ). done (t, rest)) (from_le_bytes-to_le_bytes_2 n lt))

-- ---- operations

abbrev number_in : Option MicroOp → ℕ → ℕ
number_in None n = n
number_in (Some o) n = number_of o

op_first : (os : List MicroOp) (p : MicroOp) (n : ℕ) (o : MicroOp) (b : Bool) → nat_eq n (number_of p) ≡ b → (op_among os n ≡ Some o → number_of o ≡ n) → cond b (Some p) (op_among os n) ≡ Some o → number_of o ≡ n
op_first os p n o true t later e = subst (λ (q : Option MicroOp). number_in q n ≡ n) e (sym (eqb-true n (number_of p) t))
op_first os p n o false t later e = later e

op_found : (os : List MicroOp) (n : ℕ) (o : MicroOp) → op_among os n ≡ Some o → number_of o ≡ n
op_found [] n o e = absurd cc
op_found (p ∷ os) n o e = op_first os p n o (nat_eq n (number_of p)) refl (op_found os n o) e

pub op_again : (o : MicroOp) → op_of (number_of o) ≡ Some o
op_again op.Set = refl
op_again op.Move = refl
op_again op.Add = refl
op_again op.Sub = refl
op_again op.And = refl
op_again op.Or = refl
op_again op.Xor = refl
op_again op.Shl = refl
op_again op.Shr = refl
op_again op.Sar = refl
op_again op.Lts = refl
op_again op.Ltu = refl
op_again op.Les = refl
op_again op.Leu = refl
op_again op.Eq = refl
op_again op.Ne = refl
op_again op.Land = refl
op_again op.Lor = refl
op_again op.Neg = refl
op_again op.Not = refl
op_again op.Lnot = refl
op_again op.Mul = refl
op_again op.Div = refl
op_again op.Divu = refl
op_again op.Rem = refl
op_again op.Remu = refl
op_again op.Load = refl
op_again op.Store = refl
op_again op.Read = refl
op_again op.Write = refl

pub some_of_ok : {A : Type 0} (o : Option A) (good : A → Bool) (bytes rest : List ℕ) (x : A × List ℕ) → some_of o good bytes rest ≡ Ok x → (o ≡ Some x.0) × (good x.0 ≡ true) × (rest ≡ x.1)
some_of_ok None good bytes rest x e = absurd cc
some_of_ok (Some y) good bytes rest x e =
    let t = test_ok (good y) (length bytes) (y, rest) x e in
    subst (λ (z : _ × List ℕ). (Some y ≡ Some z.0) × (good z.0 ≡ true) × (rest ≡ z.1)) t.1 (refl, t.0, refl)

pub one_field_ok : {A : Type 0} (bytes : List ℕ) (r : Found A) (x : A) → one_field bytes r ≡ Ok x → r ≡ Ok x
one_field_ok bytes (Ok y) x e = e
one_field_ok bytes (Err left) x e = absurd cc

op_takes : (bytes : List ℕ) (x : MicroOp × List ℕ) → IsBytes bytes → op_at bytes ≡ Ok x → Takes bytes (number_of x.0 ∷ []) x.1
unfolding op_at
op_takes bytes x fits e =
    let a = bind_ok (byte_at bytes) (λ b. some_of (op_of b.0) (λ o. true) bytes b.1) x e in
    let s = some_of_ok (op_of a.0.0) (λ o. true) bytes a.0.1 x a.2 in
    subst (λ (n : ℕ). Takes bytes (n ∷ []) x.1) (sym (op_found ops a.0.0 x.0 s.0)) (subst (λ (r : List ℕ). Takes bytes (a.0.0 ∷ []) r) s.2 (byte_takes bytes a.0 fits a.1).0)

op_at_again : (o : MicroOp) (rest : List ℕ) → op_at (number_of o ∷ rest) ≡ Ok (o, rest)
unfolding op_at
op_at_again o rest = ap (λ (q : Option MicroOp). some_of q (λ o. true) (number_of o ∷ rest) rest) (op_again o)

-- ---- micros

parts_take : (bytes : List ℕ) (x : Micro × List ℕ) → IsBytes bytes → micro_parts bytes ≡ Ok x → Takes bytes (micro_bytes x.0) x.1
unfolding micro_parts
parts_take bytes x fits e =
    let o = bind_ok _ _ x e in
    let u = bind_ok _ _ x o.2 in
    let t = bind_ok _ _ x u.2 in
    let a = bind_ok _ _ x t.2 in
    let b = bind_ok _ _ x a.2 in
    let v = bind_ok _ _ x b.2 in
    let t0 = op_takes bytes o.0 fits o.1 in
    let t1 = (byte_takes o.0.1 u.0 t0.rest_fits u.1).0 in
    let t2 = half_takes u.0.1 t.0 t1.rest_fits t.1 in
    let t3 = half_takes t.0.1 a.0 t2.rest_fits a.1 in
    let t4 = half_takes a.0.1 b.0 t3.rest_fits b.1 in
    let t5 = (word_takes b.0.1 v.0 t4.rest_fits v.1).0 in
    let e45 = Takes-then a.0.1 (half b.0.0) b.0.1 (word v.0.0) v.0.1 t4 t5 in
    let e35 = Takes-then t.0.1 (half a.0.0) a.0.1 (half b.0.0 ++ word v.0.0) v.0.1 t3 e45 in
    let e25 = Takes-then u.0.1 (half t.0.0) t.0.1 (half a.0.0 ++ half b.0.0 ++ word v.0.0) v.0.1 t2 e35 in
    let e01 = Takes-then bytes (number_of o.0.0 ∷ []) o.0.1 (u.0.0 ∷ []) u.0.1 t0 t1 in
    let e05 = Takes-then bytes (number_of o.0.0 ∷ u.0.0 ∷ []) u.0.1 (half t.0.0 ++ half a.0.0 ++ half b.0.0 ++ word v.0.0) v.0.1 e01 e25 in
    let m : Micro = record { op = o.0.0; unit = u.0.0; t = t.0.0; a = a.0.0; b = b.0.0; value = v.0.0 } in
    subst (λ (y : Micro × List ℕ). Takes bytes (micro_bytes y.0) y.1) (ok_is (m, v.0.1) x v.2) e05

pub micro_takes : (t : Bounds) (before : List Micro) (bytes : List ℕ) (x : Micro × List ℕ) → IsBytes bytes → micro_at t before bytes ≡ Ok x → Takes bytes (micro_bytes x.0) x.1 × (may_follow t before x.0 ≡ true)
unfolding micro_at micro_checked
micro_takes t before bytes x fits e =
    let e1 = one_field_ok bytes _ x e in
    let a = bind_ok (micro_parts bytes) (λ m. cond (may_follow t before m.0) (Ok m) (bad bytes)) x e1 in
    let g = test_ok (may_follow t before a.0.0) (length bytes) a.0 x a.2 in
    subst (λ (y : Micro × List ℕ). Takes bytes (micro_bytes y.0) y.1 × (may_follow t before y.0 ≡ true)) g.1 (parts_take bytes a.0 fits a.1, g.0)

pub record Narrow (m : Micro) : Type 0 where
  pub t : m.t < 2 ^ 16
  pub a : m.a < 2 ^ 16
  pub b : m.b < 2 ^ 16
  pub value : m.value < 2 ^ 32

parts_again : (m : Micro) (rest : List ℕ) → Narrow m → micro_parts (micro_bytes m ++ rest) ≡ Ok (m, rest)
unfolding micro_parts
parts_again m rest n =
    let regrouped : micro_bytes m ++ rest ≡ number_of m.op ∷ m.unit ∷ (half m.t ++ (half m.a ++ (half m.b ++ (word m.value ++ rest)))) = refl in
    ap micro_parts regrouped ∙ rw (op_at_again m.op (m.unit ∷ (half m.t ++ (half m.a ++ (half m.b ++ (word m.value ++ rest))))), half_again m.t (half m.a ++ (half m.b ++ (word m.value ++ rest))) n.t, half_again m.a (half m.b ++ (word m.value ++ rest)) n.a, half_again m.b (word m.value ++ rest) n.b, word_again m.value rest n.value) refl

pub micro_again : (t : Bounds) (before : List Micro) (m : Micro) (rest : List ℕ) → may_follow t before m ≡ true → Narrow m → micro_at t before (micro_bytes m ++ rest) ≡ Ok (m, rest)
unfolding micro_at micro_checked
micro_again t before m rest good n =
    ap (λ (r : Read Micro). one_field (micro_bytes m ++ rest) (r >>= λ y. cond (may_follow t before y.0) (Ok y) (bad (micro_bytes m ++ rest)))) (parts_again m rest n) ∙ rw good refl

-- ---- where a state goes on

abbrev raw : (kind r i j : ℕ) → List ℕ
raw kind r i j = (kind ∷ []) ++ half r ++ word i ++ word j

abbrev spelled : Option Next → List ℕ → List ℕ
spelled None text = text
spelled (Some x) text = next_bytes x

abbrev nothing : Option Next
nothing = None

raw_same : (k k' r r' i i' j j' : ℕ) → k ≡ k' → r ≡ r' → i ≡ i' → j ≡ j' → raw k r i j ≡ raw k' r' i' j'
raw_same k k' r r' i i' j j' a b c d = rw (a, b, c, d) refl

none_goes : {P : Type 0} (x : Next) → nothing ≡ Some x → P
none_goes x e = absurd cc

goto_is : (kind r i j : ℕ) (b : Bool) (x : Next) → kind ≡ 0 → ((r == 0) && (j == 0)) ≡ b → cond b (Some (Goto i)) None ≡ Some x → raw kind r i j ≡ next_bytes x
goto_is kind r i j false x k t e = none_goes x e
goto_is kind r i j true x k t e =
    let p = and_parts (r == 0) (j == 0) t in
    raw_same kind 0 r 0 i i j 0 k (eqb-true r 0 p.0) refl (eqb-true j 0 p.1) ∙ ap (λ (o : Option Next). spelled o []) e

end_is : (kind r i j : ℕ) (b : Bool) (x : Next) → kind ≡ 2 → ((r == 0) && (i == 0) && (j == 0)) ≡ b → cond b (Some End) None ≡ Some x → raw kind r i j ≡ next_bytes x
end_is kind r i j false x k t e = none_goes x e
end_is kind r i j true x k t e =
    let r0 : r ≡ 0 = grind (arith, nat_tests, t) in
    let i0 : i ≡ 0 = grind (arith, nat_tests, t) in
    let j0 : j ≡ 0 = grind (arith, nat_tests, t) in
    raw_same kind 2 r 0 i 0 j 0 k r0 i0 j0 ∙ ap (λ (o : Option Next). spelled o []) e

third_is : (kind r i j : ℕ) (b : Bool) (x : Next) → nat_eq kind 2 ≡ b → cond b (if (r == 0) && (i == 0) && (j == 0) then Some End else None) None ≡ Some x → raw kind r i j ≡ next_bytes x
third_is kind r i j false x k e = none_goes x e
third_is kind r i j true x k e = end_is kind r i j _ x (eqb-true kind 2 k) refl e

second_is : (kind r i j : ℕ) (b : Bool) (x : Next) → nat_eq kind 1 ≡ b → cond b (Some (Branch r i j)) (if kind == 2 then (if (r == 0) && (i == 0) && (j == 0) then Some End else None) else None) ≡ Some x → raw kind r i j ≡ next_bytes x
second_is kind r i j false x k e = third_is kind r i j _ x refl e
second_is kind r i j true x k e = raw_same kind 1 r r i i j j (eqb-true kind 1 k) refl refl refl ∙ ap (λ (o : Option Next). spelled o []) e

first_is : (kind r i j : ℕ) (b : Bool) (x : Next) → nat_eq kind 0 ≡ b → cond b (if (r == 0) && (j == 0) then Some (Goto i) else None) (if kind == 1 then Some (Branch r i j) else (if kind == 2 then (if (r == 0) && (i == 0) && (j == 0) then Some End else None) else None)) ≡ Some x → raw kind r i j ≡ next_bytes x
first_is kind r i j false x k e = second_is kind r i j _ x refl e
first_is kind r i j true x k e = goto_is kind r i j _ x (eqb-true kind 0 k) refl e

next_is : (kind r i j : ℕ) (x : Next) → next_of kind r i j ≡ Some x → raw kind r i j ≡ next_bytes x
next_is kind r i j x e = first_is kind r i j _ x refl e

pub next_takes : (t : Bounds) (bytes : List ℕ) (x : Next × List ℕ) → IsBytes bytes → next_at t bytes ≡ Ok x → Takes bytes (next_bytes x.0) x.1 × (leads t x.0 ≡ true)
unfolding next_at next_parts
next_takes t bytes x fits e =
    let e1 = one_field_ok bytes _ x e in
    let k = bind_ok _ _ x e1 in
    let r = bind_ok _ _ x k.2 in
    let i = bind_ok _ _ x r.2 in
    let j = bind_ok _ _ x i.2 in
    let s = some_of_ok (next_of k.0.0 r.0.0 i.0.0 j.0.0) (leads t) bytes j.0.1 x j.2 in
    let t0 = (byte_takes bytes k.0 fits k.1).0 in
    let t1 = half_takes k.0.1 r.0 t0.rest_fits r.1 in
    let t2 = (word_takes r.0.1 i.0 t1.rest_fits i.1).0 in
    let t3 = (word_takes i.0.1 j.0 t2.rest_fits j.1).0 in
    let e23 = Takes-then r.0.1 (word i.0.0) i.0.1 (word j.0.0) j.0.1 t2 t3 in
    let e13 = Takes-then k.0.1 (half r.0.0) r.0.1 (word i.0.0 ++ word j.0.0) j.0.1 t1 e23 in
    let e03 = Takes-then bytes (k.0.0 ∷ []) k.0.1 (half r.0.0 ++ word i.0.0 ++ word j.0.0) j.0.1 t0 e13 in
    (subst (λ (w : List ℕ). Takes bytes w x.1) (next_is k.0.0 r.0.0 i.0.0 j.0.0 x.0 s.0) (subst (λ (w : List ℕ). Takes bytes (raw k.0.0 r.0.0 i.0.0 j.0.0) w) s.2 e03), s.1)

abbrev parsed : Bounds → (bytes : List ℕ) → (kind r i j : ℕ) → List ℕ → Read Next
parsed t bytes kind r i j rest = some_of (next_of kind r i j) (leads t) bytes rest

raw_again : (t : Bounds) (kind r i j : ℕ) (rest : List ℕ) → r < 2 ^ 16 → i < 2 ^ 32 → j < 2 ^ 32 → next_parts t (raw kind r i j ++ rest) ≡ parsed t (raw kind r i j ++ rest) kind r i j rest
unfolding next_parts
raw_again t kind r i j rest a b c =
    rw (half_again r (word i ++ (word j ++ rest)) a, word_again i (word j ++ rest) b, word_again j rest c) refl

abbrev pub Short : Next → Type 0
Short (Goto i) = i < 2 ^ 32
Short (Branch r i j) = (r < 2 ^ 16) × (i < 2 ^ 32) × (j < 2 ^ 32)
Short End = Unit {0}

some_again : (good : Next → Bool) (x : Next) (bytes rest : List ℕ) → good x ≡ true → some_of (Some x) good bytes rest ≡ Ok (x, rest)
some_again good x bytes rest e = rw e refl

pub next_again : (t : Bounds) (x : Next) (rest : List ℕ) → leads t x ≡ true → Short x → next_at t (next_bytes x ++ rest) ≡ Ok (x, rest)
unfolding next_at
next_again t (Goto i) rest good s = ap (one_field (next_bytes (Goto i) ++ rest)) (raw_again t 0 0 i 0 rest (omega arith) s (omega arith) ∙ some_again (leads t) (Goto i) (next_bytes (Goto i) ++ rest) rest good)
next_again t (Branch r i j) rest good s = ap (one_field (next_bytes (Branch r i j) ++ rest)) (raw_again t 1 r i j rest s.0 s.1 s.2 ∙ some_again (leads t) (Branch r i j) (next_bytes (Branch r i j) ++ rest) rest good)
next_again t End rest good s = ap (one_field (next_bytes End ++ rest)) (raw_again t 2 0 0 0 rest (omega arith) (omega arith) (omega arith) ∙ some_again (leads t) End (next_bytes End ++ rest) rest good)

-- The two laws: what is read is in range and spelled so, and what is in range and spelled so is read.
use Rattle.std.specs.Prelude.{slice_index}
use Rattle.std.proofs.Common.{Bool, true, false, ◌+◌, sum, ◌-◌, ◌≡◌, ℕ, ◌^◌, ◌<◌, ◌≤◌, cond, eqb, List, [], ◌∷◌, ◌++◌, length, All, Ok, Err, refl, sym, ap, subst, ◌∙◌, append_assoc, arith, is_some}
use Rattle.std.specs.List.{flat_map}
use Rattle.std.proofs.lemmas.Bool.{eqb-true}
use Rattle.std.proofs.lemmas.List.{append-nil, nil_from_length}
use Rattle.std.proofs.lemmas.List.Elements.{All-push, All-nil, All-head, All-tail, All-weaker, All-from_get_or}
use Rattle.std.specs.Prelude.{codes}
use Rattle.pld_base.specs.declared.event.Kind.{Kind}
use Rattle.pld_base.specs.declared.event.Kind.TheVariants as kinds
use Rattle.rv_isa.specs.Reading.{decoded}
use Rattle.image_form.specs.declared.stop.Stop.{Stop}
use Rattle.image_form.specs.declared.stop.Bad.{Bad}
use Rattle.image_form.specs.declared.stop.Stop.TheVariants as stop
use Rattle.image_form.specs.Tables.{Bounds, state_at, length_at, table_at}
use Rattle.image_form.specs.Whole.{body_by, body_at, all_of}
use Rattle.fsm_core.specs.Machine.{Stage}
use Rattle.fsm_core.specs.Table.{Plan, IsStage, IsTable}
use Rattle.image_form.proofs.MadeTables.{table_by}
use Rattle.image_form.proofs.Stages.{plan_for, bounds_of, IsState, states_take, states_again, stage_is, all_spellable}
use Rattle.std.proofs.lemmas.List.Sums.{sum_by-cons}
use Rattle.image_form.specs.Spelling.{Form, Soft, Hard, table_bytes, state_bytes, IsCode, IsForm, HasWords, word, letter, header, bytes_of}
use Rattle.image_form.specs.Reading.{◌>>=◌, Found, Read, Fails, bad, many, byte_at, word_at, word_in, kind_at, magic, Header, header_at, code_at, soft_at}
use Rattle.image_form.proofs.Numbers.{IsBytes, bind_ok, ok_is, done, test_ok, Takes, Takes-then, Between, byte_takes, word_takes, word_again, byte_in_takes, word_in_takes, byte_in_again, word_in_again}
use Rattle.image_form.proofs.Many.{sum_push, many_takes, Each, many_again}

pub found_not_bad : {A : Type 0} (x : A) (left : ℕ) → done x ≡ Err left → ⊥
found_not_bad x left e = cc

pub failed_at : {A : Type 0} (e : Stop) (b : Bad) (found : Found A) → e ≡ stop.BadField b → Fails e found → found ≡ Err b.left
failed_at e b found k h = subst (λ (s : Stop). Fails s found) k h

-- ---- the header

by_letter : (s h : Bool) (bytes : List ℕ) (b : ℕ) (rest : List ℕ) (x : Kind × List ℕ) → eqb b 83 ≡ s → eqb b 72 ≡ h → Takes bytes (b ∷ []) rest → cond s (Ok (kinds.Soft, rest)) (cond h (Ok (kinds.Hard, rest)) (bad bytes)) ≡ Ok x → Takes bytes (letter x.0 ∷ []) x.1
by_letter true h bytes b rest x i j t e =
    subst (λ (y : Kind × List ℕ). Takes bytes (letter y.0 ∷ []) y.1) (ok_is (kinds.Soft, rest) x e) (subst (λ (c : ℕ). Takes bytes (c ∷ []) rest) (eqb-true b 83 i) t)
by_letter false true bytes b rest x i j t e =
    subst (λ (y : Kind × List ℕ). Takes bytes (letter y.0 ∷ []) y.1) (ok_is (kinds.Hard, rest) x e) (subst (λ (c : ℕ). Takes bytes (c ∷ []) rest) (eqb-true b 72 j) t)
by_letter false false bytes b rest x i j t e = absurd cc

kind_takes : (bytes : List ℕ) (x : Kind × List ℕ) → IsBytes bytes → kind_at bytes ≡ Ok x → Takes bytes (letter x.0 ∷ []) x.1
unfolding kind_at
kind_takes bytes x fits e =
    let a = bind_ok (byte_at bytes) (λ b. cond (eqb b.0 83) (Ok (kinds.Soft, b.1)) (cond (eqb b.0 72) (Ok (kinds.Hard, b.1)) (bad bytes))) x e in
    by_letter (eqb a.0.0 83) (eqb a.0.0 72) bytes a.0.0 a.0.1 x refl refl (byte_takes bytes a.0 fits a.1).0 a.2

pub record Headed (bytes : List ℕ) (h : Header) (rest : List ℕ) : Type 0 where
  pub takes : Takes bytes (header h.kind h.ins h.outs) rest
  pub ins : h.ins ≤ 8
  pub outs : h.outs ≤ 8

magic_is : (n : ℕ) → Between magic magic n → word n ≡ codes "PLDI"
magic_is n h = let e : n ≡ magic = omega (arith, h.0, h.1) in ap word e

zero_is : (n : ℕ) → Between 0 0 n → n ≡ 0
zero_is n h = omega (arith, h.1)

header_takes : (bytes : List ℕ) (x : Header × List ℕ) → IsBytes bytes → header_at bytes ≡ Ok x → Headed bytes x.0 x.1
unfolding header_at
header_takes bytes x fits e =
    let a = bind_ok _ _ x e in
    let b = bind_ok _ _ x a.2 in
    let c = bind_ok _ _ x b.2 in
    let d = bind_ok _ _ x c.2 in
    let r = bind_ok _ _ x d.2 in
    let t0 = word_in_takes magic magic bytes a.0 fits a.1 in
    let t1 = kind_takes a.0.1 b.0 t0.0.rest_fits b.1 in
    let t2 = byte_in_takes 0 8 b.0.1 c.0 t1.rest_fits c.1 in
    let t3 = byte_in_takes 0 8 c.0.1 d.0 t2.0.rest_fits d.1 in
    let t4 = byte_in_takes 0 0 d.0.1 r.0 t3.0.rest_fits r.1 in
    let e34 = Takes-then c.0.1 (d.0.0 ∷ []) d.0.1 (r.0.0 ∷ []) r.0.1 t3.0 t4.0 in
    let e24 = Takes-then b.0.1 (c.0.0 ∷ []) c.0.1 (d.0.0 ∷ r.0.0 ∷ []) r.0.1 t2.0 e34 in
    let e14 = Takes-then a.0.1 (letter b.0.0 ∷ []) b.0.1 (c.0.0 ∷ d.0.0 ∷ r.0.0 ∷ []) r.0.1 t1 e24 in
    let e04 = Takes-then bytes (word a.0.0) a.0.1 (letter b.0.0 ∷ c.0.0 ∷ d.0.0 ∷ r.0.0 ∷ []) r.0.1 t0.0 e14 in
    let whole : Takes bytes (header b.0.0 c.0.0 d.0.0) r.0.1 =
    subst (λ (t : List ℕ). Takes bytes (t ++ letter b.0.0 ∷ c.0.0 ∷ d.0.0 ∷ 0 ∷ []) r.0.1) (magic_is a.0.0 t0.1)
    (subst (λ (z : ℕ). Takes bytes (word a.0.0 ++ letter b.0.0 ∷ c.0.0 ∷ d.0.0 ∷ z ∷ []) r.0.1) (zero_is r.0.0 t4.1) e04) in
    subst (λ (y : Header × List ℕ). Headed bytes y.0 y.1) (ok_is (record { kind = b.0.0; ins = c.0.0; outs = d.0.0 }, r.0.1) x r.2)
    (record { takes = whole; ins = t2.1.1; outs = t3.1.1 })

header_again : (h : Header) (rest : List ℕ) → kind_at (letter h.kind ∷ h.ins ∷ h.outs ∷ 0 ∷ rest) ≡ Ok (h.kind, h.ins ∷ h.outs ∷ 0 ∷ rest) → h.ins ≤ 8 → h.outs ≤ 8 → header_at (header h.kind h.ins h.outs ++ rest) ≡ Ok (h, rest)
unfolding header_at
header_again h rest k i o =
    let m : word_in magic magic (word magic ++ letter h.kind ∷ h.ins ∷ h.outs ∷ 0 ∷ rest) ≡ Ok (magic, letter h.kind ∷ h.ins ∷ h.outs ∷ 0 ∷ rest) = word_in_again magic magic magic _ (omega arith) (omega arith, omega arith) in
    rw (m, k, byte_in_again 0 8 h.ins (h.outs ∷ 0 ∷ rest) (omega arith, i), byte_in_again 0 8 h.outs (0 ∷ rest) (omega arith, o), byte_in_again 0 0 0 rest (omega arith, omega arith)) refl

soft_kind : (rest : List ℕ) → kind_at (letter kinds.Soft ∷ rest) ≡ Ok (kinds.Soft, rest)
unfolding kind_at
soft_kind rest = refl

hard_kind : (rest : List ℕ) → kind_at (letter kinds.Hard ∷ rest) ≡ Ok (kinds.Hard, rest)
unfolding kind_at
hard_kind rest = refl

-- ---- code

code_takes : (bytes : List ℕ) (x : ℕ × List ℕ) → IsBytes bytes → code_at bytes ≡ Ok x → Takes bytes (word x.0) x.1 × IsCode x.0
unfolding code_at
code_takes bytes x fits e =
    let a = bind_ok (word_at bytes) (λ w. cond (is_some (decoded w.0)) (Ok w) (bad bytes)) x e in
    let t = test_ok _ (length bytes) a.0 x a.2 in
    subst (λ (y : ℕ × List ℕ). Takes bytes (word y.0) y.1 × IsCode y.0) t.1 ((word_takes bytes a.0 fits a.1).0, t.0)

code_again : (w : ℕ) (rest : List ℕ) → w < 2 ^ 32 → IsCode w → code_at (word w ++ rest) ≡ Ok (w, rest)
unfolding code_at
code_again w rest lt good =
    ap (λ r. r >>= λ b. cond (is_some (decoded b.0)) (Ok b) (bad (word w ++ rest))) (word_again w rest lt) ∙ rw good refl

one_code : (before : List ℕ) (bytes : List ℕ) (x : ℕ × List ℕ) → IsBytes bytes → All IsCode before → code_at bytes ≡ Ok x → Takes bytes (word x.0) x.1 × All IsCode (before ++ x.0 ∷ [])
one_code before bytes x fits all e = let t = code_takes bytes x fits e in (t.0, All-push IsCode before x.0 all t.1)

abbrev GoodCode : List ℕ → ℕ → Type 0
GoodCode before w = (w < 2 ^ 32) × IsCode w

each_code : (before code : List ℕ) → All IsCode code → All (λ w. w < 2 ^ 32) code → Each GoodCode before code
each_code before [] good wide = tt
each_code before (w ∷ code) good wide = (
  (All-head (λ w. w < 2 ^ 32) w code wide, All-head IsCode w code good),
  each_code (before ++ w ∷ []) code (All-tail IsCode w code good) (All-tail (λ w. w < 2 ^ 32) w code wide),
)

pub record IsSoft (bytes : List ℕ) (code rest : List ℕ) : Type 0 where
  pub takes : Takes bytes (word (length code) ++ flat_map word code) rest
  pub some : 1 ≤ length code
  pub few : length code ≤ 32767
  pub good : All IsCode code

soft_takes : (bytes : List ℕ) (x : List ℕ × List ℕ) → IsBytes bytes → soft_at bytes ≡ Ok x → IsSoft bytes x.0 x.1
unfolding soft_at
soft_takes bytes x fits e =
    let a = bind_ok _ _ x e in
    let t = word_in_takes 1 32767 bytes a.0 fits a.1 in
    let m = many_takes (λ before. code_at) (All IsCode) word one_code a.0.0 [] a.0.1 x t.0.rest_fits (All-nil IsCode) a.2 in
    let n : length x.0 ≡ a.0.0 = omega (arith, m.many_of) in
    let both = Takes-then bytes (word a.0.0) a.0.1 (flat_map word x.0) x.1 t.0 (record { parts = m.parts; rest_fits = m.rest_fits }) in
    record {
      takes = subst (λ (k : ℕ). Takes bytes (word k ++ flat_map word x.0) x.1) (sym n) both;
      some = omega (arith, n, t.1.0);
      few = omega (arith, n, t.1.1);
      good = m.good;
    }

soft_again : (code rest : List ℕ) → 1 ≤ length code → length code ≤ 32767 → All IsCode code → All (λ w. w < 2 ^ 32) code → soft_at ((word (length code) ++ flat_map word code) ++ rest) ≡ Ok (code, rest)
unfolding soft_at
soft_again code rest some few good wide =
    let regrouped : (word (length code) ++ flat_map word code) ++ rest ≡ word (length code) ++ (flat_map word code ++ rest) = append_assoc (word (length code)) (flat_map word code) rest in
    let n = word_in_again 1 32767 (length code) (flat_map word code ++ rest) (omega (arith, few)) (some, few) in
    let m = many_again (λ before. code_at) GoodCode word (λ before w rest good. code_again w rest good.0 good.1) [] code rest (each_code [] code good wide) in
    ap soft_at regrouped ∙ ap (λ r. r >>= λ k. many (λ before. code_at) k.0 [] k.1) n ∙ m

-- ---- tables

grouped : (w a r c s : List ℕ) → w ++ (a ++ (r ++ (c ++ s))) ≡ (((w ++ a) ++ r) ++ c) ++ s
grouped w a r c s = simp append_assoc

regrouped_by : (w a r c s rest : List ℕ) → ((((w ++ a) ++ r) ++ c) ++ s) ++ rest ≡ w ++ (a ++ (r ++ (c ++ (s ++ rest))))
regrouped_by w a r c s rest = simp append_assoc

pub record AreLengths (before : List ℕ) : Type 0 where
  pub filled : All (λ n. 1 ≤ n) before
  pub words : sum before ≤ 8192

by_steps : (ins outs : ℕ) (bytes : List ℕ) (n : ℕ) (r1 : List ℕ) (arrays r2 : List ℕ) (registers : ℕ) (r3 : List ℕ) (count : ℕ) (r4 : List ℕ) (x : List Stage × List ℕ)
    → word_in 0 16 bytes ≡ Ok (n, r1) → many length_at n [] r1 ≡ Ok (arrays, r2) → word_in 64 65535 r2 ≡ Ok (registers, r3) → word_in 1 65535 r3 ≡ Ok (count, r4)
    → many (λ before. state_at (record { ins = ins; outs = outs; arrays = length arrays; registers = registers; states = count })) count [] r4 ≡ Ok x
    → table_at ins outs bytes ≡ Ok (record { ins = ins; outs = outs; arrays = arrays; registers = registers; states = x.0 }, x.1)
by_steps ins outs bytes n r1 arrays r2 registers r3 count r4 x a b c d e = table_by ins outs bytes (length arrays) n r1 arrays r2 registers r3 count r4 a b c d refl e

one_length : (before : List ℕ) (bytes : List ℕ) (x : ℕ × List ℕ) → IsBytes bytes → AreLengths before → length_at before bytes ≡ Ok x → Takes bytes (word x.0) x.1 × AreLengths (before ++ x.0 ∷ [])
one_length before bytes x fits h e =
    let t = word_in_takes 1 (8192 - sum before) bytes x fits e in
    (t.0, record { filled = All-push (λ n. 1 ≤ n) before x.0 h.filled t.1.0; words = omega (arith, t.1.1, h.words, sum_push before x.0) })

abbrev GoodLength : List ℕ → ℕ → Type 0
GoodLength before n = Between 1 (8192 - sum before) n

each_length : (before more : List ℕ) → All (λ n. 1 ≤ n) more → sum before + sum more ≤ 8192 → Each GoodLength before more
each_length before [] h w = tt
each_length before (n ∷ more) h w =
    let first : sum (n ∷ more) ≡ n + sum more = sum_by-cons (λ y. y) n more in
    ((All-head (λ n. 1 ≤ n) n more h, omega (arith, w, first)), each_length (before ++ n ∷ []) more (All-tail (λ n. 1 ≤ n) n more h) (omega (arith, w, first, sum_push before n)))

pub record IsPlan (ins outs : ℕ) (bytes : List ℕ) (p : Plan) (rest : List ℕ) : Type 0 where
  pub takes : Takes bytes (table_bytes p) rest
  pub same_ins : p.ins ≡ ins
  pub same_outs : p.outs ≡ outs
  pub good : ins ≤ 8 → outs ≤ 8 → IsTable p

stages_are : (t : Bounds) (arrays : List ℕ) (all states : List Stage) → t.arrays ≡ length arrays → t.states ≡ length all → All (IsState t) states → All (IsStage (plan_for t arrays all)) states
stages_are t arrays all states n k h = All-weaker (IsState t) (IsStage (plan_for t arrays all)) (λ s i. stage_is t arrays all s n k i) states h

table_takes : (ins outs : ℕ) (bytes : List ℕ) (x : Plan × List ℕ) → IsBytes bytes → table_at ins outs bytes ≡ Ok x → IsPlan ins outs bytes x.0 x.1
unfolding table_at
table_takes ins outs bytes x fits e =
    let n = bind_ok _ _ x e in
    let a = bind_ok _ _ x n.2 in
    let r = bind_ok _ _ x a.2 in
    let c = bind_ok _ _ x r.2 in
    let s = bind_ok _ _ x c.2 in
    let t : Bounds = record { ins = ins; outs = outs; arrays = length a.0.0; registers = r.0.0; states = c.0.0 } in
    let t0 = word_in_takes 0 16 bytes n.0 fits n.1 in
    let m1 = many_takes length_at AreLengths word one_length n.0.0 [] n.0.1 a.0 t0.0.rest_fits (record { filled = All-nil (λ n. 1 ≤ n); words = omega arith }) a.1 in
    let t1 : Takes n.0.1 (flat_map word a.0.0) a.0.1 = record { parts = m1.parts; rest_fits = m1.rest_fits } in
    let t2 = word_in_takes 64 65535 a.0.1 r.0 m1.rest_fits r.1 in
    let t3 = word_in_takes 1 65535 r.0.1 c.0 t2.0.rest_fits c.1 in
    let m4 = states_take t c.0.0 c.0.1 s.0 t3.0.rest_fits s.1 in
    let t4 : Takes c.0.1 (flat_map state_bytes s.0.0) s.0.1 = record { parts = m4.parts; rest_fits = m4.rest_fits } in
    let l1 : length a.0.0 ≡ n.0.0 = omega (arith, m1.many_of) in
    let l4 : length s.0.0 ≡ c.0.0 = omega (arith, m4.many_of) in
    let e34 = Takes-then r.0.1 (word c.0.0) c.0.1 (flat_map state_bytes s.0.0) s.0.1 t3.0 t4 in
    let e24 = Takes-then a.0.1 (word r.0.0) r.0.1 (word c.0.0 ++ flat_map state_bytes s.0.0) s.0.1 t2.0 e34 in
    let e14 = Takes-then n.0.1 (flat_map word a.0.0) a.0.1 (word r.0.0 ++ (word c.0.0 ++ flat_map state_bytes s.0.0)) s.0.1 t1 e24 in
    let e04 = Takes-then bytes (word n.0.0) n.0.1 (flat_map word a.0.0 ++ (word r.0.0 ++ (word c.0.0 ++ flat_map state_bytes s.0.0))) s.0.1 t0.0 e14 in
    let p : Plan = plan_for t a.0.0 s.0.0 in
    let text : (k j : ℕ) → List ℕ = λ k j. word k ++ (flat_map word a.0.0 ++ (word r.0.0 ++ (word j ++ flat_map state_bytes s.0.0))) in
    let whole : Takes bytes (table_bytes p) s.0.1 =
    subst (λ (w : List ℕ). Takes bytes w s.0.1) (ap (λ (k : ℕ). text k c.0.0) (sym l1) ∙ ap (λ (j : ℕ). text (length a.0.0) j) (sym l4) ∙ grouped (word (length a.0.0)) (flat_map word a.0.0) (word r.0.0) (word (length s.0.0)) (flat_map state_bytes s.0.0)) e04 in
    let made : IsPlan ins outs bytes p s.0.1 = record {
      takes = whole;
      same_ins = refl;
      same_outs = refl;
      good = λ i o. record {
        ins = i;
        outs = o;
        few_arrays = omega (arith, l1, t0.1.1);
        filled = λ u lt. m1.good.filled u 0 lt;
        words = m1.good.words;
        some_registers = t2.1.0;
        registers = t2.1.1;
        some_states = omega (arith, l4, t3.1.0);
        few_states = omega (arith, l4, t3.1.1);
        states = stages_are t a.0.0 s.0.0 s.0.0 refl (sym l4) m4.good;
      };
    } in
    subst (λ (y : Plan × List ℕ). IsPlan ins outs bytes y.0 y.1) (ok_is (p, s.0.1) x s.2) made

filled_all : (xs : List ℕ) → ((u : ℕ) → u < length xs → 1 ≤ slice_index xs u) → All (λ n. 1 ≤ n) xs
filled_all xs h = All-from_get_or (λ n. 1 ≤ n) xs 0 h

table_again : (p : Plan) (rest : List ℕ) → IsTable p → HasWords (Hard p) → table_at p.ins p.outs (table_bytes p ++ rest) ≡ Ok (p, rest)
unfolding table_at
table_again p rest h v =
    let s4 = flat_map state_bytes p.states ++ rest in
    let s3 = word (length p.states) ++ s4 in
    let s2 = word p.registers ++ s3 in
    let s1 = flat_map word p.arrays ++ s2 in
    let regrouped : table_bytes p ++ rest ≡ word (length p.arrays) ++ s1 = regrouped_by (word (length p.arrays)) (flat_map word p.arrays) (word p.registers) (word (length p.states)) (flat_map state_bytes p.states) rest in
    let n = word_in_again 0 16 (length p.arrays) s1 (omega (arith, h.few_arrays)) (omega arith, h.few_arrays) in
    let total : sum p.arrays ≤ 8192 = h.words in
    let small : 0 + sum p.arrays ≤ 8192 = omega (arith, total) in
    let a = many_again length_at GoodLength word (λ before x rest good. word_in_again 1 (8192 - sum before) x rest (omega (arith, good.1)) good) [] p.arrays s2 (each_length [] p.arrays (filled_all p.arrays h.filled) small) in
    let r = word_in_again 64 65535 p.registers s3 (omega (arith, h.registers)) (h.some_registers, h.registers) in
    let c = word_in_again 1 65535 (length p.states) s4 (omega (arith, h.few_states)) (h.some_states, h.few_states) in
    let s = states_again (bounds_of p) p.states rest (all_spellable p p.states h.registers h.few_states h.states v) in
    ap (table_at p.ins p.outs) regrouped ∙ by_steps p.ins p.outs (word (length p.arrays) ++ s1) (length p.arrays) s1 p.arrays s2 p.registers s3 (length p.states) s4 (p.states, rest) n a r c s

-- ---- all of the bytes

pub record Formed (h : Header) (bytes : List ℕ) (f : Form) (rest : List ℕ) : Type 0 where
  pub parts : header h.kind h.ins h.outs ++ bytes ≡ bytes_of f ++ rest
  pub good : IsForm f

soft_formed : (h : Header) (bytes code rest : List ℕ) → h.ins ≤ 8 → h.outs ≤ 8 → h.kind ≡ kinds.Soft → IsSoft bytes code rest → Formed h bytes (Soft h.ins h.outs code) rest
soft_formed h bytes code rest i o k s =
    record {
      parts = ap (λ (kind : Kind). header kind h.ins h.outs ++ bytes) k ∙ ap (λ (t : List ℕ). header kinds.Soft h.ins h.outs ++ t) s.takes.parts ∙ sym (append_assoc (header kinds.Soft h.ins h.outs) (word (length code) ++ flat_map word code) rest);
      good = (i, o, s.some, s.few, s.good);
    }

hard_formed : (h : Header) (bytes : List ℕ) (p : Plan) (rest : List ℕ) → h.ins ≤ 8 → h.outs ≤ 8 → h.kind ≡ kinds.Hard → IsPlan h.ins h.outs bytes p rest → Formed h bytes (Hard p) rest
hard_formed h bytes p rest i o k s =
    record {
      parts = ap (λ (kind : Kind). header kind h.ins h.outs ++ bytes) k
          ∙ ap (λ (n : ℕ). header kinds.Hard n h.outs ++ bytes) (sym s.same_ins)
          ∙ ap (λ (n : ℕ). header kinds.Hard p.ins n ++ bytes) (sym s.same_outs)
          ∙ ap (λ (t : List ℕ). header kinds.Hard p.ins p.outs ++ t) s.takes.parts ∙ sym (append_assoc (header kinds.Hard p.ins p.outs) (table_bytes p) rest);
      good = s.good i o;
    }

body_by_takes : (k : Kind) (h : Header) (bytes : List ℕ) (x : Form × List ℕ) → IsBytes bytes → h.ins ≤ 8 → h.outs ≤ 8 → h.kind ≡ k → body_by k h bytes ≡ Ok x → Formed h bytes x.0 x.1
body_by_takes kinds.Soft h bytes x fits i o k e =
    let a = bind_ok (soft_at bytes) (λ code. Ok (Soft h.ins h.outs code.0, code.1)) x e in
    subst (λ (y : Form × List ℕ). Formed h bytes y.0 y.1) (ok_is (Soft h.ins h.outs a.0.0, a.0.1) x a.2)
    (soft_formed h bytes a.0.0 a.0.1 i o k (soft_takes bytes a.0 fits a.1))
body_by_takes kinds.Hard h bytes x fits i o k e =
    let a = bind_ok (table_at h.ins h.outs bytes) (λ table. Ok (Hard table.0, table.1)) x e in
    subst (λ (y : Form × List ℕ). Formed h bytes y.0 y.1) (ok_is (Hard a.0.0, a.0.1) x a.2)
    (hard_formed h bytes a.0.0 a.0.1 i o k (table_takes h.ins h.outs bytes a.0 fits a.1))

body_takes : (h : Header) (bytes : List ℕ) (x : Form × List ℕ) → IsBytes bytes → h.ins ≤ 8 → h.outs ≤ 8 → body_at h bytes ≡ Ok x → Formed h bytes x.0 x.1
unfolding body_at
body_takes h bytes x fits i o e = body_by_takes h.kind h bytes x fits i o refl e

pub all_takes : (bytes : List ℕ) (f : Form) → IsBytes bytes → all_of bytes ≡ Ok f → IsForm f × (bytes_of f ≡ bytes)
unfolding all_of
all_takes bytes f fits e =
    let a = bind_ok (header_at bytes) (λ h. body_at h.0 h.1 >>= λ x. cond (eqb (length x.1) 0) (Ok x.0) (bad x.1)) f e in
    let b = bind_ok (body_at a.0.0 a.0.1) (λ x. cond (eqb (length x.1) 0) (Ok x.0) (bad x.1)) f a.2 in
    let g = test_ok (eqb (length b.0.1) 0) (length b.0.1) b.0.0 f b.2 in
    let h = header_takes bytes a.0 fits a.1 in
    let x = body_takes a.0.0 a.0.1 b.0 h.takes.rest_fits h.ins h.outs b.1 in
    let nothing : b.0.1 ≡ [] = nil_from_length b.0.1 (eqb-true _ _ g.0) in
    let whole : bytes ≡ bytes_of b.0.0 = h.takes.parts ∙ x.parts ∙ ap (λ (r : List ℕ). bytes_of b.0.0 ++ r) nothing ∙ append-nil (bytes_of b.0.0) in
    subst (λ (y : Form). IsForm y × (bytes_of y ≡ bytes)) g.1 (x.good, sym whole)

-- no bytes behind it
abbrev closed : Read Form → Found Form
closed r = r >>= λ x. cond (eqb (length x.1) 0) (Ok x.0) (bad x.1)

abbrev soft_form : (ins outs : ℕ) → Read (List ℕ) → Read Form
soft_form ins outs r = r >>= λ code. Ok (Soft ins outs code.0, code.1)

abbrev hard_form : Read Plan → Read Form
hard_form r = r >>= λ table. Ok (Hard table.0, table.1)

pub all_again : (f : Form) → IsForm f → HasWords f → all_of (bytes_of f) ≡ Ok f
unfolding all_of body_at
all_again (Soft ins outs code) good wide =
    let text = word (length code) ++ flat_map word code in
    let h = header_again (record { kind = kinds.Soft; ins = ins; outs = outs }) text (soft_kind (ins ∷ outs ∷ 0 ∷ text)) good.0 good.1 in
    let s : soft_at text ≡ Ok (code, []) = ap soft_at (sym (append-nil text)) ∙ soft_again code [] good.2 good.3 good.4 wide in
    ap (λ (r : Read Header). r >>= λ h. closed (body_at h.0 h.1)) h ∙ ap (λ (r : Read (List ℕ)). closed (soft_form ins outs r)) s
all_again (Hard p) good wide =
    let text = table_bytes p in
    let h = header_again (record { kind = kinds.Hard; ins = p.ins; outs = p.outs }) text (hard_kind (p.ins ∷ p.outs ∷ 0 ∷ text)) good.ins good.outs in
    let s : table_at p.ins p.outs text ≡ Ok (p, []) = ap (table_at p.ins p.outs) (sym (append-nil text)) ∙ table_again p [] good wide in
    ap (λ (r : Read Header). r >>= λ h. closed (body_at h.0 h.1)) h ∙ ap (λ (r : Read Plan). closed (hard_form r)) s

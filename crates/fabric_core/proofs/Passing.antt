-- The steps of `plain`.
use Rattle.std.proofs.Common.{◌≡◌, ◌≢◌, ℕ, zero, suc, ◌<◌, ◌≤◌, Bool, true, false, not, List, [], ◌∷◌, ◌++◌, length, refl, ap, sym, ◌∙◌, arith, Option, Some, None, subst, inl, inr, length-append}
use Rattle.std.specs.Prelude.{◌==◌, if◌then◌else◌, is_none}
use Rattle.std.proofs.lemmas.Option.{none-some, same_Some}
use Rattle.net_tree.specs.Links.{Links}
use Rattle.pld_image.specs.Cores.{Core}
use Rattle.fabric_run.specs.declared.entry.Entry.{Entry}
use Rattle.fabric_run.specs.declared.entry.Entry.TheVariants.{Take, Give, Net}
use Rattle.fabric_run.specs.World.{Setup, State, PageState, placed, out_to, after_net, start, start_page, core_at, ready, is_configured}
use Rattle.fabric_run.specs.Replay.{is_home, is_served, none_out, outcome, may, after, run, replay, first_to, or_else, take_or_net, give_or, plain_entry, IsPlainFrom, IsPlain, IsLegalFrom}
use Rattle.fabric_keeps.proofs.Base.{all_below, below_all, placed_here, placed_other, same_or}
use Rattle.fabric_keeps.proofs.Legal.{run_more}
use Rattle.fabric_keeps.proofs.Steps.{ready_keeps}
use Rattle.fabric_ends.proofs.PlainRuns.{plain_legal}
use Rattle.fabric_pages.proofs.Slotting.{first_found, first_none}
use Rattle.fabric_pages.proofs.Counting.{Makes, makes, ComesHome, given_home}
use Rattle.fabric_pages.proofs.Counting as counting
use Rattle.fabric_core.specs.Runs.{RunValue, setup_for, state_of, is_legal, noted, room}
use Rattle.fabric_core.specs.Plainly.{IsNextPlain}
use Rattle.fabric_core.proofs.Stillness.{not_all, none_while_out}
use Rattle.fabric_core.proofs.Noting.{due}

plain_more : (setup : Setup Links) (st : State Links) (es : List Entry) (e : Entry) → IsPlainFrom setup st es → outcome setup (run setup st es) ≡ None → e ≡ plain_entry setup (run setup st es) → IsPlainFrom setup st (es ++ e ∷ [])
plain_more setup st [] e p on is = (on, is, tt)
plain_more setup st (f ∷ es) e p on is = (p.0, p.1, plain_more setup (after setup st f) es e p.2 on is)

legal_last : (setup : Setup Links) (st : State Links) (es : List Entry) (e : Entry) → IsLegalFrom setup st (es ++ e ∷ []) → may setup (run setup st es) e ≡ true
legal_last setup st [] e l = l.0
legal_last setup st (f ∷ es) e l = legal_last setup (after setup st f) es e l.1

first_some : (n : ℕ) (t : ℕ → Bool) (k : ℕ) → first_to n t ≡ Some k → k < n
first_some zero t k e = absurd (none-some k e)
first_some (suc n) t k e = by (first_to n t) (t n) refl e (λ f. first_some n t k f)
  where
    by : (o : Option ℕ) (b : Bool) → first_to n t ≡ o → or_else o b n ≡ Some k → (first_to n t ≡ Some k → k < n) → k < suc n
    by (Some i) b f g h = (let l : k < n = h (f ∙ g) in omega arith)
    by None true f g h = (let s : n ≡ k = same_Some n k g in omega arith)
    by None false f g h = absurd (none-some k g)

all_home : (setup : Setup Links) (st : State Links) → none_out setup st ≡ true → first_to setup.size (λ i. not (is_home (st.pages i))) ≡ None
all_home setup st home = first_none setup.size (λ i. not (is_home (st.pages i))) (λ i l. ap not (all_below setup.size (λ i. is_home (st.pages i)) home i l))

plain_by : (setup : Setup Links) (st : State Links) (b : Bool) → is_configured setup st ≡ b → (if is_configured setup st then take_or_net (first_to setup.size (λ i. not (is_served (st.pages i)))) else Net 0) ≡ take_or_net (due setup st (is_configured setup st))
plain_by setup st true e =
    ap (λ (x : Bool). if x then take_or_net (first_to setup.size (λ i. not (is_served (st.pages i)))) else Net 0) e ∙ ap (λ (x : Bool). take_or_net (due setup st x)) (sym e)
plain_by setup st false e =
    ap (λ (x : Bool). if x then take_or_net (first_to setup.size (λ i. not (is_served (st.pages i)))) else Net 0) e ∙ ap (λ (x : Bool). take_or_net (due setup st x)) (sym e)

plain_is : (setup : Setup Links) (st : State Links) → none_out setup st ≡ true → plain_entry setup st ≡ take_or_net (due setup st (is_configured setup st))
plain_is setup st home =
    ap (λ (o : Option ℕ). give_or o (if is_configured setup st then take_or_net (first_to setup.size (λ i. not (is_served (st.pages i)))) else Net 0)) (all_home setup st home) ∙ plain_by setup st (is_configured setup st) refl

due_first : (setup : Setup Links) (st : State Links) (b : Bool) (leaf : ℕ) → due setup st b ≡ Some leaf → first_to setup.size (λ i. not (is_served (st.pages i))) ≡ Some leaf
due_first setup st true leaf e = e
due_first setup st false leaf e = absurd (none-some leaf e)

-- a page that goes out is the one page that is out
module _ (setup : Setup Links) (st : State Links) (leaf : ℕ) (p : PageState) (home : none_out setup st ≡ true) (l : leaf < setup.size) (there : st.pages leaf ≡ Some p) where
  abbrev out : State Links
  out = after setup st (Take 0 leaf)

  out_there : out.pages leaf ≡ Some (record p { holder = Some 0 })
  out_there = placed_here st.pages leaf (out_to 0 (st.pages leaf)) ∙ ap (out_to 0) there

  out_other : (i : ℕ) → i ≢ leaf → out.pages i ≡ st.pages i
  out_other i ne = placed_other st.pages leaf (out_to 0 (st.pages leaf)) i ne

  not_home : is_home (out.pages leaf) ≡ false
  not_home = ap is_home out_there

  none_over : outcome setup out ≡ None
  none_over = none_while_out setup out (not_all setup.size leaf (λ i. is_home (out.pages i)) l not_home)

  gives_next : plain_entry setup out ≡ Give 0 leaf
  gives_next =
      ap (λ (o : Option ℕ). give_or o (if is_configured setup out then take_or_net (first_to setup.size (λ i. not (is_served (out.pages i)))) else Net 0))
      (first_found setup.size leaf (λ i. not (is_home (out.pages i))) l (ap not not_home)
      (λ i m. ap not (ap is_home (out_other i (λ (s : i ≡ leaf). omega arith)) ∙ all_below setup.size (λ i. is_home (st.pages i)) home i (omega arith))))

  home_again : none_out setup (after setup out (Give 0 leaf)) ≡ true
  home_again =
      let c : ComesHome out (after setup out (Give 0 leaf)) leaf (record p { holder = Some 0 }) = given_home setup out leaf (record p { holder = Some 0 }) out_there in
      below_all setup.size (λ i. is_home ((after setup out (Give 0 leaf)).pages i)) (λ i m. (
      elim (same_or i leaf (i == leaf) refl) [
        | inl s ↦ ap (λ (f : ℕ → Option PageState). is_home (f i)) c.changes.pages ∙ ap (λ (j : ℕ). is_home (placed out.pages leaf (Some c.page) j)) s ∙ ap is_home (placed_here out.pages leaf (Some c.page)) ∙ ap is_none c.home
        | inr ne ↦ ap (λ (f : ℕ → Option PageState). is_home (f i)) c.changes.pages ∙ ap is_home (placed_other out.pages leaf (Some c.page) i ne) ∙ ap is_home (out_other i ne) ∙ all_below setup.size (λ i. is_home (st.pages i)) home i m
      ]))

net_home : (o : Option PageState) → is_home (after_net o) ≡ is_home o
net_home None = refl
net_home (Some p) = refl

rounds_home : (setup : Setup Links) (st : State Links) → none_out setup st ≡ true → none_out setup (after setup st (Net 0)) ≡ true
rounds_home setup st home =
    below_all setup.size (λ i. is_home ((after setup st (Net 0)).pages i)) (λ i l. net_home ((ready setup st).pages i) ∙ ap (λ (f : ℕ → Option PageState). is_home (f i)) (ready_keeps setup st).pages ∙ all_below setup.size (λ i. is_home (st.pages i)) home i l)

same_entry : (leaf leaf' : ℕ) → Take 0 leaf' ≡ Take 0 leaf → leaf' ≡ leaf
same_entry leaf leaf' e = cc

module _ (r : RunValue) (on : outcome (setup_for r) (state_of r) ≡ None) (home : none_out (setup_for r) (state_of r) ≡ true) (plain : IsPlain (setup_for r) r.journal) where
  abbrev setup : Setup Links
  setup = setup_for r

  abbrev now : State Links
  now = state_of r

  goes : (e : Entry) → e ≡ take_or_net (due (setup_for r) (state_of r) (is_configured (setup_for r) (state_of r))) → IsPlain (setup_for r) (r.journal ++ e ∷ [])
  goes e is = plain_more setup (start setup) r.journal e plain on (is ∙ sym (plain_is setup now home))

  goes_legal : (e : Entry) → e ≡ take_or_net (due (setup_for r) (state_of r) (is_configured (setup_for r) (state_of r))) → is_legal r e ≡ true
  goes_legal e is = legal_last setup (start setup) r.journal e (plain_legal setup (r.journal ++ e ∷ []) (goes e is))

  -- a page is due
  module _ (leaf : ℕ) (d : Some leaf ≡ due (setup_for r) (state_of r) (is_configured (setup_for r) (state_of r))) where
    pub due_inside : leaf < (setup_for r).size
    due_inside = first_some setup.size (λ i. not (is_served (now.pages i))) leaf (due_first setup now (is_configured setup now) leaf (sym d))

    pub takes : is_legal r (Take 0 leaf) ≡ true
    takes = goes_legal (Take 0 leaf) (ap take_or_net d)

    abbrev taken : RunValue
    taken = noted r (Take 0 leaf)

    taken_now : state_of (noted r (Take 0 leaf)) ≡ after (setup_for r) (state_of r) (Take 0 leaf)
    taken_now = run_more setup (start setup) r.journal (Take 0 leaf)

    given_now : state_of (noted (noted r (Take 0 leaf)) (Give 0 leaf)) ≡ after (setup_for r) (after (setup_for r) (state_of r) (Take 0 leaf)) (Give 0 leaf)
    given_now = run_more setup (start setup) (r.journal ++ Take 0 leaf ∷ []) (Give 0 leaf) ∙ ap (λ (x : State Links). after setup x (Give 0 leaf)) taken_now

    next_by : (e : Entry) → e ≡ Take 0 leaf → Makes (setup_for r) (state_of r) e → length (noted (noted r (Take 0 leaf)) (Give 0 leaf)).journal ≤ room r.plan → IsNextPlain r (noted (noted r (Take 0 leaf)) (Give 0 leaf))
    next_by e is (counting.Gives seat leaf' p l there held) fits = absurd (let x : Give seat leaf' ≡ Take 0 leaf = is in cc)
    next_by e is (counting.Nets seat left) fits = absurd (let x : Net seat ≡ Take 0 leaf = is in cc)
    next_by e is (counting.Takes seat leaf' p left l there free few going conf) fits =
        let s : leaf' ≡ leaf = (let x : Take seat leaf' ≡ Take 0 leaf = is in cc) in
        let in_ : leaf < setup.size = omega (arith, l, s) in
        let at : now.pages leaf ≡ Some p = ap now.pages (sym s) ∙ there in
        record {
          plan = refl;
          plain = plain_more setup (start setup) (r.journal ++ Take 0 leaf ∷ []) (Give 0 leaf) (goes (Take 0 leaf) (ap take_or_net d)) (ap (outcome setup) taken_now ∙ none_over setup now leaf p home in_ at) (sym (ap (plain_entry setup) taken_now ∙ gives_next setup now leaf p home in_ at));
          home = ap (none_out setup) given_now ∙ home_again setup now leaf p home in_ at;
          longer = omega (arith, length-append (r.journal ++ Take 0 leaf ∷ []) (Give 0 leaf ∷ []), length-append r.journal (Take 0 leaf ∷ []));
          within = fits;
        }

    pub next_turn : (later : RunValue) → later ≡ noted (noted r (Take 0 leaf)) (Give 0 leaf) → length later.journal ≤ room later.plan → IsNextPlain r later
    next_turn later is fits =
        subst (IsNextPlain r) (sym is) (next_by (Take 0 leaf) refl (makes setup now (Take 0 leaf) takes) (subst (λ (x : RunValue). length x.journal ≤ room x.plan) is fits))

  -- none is
  module _ (d : None ≡ due (setup_for r) (state_of r) (is_configured (setup_for r) (state_of r))) where
    pub nets : is_legal r (Net 0) ≡ true
    nets = goes_legal (Net 0) (ap take_or_net d)

    pub next_round : (later : RunValue) → later ≡ noted r (Net 0) → length later.journal ≤ room later.plan → IsNextPlain r later
    next_round later is fits =
        subst (IsNextPlain r) (sym is) (record {
          plan = refl;
          plain = goes (Net 0) (ap take_or_net d);
          home = ap (none_out setup) (run_more setup (start setup) r.journal (Net 0)) ∙ rounds_home setup now home;
          longer = omega (arith, length-append r.journal (Net 0 ∷ []));
          within = subst (λ (x : RunValue). length x.journal ≤ room x.plan) is fits;
        })

-- The start.

start_home_at : (o : Option Core) → is_home (start_page o) ≡ true
start_home_at None = refl
start_home_at (Some c) = refl

start_home : (setup : Setup Links) → none_out setup (start setup) ≡ true
start_home setup = below_all setup.size (λ i. is_home ((start setup).pages i)) (λ i l. start_home_at (core_at setup i))

pub plain_first : (r : RunValue) → r.journal ≡ [] → IsPlain (setup_for r) r.journal × (none_out (setup_for r) (state_of r) ≡ true)
plain_first r e =
    (subst (λ (j : List Entry). IsPlain (setup_for r) j) (sym e) tt, ap (λ (j : List Entry). none_out (setup_for r) (replay (setup_for r) j)) e ∙ start_home (setup_for r))

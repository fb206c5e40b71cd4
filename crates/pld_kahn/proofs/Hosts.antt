-- The host's inputs and outputs are processes too.
use Rattle.std.proofs.Common.{◌≡◌, ℕ, zero, List, [], ◌∷◌, ◌++◌, refl, sym, ap, ◌∙◌, subst, inl, inr, append-nil, append_assoc, suc}
use Rattle.std.proofs.Math.Dec.{eqb-zero-suc}
use Rattle.pld_base.specs.Channels.{Node, OperatorNode, InputNode, OutputNode, Wiring, IsPointToPoint}
use Rattle.pld_base.specs.Prefix.{IsPrefixOf}
use Rattle.pld_base.specs.Events.{words_read, words_written}
use Rattle.pld_base.specs.Process.{Returned, Starved, Process, Inputs, StaysOrReads, IsProcess, idle}
use Rattle.pld_base.proofs.Prefixes.{prefix_refl, prefix_nil, prefix_of_eq}
use Rattle.pld_base.specs.declared.event.Event.TheVariants.{Read}
use Rattle.std.specs.List.{AllByRecursion}
use Rattle.std.specs.Prelude.{slice_index_or}
use Rattle.pld_base.proofs.Processes.{idle_laws}
use Rattle.pld_kahn.specs.Network.{Network, IsKahnNetwork, sends, receives, process_of, network_of}

pub words_written-sends : (words : List ℕ) → words_written (sends words) 0 ≡ words
words_written-sends [] = refl
words_written-sends (w ∷ words) = ap (λ l. w ∷ l) (words_written-sends words)

pub words_read-sends : (words : List ℕ) (port : ℕ) → words_read (sends words) port ≡ []
words_read-sends [] port = refl
words_read-sends (w ∷ words) port = words_read-sends words port

pub words_read-receives : (words : List ℕ) → words_read (receives words) 0 ≡ words
words_read-receives [] = refl
words_read-receives (w ∷ words) = ap (λ l. w ∷ l) (words_read-receives words)

pub words_written-receives : (words : List ℕ) (port : ℕ) → words_written (receives words) port ≡ []
words_written-receives [] port = refl
words_written-receives (w ∷ words) port = words_written-receives words port

-- what an output reads stands at its one port
receives_prefix : (words : List ℕ) (ins : Inputs) (port : ℕ) → ins 0 ≡ words → IsPrefixOf (words_read (receives words) port) (ins port)
receives_prefix words ins zero e = prefix_of_eq (words_read-receives words ∙ sym e)
receives_prefix words ins (suc port) e = rw (none words port) (prefix_nil (ins (suc port)))
  where
    none : (words : List ℕ) (port : ℕ) → words_read (receives words) (suc port) ≡ []
    none [] port = refl
    none (w ∷ words) port = rw (eqb-zero-suc port) (none words port)

receives-append : (xs ys : List ℕ) → receives (xs ++ ys) ≡ receives xs ++ receives ys
receives-append [] ys = refl
receives-append (x ∷ xs) ys = ap (λ l. Read (record { 0 = 0 }) x ∷ l) (receives-append xs ys)

receives_grows : {xs ys : List ℕ} → IsPrefixOf xs ys → IsPrefixOf (receives xs) (receives ys)
receives_grows {xs} p = record { rest = receives p.rest; joined = sym (receives-append xs p.rest) ∙ ap receives p.joined }

receives_on : (xs rest ys : List ℕ) → xs ++ rest ≡ ys → StaysOrReads (receives xs) 0 (receives ys)
receives_on xs [] ys e = inl (ap receives (sym e ∙ append-nil xs))
receives_on xs (w ∷ rest) ys e =
    let q = receives_grows (let r : IsPrefixOf (xs ++ w ∷ []) ys = record { rest = rest; joined = append_assoc xs (w ∷ []) rest ∙ e } in r) in
    inr (w, subst (λ l. IsPrefixOf l (receives ys)) (receives-append xs (w ∷ [])) q)

starved_port : (p q : ℕ) → Starved p ≡ Starved q → p ≡ q
starved_port p q e = cc

input_laws : (words : List ℕ) → IsProcess (λ ins turns. record { events = sends words; end = Returned })
input_laws words =
    record {
      more_turns = λ ins m n h. prefix_refl (sends words);
      uncut = λ ins m n h c. refl;
      more_words = λ ins more n h. prefix_refl (sends words);
      unstarved = λ ins more n h c. refl;
      reads_in_order = λ ins n port. rw (words_read-sends words port) (prefix_nil (ins port));
      reads_all = λ ins n port e. cc;
      waits = λ ins more m n port h le e. inl refl;
    }

output_laws : IsProcess (λ ins turns. record { events = receives (ins 0); end = Starved 0 })
output_laws =
    record {
      more_turns = λ ins m n h. prefix_refl (receives (ins 0));
      uncut = λ ins m n h c. refl;
      more_words = λ ins more n h. receives_grows (h 0);
      unstarved = λ ins more n h c. absurd (c 0 refl);
      reads_in_order = λ ins n port. receives_prefix (ins 0) ins port refl;
      reads_all = λ ins n port e. subst (λ p. words_read (receives (ins 0)) p ≡ ins p) (starved_port 0 port e) (words_read-receives (ins 0));
      waits = λ ins more m n port h le e. subst (λ p. StaysOrReads (receives (ins 0)) p (receives (more 0))) (starved_port 0 port e) (receives_on (ins 0) (h 0).rest (more 0) (h 0).joined);
    }

pub laws_of : (net : Network) → IsKahnNetwork net → (node : Node) → IsProcess (process_of net node)
laws_of net k (OperatorNode number) = k.processes number
laws_of net k (InputNode number) = input_laws (net.feed number)
laws_of net k (OutputNode number) = output_laws

-- a finite network of processes
pub finite_network : (operators : List Process) (feeds : List (List ℕ)) (wiring : Wiring) → AllByRecursion IsProcess operators → IsPointToPoint wiring → IsKahnNetwork (network_of operators feeds wiring)
finite_network operators feeds wiring laws one = record { processes = each operators laws; point_to_point = one }
  where
    each : (operators : List Process) → AllByRecursion IsProcess operators → (number : ℕ) → IsProcess (slice_index_or operators number idle)
    each [] laws number = idle_laws
    each (p ∷ operators) laws zero = laws.0
    each (p ∷ operators) laws (suc number) = each operators laws.1 number

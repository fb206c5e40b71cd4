-- Plans of designs with the same channels and the same names are for one design.
use Rattle.std.proofs.Common.{◌≡◌, ℕ, Bool, ◌&&◌, List, length, sym, ap, ◌∙◌, Option}
use Rattle.std.specs.Prelude.{◌==◌, option_map}
use Rattle.std.specs.List.{find}
use Rattle.pld_base.specs.Channels.{Node, OperatorNode, InputNode, OutputNode, OutPort, same_node}
use Rattle.pld_graph.specs.declared.parts.Channel.{Channel}
use Rattle.pld_graph.specs.declared.parts.FromEnd.{FromEnd}
use Rattle.pld_graph.specs.declared.parts.FromEnd.TheVariants as from_end
use Rattle.pld_graph.specs.declared.parts.ToEnd.{ToEnd}
use Rattle.pld_graph.specs.declared.parts.ToEnd.TheVariants as to_end
use Rattle.pld_graph.specs.Design.{Design, inputs, outputs}
use Rattle.pld_link.specs.Seats.{place_in, operator_names}
use Rattle.fabric_plan.specs.Wiring.{producer, goes_to, wiring}
use Rattle.fabric_plan.proofs.Found.{as_many}
use Rattle.fabric_ends.specs.Planned.{SameDesign}
use Rattle.fabric_plan.specs.Plans.{Given, plan_of}
use Rattle.fabric_plan.specs.Runnable.{IsRunnable}
use Rattle.fabric_plan.proofs.Planned.{all_pages}
use Rattle.fabric_plan.proofs.Fed.{wiring_is}

-- what feeds a port, by what produces and where a channel goes
abbrev fed_by : (FromEnd → OutPort) → (ToEnd → Bool) → List Channel → Option OutPort
fed_by from to cs = option_map (λ c. from c.from) (find (λ c. to c.to) cs)

module _ (d e : Design) (channels : d.channels ≡ e.channels) (names : operator_names d ≡ operator_names e) where
  same_producer : (f : FromEnd) → producer d f ≡ producer e f
  same_producer (from_end.Port x) =
      let make : List (List ℕ) → OutPort = λ ns. record { node = OperatorNode (place_in ns x.op); port = x.port.0 } in
      ap make names
  same_producer (from_end.Input n) =
      let make : List Channel → OutPort = λ cs. record { node = InputNode (place_in (inputs cs) n); port = 0 } in
      ap make channels

  same_way : (node : Node) (port : ℕ) (t : ToEnd) → goes_to d node port t ≡ goes_to e node port t
  same_way node port (to_end.Port x) = ap (λ ns. same_node (OperatorNode (place_in ns x.op)) node && (x.port.0 == port)) names
  same_way node port (to_end.Output n) = ap (λ cs. same_node (OutputNode (place_in (outputs cs) n)) node && (0 == port)) channels

  same_at : (node : Node) (port : ℕ) → wiring d node port ≡ wiring e node port
  same_at node port =
      ap (λ (a : FromEnd → OutPort). fed_by a (goes_to d node port) d.channels) (λ i f. same_producer f i)
      ∙ ap (λ (b : ToEnd → Bool). fed_by (producer e) b d.channels) (λ i t. same_way node port t i)
      ∙ ap (λ cs. fed_by (producer e) (goes_to e node port) cs) channels

  same_wiring : wiring d ≡ wiring e
  same_wiring = λ i node port. same_at node port i

  pub plans_alike : (given given' : Given) → d.window ≡ e.window → given.feeds ≡ given'.feeds → IsRunnable d given → IsRunnable e given' → SameDesign (plan_of d given) (plan_of e given')
  plans_alike given given' window feeds run run' = record {
    window = window;
    pages = all_pages d given run ∙ as_many d e names ∙ sym (all_pages e given' run');
    wiring = wiring_is d given run ∙ same_wiring ∙ sym (wiring_is e given' run');
    feeds = feeds;
    outs = ap (λ cs. length (outputs cs)) channels;
  }

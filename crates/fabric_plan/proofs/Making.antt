-- The plan that is made of a design is the design's.
use Rattle.std.proofs.Common.{◌≡◌, ℕ, List, length, ap, ◌∙◌, Option}
use Rattle.net_switch.specs.declared.packet.Pattern.{Pattern}
use Rattle.net_switch.specs.declared.packet.Row.{Row}
use Rattle.pld_graph.specs.Design.{Design, outputs}
use Rattle.pld_link.specs.Rows.{rows}
use Rattle.fabric_run.specs.Plan.{PagePlan, PlanValue}
use Rattle.fabric_plan.specs.Plans.{Given, allowed, pages_of, plan_of}

pub plan_is : (d : Design) (given : Given) (depth window outs count rounds : ℕ) (pattern : Pattern) (pages : List PagePlan) (tables : List (Option Row))
    → depth ≡ d.depth → pattern ≡ d.pattern → window ≡ d.window → pages ≡ pages_of given.leaves given.images → tables ≡ rows d given.leaves
    → outs ≡ length (outputs d.channels) → count ≡ length d.operators → rounds ≡ allowed given.rounds count
    → ◌≡◌ {A = PlanValue} (record { depth = depth; pattern = pattern; window = window; pages = pages; before = given.before; tables = tables; feeds = given.feeds; outs = outs; rounds = rounds }) (plan_of d given)
plan_is d given depth window outs count rounds pattern pages tables a b c e f g h k =
    let allowed_is : rounds ≡ allowed given.rounds (length d.operators) = k ∙ ap (allowed given.rounds) h in
    λ i. record { depth = a i; pattern = b i; window = c i; pages = e i; before = given.before; tables = f i; feeds = given.feeds; outs = g i; rounds = allowed_is i }

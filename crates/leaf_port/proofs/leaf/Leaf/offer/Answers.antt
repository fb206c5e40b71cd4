use Rattle.std.proofs.Common.{rules, ◌≡◌, ◌∙◌, ap, subst, Option, None, ◌&&◌, is_none}
use Rattle.net_switch.specs.declared.packet.Packet.{Packet}
use Rattle.leaf_port.specs.Leaf.{LeafState, is_idle, offer_credit, offer_word}
use Rattle.leaf_port.proofs.Offers.{credit_goes_out, word_goes_out}
use Rattle.leaf_port.proofs.leaf.Leaf.offer.Goals as goal

pub returns-in-Some-lowest_owed-clause-nothing : goal.returns-in-Some-lowest_owed-clause-nothing
returns-in-Some-lowest_owed-clause-nothing c =
    let s : LeafState = record { own = c.self.inside.own.0; window = c.self.inside.window; rows = c.self.inside.rows; outs = c.self.inside.outs; ins = c.self.inside.ins.items; box = c.self.inside.outbox.items; back = c.self.inside.back } in
    let nothing : is_none (offer_credit s c.args.round.0 c.in-Some-lowest_owed.j).1 ≡ (is_none c.args.config && is_idle s) = credit_goes_out s c.args.round.0 c.in-Some-lowest_owed.j c.args.config c.self.invariant.0 (search rules) (search rules) in
    let packet : c.offer_credit.result ≡ (offer_credit c.args.self.now c.args.round.0 c.in-Some-lowest_owed.j).1 = c.offer_credit.ensures.packet in
    ap (λ (r : Option Packet). is_none r) packet ∙ subst (λ (t : LeafState). is_none (offer_credit t c.args.round.0 c.in-Some-lowest_owed.j).1 ≡ (is_none c.args.config && is_idle t)) c.self.view_is nothing

pub returns-in-None-clause-nothing : goal.returns-in-None-clause-nothing
returns-in-None-clause-nothing c =
    let s : LeafState = record { own = c.self.inside.own.0; window = c.self.inside.window; rows = c.self.inside.rows; outs = c.self.inside.outs; ins = c.self.inside.ins.items; box = c.self.inside.outbox.items; back = c.self.inside.back } in
    let nothing : is_none (offer_word s c.args.round.0 s.box).1 ≡ is_idle s = word_goes_out s c.args.round.0 c.self.invariant.0 (search rules) (search rules) in
    let config : c.args.config ≡ None = search rules in
    let packet : c.offer_word.result ≡ (offer_word c.args.self.now c.args.round.0 c.args.self.now.box).1 = c.offer_word.ensures.packet in
    rw config (ap (λ (r : Option Packet). is_none r) packet ∙ subst (λ (t : LeafState). is_none (offer_word t c.args.round.0 t.box).1 ≡ is_idle t) c.self.view_is nothing)

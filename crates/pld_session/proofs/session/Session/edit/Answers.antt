use Rattle.pld_session.proofs.Told.{if_ok, edit_told}
use Rattle.pld_session.proofs.session.Session.edit.Goals as goal

pub returns : goal.returns
returns c =
    if_ok c.answer_edit.result (λ refused told. edit_told c.make-done.result c.args.edit c.args.self.now c.args.number c.answer_edit.new.reply.items refused c.make-done.new.self c.make-done.ensures told) c.answer_edit.ensures

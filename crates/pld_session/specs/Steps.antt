-- What the parts of an engine tell of their answers.
use Rattle.std.specs.Prelude.{◌≡◌, ℕ, Bool, true, false, ◌&&◌, List, Result, Ok, Err}
use Rattle.pld_script.specs.declared.statement.Edit.{Edit}
use Rattle.pld_script.specs.Edits.{is_of_words}
use Rattle.pld_draft.specs.declared.parts.EditFault.{EditFault}
use Rattle.pld_draft.specs.declared.parts.EditFault.TheVariants.{Refused, NoMemory}
use Rattle.pld_draft.specs.Edits.{edited}
use Rattle.pld_reply.specs.Refusals.{refused_reply}
use Rattle.pld_reply.specs.Replies.{ok_reply}
use Rattle.pld_driver.specs.Walk.{Answered}
use Rattle.pld_session.specs.Answers.{refusal_of, rows_behind}
use Rattle.pld_session.specs.States.{State}

-- This answer was given, whatever it spends.
abbrev pub Tells : Answered State → List ℕ → Bool → State → Type 0
Tells told reply refused next = (reply ≡ told.reply) × (refused ≡ told.refused) × (next ≡ told.next)

-- The answer to an edit that ended so.
abbrev pub TellsEdit : {X : Type 0} → ℕ → Result X EditFault → List ℕ → Bool → Type 0
TellsEdit number (Ok _) reply refused = (reply ≡ ok_reply) × (refused ≡ false)
TellsEdit number (Err (Refused why)) reply refused = (reply ≡ refused_reply number (refusal_of why)) × (refused ≡ true)
TellsEdit number (Err NoMemory) reply refused = ⊥

-- What an edit that ended so has made of the session.
abbrev pub Makes : {X : Type 0} → Result X EditFault → Edit → State → State → Type 0
Makes (Ok _) edit old new = (edited edit old.draft ≡ Ok new.draft) × (new ≡ record old { draft = new.draft; built = is_of_words edit && old.built; standing = rows_behind old new.draft })
Makes (Err (Refused why)) edit old new = (edited edit old.draft ≡ Err why) × (new ≡ old)
Makes (Err NoMemory) edit old new = new ≡ old

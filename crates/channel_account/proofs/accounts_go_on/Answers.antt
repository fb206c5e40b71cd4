use Rattle.channel_account.proofs.Moves.{begins, keeps, arrives, words}
use Rattle.channel_account.proofs.accounts_go_on.Goals as goal

pub returns : goal.returns
returns c = record { begins = begins; keeps = keeps; arrives = arrives; reads = words }

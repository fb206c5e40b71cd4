use Rattle.pld_image.proofs.Advancing.{soft_advanced, hard_advanced}
use Rattle.pld_image.proofs.page.PageCoreSteps.advance.Goals as goal

pub returns-in-Soft-clause-end : goal.returns-in-Soft-clause-end
returns-in-Soft-clause-end c = (soft_advanced c.args.self.now c.args.most c.in-Soft.core c.turn.new.self c.turn.result c.in-Soft.is c.turn.ensures).end

pub returns-in-Soft-clause-state : goal.returns-in-Soft-clause-state
returns-in-Soft-clause-state c = (soft_advanced c.args.self.now c.args.most c.in-Soft.core c.turn.new.self c.turn.result c.in-Soft.is c.turn.ensures).state

pub returns-in-Hard-clause-end : goal.returns-in-Hard-clause-end
returns-in-Hard-clause-end c = (hard_advanced c.args.self.now c.args.most c.in-Hard.core c.turn-in-Hard.new.self c.turn-in-Hard.result c.in-Hard.is c.turn-in-Hard.ensures).end

pub returns-in-Hard-clause-state : goal.returns-in-Hard-clause-state
returns-in-Hard-clause-state c = (hard_advanced c.args.self.now c.args.most c.in-Hard.core c.turn-in-Hard.new.self c.turn-in-Hard.result c.in-Hard.is c.turn-in-Hard.ensures).state

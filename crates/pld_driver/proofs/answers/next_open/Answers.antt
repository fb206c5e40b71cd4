use Rattle.pld_driver.proofs.Walks.{given_open}
use Rattle.pld_driver.proofs.answers.next_open.Goals as goal

pub returns-in_ok-next-in-Some : goal.returns-in_ok-next-in-Some
returns-in_ok-next-in-Some c =
    given_open c.in_ok-next-in-Some.next c.args.rest.now c.in-Some.end c.find.new.self c.given_by.result c.in_ok-next-in-Some.ensures c.in-Some.ensures.1 c.given_by.ensures

-- `middle` meets its contract.
use borrow.Author.Rules.{rules}
use Rattle.settlement_flow.proofs.OfThree.{middle_is}
use Rattle.settlement_flow.proofs.middle.Goals as goal

pub returns : goal.returns
returns c =
    let e = middle_is c.args.x c.args.y c.args.z in
    search (rules, e)

-- `with_interval` meets its contract.
use mir.Facts.{to_z-of_z}
use mir.Syntax.{w64}
use mir.Val.{SFits}
use borrow.Author.Rules.{rules}
use Rattle.hours.specs.Hour.{with_interval}
use Rattle.hours.proofs.Hour.with_interval.Goals as goal

pub returns : goal.returns
unfolding with_interval
returns c =
    let f : SFits w64 c.args.i.now.statement.amount = search rules in
    simp (to_z-of_z f)

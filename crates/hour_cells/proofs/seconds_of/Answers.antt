-- `seconds_of` sums the cells that count.
use native.Mathlib.Omega.{arith}
use borrow.Author.Rules.{rules}
use lib.ListN.{get_or}
use mir.Syntax.{w16}
use mir.Val.{Fits}
use Rattle.hour_cells.proofs.Cells.{cell_here, seconds_next}
use Rattle.hour_cells.proofs.seconds_of.Goals as goal

pub loop-s-preserved : goal.loop-s-preserved
loop-s-preserved c =
    let e = cell_here c.args.seconds _ _ 0 c.loop-s-test.true in
    let f : Fits w16 (get_or c.args.seconds c.loop-s.s-index 0) = search rules in
    (omega (arith, e, f.fits), omega (arith, e, seconds_next))

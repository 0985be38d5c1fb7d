-- `laid_out` meets its contract. The loop's invariant: the records before `at` have passed, and `l` counts them.
use Prim.Native.Nat.{◌-◌}
use lib.ListN.{length}
use Rattle.layout.specs.inner.Places.{content_at}
use Rattle.layout.specs.inner.Listed.{Listed}
use Rattle.sheet.specs.Passed.{Passed}
use Rattle.sheet.proofs.laid_out.Given as goal

abbrev pub invariant-loop-at : goal.invariant-loop-at
invariant-loop-at l = Passed l.s l.at l.last (content_at l.s l.l) × Listed l.s l.l l.last l.table

abbrev pub decreases-loop-at : goal.decreases-loop-at
decreases-loop-at l = length l.s - l.at

-- `listed` meets its contract: a search that has come to the first names answers for all.
use Prim.Native.Nat.{◌-◌}
use Rattle.name_index.proofs.Table.{Reached}
use Rattle.name_index.proofs.listed.Given as goal

abbrev pub invariant-loop-last : goal.invariant-loop-last
invariant-loop-last l = Reached l.s l.run l.at (l.last - l.run.base)

abbrev pub decreases-loop-last : goal.decreases-loop-last
decreases-loop-last l = l.last

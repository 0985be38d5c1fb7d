-- `record_number` meets its contract.
use Prim.Native.Nat.{◌-◌}
use Rattle.record_numbers.proofs.Counted.{Counting}
use Rattle.record_numbers.proofs.record_number.Given as goal

abbrev pub invariant-loop-from : goal.invariant-loop-from
invariant-loop-from l = Counting l.sheet l.at l.kind l.number l.from

abbrev pub decreases-loop-from : goal.decreases-loop-from
decreases-loop-from l = l.at - l.from

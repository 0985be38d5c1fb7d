-- `check_with` meets its contract.
use Rattle.std.proofs.Common.{length}
use Rattle.entitlements.proofs.Reached.{Reached}
use Rattle.entitlements.proofs.check_with.Given as goal

abbrev pub invariant-loop-n : goal.invariant-loop-n
invariant-loop-n l = Reached l.mask (length l.initial.table) l.list l.n l.table

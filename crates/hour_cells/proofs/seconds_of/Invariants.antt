-- `seconds_of` sums the cells that count.
use Prim.Native.Nat.{◌*◌, ◌≤◌}
use mathlib.Core.Path.{◌≡◌}
use Rattle.hour_cells.specs.Cells.{seconds_to}
use Rattle.hour_cells.proofs.seconds_of.Given as goal

abbrev pub invariant-loop-s : goal.invariant-loop-s
invariant-loop-s l = (l.sum ≤ 65535 * l.s-index) × (l.sum ≡ seconds_to l.fn.seconds l.s-index)

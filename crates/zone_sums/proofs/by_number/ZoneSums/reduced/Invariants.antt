-- `reduced` meets its contract: after n turns the first n cells are filled.
use mathlib.Core.Path.{◌≡◌}
use Rattle.zone_sums.specs.ByZone.{cells}
use Rattle.zone_sums.specs.inner.Ledger.{net_at}
use Rattle.zone_sums.proofs.by_number.ZoneSums.reduced.Given as goal

abbrev pub invariant-loop-zone : goal.invariant-loop-zone
invariant-loop-zone l = l.out ≡ cells (net_at l.self.sums l.minus.sums) l.zone

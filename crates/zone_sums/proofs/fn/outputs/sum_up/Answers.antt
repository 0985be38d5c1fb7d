-- The booking of a unit's output.
use Rattle.zone_sums.specs.inner.Ledger.{booking_of}
use Rattle.zone_sums.proofs.fn.outputs.sum_up.Goals as goal

pub returns : goal.returns
unfolding booking_of
returns c = rw (c.from.ensures, c.unit_at-unit.ensures)

-- The booking of a point's export.
use Rattle.zone_sums.specs.inner.Ledger.{booking_of}
use Rattle.zone_sums.proofs.fn.exports.sum_up.Goals as goal

pub returns : goal.returns
unfolding booking_of
returns c = rw (c.number_of.ensures, c.point_at-point.ensures)

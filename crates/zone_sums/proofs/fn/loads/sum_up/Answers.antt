-- The booking of a zone's load with its losses.
use native.Mathlib.Omega.{arith}
use Rattle.sheet.proofs.Accepted.{valid, counts}
use Rattle.zone_sums.specs.inner.Ledger.{booking_of}
use Rattle.zone_sums.proofs.fn.loads.sum_up.Goals as goal

pub overflow_add-result : goal.overflow_add-result
overflow_add-result c =
    let p = c.captures.sheet.now.accepted in
    omega (arith, (counts _ _ p).zones, (valid _ _ p).zones_most)

pub overflow_add-result-2 : goal.overflow_add-result-2
overflow_add-result-2 c =
    let p = c.captures.sheet.now.accepted in
    let f = (valid _ _ p).zone_fits c.args.i (omega (arith, (counts _ _ p).zones)) in
    rw c.zone_at-zone.ensures (omega (arith, f.load, f.losses))

pub returns : goal.returns
unfolding booking_of
returns c = rw c.zone_at-zone.ensures

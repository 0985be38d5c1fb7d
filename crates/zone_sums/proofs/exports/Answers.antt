-- `exports` meets its contract.
use native.Mathlib.Omega.{arith}
use Rattle.sheet.proofs.Accepted.{valid, counts}
use Rattle.zone_sums.specs.inner.Ledger.{bookings, Exports}
use Rattle.zone_sums.proofs.Bookings.{booking_fits}
use Rattle.zone_sums.proofs.exports.Goals as goal

pub sum_up-requires-clause-few : goal.sum_up-requires-clause-few
sum_up-requires-clause-few c =
    let p = c.args.sheet.now.accepted in
    omega (arith, (counts _ _ p).points, (valid _ _ p).points_most)

pub sum_up-requires-clause-fits : goal.sum_up-requires-clause-fits
unfolding bookings
sum_up-requires-clause-fits c i b h e =
    let p = c.args.sheet.now.accepted in
    rw e (booking_fits _ (valid _ _ p) Exports i (rw (counts _ _ p).points at h))

pub returns : goal.returns
unfolding bookings
returns c = c.sum_up.ensures _ Exports (counts _ _ c.args.sheet.now.accepted).points (λ i b h e. e)

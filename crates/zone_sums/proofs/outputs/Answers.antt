-- `outputs` meets its contract.
use native.Mathlib.Omega.{arith}
use Rattle.sheet.proofs.Accepted.{valid, counts}
use Rattle.zone_sums.specs.inner.Ledger.{bookings, Outputs}
use Rattle.zone_sums.proofs.Bookings.{booking_fits}
use Rattle.zone_sums.proofs.outputs.Goals as goal

pub sum_up-requires-clause-few : goal.sum_up-requires-clause-few
sum_up-requires-clause-few c =
    let p = c.args.sheet.now.accepted in
    omega (arith, (counts _ _ p).units, (valid _ _ p).units_most)

pub sum_up-requires-clause-fits : goal.sum_up-requires-clause-fits
unfolding bookings
sum_up-requires-clause-fits c i b h e =
    let p = c.args.sheet.now.accepted in
    rw e (booking_fits _ (valid _ _ p) Outputs i (rw (counts _ _ p).units at h))

pub returns : goal.returns
unfolding bookings
returns c = c.sum_up.ensures _ Outputs (counts _ _ c.args.sheet.now.accepted).units (λ i b h e. e)

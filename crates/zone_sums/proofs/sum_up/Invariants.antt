-- `sum_up` meets its contract: after i turns the array holds the sums over the first i bookings.
use Prim.Native.Nat.{ℕ, ◌*◌, ◌≤◌, ◌<◌}
use mathlib.Core.Path.{◌≡◌}
use lib.ListN.{length, get_or}
use Rattle.records.specs.Content.{Content}
use Rattle.zone_sums.specs.declared.Booking.{Booking}
use Rattle.zone_sums.specs.inner.Ledger.{Ledger, booking_of}
use Rattle.zone_sums.proofs.Bookings.{Part}
use Rattle.zone_sums.proofs.sum_up.Given as goal

abbrev pub invariant-loop-i : goal.invariant-loop-i
invariant-loop-i g l = record {
  full : length l.sums ≡ 33;
  most : (k : ℕ) → k < 33 → get_or l.sums k 0 ≤ l.i * 4000000;
  part : (c : Content) (ledger : Ledger) → ((i : ℕ) (b : Booking) → i < l.n → goal.F-post g l.booking i b → b ≡ booking_of c ledger i) → Part c ledger l.sums l.i;
}

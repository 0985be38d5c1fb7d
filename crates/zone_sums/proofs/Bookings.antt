-- Bookings of an accepted sheet fit, and the sums by number grow by one booking at a time.
use Prim.Native.Nat.{ℕ, zero, suc, ◌+◌, ◌*◌, ◌≤◌, ◌<◌}
use mathlib.Core.Path.{◌≡◌, refl, sym, ap, ◌∙◌}
use mathlib.Core.Bool.{Bool, true, false, cond}
use mathlib.Core.List.{List}
use native.Mathlib.Decide.{ℕ_discrete}
use native.Mathlib.Omega.{arith}
use borrow.Author.Tests.{eq-eqb, ne_eqb}
use lib.Dec.{eqb}
use lib.IntN.{pos, nat_abs, +ℤ_idr}
use lib.ListN.{length, get_or, set, replicate}
use lib.Seq.{get_or-set_same, get_or-set_other}
use Rattle.integers.specs.Sum.{sum_to}
use Rattle.integers.proofs.Sums.{sum_suc, sum_abs}
use Rattle.records.specs.declared.Place.{Place}
use Rattle.records.specs.declared.Place.TheVariants.{Proxy, Line}
use Rattle.records.specs.Content.{Content, point}
use Rattle.record_rows.specs.inner.Valid.{Valid, LineFits, PointFits}
use Rattle.zone_sums.specs.declared.Booking.{Booking}
use Rattle.zone_sums.specs.inner.Ledger.{Ledger, Loads, Outputs, Imports, Exports}
use Rattle.zone_sums.specs.inner.Ledger.{number_of, BookingFits, booking_of, bookings, booked_at, sum_at, Sums, Small}

number_most : (p : Place) (zones : ℕ) → ((n : ℕ) → p ≡ Line n → LineFits zones n) → number_of p ≤ zones
unfolding number_of
number_most Proxy zones h = omega arith
number_most (Line n) zones h = (h n refl).most

module _ (c : Content) (v : Valid c) where
  at_place : (i x : ℕ) → PointFits (length c.zones) (point c i) → x ≤ 200000 → BookingFits (record { number = number_of (point c i).place; amount = x })
  at_place i x f g = record {
    number = omega (arith, number_most (point c i).place (length c.zones) f.place, v.zones_most);
    amount = omega arith;
  }

  pub booking_fits : (ledger : Ledger) (i : ℕ) → i < bookings c ledger → BookingFits (booking_of c ledger i)
  unfolding bookings booking_of
  booking_fits Loads i h = let f = v.zone_fits i h in record { number = omega (arith, v.zones_most); amount = omega arith }
  booking_fits Outputs i h = let f = v.unit_fits i h in record { number = omega (arith, v.zones_most); amount = omega arith }
  booking_fits Imports i h = let f = v.point_fits i h in at_place i (point c i).import f f.import
  booking_fits Exports i h = let f = v.point_fits i h in at_place i (point c i).export f f.export

  pub bookings_most : (ledger : Ledger) → bookings c ledger ≤ 256
  unfolding bookings
  bookings_most Loads = omega (arith, v.zones_most)
  bookings_most Outputs = v.units_most
  bookings_most Imports = omega (arith, v.points_most)
  bookings_most Exports = omega (arith, v.points_most)

module _ (c : Content) (ledger : Ledger) where
  -- an array of sums over the first i bookings
  abbrev pub Part : List ℕ → ℕ → Type 0
  Part sums i = (n : ℕ) → n < 33 → pos (get_or sums n 0) ≡ sum_to (booked_at c ledger n) i

  -- one booking more: the sum at its number grows, the others stay
  pub turn : (sums : List ℕ) (i : ℕ) (b : Booking) → length sums ≡ 33 → b.number < 33 → b ≡ booking_of c ledger i → Part sums i → Part (set sums b.number (get_or sums b.number 0 + b.amount)) (i + 1)
  unfolding booked_at
  turn sums i b e g eb p n l = by (ℕ_discrete n b.number)
    where
      by : Dec (n ≡ b.number) → pos (get_or (set sums b.number (get_or sums b.number 0 + b.amount)) n 0) ≡ sum_to (booked_at c ledger n) (i + 1)
      by (yes q) =
          rw (sum_suc, ← p n l, ← eb, q, eq-eqb b.number b.number refl)
          (ap pos (get_or-set_same sums b.number (get_or sums b.number 0 + b.amount) 0 (omega arith)))
      by (no q) =
          rw (sum_suc, ← p n l, ← eb, ne_eqb b.number n (λ r. q (sym r)))
          (ap pos (get_or-set_other sums b.number n (get_or sums b.number 0 + b.amount) 0 q) ∙ sym (+ℤ_idr (pos (get_or sums n 0))))

-- the same of the bounds
pub turn_most : (sums : List ℕ) (i : ℕ) (b : Booking) → length sums ≡ 33 → BookingFits b → ((n : ℕ) → n < 33 → get_or sums n 0 ≤ i * 4000000) →
    (n : ℕ) → n < 33 → get_or (set sums b.number (get_or sums b.number 0 + b.amount)) n 0 ≤ (i + 1) * 4000000
turn_most sums i b e f p n l = by (ℕ_discrete n b.number)
  where
    by : Dec (n ≡ b.number) → get_or (set sums b.number (get_or sums b.number 0 + b.amount)) n 0 ≤ (i + 1) * 4000000
    by (yes q) = rw (q, get_or-set_same sums b.number (get_or sums b.number 0 + b.amount) 0 (omega (arith, f.number))) (omega (arith, p b.number f.number, f.amount))
    by (no q) = rw (get_or-set_other sums b.number n (get_or sums b.number 0 + b.amount) 0 q) (omega (arith, p n l))

module _ (c : Content) (v : Valid c) (ledger : Ledger) where
  booked_most : (n i : ℕ) → i < bookings c ledger → nat_abs (booked_at c ledger n i) ≤ 4000000
  unfolding booked_at
  booked_most n i h = go (eqb (booking_of c ledger i).number n) (booking_fits c v ledger i h).amount
    where
      go : (a : Bool) {x : ℕ} → x ≤ 4000000 → nat_abs (cond a (pos x) (pos 0)) ≤ 4000000
      go true g = g
      go false g = omega arith

  pub sum_most : (n i : ℕ) → i ≤ bookings c ledger → nat_abs (sum_to (booked_at c ledger n) i) ≤ 1024000000
  sum_most n i h =
      let b = sum_abs (booked_at c ledger n) 4000000 i (λ k l. booked_most n k (omega arith)) in
      omega (arith, bookings_most c v ledger)

  pub part_most : (sums : List ℕ) (i n : ℕ) → i ≤ bookings c ledger → Part c ledger sums i → n < 33 → get_or sums n 0 ≤ 1024000000
  part_most sums i n h p l = omega (arith, sum_most n i h, ap nat_abs (p n l))

  pub small_of : (sums : List ℕ) → Sums c ledger sums → Small sums
  unfolding sum_at
  small_of sums t = record { most = λ n l. part_most sums (bookings c ledger) n (omega arith) t.sum l }

pub zeros : (n k : ℕ) → ◌≡◌ {A = ℕ} (get_or (replicate n 0) k 0) 0
zeros zero k = refl
zeros (suc n) zero = refl
zeros (suc n) (suc k) = zeros n k

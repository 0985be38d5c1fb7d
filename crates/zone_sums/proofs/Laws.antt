-- The ledgers' sums are the figures of steps 1 and 2.
use Prim.Native.Nat.{ℕ, ◌+◌, ◌<◌, ◌≤◌}
use mathlib.Core.Path.{◌≡◌, refl, ◌∙◌}
use mathlib.Core.Bool.{cond}
use mathlib.Core.List.{List}
use native.Mathlib.Omega.{arith}
use borrow.Author.Tests.{eq-eqb, ne_eqb}
use lib.Dec.{eqb, lit<}
use lib.IntN.{ℤ, pos, nat_abs, ◌-ℤ◌}
use lib.ListN.{length}
use Rattle.integers.proofs.Machine.{Num, Op, rd, num_is, sub}
use Rattle.integers.proofs.Sums.{sum_same, sum_pick, sum_abs}
use Rattle.records.specs.declared.Place.{Place}
use Rattle.records.specs.declared.Place.TheVariants.{Proxy, Line}
use Rattle.records.specs.Content.{Content, zone, point}
use Rattle.record_rows.specs.inner.Valid.{Valid, LineFits}
use Rattle.figures.specs.Balance.{same_place, import_at, imports, export_at, exports, total_load, output, output_in, zone_output}
use Rattle.zone_sums.specs.inner.Ledger.{Loads, Outputs, Imports, Exports}
use Rattle.zone_sums.specs.inner.Ledger.{number_of, booking_of, bookings, booked_at, sum_at, Small, amount_at, net_at, total}

-- a booking at a place's number
line_is : (p : Place) (z : ℕ) → eqb (number_of p) (z + 1) ≡ same_place p (Line (z + 1))
unfolding number_of same_place
line_is Proxy z = ne_eqb 0 (z + 1) (λ e. absurd (omega arith))
line_is (Line n) z = refl

proxy_is : (p : Place) (zones : ℕ) → ((n : ℕ) → p ≡ Line n → LineFits zones n) → eqb (number_of p) 0 ≡ same_place p Proxy
unfolding number_of same_place
proxy_is Proxy zones h = refl
proxy_is (Line n) zones h = ne_eqb n 0 (λ e. absurd (omega (arith, (h n refl).least)))

module _ (c : Content) (z : ℕ) where
  pub outputs_are : sum_at c Outputs (z + 1) ≡ zone_output c z
  unfolding sum_at bookings booked_at booking_of zone_output output_in output
  outputs_are = refl

  pub imports_are : sum_at c Imports (z + 1) ≡ imports c (Line (z + 1))
  unfolding sum_at bookings booked_at booking_of imports import_at
  imports_are = sum_same _ _ (length c.points) (λ i l. rw (line_is (point c i).place z))

  pub exports_are : sum_at c Exports (z + 1) ≡ exports c (Line (z + 1))
  unfolding sum_at bookings booked_at booking_of exports export_at
  exports_are = sum_same _ _ (length c.points) (λ i l. rw (line_is (point c i).place z))

  pub loads_are : z < length c.zones → sum_at c Loads (z + 1) ≡ total_load c z
  unfolding sum_at bookings booked_at booking_of total_load
  loads_are h =
      sum_pick (λ i. cond (eqb (i + 1) (z + 1)) (pos ((zone c i).load + (zone c i).losses)) (pos 0)) (length c.zones) z h
      (λ i l n. rw (ne_eqb (i + 1) (z + 1) (λ e. n (omega arith))))
      ∙ rw (eq-eqb (z + 1) (z + 1) refl)

module _ (c : Content) (v : Valid c) where
  pub proxy_imports_are : sum_at c Imports 0 ≡ imports c Proxy
  unfolding sum_at bookings booked_at booking_of imports import_at
  proxy_imports_are = sum_same _ _ (length c.points) (λ i l. rw (proxy_is (point c i).place _ (v.point_fits i l).place))

  pub proxy_exports_are : sum_at c Exports 0 ≡ exports c Proxy
  unfolding sum_at bookings booked_at booking_of exports export_at
  proxy_exports_are = sum_same _ _ (length c.points) (λ i l. rw (proxy_is (point c i).place _ (v.point_fits i l).place))

-- what an array has at a zone, and what one has more than another, as the machine works it out
module _ (p : List ℕ) (hp : Small p) (z : ℕ) (h : z < 32) where
  pub amount_num : (r : ℤ) → r ≡ amount_at p z → Num (rd r) (amount_at p z) 1024000000
  unfolding amount_at
  amount_num r e = num_is r _ 1024000000 e (hp.most (z + 1) (omega arith)) (lit< tt)

  pub amount_most : nat_abs (amount_at p z) ≤ 1024000000
  unfolding amount_at
  amount_most = hp.most (z + 1) (omega arith)

pub net_at_op : (p m : List ℕ) → Small p → Small m → (z : ℕ) → z < 32 → (x y : ℤ) → x ≡ amount_at p z → y ≡ amount_at m z → Op (rd x -ℤ rd y) (net_at p m z) 2048000000
unfolding net_at
net_at_op p m hp hm z h x y ex ey = sub (amount_num p hp z h x ex) (amount_num m hm z h y ey) (lit< tt)

-- what a zone has more of one than of the other, and the sum of an array at all zones
pub net_at_most : (p m : List ℕ) → Small p → Small m → (z : ℕ) → z < 32 → nat_abs (net_at p m z) ≤ 2048000000
net_at_most p m hp hm z h = (net_at_op p m hp hm z h _ _ refl refl).num.abs

pub total_num : (p : List ℕ) → Small p → (zones : ℕ) → zones ≤ 32 → (r : ℤ) → r ≡ total p zones → Num (rd r) (total p zones) 32768000000
unfolding total
total_num p hp zones h r e = num_is r _ 32768000000 e (omega (arith, sum_abs (amount_at p) 1024000000 zones (λ k l. amount_most p hp k (omega arith)))) (lit< tt)

-- The listing of every accepted statement has at most 316 bytes, so row 23 is not met in a buffer of that length.
use mathlib.Core.Path.{◌≡◌, refl, ap}
use mathlib.Core.List.{List}
use Prim.Native.Nat.{ℕ, ◌+◌, ◌≤◌}
use mathlib.Core.Bool.{Bool, true, false}
use native.Mathlib.Decide.{dec_lt}
use native.Mathlib.Omega.{arith}
use borrow.Author.Tests.{ne_eqb}
use lib.IntN.{ℤ}
use lib.ListN.{length}
use Rattle.statement.specs.declared.Statement.{Statement}
use Rattle.settlement.specs.Settled.{settled}
use Rattle.settlement.proofs.Bounded.{Bounded, bounded}
use Rattle.writers.specs.Text.{decimal}
use Rattle.printout.specs.Lines.{settled_lines}
use Rattle.printout.specs.Listing.{listing}
use Rattle.listing.specs.Buffer.{checked}
use Rattle.listing.proofs.Printing.{kept}
use Rattle.report.specs.Report.{reported}
use Rattle.printout.proofs.Lengths.{decimal_length, unsigned_length, opposite_length, name_length, flowgate_length, gtl_length, flows_length, settled_length, unsettled_length, payment_length, listing_length}

-- the market flow, and the line `settled` where there is one: without paths both flows are one, and row 22 keeps it small
settled_longest : (s : Statement) → Bounded s → length (decimal s.market) + length (settled_lines s.has_paths s.settled) ≤ 36
settled_longest s h = by s.has_paths refl
  where
    short : length (decimal s.settled) ≤ 12
    short = let b = h.settled in decimal_length 10 s.settled (omega arith)

    by : (p : Bool) → s.has_paths ≡ p → length (decimal s.market) + length (settled_lines p s.settled) ≤ 36
    by true e = let b = h.market in omega (arith, decimal_length 13 s.market (omega arith), settled_length s.settled, short)
    by false e = omega (arith, ap (λ (z : ℤ). length (decimal z)) (h.unsettled e), unsettled_length s.settled, short)

-- so many digits a figure; a price has no minus, and of the two payments at most one has
bounded_longest : (s : Statement) → Bounded s → length (listing s) ≤ 316
bounded_longest s h =
    let name = h.name in
    omega (
      arith,
      listing_length s,
      flowgate_length s.name,
      gtl_length s.gtl s.first_remainder s.second_remainder,
      flows_length s.parallel s.shadow s.common s.noncommon s.market,
      payment_length s.entitlement s.price s.amount s.nyiso s.pjm,
      name_length s.name,
      decimal_length 11 s.gtl (let b = h.gtl in omega arith),
      decimal_length 6 s.first_remainder (let b = h.first_remainder in omega arith),
      decimal_length 6 s.second_remainder (let b = h.second_remainder in omega arith),
      decimal_length 12 s.parallel (let b = h.parallel in omega arith),
      decimal_length 12 s.shadow (let b = h.shadow in omega arith),
      decimal_length 13 s.common (let b = h.common in omega arith),
      decimal_length 13 s.noncommon (let b = h.noncommon in omega arith),
      settled_longest s h,
      decimal_length 10 s.entitlement (let b = h.entitlement in omega arith),
      unsigned_length 5 s.price h.price_least (let b = h.price in omega arith),
      decimal_length 12 s.amount (let b = h.amount in omega arith),
      opposite_length 12 s.nyiso (let b = h.nyiso in omega arith),
      ap (λ (z : ℤ). length (decimal z)) h.pjm,
    )

pub longest : (sheet list : List ℕ) → (settled sheet list).refusal ≡ 0 → length (listing (settled sheet list)) ≤ 316
longest sheet list accepted = bounded_longest (settled sheet list) (bounded sheet list accepted)

-- so a buffer of 316 bytes is never too short, nor is the one that the program lends
pub row_23_not_met : (sheet list out : List ℕ) → 316 ≤ length out → (reported sheet list out).statement ≡ settled sheet list
unfolding reported checked
row_23_not_met sheet list out room =
    let s = settled sheet list in
    elim (dec_lt s.refusal 1) [
      | yes h ↦ kept s out (omega (arith, longest sheet list (omega arith)))
      | no h ↦ rw (ne_eqb s.refusal 0 (λ e. omega arith)) refl
    ]

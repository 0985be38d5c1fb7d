-- The exact figures of document 01's examples, of sheet S, and of a sheet whose exact price is another than the one taken; the bounds' last watt is needed.
use Prim.Native.Nat.{◌+◌}
use native.Mathlib.Omega.{arith}
use mathlib.Core.Path.{◌≡◌, refl}
use mathlib.Core.List.{List, [], ◌∷◌, map}
use lib.Dec.{lit≤}
use lib.IntN.{ℤ, pos, negsuc, nat_abs, ◌-ℤ◌, ◌*ℤ◌}
use lib.ListN.{length}
use lib.Signed.{◌<ℤ◌}
use Rattle.records.specs.declared.Place.TheVariants.{Proxy}
use Rattle.records.specs.Codes.{pjm, common, noncommon}
use Rattle.records.specs.Content.{Content, head}
use Rattle.record_rows.specs.inner.Valid.{PointFits, none, all, Valid}
use Rattle.figures.specs.Balance.{balance_row}
use Rattle.figures.specs.Flow.{market_flow}
use Rattle.figures.specs.Lake.{settlement_flow}
use Rattle.figures.specs.Payment.{in_watts, difference, price, amount}
use Rattle.figures.proofs.Examples.{printed, refused, head_of, zone_of, unit_of, point_of, par_of, factor_of, plain, on_lake, sheet_s, wheeling, lowered, raised, thirds, exporting}
use Rattle.figures.proofs.Accepted.{All, proxy_fits, due_count, valid_of, s_valid, s_balanced}
use Rattle.accuracy.specs.Fraction.{Fraction, entire, ◌⊕◌, ◌⊖◌, ◌⊗◌, ◌⊘◌, half, sum_of, at_most, Equals, Near}
use Rattle.accuracy.specs.Exact.{exact_generation_to_load, exact_carried_term, exact_redirect, exact_non_common_redirect, exact_market_flow, exact_impact, exact_adjusted_flow, exact_settlement_flow, exact_difference, exact_price, exact_amount_of, exact_amount}
use Rattle.accuracy.specs.Accurate.{market_bound, settlement_bound, dearer_price, amount_bound, Accurate}
use Rattle.accuracy.proofs.Accuracy.{accurate}

-- the exact amount, and all that it goes through
unfoldable settled : Content → ℤ → Fraction
unfolding printed entire ◌⊕◌ ◌⊖◌ ◌⊗◌ ◌⊘◌ sum_of at_most exact_generation_to_load exact_carried_term exact_redirect exact_non_common_redirect exact_market_flow
    exact_impact exact_adjusted_flow exact_settlement_flow exact_difference exact_price exact_amount_of exact_amount
settled c entitlement = exact_amount c entitlement

-- content; numerator and denominator of the exact generation-to-load flow
abbrev flows : List (Content × ℤ × ℤ)
flows = (thirds, pos 20, pos 3) ∷ (exporting, negsuc 9, pos 1) ∷ []

pub exact_flows : map (λ (r : Content × ℤ × ℤ). (exact_generation_to_load r.0 0).numerator *ℤ r.2) flows ≡ map (λ (r : Content × ℤ × ℤ). r.1 *ℤ (exact_generation_to_load r.0 0).denominator) flows
unfolding settled
exact_flows = refl

-- sheet S is accurate, as an accepted sheet, and exact to the last step
pub s_accurate : (entitlement : ℤ) → Accurate sheet_s entitlement
s_accurate = accurate sheet_s s_valid s_balanced

pub s_exact : Equals (amount sheet_s (pos 100)) (exact_amount sheet_s (pos 100))
unfolding settled
s_exact = record { above = record { lt = tt }; same = refl }

-- wheels enter the exact amount too: of sheet S with wheels it is 1,361,458 1/3
pub wheels_exact : (exact_amount wheeling (pos 100)).numerator *ℤ pos 3 ≡ pos 4084375 *ℤ (exact_amount wheeling (pos 100)).denominator
unfolding settled
wheels_exact = refl

-- content with paths, entitlement; the exact difference, whole for sheet S: the entitlement is below, between and above market flow and adjusted flow
abbrev lakes : List (Content × ℤ × ℤ)
lakes =
    (lowered, pos 100, pos 1947500)
    ∷ (lowered, pos 125, pos 0)
    ∷ (lowered, pos 135, negsuc 312499)
    ∷ (raised, pos 100, pos 3187500)
    ∷ (raised, pos 135, pos 0)
    ∷ (raised, pos 150, negsuc 1252499)
    ∷ []

pub exact_lakes : map (λ (r : Content × ℤ × ℤ). (exact_difference r.0 r.1).numerator) lakes ≡ map (λ (r : Content × ℤ × ℤ). r.2 *ℤ (exact_difference r.0 r.1).denominator) lakes
unfolding settled
exact_lakes = refl

-- The market flow is at the entitlement, 100,000 W, and the exact one 1/3 W below it: the price taken is 0, the exact one the Non-Monitoring price
abbrev brink : Content
brink =
    plain (head_of 2 900 100 400000) (zone_of 1 0 ∷ zone_of 29 0 ∷ []) (unit_of 1 1 ∷ []) (point_of noncommon Proxy 1 0 ∷ [])
    (factor_of 0 1 1 (pos 1) ∷ factor_of 0 2 1 (pos 1) ∷ factor_of 0 2 2 (pos 0) ∷ factor_of 0 3 1 (pos 9999) ∷ [])

brink_valid : Valid brink
unfolding due_count
brink_valid = valid_of brink (omega arith) (none refl refl) (omega arith) (record { sort_least = lit≤ tt; sort_most = lit≤ tt; place = proxy_fits 2; import = lit≤ tt; export = lit≤ tt; wheel_in = lit≤ tt; wheel_out = lit≤ tt }, tt)

brink_balanced : balance_row brink ≡ 0
unfolding refused
brink_balanced = refl

pub brink_accurate : Accurate brink (pos 1)
brink_accurate = accurate brink brink_valid brink_balanced (pos 1)

pub brink_prices : market_flow brink ∷ price (head brink) (difference brink (pos 1)) ∷ exact_price (head brink) (exact_difference brink (pos 1)) ∷ [] ≡ pos 100000 ∷ pos 0 ∷ pos 400000 ∷ []
unfolding settled
brink_prices = refl

-- its exact amount is -100/3, and ours 0
pub brink_amounts : (amount brink (pos 1) ≡ pos 0) × ((exact_amount brink (pos 1)).numerator *ℤ pos 3 ≡ negsuc 99 *ℤ (exact_amount brink (pos 1)).denominator)
unfolding settled
brink_amounts = (refl, refl)

-- which is near enough by the bound's seconds
pub brink_near : Near (amount brink (pos 1)) (exact_amount brink (pos 1)) (amount_bound (head brink) (settlement_bound brink))
unfolding settled half dearer_price market_bound settlement_bound amount_bound
brink_near = record { above = record { lt = tt }; bound = record { lt = tt }; apart = record { le = tt } }

-- At 1 cent for 1 s the amount of 1,800,000 W is 0, and the exact one 1/2: near enough by the bound's half
abbrev halved : Content
halved = plain (head_of pjm 1 1 1) (zone_of 100 0 ∷ []) (unit_of 1 100 ∷ []) [] (factor_of 0 1 1 (pos 1800) ∷ factor_of 0 2 1 (pos 0) ∷ [])

pub halved_amounts : (amount halved (pos 0) ≡ pos 0) × ((exact_amount halved (pos 0)).numerator *ℤ pos 2 ≡ (exact_amount halved (pos 0)).denominator)
unfolding settled
halved_amounts = (refl, refl)

pub halved_near : Near (amount halved (pos 0)) (exact_amount halved (pos 0)) (amount_bound (head halved) (settlement_bound halved))
unfolding settled half dearer_price market_bound settlement_bound amount_bound
halved_near = record { above = record { lt = tt }; bound = record { lt = tt }; apart = record { le = tt } }

-- With a PAR of each class the market flow is 3118 W and the exact one 202437/65 W, 3.58 W less: p + 2 W is far enough, and p + 1 W is not
abbrev far : Content
far = record {
  heads = head_of 2 900 100 100 ∷ [];
  zones = zone_of 20 0 ∷ zone_of 45 0 ∷ [];
  units = unit_of 1 51 ∷ [];
  points = point_of common Proxy 0 1 ∷ [];
  pars = par_of common (pos 0) (pos 0) ∷ par_of noncommon (pos 0) (pos 0) ∷ [];
  factors = factor_of 0 1 1 (negsuc 5)
      ∷ factor_of 0 2 1 (pos 3)
      ∷ factor_of 0 2 2 (pos 9)
      ∷ factor_of 0 3 1 (pos 0)
      ∷ factor_of 0 4 1 (pos 9999)
      ∷ factor_of 0 4 2 (pos 9999)
      ∷ factor_of 1 1 1 (negsuc 5)
      ∷ factor_of 1 2 1 (negsuc 0)
      ∷ factor_of 1 2 2 (pos 6)
      ∷ factor_of 1 3 1 (pos 0)
      ∷ factor_of 2 1 1 (negsuc 3)
      ∷ factor_of 2 2 1 (pos 9)
      ∷ factor_of 2 2 2 (pos 4)
      ∷ factor_of 2 3 1 (pos 0)
      ∷ [];
  paths = [];
  circulations = [];
}

pub far_flows : (market_flow far ≡ pos 3118) × ((exact_market_flow far).numerator *ℤ pos 65 ≡ pos 202437 *ℤ (exact_market_flow far).denominator)
unfolding settled
far_flows = (refl, refl)

pub far_near : Near (market_flow far) (exact_market_flow far) (entire (market_bound far))
unfolding settled market_bound
far_near = record { above = record { lt = tt }; bound = record { lt = tt }; apart = record { le = tt } }

pub far_beyond : (pos (length far.pars + 1) *ℤ (exact_market_flow far).denominator) <ℤ pos (nat_abs (market_flow far *ℤ (exact_market_flow far).denominator -ℤ (exact_market_flow far).numerator))
unfolding settled
far_beyond = record { lt = tt }

far_points : All (PointFits 2) far.points
far_points = (record { sort_least = lit≤ tt; sort_most = lit≤ tt; place = proxy_fits 2; import = lit≤ tt; export = lit≤ tt; wheel_in = lit≤ tt; wheel_out = lit≤ tt }, tt)

far_valid : Valid far
unfolding due_count
far_valid = valid_of far (omega arith) (none refl refl) (omega arith) far_points

far_balanced : balance_row far ≡ 0
unfolding refused
far_balanced = refl

pub far_accurate : (entitlement : ℤ) → Accurate far entitlement
far_accurate = accurate far far_valid far_balanced

-- With an impact of 7.5 W, rounded to 8, the settlement flow at 100,000 W is 3126 W and the exact one 405849/130 W, 4.08 W less: p + 3 W is far enough,
-- and p + 2 W is not
abbrev farther : Content
farther = on_lake far ((pos 0, pos 3) ∷ (pos 0, pos 0) ∷ (pos 0, pos 0) ∷ (pos 0, pos 0) ∷ []) (negsuc 0)

abbrev farther_flow : ℤ
farther_flow = settlement_flow farther (in_watts (pos 1))

abbrev farther_exact : Fraction
farther_exact = exact_settlement_flow farther (in_watts (pos 1))

pub farther_flows : (farther_flow ≡ pos 3126) × (farther_exact.numerator *ℤ pos 130 ≡ pos 405849 *ℤ farther_exact.denominator)
unfolding settled
farther_flows = (refl, refl)

pub farther_near : Near farther_flow farther_exact (entire (settlement_bound farther))
unfolding settled settlement_bound
farther_near = record { above = record { lt = tt }; bound = record { lt = tt }; apart = record { le = tt } }

pub farther_beyond : (pos (length farther.pars + 2) *ℤ farther_exact.denominator) <ℤ pos (nat_abs (farther_flow *ℤ farther_exact.denominator -ℤ farther_exact.numerator))
unfolding settled
farther_beyond = record { lt = tt }

farther_valid : Valid farther
unfolding due_count
farther_valid = valid_of farther (omega arith) (all refl refl) (omega arith) far_points

farther_balanced : balance_row farther ≡ 0
unfolding refused
farther_balanced = refl

pub farther_accurate : (entitlement : ℤ) → Accurate farther entitlement
farther_accurate = accurate farther farther_valid farther_balanced

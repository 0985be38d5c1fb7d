-- The accuracy rule: which flows are exact, and how far each figure is from the exact one at most.
use Rattle.std.specs.Prelude.{ℕ, ◌+◌, ◌≤◌, max, ◌≡◌, ◌↔◌, cond, ℤ, pos, ◌*ℤ◌, length, ◌<ℤ◌}
use Rattle.records.specs.declared.Head.{Head}
use Rattle.records.specs.Content.{Content, head}
use Rattle.figures.specs.Balance.{net_load, final_generation}
use Rattle.figures.specs.Flow.{generation_to_load, first_remainder, second_remainder, market_flow}
use Rattle.figures.specs.Lake.{has_paths, settlement_flow}
use Rattle.figures.specs.Payment.{in_watts, amount}
use Rattle.accuracy.specs.Fraction.{Fraction, entire, ◌⊕◌, ◌⊘◌, half, Equals, Near}
use Rattle.accuracy.specs.Exact.{exact_generation_to_load, exact_market_flow, exact_adjusted_flow, exact_settlement_flow, exact_difference, exact_amount}

-- Bounds, in watts: 1 for a generation-to-load flow, p + 2 for the market flow, with p the sheet's PARs of both classes
unfoldable pub flow_bound : ℤ
flow_bound = pos 1

unfoldable pub market_bound : Content → ℤ
market_bound c = pos (length c.pars + 2)

-- p + 3 for the settlement flow of a sheet with paths (document 02, request 6); without, it is the market flow
unfoldable pub settlement_bound : Content → ℤ
settlement_bound c = cond (has_paths c) (pos (length c.pars + 3)) (market_bound c)

-- the larger of the head's two prices, whichever was taken
unfoldable pub dearer_price : Head → ℤ
dearer_price h = pos (max h.monitoring_price h.nonmonitoring_price)

-- the amount of a flow that is k watts off at most: k × dearer price × seconds / 3,600,000 + 1/2
unfoldable pub amount_bound : Head → ℤ → Fraction
amount_bound h k = entire (k *ℤ dearer_price h *ℤ pos h.seconds) ⊘ pos 3600000 ⊕ half

-- targets are the flowgate and each PAR
pub record Accurate (c : Content) (entitlement : ℤ) : Type 0 where
  pub flow_exact : (target : ℕ) → target ≤ length c.pars →
      Equals (generation_to_load c target) (exact_generation_to_load c target) ↔ net_load c *ℤ second_remainder c target ≡ final_generation c *ℤ first_remainder c target
  pub flow_near : (target : ℕ) → target ≤ length c.pars → Near (generation_to_load c target) (exact_generation_to_load c target) (entire flow_bound)
  pub market_near : Near (market_flow c) (exact_market_flow c) (entire (market_bound c))
  -- `at_most` compares by products, which is the order of two fractions only where both denominators are above zero; the market flow's is, by `market_near`
  pub adjusted_above : pos 0 <ℤ (exact_adjusted_flow c).denominator
  pub settled_near : Near (settlement_flow c (in_watts entitlement)) (exact_settlement_flow c (in_watts entitlement)) (entire (settlement_bound c))
  -- `exactPrice` goes by the numerator's sign, which is the exact difference's own only where the denominator is above zero
  pub difference_above : pos 0 <ℤ (exact_difference c entitlement).denominator
  pub amount_near : Near (amount c entitlement) (exact_amount c entitlement) (amount_bound (head c) (settlement_bound c))

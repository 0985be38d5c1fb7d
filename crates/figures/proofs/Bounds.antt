-- How large each figure can be where none of refusals 16 to 21 is met. Every one fits an i64.
use Prim.Native.Nat.{ℕ, ◌+◌, ◌-◌, ◌*◌, ◌≤◌, ◌<◌}
use native.Mathlib.Nat.{le_refl, le_trans, mul-le-mul_left}
use native.Mathlib.Omega.{arith}
use mathlib.Core.Path.{◌≡◌, refl, ◌∙◌}
use mathlib.Core.Bool.{Bool, true, false, cond}
use borrow.Author.Tests.{eq-eqb, ne_eqb}
use lib.Dec.{eqb}
use lib.IntN.{ℤ, pos, nat_abs, ◌+ℤ◌, ◌-ℤ◌, ◌*ℤ◌}
use lib.ListN.{length}
use lib.Signed.{◌≤ℤ◌, le_z}
use Rattle.integers.specs.Sum.{sum_to}
use Rattle.integers.proofs.Linear.{zarith}
use Rattle.integers.proofs.Order.{≤_trans, lt_le}
use Rattle.integers.proofs.Absolute.{abs_add, abs_sub, abs_mul}
use Rattle.integers.proofs.Sums.{sum_same, sum_least, sum_pick, sum_swap}
use Rattle.integers.proofs.Tactic.{zi, zo}
use Rattle.records.specs.declared.Place.TheVariants.{Line}
use Rattle.records.specs.Codes.{common, noncommon, unit_subject, zone_subject}
use Rattle.records.specs.Content.{Content, unit, par}
use Rattle.record_rows.specs.inner.Valid.{Valid}
use Rattle.figures.specs.Balance.{imports, total_load, zone_load, net_load, output, output_in, zone_output, exports, zone_generation, net_generation, final_generation, gross_output, gross_load, balance_row}
use Rattle.figures.specs.Flow.{factor, par_factor, output_term, weighted_output, load_term, weighted_load, first_dividend, load_share, first_remainder, gross_flow, second_dividend, generation_to_load, second_remainder, parallel, shadow, control, carried_term, carried_sum, carried, redirect, nyiso_monitors, non_common_redirect, market_flow, most_flow}
use Rattle.figures.specs.Lake.{has_paths, impact, adjusted_flow, middle, settlement_flow}
use Rattle.figures.specs.inner.Most.{most_power, most_weighted, most_share, most_generation_to_load, most_schedule, most_on_par, most_over_par, most_carried_sum, most_carried, most_redirect, most_market, most_path_sum, most_impact, most_adjusted}
use Rattle.figures.proofs.Numbers.{natural_least, less_left, size_most, size_rise, cond_within, times_within, sum_within, sum_rise, sum_weighted, remainder_within, quotient_share}
use Rattle.figures.proofs.Balanced.{imports_least, exports_least, gross_load_most, gross_output_most, zone_load_least, net_load_above, net_generation_above, final_generation_least, final_generation_most}
use Rattle.figures.proofs.Factors.{unit-factor-within, zone-factor-within, par_factor_within}
use Rattle.figures.proofs.Ranges.{parallel-within, shadow-within, control_within, impact_within}
use Rattle.figures.proofs.Middle.{middle_keeps}

-- the bounds of steps 4 to 6 and of the lake as figures
pub worked_bounds : (most_schedule ≡ 1280000000000) × (most_carried_sum ≡ 134400000000000000) × (most_redirect ≡ 13760000000000) × (most_market ≡ 30480000000000)
    × (most_path_sum ≡ 400000000000) × (most_impact ≡ 100000000000) × (most_adjusted ≡ 30580000000000)
worked_bounds = (refl, refl, refl, refl, refl, refl, refl)

-- a number times a factor
weighted : (x f : ℤ) → nat_abs f ≤ 10000 → nat_abs (x *ℤ f) ≤ 10000 * nat_abs x
weighted x f h = omega (arith, abs_mul x f, mul-le-mul_left (nat_abs x) h)

-- the market flow's five parts
parts_small : (a b d f g : ℤ) → nat_abs a ≤ most_generation_to_load → nat_abs b ≤ most_schedule → nat_abs d ≤ most_schedule → nat_abs f ≤ most_redirect → nat_abs g ≤ most_redirect →
    nat_abs (a +ℤ b +ℤ d -ℤ f -ℤ g) ≤ most_market
parts_small a b d f g = simp zi (simp zo (omega zarith))

output_least : (c : Content) (i : ℕ) → pos 0 ≤ℤ output c i
unfolding output
output_least c i = natural_least (unit c i).output

gross_output_least : (c : Content) → pos 0 ≤ℤ gross_output c
unfolding gross_output
gross_output_least c = sum_least (output c) (length c.units) (λ i l. output_least c i)

pub with_paths : (c : Content) (watts : ℤ) → has_paths c ≡ true → settlement_flow c watts ≡ middle le_z (market_flow c) (adjusted_flow c) watts
unfolding settlement_flow
with_paths c watts e = rw e

-- without paths the settlement flow is the market flow
pub without_paths : (c : Content) (watts : ℤ) → has_paths c ≡ false → settlement_flow c watts ≡ market_flow c
unfolding settlement_flow
without_paths c watts e = rw e

-- imports only reduce the load, and exports the generation
net_load_gross : (c : Content) → net_load c ≤ℤ gross_load c
unfolding net_load gross_load zone_load
net_load_gross c = sum_rise (zone_load c) (total_load c) (length c.zones) (λ z l. less_left (total_load c z) (imports c (Line (z + 1))) (imports_least c (Line (z + 1))))

-- every unit is in one of the sheet's zones
module _ (c : Content) (v : Valid c) where
  in_one : (i : ℕ) → i < length c.units → sum_to (λ z. output_in c z i) (length c.zones) ≡ output c i
  unfolding output_in
  in_one i l =
      let u = v.unit_fits i l in
      let k : (unit c i).zone ≡ (unit c i).zone - 1 + 1 = omega (arith, u.zone_least) in
      sum_pick (λ z. cond (eqb (unit c i).zone (z + 1)) (output c i) (pos 0)) (length c.zones) ((unit c i).zone - 1) (omega (arith, u.zone_least, u.zone_most))
      (λ z m n. rw (ne_eqb (unit c i).zone (z + 1) (λ e. n (omega arith))))
      ∙ rw (eq-eqb (unit c i).zone ((unit c i).zone - 1 + 1) k)

  pub gross_output_is : sum_to (zone_output c) (length c.zones) ≡ gross_output c
  unfolding zone_output gross_output
  gross_output_is = sum_swap (output_in c) (length c.zones) (length c.units) ∙ sum_same _ _ (length c.units) in_one

  net_generation_gross : net_generation c ≤ℤ gross_output c
  unfolding net_generation zone_generation
  net_generation_gross =
      rw (← gross_output_is) (sum_rise (zone_generation c) (zone_output c) (length c.zones) (λ z l. less_left (zone_output c z) (exports c (Line (z + 1))) (exports_least c (Line (z + 1)))))

module _ {c : Content} (v : Valid c) (e : balance_row c ≡ 0) where
  -- steps 1 and 2
  pub net_load_small : nat_abs (net_load c) ≤ most_power
  net_load_small = size_most (net_load c) most_power (lt_le (net_load_above c e)) (≤_trans (net_load_gross c) (gross_load_most c e))

  pub gross_output_small : nat_abs (gross_output c) ≤ most_power
  gross_output_small = size_most (gross_output c) most_power (gross_output_least c) (gross_output_most c e)

  pub net_generation_small : nat_abs (net_generation c) ≤ most_power
  net_generation_small = size_most (net_generation c) most_power (lt_le (net_generation_above c e)) (≤_trans (net_generation_gross c v) (gross_output_most c e))

  pub final_generation_small : nat_abs (final_generation c) ≤ most_power
  final_generation_small = le_trans (size_rise (final_generation c) (net_generation c) (final_generation_least c e) (final_generation_most c e)) net_generation_small

  -- step 3, for a target of the sheet
  module _ {target : ℕ} (k : target ≤ length c.pars) where
    pub weighted-output-small : nat_abs (weighted_output c target) ≤ most_weighted
    unfolding weighted_output output_term gross_output
    weighted-output-small =
        omega (
          arith,
          gross_output_small,
          sum_weighted (output_term c target) (output c) 10000 (length c.units)
              (λ i l. weighted (output c i) (factor c target unit_subject i) (unit-factor-within v k i l)) (λ i l. output_least c i),
        )

    weighted-load-share : nat_abs (weighted_load c target) ≤ 10000 * nat_abs (net_load c)
    unfolding weighted_load load_term net_load
    weighted-load-share =
        sum_weighted (load_term c target) (zone_load c) 10000 (length c.zones)
        (λ z l. weighted (zone_load c z) (factor c target zone_subject z) (zone-factor-within v k z l)) (zone_load_least c e)

    pub weighted-load-small : nat_abs (weighted_load c target) ≤ most_weighted
    weighted-load-small = omega (arith, weighted-load-share, net_load_small)

    pub load-share-small : nat_abs (load_share c target) ≤ most_share
    unfolding load_share first_dividend
    load-share-small =
        quotient_share (first_dividend c target) (net_load c) most_share (net_load_above c e)
        (let h = times_within (pos 10 *ℤ gross_output c) (weighted_load c target) (times_within (pos 10) (gross_output c) (le_refl 10) gross_output_small) weighted-load-share in
        omega arith)

    pub first-remainder-small : nat_abs (first_remainder c target) ≤ most_power
    unfolding first_remainder
    first-remainder-small = remainder_within (first_dividend c target) (net_load c) (net_load_above c e) net_load_small

    pub gross-flow-small : nat_abs (gross_flow c target) ≤ most_generation_to_load
    unfolding gross_flow
    gross-flow-small =
        omega (
          arith,
          abs_sub (pos 10 *ℤ weighted_output c target) (load_share c target),
          times_within (pos 10) (weighted_output c target) (le_refl 10) weighted-output-small,
          load-share-small,
        )

    pub generation-to-load-small : nat_abs (generation_to_load c target) ≤ most_generation_to_load
    unfolding generation_to_load second_dividend
    generation-to-load-small =
        quotient_share (second_dividend c target) (net_generation c) most_generation_to_load (net_generation_above c e)
        (times_within (gross_flow c target) (final_generation c) gross-flow-small
        (size_rise (final_generation c) (net_generation c) (final_generation_least c e) (final_generation_most c e)))

    pub second-remainder-small : nat_abs (second_remainder c target) ≤ most_power
    unfolding second_remainder
    second-remainder-small = remainder_within (second_dividend c target) (net_generation c) (net_generation_above c e) net_generation_small

  -- steps 5 and 6
  pub carried_term_small : (class i : ℕ) → i < length c.pars → nat_abs (carried_term c class i) ≤ most_over_par
  unfolding carried_term
  carried_term_small class i l =
      let k : i + 1 ≤ length c.pars = omega arith in
      cond_within (eqb (par c i).class class) (par_factor c i *ℤ (generation_to_load c (i + 1) +ℤ parallel c (i + 1)))
      (times_within (par_factor c i) (generation_to_load c (i + 1) +ℤ parallel c (i + 1)) {b = most_on_par} (par_factor_within v i l)
      (omega (arith, abs_add (generation_to_load c (i + 1)) (parallel c (i + 1)), generation-to-load-small k, parallel-within v k)))

  pub carried_sum_small : (class : ℕ) → nat_abs (carried_sum c class) ≤ most_carried_sum
  unfolding carried_sum
  carried_sum_small class = sum_within (carried_term c class) most_over_par (carried_term_small class) v.pars_most

  pub carried_small : (class : ℕ) → nat_abs (carried c class) ≤ most_carried
  unfolding carried
  carried_small class = quotient_share (carried_sum c class) (pos 10000) most_carried (record { lt = tt }) (carried_sum_small class)

  pub redirect_small : (class : ℕ) → nat_abs (redirect c class) ≤ most_redirect
  unfolding redirect
  redirect_small class = omega (arith, abs_sub (carried c class) (control c class), carried_small class, control_within v class)

  pub non_common_redirect_small : nat_abs (non_common_redirect c) ≤ most_redirect
  unfolding non_common_redirect
  non_common_redirect_small = by (nyiso_monitors c)
    where
      by : (b : Bool) → nat_abs (cond b (pos 0) (redirect c noncommon)) ≤ most_redirect
      by true = omega arith
      by false = redirect_small noncommon

  pub market_flow_small : nat_abs (market_flow c) ≤ most_market
  unfolding market_flow
  market_flow_small =
      let k : 0 ≤ length c.pars = omega arith in
      parts_small (generation_to_load c 0) (parallel c 0) (shadow c 0) (redirect c common) (non_common_redirect c)
      (generation-to-load-small k) (parallel-within v k) (shadow-within v k) (redirect_small common) non_common_redirect_small

  -- the lake
  pub adjusted_flow_small : nat_abs (adjusted_flow c) ≤ most_adjusted
  unfolding adjusted_flow
  adjusted_flow_small = omega (arith, abs_add (market_flow c) (impact c), market_flow_small, impact_within v)

  pub settlement_flow_small : (watts : ℤ) → nat_abs watts ≤ most_flow → nat_abs (settlement_flow c watts) ≤ most_adjusted
  unfolding settlement_flow
  settlement_flow_small watts h = by (has_paths c)
    where
      by : (b : Bool) → nat_abs (cond b (middle le_z (market_flow c) (adjusted_flow c) watts) (market_flow c)) ≤ most_adjusted
      by true = middle_keeps le_z (λ x. nat_abs x ≤ most_adjusted) (market_flow c) (adjusted_flow c) watts (omega (arith, market_flow_small)) adjusted_flow_small (omega arith)
      by false = omega (arith, market_flow_small)

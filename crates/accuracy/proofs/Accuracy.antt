-- The accuracy rule, proved: every content that passes rows 1 to 13, 28 and 16 to 21 is accurate.
use Prim.Native.Nat.{ℕ, zero, suc, ◌+◌, ◌<◌, ◌≤◌}
use native.Mathlib.Omega.{arith}
use mathlib.Core.Path.{◌≡◌, refl, ap}
use mathlib.Core.Bool.{Bool, true, false, cond}
use mathlib.Core.Logic.{◌↔◌}
use borrow.Author.Tests.{eqb-true}
use lib.Dec.{eqb}
use lib.IntN.{ℤ, pos, nat_abs, ◌+ℤ◌, ◌-ℤ◌, ◌*ℤ◌, *ℤ_comm}
use lib.ListN.{length}
use lib.Signed.{◌≤ℤ◌, ◌<ℤ◌, le_z, ≤ℤ_refl}
use Rattle.integers.specs.Sum.{sum_to}
use Rattle.integers.proofs.Parts.{le_of}
use Rattle.integers.proofs.Linear.{zarith}
use Rattle.integers.proofs.Order.{lt_le, le_mul}
use Rattle.integers.proofs.Absolute.{abs_pos}
use Rattle.integers.proofs.Sums.{sum_least}
use Rattle.integers.proofs.Tactic.{zi, zo}
use Rattle.quotient.proofs.Laws.{whole}
use Rattle.records.specs.declared.Head.{Head}
use Rattle.records.specs.Codes.{common, noncommon}
use Rattle.records.specs.Content.{Content, head, par}
use Rattle.record_rows.specs.inner.Valid.{Valid}
use Rattle.figures.specs.Balance.{net_load, net_generation, final_generation, gross_output, balance_row}
use Rattle.figures.specs.Flow.{weighted_output, weighted_load, first_dividend, load_share, first_remainder, gross_flow, second_dividend, generation_to_load, second_remainder, parallel, shadow, par_factor, control, carried_term, carried_sum, carried, redirect, nyiso_monitors, non_common_redirect, market_flow}
use Rattle.figures.specs.Lake.{has_paths, path_sum, impact, adjusted_flow, middle, settlement_flow}
use Rattle.figures.specs.Payment.{in_watts, difference, amount_of, amount}
use Rattle.figures.proofs.Balanced.{net_load_above, net_generation_above, final_generation_least, final_generation_most}
use Rattle.figures.proofs.Factors.{par_factor_within}
use Rattle.accuracy.specs.Fraction.{Fraction, entire, ◌⊕◌, ◌⊖◌, ◌⊗◌, ◌⊘◌, half, at_most, Equals, Near}
use Rattle.accuracy.specs.Exact.{exact_generation_to_load, exact_carried_term, exact_redirect, exact_non_common_redirect, exact_market_flow, exact_impact, exact_adjusted_flow, exact_settlement_flow, exact_difference, exact_amount_of, exact_amount}
use Rattle.accuracy.specs.Accurate.{flow_bound, market_bound, settlement_bound, amount_bound, Accurate}
use Rattle.accuracy.proofs.FractionLaws.{◌≼◌, near_self, near_plus, near_minus, near_wide, near_times, near_rounded, near_more, near_less, near_sum, entire_above}
use Rattle.accuracy.proofs.MiddleLaws.{near_middle}
use Rattle.accuracy.proofs.PaymentLaws.{near_pay}

-- a number that is not negative is its own size
own_size : {k : ℤ} → pos 0 ≤ℤ k → pos (nat_abs k) ≤ℤ k
own_size {k} h = rw (← abs_pos h) (≤ℤ_refl k)

-- the generation-to-load flow is exact: a is 10 × A, t is 10 × G × N
exact_iff : (a l t fg ng b f r s : ℤ) → fg *ℤ t ≡ fg *ℤ (b *ℤ l +ℤ r) → l *ℤ ((a -ℤ b) *ℤ fg) ≡ l *ℤ (f *ℤ ng +ℤ s) →
    (f *ℤ (pos 1 *ℤ (pos 1 *ℤ l) *ℤ ng) ≡ (a *ℤ (pos 1 *ℤ l) -ℤ t *ℤ pos 1) *ℤ fg) ↔ (l *ℤ s ≡ fg *ℤ r)
exact_iff a l t fg ng b f r s = simp zi (simp zo (omega zarith))

-- its bound: (0 + (0 / load + 1/2)) × final / generation + 1/2 is at most 1
flow_apart : (l fg ng : ℤ) → Fraction
flow_apart l fg ng = (entire (pos 0) ⊕ (entire (pos 0) ⊘ l ⊕ half)) ⊗ fg ⊘ ng ⊕ half

flow_step : (l fg ng : ℤ) → (l *ℤ fg) ≤ℤ (l *ℤ ng) →
    (((pos 0 *ℤ (pos 1 *ℤ l *ℤ pos 2) +ℤ (pos 0 +ℤ pos 1 *ℤ (pos 1 *ℤ l)) *ℤ pos 1) *ℤ fg *ℤ pos 2 +ℤ pos 1 *ℤ (pos 1 *ℤ (pos 1 *ℤ l *ℤ pos 2) *ℤ ng)) *ℤ pos 1) ≤ℤ
    (flow_bound *ℤ (pos 1 *ℤ (pos 1 *ℤ l *ℤ pos 2) *ℤ ng *ℤ pos 2))
unfolding flow_bound
flow_step l fg ng = simp zi (simp zo (omega zarith))

flow_most : (l fg ng : ℤ) → pos 0 <ℤ l → fg ≤ℤ ng → flow_apart l fg ng ≼ entire flow_bound
unfolding flow_apart entire ◌⊕◌ ◌⊗◌ ◌⊘◌ half
flow_most l fg ng p h = record { most = flow_step l fg ng (le_mul (lt_le p) h) }

-- a PAR's bound is (1 + 0) × 10,000
term_most : entire flow_bound ⊗ pos 10000 ≼ entire (pos 10000)
unfolding entire ◌⊗◌ flow_bound
term_most = record { most = record { le = tt } }

-- a class's, with w the sum over its PARs
redirect_apart : ℤ → Fraction
redirect_apart w = entire w ⊘ pos 10000 ⊕ half

none_step : (w : ℤ) → pos 0 ≤ℤ w → pos 0 ≤ℤ ((w *ℤ pos 2 +ℤ pos 10000) *ℤ pos 1)
none_step w = simp zi (simp zo (omega zarith))

none_most : (w : ℤ) → pos 0 ≤ℤ w → entire (pos 0) ≼ redirect_apart w
unfolding redirect_apart entire ◌⊕◌ ◌⊘◌ half
none_most w h = record { most = none_step w h }

-- the market flow's, with w and u the two classes': at most 10,000 a PAR in all
market_step : (c : Content) (w u : ℤ) → (w +ℤ u) ≤ℤ (pos 10000 *ℤ pos (length c.pars)) →
    (((flow_bound *ℤ pos 20000 +ℤ (w *ℤ pos 2 +ℤ pos 10000) *ℤ pos 1) *ℤ pos 20000 +ℤ (u *ℤ pos 2 +ℤ pos 10000) *ℤ pos 20000) *ℤ pos 1) ≤ℤ (market_bound c *ℤ pos 400000000)
unfolding flow_bound market_bound
market_step c w u = simp zi (simp zo (omega zarith))

market_most : (c : Content) (w u : ℤ) → (w +ℤ u) ≤ℤ (pos 10000 *ℤ pos (length c.pars)) → entire flow_bound ⊕ redirect_apart w ⊕ redirect_apart u ≼ entire (market_bound c)
unfolding redirect_apart entire ◌⊕◌ ◌⊘◌ half flow_bound
market_most c w u h = record { most = market_step c w u h }

-- a PAR's share of its class's bound: 10,000 in the class, 0 outside; in one class at most
weight : Content → ℕ → ℕ → ℤ
weight c class i = cond (eqb (par c i).class class) (pos 10000) (pos 0)

weight_least : (c : Content) (class i : ℕ) → pos 0 ≤ℤ weight c class i
unfolding weight
weight_least c class i = by (eqb (par c i).class class)
  where
    by : (b : Bool) → pos 0 ≤ℤ cond b (pos 10000) (pos 0)
    by true = record { le = tt }
    by false = record { le = tt }

weight_both : (c : Content) (i : ℕ) → (weight c common i +ℤ weight c noncommon i) ≤ℤ pos 10000
unfolding weight
weight_both c i = by (par c i).class (eqb (par c i).class common) refl (eqb (par c i).class noncommon) refl
  where
    by : (k : ℕ) (a : Bool) → eqb k common ≡ a → (b : Bool) → eqb k noncommon ≡ b → (cond a (pos 10000) (pos 0) +ℤ cond b (pos 10000) (pos 0)) ≤ℤ pos 10000
    by k true d true e = absurd (omega (arith, eqb-true k common d, eqb-true k noncommon e))
    by k true d false e = record { le = tt }
    by k false d true e = record { le = tt }
    by k false d false e = record { le = tt }

weights_step : (n : ℕ) (x y a b : ℤ) → (x +ℤ y) ≤ℤ (pos 10000 *ℤ pos n) → (a +ℤ b) ≤ℤ pos 10000 → ((x +ℤ a) +ℤ (y +ℤ b)) ≤ℤ (pos 10000 *ℤ pos (suc n))
weights_step n x y a b = simp zi (simp zo (omega zarith))

weights : (c : Content) (n : ℕ) → (sum_to (weight c common) n +ℤ sum_to (weight c noncommon) n) ≤ℤ (pos 10000 *ℤ pos n)
unfolding sum_to
weights c zero = record { le = tt }
weights c (suc n) = weights_step n (sum_to (weight c common) n) (sum_to (weight c noncommon) n) (weight c common n) (weight c noncommon n) (weights c n) (weight_both c n)

-- p + 2 and the impact's 1/2 are at most p + 3
entire_rise : (m n : ℕ) → m ≤ n → entire (pos m) ≼ entire (pos n)
unfolding entire
entire_rise m n h = record { most = le_of _ _ (omega arith) }

adjusted_most : (p : ℕ) → entire (pos (p + 2)) ⊕ (entire (pos 0) ⊘ pos 4 ⊕ half) ≼ entire (pos (p + 3))
unfolding entire ◌⊕◌ ◌⊘◌ half
adjusted_most p = record { most = le_of _ _ (omega arith) }

-- an amount, for any difference that is within k of the exact one
pub amount_of_close : (h : Head) (k : ℤ) {d : ℤ} {f : Fraction} → Near d f (entire k) → Near (amount_of h d) (exact_amount_of h f) (amount_bound h k)
unfolding amount_of exact_amount_of amount_bound entire ◌⊗◌
amount_of_close h k n = near_rounded (record { lt = tt }) (near_times (pos h.seconds) (≤ℤ_refl (pos h.seconds)) (near_pay h n))

module _ (c : Content) (v : Valid c) (e : balance_row c ≡ 0) where
  flow_close : (target : ℕ) → Near (generation_to_load c target) (exact_generation_to_load c target) (entire flow_bound)
  unfolding exact_generation_to_load generation_to_load second_dividend gross_flow load_share first_dividend flow_apart
  flow_close target =
      near_wide (entire_above flow_bound) (flow_most (net_load c) (final_generation c) (net_generation c) (net_load_above c e) (final_generation_most c e))
      (near_rounded (net_generation_above c e) (near_times (final_generation c) (own_size (final_generation_least c e))
      (near_minus (near_self (pos 10 *ℤ weighted_output c target)) (near_rounded (net_load_above c e) (near_self (pos 10 *ℤ gross_output c *ℤ weighted_load c target))))))

  flow_iff : (target : ℕ) → Equals (generation_to_load c target) (exact_generation_to_load c target) ↔ net_load c *ℤ second_remainder c target ≡ final_generation c *ℤ first_remainder c target
  unfolding exact_generation_to_load entire ◌⊖◌ ◌⊗◌ ◌⊘◌
  flow_iff target = ((λ h. both.0 h.same), (λ h. record { above = (flow_close target).above; same = both.1 h }))
    where
      first : final_generation c *ℤ (pos 10 *ℤ gross_output c *ℤ weighted_load c target) ≡ final_generation c *ℤ (load_share c target *ℤ net_load c +ℤ first_remainder c target)
      first = unfold load_share first_remainder first_dividend in ap (λ z. final_generation c *ℤ z) (whole (first_dividend c target) (net_load c))

      second : net_load c *ℤ ((pos 10 *ℤ weighted_output c target -ℤ load_share c target) *ℤ final_generation c) ≡ net_load c *ℤ (generation_to_load c target *ℤ net_generation c +ℤ second_remainder c target)
      second = unfold generation_to_load second_remainder second_dividend gross_flow in ap (λ z. net_load c *ℤ z) (whole (second_dividend c target) (net_generation c))

      both : (generation_to_load c target *ℤ (pos 1 *ℤ (pos 1 *ℤ net_load c) *ℤ net_generation c) ≡
          (pos 10 *ℤ weighted_output c target *ℤ (pos 1 *ℤ net_load c) -ℤ pos 10 *ℤ gross_output c *ℤ weighted_load c target *ℤ pos 1) *ℤ final_generation c) ↔
          (net_load c *ℤ second_remainder c target ≡ final_generation c *ℤ first_remainder c target)
      both = exact_iff (pos 10 *ℤ weighted_output c target) (net_load c) (pos 10 *ℤ gross_output c *ℤ weighted_load c target) (final_generation c) (net_generation c) (load_share c target)
          (generation_to_load c target) (first_remainder c target) (second_remainder c target) first second

  term_close : (class i : ℕ) → i < length c.pars → Near (carried_term c class i) (exact_carried_term c class i) (entire (weight c class i))
  unfolding carried_term exact_carried_term weight
  term_close class i l = by (eqb (par c i).class class)
    where
      small : pos (nat_abs (par_factor c i)) ≤ℤ pos 10000
      small = le_of _ _ (omega (arith, par_factor_within v i l))

      term : Near (par_factor c i *ℤ (generation_to_load c (i + 1) +ℤ parallel c (i + 1))) ((exact_generation_to_load c (i + 1) ⊕ entire (parallel c (i + 1))) ⊗ par_factor c i) (entire (pos 10000))
      term = near_wide (entire_above (pos 10000)) term_most
          (rw (*ℤ_comm (generation_to_load c (i + 1) +ℤ parallel c (i + 1))) at (near_times (par_factor c i) small (near_more (parallel c (i + 1)) (flow_close (i + 1)))))

      by : (b : Bool) → Near (cond b (par_factor c i *ℤ (generation_to_load c (i + 1) +ℤ parallel c (i + 1))) (pos 0))
          (cond b ((exact_generation_to_load c (i + 1) ⊕ entire (parallel c (i + 1))) ⊗ par_factor c i) (entire (pos 0))) (entire (cond b (pos 10000) (pos 0)))
      by true = term
      by false = near_self (pos 0)

  redirect_close : (class : ℕ) → Near (redirect c class) (exact_redirect c class) (redirect_apart (sum_to (weight c class) (length c.pars)))
  unfolding redirect carried carried_sum exact_redirect redirect_apart
  redirect_close class = near_less (control c class) (near_rounded (record { lt = tt }) (near_sum (carried_term c class) (exact_carried_term c class) (weight c class) (length c.pars) (term_close class)))

  non_common_close : Near (non_common_redirect c) (exact_non_common_redirect c) (redirect_apart (sum_to (weight c noncommon) (length c.pars)))
  unfolding non_common_redirect exact_non_common_redirect
  non_common_close = by (nyiso_monitors c)
    where
      by : (b : Bool) → Near (cond b (pos 0) (redirect c noncommon)) (cond b (entire (pos 0)) (exact_redirect c noncommon)) (redirect_apart (sum_to (weight c noncommon) (length c.pars)))
      by true = near_wide (redirect_close noncommon).bound
          (none_most _ (sum_least (weight c noncommon) (length c.pars) (λ i l. weight_least c noncommon i))) (near_self (pos 0))
      by false = redirect_close noncommon

  pub market_close : Near (market_flow c) (exact_market_flow c) (entire (market_bound c))
  unfolding market_flow exact_market_flow
  market_close =
      near_wide (entire_above (market_bound c)) (market_most c _ _ (weights c (length c.pars)))
      (near_minus (near_minus (near_more (shadow c 0) (near_more (parallel c 0) (flow_close 0))) (redirect_close common)) non_common_close)

  adjusted_close : Near (adjusted_flow c) (exact_adjusted_flow c) (entire (market_bound c) ⊕ (entire (pos 0) ⊘ pos 4 ⊕ half))
  unfolding adjusted_flow exact_adjusted_flow impact exact_impact
  adjusted_close = near_plus market_close (near_rounded (record { lt = tt }) (near_self (path_sum c)))

  pub settled_close : (watts : ℤ) → Near (settlement_flow c watts) (exact_settlement_flow c watts) (entire (settlement_bound c))
  unfolding settlement_flow exact_settlement_flow settlement_bound market_bound
  settled_close watts = by (has_paths c)
    where
      by : (b : Bool) → Near (cond b (middle le_z (market_flow c) (adjusted_flow c) watts) (market_flow c))
          (cond b (middle at_most (exact_market_flow c) (exact_adjusted_flow c) (entire watts)) (exact_market_flow c)) (entire (cond b (pos (length c.pars + 3)) (market_bound c)))
      by true =
          let p = length c.pars in
          let above = entire_above (pos (p + 3)) in
          near_middle (near_wide above (entire_rise (p + 2) (p + 3) (omega arith)) market_close) (near_wide above (adjusted_most p) adjusted_close)
          (near_wide above (entire_rise 0 (p + 3) (omega arith)) (near_self watts))
      by false = market_close

  pub difference_close : (entitlement : ℤ) → Near (difference c entitlement) (exact_difference c entitlement) (entire (settlement_bound c))
  unfolding difference exact_difference
  difference_close entitlement = near_less (in_watts entitlement) (settled_close (in_watts entitlement))

  pub accurate : (entitlement : ℤ) → Accurate c entitlement
  unfolding amount exact_amount
  accurate entitlement = record {
    flow_exact = λ target l. flow_iff target;
    flow_near = λ target l. flow_close target;
    market_near = market_close;
    adjusted_above = adjusted_close.above;
    settled_near = settled_close (in_watts entitlement);
    difference_above = (difference_close entitlement).above;
    amount_near = amount_of_close (head c) (settlement_bound c) (difference_close entitlement);
  }

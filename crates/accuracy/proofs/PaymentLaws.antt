-- A difference times its own price rises with the difference, by at most the dearer price.
use Prim.Native.Nat.{ℕ, zero, suc}
use native.Mathlib.Omega.{arith}
use mathlib.Core.Path.{◌≡◌, sym, ap, ◌∙◌}
use mathlib.Core.Logic.{◌⊎◌, inl, inr}
use lib.IntN.{ℤ, pos, negsuc, neg_ℤ, nat_abs, ◌-ℤ◌, ◌*ℤ◌, +ℤ_idl, zero-*ℤ}
use lib.Signed.{◌≤ℤ◌, ◌<ℤ◌}
use Rattle.integers.proofs.Parts.{up, dn, le_of, le_to}
use Rattle.integers.proofs.Linear.{zarith}
use Rattle.integers.proofs.Order.{le_or_lt, lt_le, le_mul, ≤_trans}
use Rattle.integers.proofs.Absolute.{abs_pos, abs_neg}
use Rattle.integers.proofs.Tactic.{zi, zo}
use Rattle.records.specs.declared.Head.{Head}
use Rattle.figures.specs.Payment.{price}
use Rattle.figures.proofs.Numbers.{natural_least, above_suc}
use Rattle.figures.proofs.Payments.{price_above, price_below}
use Rattle.accuracy.specs.Fraction.{Fraction, ◌⊗◌, Near}
use Rattle.accuracy.specs.Exact.{exact_price}
use Rattle.accuracy.specs.Accurate.{dearer_price}
use Rattle.accuracy.proofs.FractionLaws.{mul_pos}

-- x as its part above zero less its part below
parts : (x : ℤ) → x ≡ pos (up x) -ℤ pos (dn x)
parts (pos n) = simp zi (simp zo (omega zarith))
parts (negsuc n) = sym (+ℤ_idl (negsuc n))

up_rise : (x y : ℤ) → x ≤ℤ y → pos (up x) ≤ℤ pos (up y)
up_rise (pos a) (pos b) l = l
up_rise (pos a) (negsuc b) l = absurd l.le
up_rise (negsuc a) y l = natural_least (up y)

dn_fall : (x y : ℤ) → x ≤ℤ y → pos (dn y) ≤ℤ pos (dn x)
dn_fall x (pos b) l = natural_least (dn x)
dn_fall (pos a) (negsuc b) l = absurd l.le
dn_fall (negsuc a) (negsuc b) l = le_of (pos (suc b)) (pos (suc a)) (omega (arith, le_to l))

-- the arithmetic, with m and o for the Monitoring and the Non-Monitoring price and D for the dearer one
pay_zero : (m o : ℤ) → pos 0 *ℤ pos 0 ≡ m *ℤ pos 0 -ℤ o *ℤ pos 0
pay_zero m o = simp zi (simp zo (omega zarith))

pay_above : (m o : ℤ) (n : ℕ) → pos n *ℤ m ≡ m *ℤ pos n -ℤ o *ℤ pos 0
pay_above m o n = simp zi (simp zo (omega zarith))

pay_below : (m o x : ℤ) (n : ℕ) → x *ℤ o ≡ (pos 0 -ℤ pos n) *ℤ o → x *ℤ o ≡ m *ℤ pos 0 -ℤ o *ℤ pos n
pay_below m o x n = simp zi (simp zo (omega zarith))

rise : (m o a b c d s t : ℤ) → s ≡ m *ℤ a -ℤ o *ℤ b → t ≡ m *ℤ c -ℤ o *ℤ d → (m *ℤ a) ≤ℤ (m *ℤ c) → (o *ℤ d) ≤ℤ (o *ℤ b) → s ≤ℤ t
rise m o a b c d s t = simp zi (simp zo (omega zarith))

steep : (m o D a b c d x y s t : ℤ) → D *ℤ x ≡ D *ℤ (a -ℤ b) → D *ℤ y ≡ D *ℤ (c -ℤ d) → s ≡ m *ℤ a -ℤ o *ℤ b → t ≡ m *ℤ c -ℤ o *ℤ d →
    ((D -ℤ m) *ℤ a) ≤ℤ ((D -ℤ m) *ℤ c) → ((D -ℤ o) *ℤ d) ≤ℤ ((D -ℤ o) *ℤ b) → (t -ℤ s) ≤ℤ (D *ℤ (y -ℤ x))
steep m o D a b c d x y s t = simp zi (simp zo (omega zarith))

pay_turn : (x d p : ℤ) → x *ℤ p *ℤ d ≡ x *ℤ d *ℤ p
pay_turn x d p = simp zi (simp zo (omega zarith))

pay_step : (s a d β γ D : ℤ) → (γ *ℤ s) ≤ℤ (γ *ℤ (D *ℤ a)) → (D *ℤ (a *ℤ γ)) ≤ℤ (D *ℤ (β *ℤ d)) → (s *ℤ γ) ≤ℤ (β *ℤ D *ℤ d)
pay_step s a d β γ D = simp zi (simp zo (omega zarith))

below_times : (x d : ℤ) → pos 0 <ℤ (neg_ℤ x *ℤ d) → (x *ℤ d) <ℤ pos 0
below_times x d = simp zi (simp zo (omega zarith))

opposite : (x : ℤ) → x <ℤ pos 0 → pos 0 <ℤ neg_ℤ x
opposite x = simp zi (simp zo (omega zarith))

gap_least : (x y : ℤ) → x ≤ℤ y → pos 0 ≤ℤ (y -ℤ x)
gap_least x y = simp zi (simp zo (omega zarith))

swap_is : (x y : ℤ) → x -ℤ y ≡ neg_ℤ (y -ℤ x)
swap_is x y = simp zi (simp zo (omega zarith))

swap : (x y : ℤ) → nat_abs (x -ℤ y) ≡ nat_abs (y -ℤ x)
swap x y = ap nat_abs (swap_is x y) ∙ abs_neg (y -ℤ x)

module _ (h : Head) where
  abbrev monitoring : ℤ
  monitoring = pos h.monitoring_price

  abbrev non_monitoring : ℤ
  non_monitoring = pos h.nonmonitoring_price

  pub monitoring_most : monitoring ≤ℤ dearer_price h
  unfolding dearer_price
  monitoring_most = le_of _ _ (omega arith)

  pub non_monitoring_most : non_monitoring ≤ℤ dearer_price h
  unfolding dearer_price
  non_monitoring_most = le_of _ _ (omega arith)

  -- the Monitoring price times the part above zero, less the Non-Monitoring price times the part below
  pay_parts : (x : ℤ) → x *ℤ price h x ≡ monitoring *ℤ pos (up x) -ℤ non_monitoring *ℤ pos (dn x)
  unfolding price
  pay_parts (pos zero) = pay_zero monitoring non_monitoring
  pay_parts (pos (suc n)) = pay_above monitoring non_monitoring (suc n)
  pay_parts (negsuc n) = pay_below monitoring non_monitoring (negsuc n) (suc n) (ap (λ z. z *ℤ non_monitoring) (parts (negsuc n)))

  pub pay_rise : {x y : ℤ} → x ≤ℤ y → (x *ℤ price h x) ≤ℤ (y *ℤ price h y)
  pay_rise {x} {y} l =
      rise monitoring non_monitoring (pos (up x)) (pos (dn x)) (pos (up y)) (pos (dn y)) _ _ (pay_parts x) (pay_parts y)
      (le_mul (natural_least h.monitoring_price) (up_rise x y l)) (le_mul (natural_least h.nonmonitoring_price) (dn_fall x y l))

  pay_steep : {x y : ℤ} → x ≤ℤ y → (y *ℤ price h y -ℤ x *ℤ price h x) ≤ℤ (dearer_price h *ℤ (y -ℤ x))
  pay_steep {x} {y} l =
      steep monitoring non_monitoring (dearer_price h) (pos (up x)) (pos (dn x)) (pos (up y)) (pos (dn y)) x y _ _
      (ap (λ z. dearer_price h *ℤ z) (parts x)) (ap (λ z. dearer_price h *ℤ z) (parts y)) (pay_parts x) (pay_parts y)
      (le_mul (gap_least _ _ monitoring_most) (up_rise x y l)) (le_mul (gap_least _ _ non_monitoring_most) (dn_fall x y l))

  -- so two payments are no further apart than the dearer price times the differences' distance
  ordered : (x y : ℤ) → x ≤ℤ y → pos (nat_abs (y *ℤ price h y -ℤ x *ℤ price h x)) ≤ℤ (dearer_price h *ℤ pos (nat_abs (y -ℤ x)))
  ordered x y l = rw (← abs_pos (gap_least _ _ (pay_rise l)), ← abs_pos (gap_least x y l)) (pay_steep l)

  pub pay_apart : (x y : ℤ) → pos (nat_abs (y *ℤ price h y -ℤ x *ℤ price h x)) ≤ℤ (dearer_price h *ℤ pos (nat_abs (y -ℤ x)))
  pay_apart x y = go (le_or_lt x y)
    where
      go : (x ≤ℤ y) ⊎ (y <ℤ x) → pos (nat_abs (y *ℤ price h y -ℤ x *ℤ price h x)) ≤ℤ (dearer_price h *ℤ pos (nat_abs (y -ℤ x)))
      go (inl l) = ordered x y l
      go (inr l) = rw (swap (y *ℤ price h y) (x *ℤ price h x), swap y x) (ordered y x (lt_le l))

  -- the sign, and so the price, stays with a factor above zero
  price_times : (x d : ℤ) → pos 0 <ℤ d → price h (x *ℤ d) ≡ price h x
  price_times (pos zero) d l = ap (price h) (zero-*ℤ d)
  price_times (pos (suc n)) d l = price_above h (pos (suc n) *ℤ d) (mul_pos (above_suc n) l) ∙ sym (price_above h (pos (suc n)) (above_suc n))
  price_times (negsuc n) d l = price_below h (negsuc n *ℤ d) (below_times (negsuc n) d (mul_pos (opposite (negsuc n) (record { lt = tt })) l)) ∙ sym (price_below h (negsuc n) (record { lt = tt }))

  -- x near a fraction: then x times its price is near the fraction times the fraction's own price
  pub near_pay : {x : ℤ} {f b : Fraction} → Near x f b → Near (x *ℤ price h x) (f ⊗ exact_price h f) (b ⊗ dearer_price h)
  unfolding ◌⊗◌ exact_price
  near_pay {x} {f} {b} k = record {
    above = k.above;
    bound = k.bound;
    apart = pay_step _ (pos (nat_abs (x *ℤ f.denominator -ℤ f.numerator))) f.denominator b.numerator b.denominator (dearer_price h)
        (le_mul (lt_le k.bound) apart) (le_mul dearer-least k.apart);
  }
    where
      dearer-least : pos 0 ≤ℤ dearer_price h
      dearer-least = ≤_trans (natural_least h.monitoring_price) monitoring_most

      apart : pos (nat_abs (x *ℤ price h x *ℤ f.denominator -ℤ f.numerator *ℤ price h f.numerator)) ≤ℤ (dearer_price h *ℤ pos (nat_abs (x *ℤ f.denominator -ℤ f.numerator)))
      apart = rw (pay_turn x f.denominator (price h x), ← price_times x f.denominator k.above) (pay_apart f.numerator (x *ℤ f.denominator))

-- How near a whole number is to a fraction, through sums, products and rounded quotients.
-- Of the rounded quotient only its laws `whole` and `near` are used.
use Prim.Native.Nat.{ℕ, zero, suc, ◌*◌, ◌<◌}
use native.Mathlib.Nat.{one-mul}
use native.Mathlib.Omega.{arith}
use mathlib.Core.Path.{◌≡◌, ap, ◌∙◌}
use mathlib.Core.Logic.{◌↔◌}
use lib.IntN.{ℤ, pos, negsuc, neg_ℤ, nat_abs, ◌+ℤ◌, ◌-ℤ◌, ◌*ℤ◌, *ℤ_comm}
use lib.Signed.{◌≤ℤ◌, ◌<ℤ◌}
use Rattle.integers.specs.Sum.{sum_to}
use Rattle.integers.proofs.Linear.{zarith}
use Rattle.integers.proofs.Order.{lt_le, le_mul, le_cancel, mul_nonneg, abs_le, ≤_trans}
use Rattle.integers.proofs.Absolute.{abs_mul}
use Rattle.integers.proofs.Tactic.{zi, zo, le_mul_abs}
use Rattle.quotient.specs.Rounded.{quotient, remainder}
use Rattle.quotient.proofs.Laws.{whole, near}
use Rattle.figures.proofs.Numbers.{natural_least}
use Rattle.accuracy.specs.Fraction.{Fraction, entire, ◌⊕◌, ◌⊖◌, ◌⊗◌, ◌⊘◌, half, sum_of, Near}

-- f is at most g
infix 4 ◌≼◌
pub record ◌≼◌ (f g : Fraction) : Type 0 where
  pub most : (f.numerator *ℤ g.denominator) ≤ℤ (g.numerator *ℤ f.denominator)

-- a product of numbers above zero
pos_step : (x y : ℤ) → pos 0 <ℤ x → (x *ℤ pos 1) ≤ℤ (x *ℤ y) → pos 0 <ℤ (x *ℤ y)
pos_step x y = simp zi (simp zo (omega zarith))

at_least_one : (x : ℤ) → pos 0 <ℤ x → pos 1 ≤ℤ x
at_least_one x = simp zi (simp zo (omega zarith))

pub mul_pos : {x y : ℤ} → pos 0 <ℤ x → pos 0 <ℤ y → pos 0 <ℤ (x *ℤ y)
mul_pos {x} {y} h g = pos_step x y h (le_mul (lt_le h) (at_least_one y g))

-- a size of at most z, as two of the order
abbrev Between : ℤ → ℤ → Type 0
Between a z = (neg_ℤ z ≤ℤ a) × (a ≤ℤ z)

one_times : (a z : ℤ) → Between (pos 1 *ℤ a) z ↔ Between a z
one_times a z = simp zi (simp zo (omega zarith))

pub between : (a z : ℤ) → (pos (nat_abs a) ≤ℤ z) ↔ Between a z
between a z = ((λ h. (one_times a z).0 ((abs_le 1 a z).0 (rw one-mul h))), (λ h. rw one-mul at ((abs_le 1 a z).1 ((one_times a z).1 h))))

-- a size times a number that is not negative
pub size_times : (a k : ℤ) → pos 0 ≤ℤ k → pos (nat_abs (a *ℤ k)) ≡ pos (nat_abs a) *ℤ k
size_times a (pos n) h = ap pos (abs_mul a (pos n))
size_times a (negsuc n) h = absurd h.le

-- a distance, multiplied out by a number k that is not negative
pub spread : {x k : ℤ} {f b : Fraction} → pos 0 ≤ℤ k → Near x f b →
    pos (nat_abs ((x *ℤ f.denominator -ℤ f.numerator) *ℤ b.denominator *ℤ k)) ≤ℤ (k *ℤ (b.numerator *ℤ f.denominator))
spread {x} {k} {f} {b} g h =
    let a = x *ℤ f.denominator -ℤ f.numerator in
    rw (size_times (a *ℤ b.denominator) k g ∙ *ℤ_comm _ k ∙ ap (λ z. k *ℤ z) (size_times a b.denominator (lt_le h.bound))) (le_mul g h.apart)

-- and put together again
pub gather : {x : ℤ} {f b : Fraction} → pos 0 <ℤ f.denominator → pos 0 <ℤ b.denominator →
    pos (nat_abs ((x *ℤ f.denominator -ℤ f.numerator) *ℤ b.denominator)) ≤ℤ (b.numerator *ℤ f.denominator) → Near x f b
gather {x} {f} {b} p q h = record { above = p; bound = q; apart = rw (size_times (x *ℤ f.denominator -ℤ f.numerator) b.denominator (lt_le q)) at h }

-- a whole number itself
self_step : (x : ℤ) → pos (nat_abs ((x *ℤ pos 1 -ℤ x) *ℤ pos 1)) ≤ℤ (pos 0 *ℤ pos 1)
self_step x = simp (between, zi) (simp zo (omega zarith))

pub near_self : (x : ℤ) → Near x (entire x) (entire (pos 0))
unfolding entire
near_self x = gather (record { lt = tt }) (record { lt = tt }) (self_step x)

-- sums
plus_step : (x y n d m e β γ κ μ : ℤ) →
    pos (nat_abs ((x *ℤ d -ℤ n) *ℤ γ *ℤ (e *ℤ μ))) ≤ℤ ((e *ℤ μ) *ℤ (β *ℤ d)) → pos (nat_abs ((y *ℤ e -ℤ m) *ℤ μ *ℤ (d *ℤ γ))) ≤ℤ ((d *ℤ γ) *ℤ (κ *ℤ e)) →
    pos (nat_abs (((x +ℤ y) *ℤ (d *ℤ e) -ℤ (n *ℤ e +ℤ m *ℤ d)) *ℤ (γ *ℤ μ))) ≤ℤ ((β *ℤ μ +ℤ κ *ℤ γ) *ℤ (d *ℤ e))
plus_step x y n d m e β γ κ μ = simp (between, zi) (simp zo (omega zarith))

pub near_plus : {x y : ℤ} {f g b c : Fraction} → Near x f b → Near y g c → Near (x +ℤ y) (f ⊕ g) (b ⊕ c)
unfolding ◌⊕◌
near_plus {x} {y} {f} {g} {b} {c} h k =
    gather (mul_pos h.above k.above) (mul_pos h.bound k.bound)
    (plus_step x y f.numerator f.denominator g.numerator g.denominator b.numerator b.denominator c.numerator c.denominator
    (spread (lt_le (mul_pos k.above k.bound)) h) (spread (lt_le (mul_pos h.above h.bound)) k))

minus_step : (x y n d m e β γ κ μ : ℤ) →
    pos (nat_abs ((x *ℤ d -ℤ n) *ℤ γ *ℤ (e *ℤ μ))) ≤ℤ ((e *ℤ μ) *ℤ (β *ℤ d)) → pos (nat_abs ((y *ℤ e -ℤ m) *ℤ μ *ℤ (d *ℤ γ))) ≤ℤ ((d *ℤ γ) *ℤ (κ *ℤ e)) →
    pos (nat_abs (((x -ℤ y) *ℤ (d *ℤ e) -ℤ (n *ℤ e -ℤ m *ℤ d)) *ℤ (γ *ℤ μ))) ≤ℤ ((β *ℤ μ +ℤ κ *ℤ γ) *ℤ (d *ℤ e))
minus_step x y n d m e β γ κ μ = simp (between, zi) (simp zo (omega zarith))

pub near_minus : {x y : ℤ} {f g b c : Fraction} → Near x f b → Near y g c → Near (x -ℤ y) (f ⊖ g) (b ⊕ c)
unfolding ◌⊕◌ ◌⊖◌
near_minus {x} {y} {f} {g} {b} {c} h k =
    gather (mul_pos h.above k.above) (mul_pos h.bound k.bound)
    (minus_step x y f.numerator f.denominator g.numerator g.denominator b.numerator b.denominator c.numerator c.denominator
    (spread (lt_le (mul_pos k.above k.bound)) h) (spread (lt_le (mul_pos h.above h.bound)) k))

-- a wider bound
wide_step : (a d β γ κ μ : ℤ) → (μ *ℤ (a *ℤ γ)) ≤ℤ (μ *ℤ (β *ℤ d)) → (d *ℤ (β *ℤ μ)) ≤ℤ (d *ℤ (κ *ℤ γ)) → (γ *ℤ (a *ℤ μ)) ≤ℤ (γ *ℤ (κ *ℤ d))
wide_step a d β γ κ μ = simp zi (simp zo (omega zarith))

pub near_wide : {x : ℤ} {f b c : Fraction} → pos 0 <ℤ c.denominator → b ≼ c → Near x f b → Near x f c
near_wide {x} {f} {b} {c} p w h = record {
  above = h.above;
  bound = p;
  apart = le_cancel h.bound (wide_step (pos (nat_abs (x *ℤ f.denominator -ℤ f.numerator))) f.denominator b.numerator b.denominator c.numerator c.denominator
      (le_mul (lt_le p) h.apart) (le_mul (lt_le h.above) w.most));
}

-- a product with a whole number k whose size is at most m
times_is : (x n d k : ℤ) → x *ℤ k *ℤ d -ℤ n *ℤ k ≡ k *ℤ (x *ℤ d -ℤ n)
times_is x n d k = simp zi (simp zo (omega zarith))

times_step : (s a d β γ m : ℤ) → ((a *ℤ γ) *ℤ s) ≤ℤ ((a *ℤ γ) *ℤ m) → (m *ℤ (a *ℤ γ)) ≤ℤ (m *ℤ (β *ℤ d)) → (s *ℤ a *ℤ γ) ≤ℤ (β *ℤ m *ℤ d)
times_step s a d β γ m = simp zi (simp zo (omega zarith))

pub near_times : {x m : ℤ} {f b : Fraction} (k : ℤ) → pos (nat_abs k) ≤ℤ m → Near x f b → Near (x *ℤ k) (f ⊗ k) (b ⊗ m)
unfolding ◌⊗◌
near_times {x} {m} {f} {b} k s h = record {
  above = h.above;
  bound = h.bound;
  apart =
      let a = x *ℤ f.denominator -ℤ f.numerator in
      rw (ap (λ z. pos (nat_abs z)) (times_is x f.numerator f.denominator k) ∙ ap pos (abs_mul k a))
      (times_step (pos (nat_abs k)) (pos (nat_abs a)) f.denominator b.numerator b.denominator m
      (le_mul (mul_nonneg (natural_least (nat_abs a)) (lt_le h.bound)) s) (le_mul (≤_trans (natural_least (nat_abs k)) s) h.apart));
}

-- a rounded quotient is one half further at most
round_step : (n u d β γ D q r : ℤ) → (γ *ℤ d *ℤ D) *ℤ n ≡ (γ *ℤ d *ℤ D) *ℤ (q *ℤ D +ℤ r) → pos (2 * nat_abs ((γ *ℤ d *ℤ D) *ℤ r)) ≤ℤ ((γ *ℤ d *ℤ D) *ℤ D) →
    pos (nat_abs ((n *ℤ d -ℤ u) *ℤ γ *ℤ D)) ≤ℤ (D *ℤ (β *ℤ d)) →
    pos (nat_abs ((q *ℤ (d *ℤ D) -ℤ u) *ℤ (γ *ℤ D *ℤ (pos 1 *ℤ pos 2)))) ≤ℤ ((β *ℤ (pos 1 *ℤ pos 2) +ℤ pos 1 *ℤ (γ *ℤ D)) *ℤ (d *ℤ D))
round_step n u d β γ D q r = simp (between, zi) (simp zo (omega zarith))

pub near_rounded : {n D : ℤ} {f b : Fraction} → pos 0 <ℤ D → Near n f b → Near (quotient n D) (f ⊘ D) (b ⊘ D ⊕ half)
unfolding entire ◌⊕◌ ◌⊘◌ half
near_rounded {n} {D} {f} {b} p h =
    gather (mul_pos h.above p) (mul_pos (mul_pos h.bound p) (record { lt = tt }))
    (round_step n f.numerator f.denominator b.numerator b.denominator D (quotient n D) (remainder n D)
    (ap (λ z. (b.denominator *ℤ f.denominator *ℤ D) *ℤ z) (whole n D))
    (le_mul_abs 2 (b.denominator *ℤ f.denominator *ℤ D) (remainder n D) D (lt_le (mul_pos (mul_pos h.bound h.above) p)) (near n D p))
    (spread (lt_le p) h))

-- adding a whole number, or taking one off, keeps the bound
zero_step : (β γ : ℤ) → ((β *ℤ pos 1 +ℤ pos 0 *ℤ γ) *ℤ γ) ≤ℤ (β *ℤ (γ *ℤ pos 1))
zero_step β γ = simp zi (simp zo (omega zarith))

plus_zero : (b : Fraction) → b ⊕ entire (pos 0) ≼ b
unfolding entire ◌⊕◌
plus_zero b = record { most = zero_step b.numerator b.denominator }

pub near_more : {x : ℤ} {f b : Fraction} (y : ℤ) → Near x f b → Near (x +ℤ y) (f ⊕ entire y) b
near_more {b = b} y h = near_wide h.bound (plus_zero b) (near_plus h (near_self y))

pub near_less : {x : ℤ} {f b : Fraction} (y : ℤ) → Near x f b → Near (x -ℤ y) (f ⊖ entire y) b
near_less {b = b} y h = near_wide h.bound (plus_zero b) (near_minus h (near_self y))

-- a sum over indices, with whole bounds
pub entire_above : (a : ℤ) → pos 0 <ℤ (entire a).denominator
unfolding entire
entire_above a = record { lt = tt }

sum_step : (a b : ℤ) → ((a *ℤ pos 1 +ℤ b *ℤ pos 1) *ℤ pos 1) ≤ℤ ((a +ℤ b) *ℤ (pos 1 *ℤ pos 1))
sum_step a b = simp zi (simp zo (omega zarith))

sum_entire : (a b : ℤ) → entire a ⊕ entire b ≼ entire (a +ℤ b)
unfolding entire ◌⊕◌
sum_entire a b = record { most = sum_step a b }

pub near_sum : (x : ℕ → ℤ) (f : ℕ → Fraction) (b : ℕ → ℤ) (n : ℕ) → ((i : ℕ) → i < n → Near (x i) (f i) (entire (b i))) → Near (sum_to x n) (sum_of f n) (entire (sum_to b n))
unfolding sum_to sum_of
near_sum x f b zero h = near_self (pos 0)
near_sum x f b (suc n) h = near_wide (entire_above (sum_to b n +ℤ b n)) (sum_entire (sum_to b n) (b n)) (near_plus (near_sum x f b n (λ i l. h i (omega arith))) (h n (omega arith)))

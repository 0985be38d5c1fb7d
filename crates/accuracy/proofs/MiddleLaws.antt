-- The middle one of three whole numbers is as near to the middle one of three fractions as each number is to its fraction.
use mathlib.Core.Path.{◌≡◌, refl}
use mathlib.Core.Bool.{Bool, true, false, cond}
use lib.IntN.{ℤ, pos, nat_abs, ◌-ℤ◌, ◌*ℤ◌, *ℤ_comm}
use lib.Signed.{◌≤ℤ◌, ◌<ℤ◌, le_z, ≤ℤ_refl}
use Rattle.integers.proofs.Linear.{zarith}
use Rattle.integers.proofs.Order.{lt_le, le_mul, le_cancel}
use Rattle.integers.proofs.Machine.{le_true, le_false}
use Rattle.integers.proofs.Tactic.{zi, zo}
use Rattle.figures.specs.Lake.{lesser, greater, middle}
use Rattle.accuracy.specs.Fraction.{Fraction, at_most, Near}
use Rattle.accuracy.proofs.FractionLaws.{◌≼◌, mul_pos, between, size_times, spread, gather}

-- a size, with a factor above zero taken out
size_cancel : (a k z : ℤ) → pos 0 <ℤ k → pos (nat_abs (a *ℤ k)) ≤ℤ (k *ℤ z) → pos (nat_abs a) ≤ℤ z
size_cancel a k z p h = le_cancel p (rw (size_times a k (lt_le p), *ℤ_comm (pos (nat_abs a)) k) at h)

-- z between x and y, and h = k / c between g = m / e and f = n / d: then z is as near to h as x is to f and y to g
enclosed_step : (x y z n d m e k c β γ : ℤ) → pos (nat_abs ((x *ℤ d -ℤ n) *ℤ γ *ℤ (c *ℤ e))) ≤ℤ ((c *ℤ e) *ℤ (β *ℤ d)) →
    pos (nat_abs ((y *ℤ e -ℤ m) *ℤ γ *ℤ (c *ℤ d))) ≤ℤ ((c *ℤ d) *ℤ (β *ℤ e)) → ((γ *ℤ c *ℤ (d *ℤ e)) *ℤ x) ≤ℤ ((γ *ℤ c *ℤ (d *ℤ e)) *ℤ z) →
    ((γ *ℤ c *ℤ (d *ℤ e)) *ℤ z) ≤ℤ ((γ *ℤ c *ℤ (d *ℤ e)) *ℤ y) → ((γ *ℤ d) *ℤ (m *ℤ c)) ≤ℤ ((γ *ℤ d) *ℤ (k *ℤ e)) → ((γ *ℤ e) *ℤ (k *ℤ d)) ≤ℤ ((γ *ℤ e) *ℤ (n *ℤ c)) →
    pos (nat_abs ((z *ℤ c -ℤ k) *ℤ γ *ℤ (d *ℤ e))) ≤ℤ ((d *ℤ e) *ℤ (β *ℤ c))
enclosed_step x y z n d m e k c β γ = simp (between, zi) (simp zo (omega zarith))

enclosed : {x y z : ℤ} {f g h b : Fraction} → Near x f b → Near y g b → pos 0 <ℤ h.denominator → x ≤ℤ z → z ≤ℤ y → g ≼ h → h ≼ f → Near z h b
enclosed {x} {y} {z} {f} {g} {h} {b} p q a l u s t =
    let above = mul_pos p.above q.above in
    let whole = lt_le (mul_pos (mul_pos p.bound a) above) in
    gather a p.bound
    (size_cancel ((z *ℤ h.denominator -ℤ h.numerator) *ℤ b.denominator) (f.denominator *ℤ g.denominator) _ above
    (enclosed_step x y z f.numerator f.denominator g.numerator g.denominator h.numerator h.denominator b.numerator b.denominator
    (spread (lt_le (mul_pos a q.above)) p) (spread (lt_le (mul_pos a p.above)) q) (le_mul whole l) (le_mul whole u)
    (le_mul (lt_le (mul_pos p.bound p.above)) s.most) (le_mul (lt_le (mul_pos p.bound q.above)) t.most)))

≼_refl : (f : Fraction) → f ≼ f
≼_refl f = record { most = ≤ℤ_refl (f.numerator *ℤ f.denominator) }

-- where the two whole numbers stand the other way round than the fractions
crossed : {x y : ℤ} {f g b : Fraction} → Near x f b → Near y g b → x ≤ℤ y → g ≼ f → Near x g b × Near y f b
crossed {x} {y} {f} {g} p q l s = (enclosed p q q.above (≤ℤ_refl x) l (≼_refl g) s, enclosed p q p.above l (≤ℤ_refl y) s (≼_refl f))

near_ordered : {x y : ℤ} {f g b : Fraction} → Near x f b → Near y g b → Near (lesser le_z x y) (lesser at_most f g) b × Near (greater le_z x y) (greater at_most f g) b
unfolding at_most
near_ordered {x} {y} {f} {g} {b} p q = by (le_z x y) refl (le_z (f.numerator *ℤ g.denominator) (g.numerator *ℤ f.denominator)) refl
  where
    by : (s : Bool) → le_z x y ≡ s → (t : Bool) → le_z (f.numerator *ℤ g.denominator) (g.numerator *ℤ f.denominator) ≡ t →
        Near (cond s x y) (cond t f g) b × Near (cond s y x) (cond t g f) b
    by true d true e = (p, q)
    by true d false e = crossed p q (le_true x y d) (record { most = lt_le (le_false _ _ e) })
    by false d true e = crossed q p (lt_le (le_false x y d)) (record { most = le_true _ _ e })
    by false d false e = (q, p)

pub near_middle : {x y z : ℤ} {f g h b : Fraction} → Near x f b → Near y g b → Near z h b → Near (middle le_z x y z) (middle at_most f g h) b
near_middle p q r = (near_ordered (near_ordered p q).0 (near_ordered (near_ordered p q).1 r).0).1

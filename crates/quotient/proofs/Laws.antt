-- What callers use of the rounded quotient: `whole`, `near` and `monotone`. They follow from its being a nearest number; none shows which way a half goes.
use mathlib.Core.Path.{◌≡◌}
use mathlib.Core.Logic.{◌⊎◌, inl, inr}
use Prim.Native.Nat.{ℕ, ◌*◌, ◌≤◌}
use lib.IntN.{ℤ, pos, negsuc, neg_ℤ, nat_abs, ◌+ℤ◌, ◌-ℤ◌, ◌*ℤ◌}
use lib.Signed.{◌≤ℤ◌, ◌<ℤ◌, ≤ℤ_refl}
use mir.Syntax.{w64}
use mir.Val.{SFits}
use Rattle.integers.proofs.Parts.{le_of}
use Rattle.integers.proofs.Linear.{zarith, sfits}
use Rattle.integers.proofs.Order.{le_or_lt, lt_le, le_mul, mul_nonneg, ≤_antisym}
use Rattle.integers.proofs.Tactic.{zi, zo, lt_suc}
use Rattle.quotient.specs.Rounded.{quotient, remainder}
use Rattle.quotient.proofs.Nearest.{near_of}
use Rattle.quotient.proofs.Rounded.{quotient_rounded}

pub whole : (n d : ℤ) → n ≡ quotient n d *ℤ d +ℤ remainder n d
unfolding remainder
whole n d = simp zi (simp zo (omega zarith))

-- the remainder is at most half of the divisor
pub near : (n d : ℤ) → pos 0 <ℤ d → pos (2 * nat_abs (remainder n d)) ≤ℤ d
unfolding remainder
near n d h = sized d h (near_of n d (quotient n d) h (quotient_rounded n d h).nearest)
  where
    sized : {k : ℕ} (d : ℤ) → pos 0 <ℤ d → k ≤ nat_abs d → pos k ≤ℤ d
    sized (pos b) h l = le_of _ _ (omega zarith)
    sized (negsuc b) h l = absurd h.lt

clash : (m n d p q r s : ℤ) → m <ℤ n → m ≡ p *ℤ d +ℤ r → n ≡ q *ℤ d +ℤ s → pos (2 * nat_abs r) ≤ℤ d → pos (2 * nat_abs s) ≤ℤ d → (d *ℤ (q +ℤ pos 1)) ≤ℤ (d *ℤ p) → ⊥
clash m n d p q r s = simp zi (simp zo (omega zarith))

pub monotone : (m n d : ℤ) → pos 0 <ℤ d → m ≤ℤ n → quotient m d ≤ℤ quotient n d
monotone m n d h k = go (le_or_lt n m) (le_or_lt (quotient m d) (quotient n d))
  where
    go : (n ≤ℤ m) ⊎ (m <ℤ n) → (quotient m d ≤ℤ quotient n d) ⊎ (quotient n d <ℤ quotient m d) → quotient m d ≤ℤ quotient n d
    go a (inl g) = g
    go (inl g) (inr f) = rw (≤_antisym k g) (≤ℤ_refl (quotient n d))
    go (inr g) (inr f) =
        absurd (clash m n d (quotient m d) (quotient n d) (remainder m d) (remainder n d) g (whole m d) (whole n d) (near m d h) (near n d h)
        (le_mul (lt_le h) (lt_suc (quotient n d) (quotient m d) f)))

-- a bound that zero keeps too is kept by the quotient, so that it fits where the dividend does
too_high : (n d q r k : ℤ) → n ≡ q *ℤ d +ℤ r → pos (2 * nat_abs r) ≤ℤ d → pos 0 <ℤ d → n ≤ℤ k → (d *ℤ (k +ℤ pos 1)) ≤ℤ (d *ℤ q) → pos 0 ≤ℤ ((d -ℤ pos 1) *ℤ k) → ⊥
too_high n d q r k = simp zi (simp zo (omega zarith))

too_low : (n d q r k : ℤ) → n ≡ q *ℤ d +ℤ r → pos (2 * nat_abs r) ≤ℤ d → pos 0 <ℤ d → k ≤ℤ n → (d *ℤ (q +ℤ pos 1)) ≤ℤ (d *ℤ k) → pos 0 ≤ℤ ((d -ℤ pos 1) *ℤ neg_ℤ k) → ⊥
too_low n d q r k = simp zi (simp zo (omega zarith))

less_one : (d : ℤ) → pos 0 <ℤ d → pos 0 ≤ℤ (d -ℤ pos 1)
less_one d = simp zi (simp zo (omega zarith))

module _ (n d k : ℤ) (h : pos 0 <ℤ d) where
  quotient_most : pos 0 ≤ℤ k → n ≤ℤ k → quotient n d ≤ℤ k
  quotient_most z l = go (le_or_lt (quotient n d) k)
    where
      go : (quotient n d ≤ℤ k) ⊎ (k <ℤ quotient n d) → quotient n d ≤ℤ k
      go (inl g) = g
      go (inr g) = absurd (too_high n d (quotient n d) (remainder n d) k (whole n d) (near n d h) h l (le_mul (lt_le h) (lt_suc k _ g)) (mul_nonneg (less_one d h) z))

  quotient_least : pos 0 ≤ℤ neg_ℤ k → k ≤ℤ n → k ≤ℤ quotient n d
  quotient_least z l = go (le_or_lt k (quotient n d))
    where
      go : (k ≤ℤ quotient n d) ⊎ (quotient n d <ℤ k) → k ≤ℤ quotient n d
      go (inl g) = g
      go (inr g) = absurd (too_low n d (quotient n d) (remainder n d) k (whole n d) (near n d h) h l (le_mul (lt_le h) (lt_suc _ k g)) (mul_nonneg (less_one d h) z))

pub quotient_fits : (n d : ℤ) → pos 0 <ℤ d → SFits w64 n → SFits w64 (quotient n d)
quotient_fits n d h f = (sfits (quotient n d)).1 (quotient_least n d _ h (record { le = tt }) ((sfits n).0 f).0, quotient_most n d _ h (record { le = tt }) ((sfits n).0 f).1)

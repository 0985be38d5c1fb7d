-- Exact figures are fractions, judged in whole numbers after multiplying by the denominators.
use Rattle.std.specs.Prelude.{ℕ, zero, suc, ◌≡◌, ℤ, pos, nat_abs, ◌+ℤ◌, ◌-ℤ◌, ◌*ℤ◌, Bool, ◌≤ℤ◌, ◌<ℤ◌}
use Rattle.std.specs.Int.Signed.{le_z}

-- a whole numerator over a whole denominator, which is above zero wherever `Equals` or `Near` speaks of the fraction
pub record Fraction : Type 0 where
  pub numerator : ℤ
  pub denominator : ℤ

-- a whole number as a fraction
unfoldable pub entire : ℤ → Fraction
entire n = record { numerator = n; denominator = pos 1 }

infixl 6 ◌⊕◌ ◌⊖◌
unfoldable pub ◌⊕◌ : Fraction → Fraction → Fraction
f ⊕ g = record { numerator = f.numerator *ℤ g.denominator +ℤ g.numerator *ℤ f.denominator; denominator = f.denominator *ℤ g.denominator }

unfoldable pub ◌⊖◌ : Fraction → Fraction → Fraction
f ⊖ g = record { numerator = f.numerator *ℤ g.denominator -ℤ g.numerator *ℤ f.denominator; denominator = f.denominator *ℤ g.denominator }

-- a fraction times, and divided by, a whole number
infixl 7 ◌⊗◌ ◌⊘◌
unfoldable pub ◌⊗◌ : Fraction → ℤ → Fraction
f ⊗ k = record { numerator = f.numerator *ℤ k; denominator = f.denominator }

unfoldable pub ◌⊘◌ : Fraction → ℤ → Fraction
f ⊘ k = record { numerator = f.numerator; denominator = f.denominator *ℤ k }

unfoldable pub half : Fraction
half = entire (pos 1) ⊘ pos 2

-- f 0 + f 1 + .. + f (n - 1)
unfoldable pub sum_of : (ℕ → Fraction) → ℕ → Fraction
sum_of f zero = entire (pos 0)
sum_of f (suc n) = sum_of f n ⊕ f n

-- whether f is at most g; both denominators are above zero
unfoldable pub at_most : Fraction → Fraction → Bool
at_most f g = le_z (f.numerator *ℤ g.denominator) (g.numerator *ℤ f.denominator)

-- the whole number x is f
pub record Equals (x : ℤ) (f : Fraction) : Type 0 where
  pub above : pos 0 <ℤ f.denominator
  pub same : x *ℤ f.denominator ≡ f.numerator

-- the whole number x and f are at most b apart
pub record Near (x : ℤ) (f b : Fraction) : Type 0 where
  pub above : pos 0 <ℤ f.denominator
  pub bound : pos 0 <ℤ b.denominator
  pub apart : (pos (nat_abs (x *ℤ f.denominator -ℤ f.numerator)) *ℤ b.denominator) ≤ℤ (b.numerator *ℤ f.denominator)

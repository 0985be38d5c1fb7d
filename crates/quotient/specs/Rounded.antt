-- Document 01, 'Units', with request 2 of document 02: the rounded quotient of n by d, with d above zero, is the whole number nearest to n / d, halves to even; its remainder is n − quotient × d.
use Rattle.std.specs.Prelude.{ℕ, suc, ◌+◌, ◌-◌, ◌/◌, ◌%◌, ◌≤◌, ◌≡◌, Bool, cond, ◌⊎◌, eqb, ltb, ℤ, pos, negsuc, neg_ℤ, nat_abs, ◌+ℤ◌, ◌-ℤ◌, ◌*ℤ◌}

-- how far q is from n / d, times d
abbrev pub distance : ℤ → ℤ → ℤ → ℕ
distance n d q = nat_abs (n -ℤ q *ℤ d)

pub record Even (q : ℤ) : Type 0 where
  pub half : ℤ
  pub twice : q ≡ half +ℤ half

-- q is the rounded quotient of n by d
pub record IsRounded (n d q : ℤ) : Type 0 where
  -- the nearest: no whole number is nearer to n / d
  pub nearest : (k : ℤ) → distance n d q ≤ distance n d k
  -- halves to even: where another is equally near, q is the even one
  pub halves : (k : ℤ) → distance n d k ≡ distance n d q → (k ≡ q) ⊎ Even q

-- That number, worked out. With d above zero `IsRounded n d` holds of it and of no other (`quotient_is` in proofs/Rounded).
-- Of m and m + 1, whether it is m + 1: the divisor goes m times and leaves `size`, which lacks `rest` of it. The nearer one is taken, and at a half the even one.
unfoldable pub goes_away : ℕ → ℕ → ℕ → Bool
goes_away m size rest = cond (eqb rest size) (eqb (m % 2) 1) (ltb rest size)

-- its size, from the sizes of n and d: their quotient cut off, or one further from zero
unfoldable pub size_of : ℕ → ℕ → ℕ
unfolding goes_away
size_of a b = cond (goes_away (a / b) (a % b) (b - a % b)) (a / b + 1) (a / b)

-- with the sign of n
unfoldable pub quotient : ℤ → ℤ → ℤ
unfolding size_of
quotient (pos n) d = pos (size_of n (nat_abs d))
quotient (negsuc n) d = neg_ℤ (pos (size_of (suc n) (nat_abs d)))

unfoldable pub remainder : ℤ → ℤ → ℤ
remainder n d = n -ℤ quotient n d *ℤ d

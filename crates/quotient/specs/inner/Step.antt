-- The rounded quotient from the division toward zero, as the code works it out.
use Rattle.std.specs.Prelude.{◌-◌, cond, ℤ, pos, negsuc, nat_abs}
use Rattle.quotient.specs.Rounded.{goes_away}

-- one step away from zero, on the side of r
unfoldable pub away : ℤ → ℤ
away (pos n) = pos 1
away (negsuc n) = negsuc 0

-- what is added to the quotient q toward zero, which leaves the remainder r
unfoldable pub step : ℤ → ℤ → ℤ → ℤ
step q r d = cond (goes_away (nat_abs q) (nat_abs r) (nat_abs d - nat_abs r)) (away r) (pos 0)

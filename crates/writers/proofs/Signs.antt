-- Laws of the decimal text of an i64.
use mathlib.Core.Path.{◌≡◌, refl}
use mathlib.Core.List.{◌++◌}
use Prim.Native.Nat.{ℕ}
use lib.IntN.{ℤ, pos, negsuc, nat_abs}
use Rattle.writers.specs.Text.{ascii, natural, decimal}

pub decimal_negative : (z : ℤ) (n m : ℕ) → z ≡ negsuc n → m ≡ nat_abs z → decimal z ≡ ascii "-" ++ natural m
unfolding decimal
decimal_negative z n m e f = rw (f, e) refl

pub decimal_natural : (z : ℤ) (n m : ℕ) → z ≡ pos n → m ≡ nat_abs z → decimal z ≡ natural m
unfolding decimal
decimal_natural z n m e f = rw (f, e) refl

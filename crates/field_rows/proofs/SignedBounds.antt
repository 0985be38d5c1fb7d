-- A signed number is outside ± a bound where it lies below the one end or above the other.
use Prim.Native.Nat.{ℕ, zero, suc}
use mathlib.Core.Path.{◌≡◌, refl, sym, ◌∙◌}
use mathlib.Core.Bool.{◌||◌, or-false}
use native.Mathlib.Omega.{arith}
use lib.Dec.{ltb, leb-suc-suc}
use lib.IntN.{ℤ, pos, negsuc, neg_ℤ, nat_abs, ◌-ℤ◌, +ℤ_idl}
use lib.Signed.{lt_z}
use borrow.Author.Tests.{lt-ltb, le-ltb}

below_or_above : (most : ℕ) (z : ℤ) → (lt_z z (neg_ℤ (pos most)) || lt_z (pos most) z) ≡ ltb most (nat_abs z)
below_or_above zero (pos n) = rw (le-ltb n 0 (omega arith))
below_or_above (suc most) (pos n) = refl
below_or_above zero (negsuc n) = rw (lt-ltb 0 (suc n) (omega arith))
below_or_above (suc most) (negsuc n) = or-false (ltb most n) ∙ sym (leb-suc-suc (suc most) n)

pub beyond_is : (most : ℕ) (z : ℤ) → (lt_z z (pos 0 -ℤ pos most) || lt_z (pos most) z) ≡ ltb most (nat_abs z)
beyond_is most z = rw +ℤ_idl (below_or_above most z)

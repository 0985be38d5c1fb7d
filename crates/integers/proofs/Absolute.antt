-- Absolute values of sums, differences and products, and bounds on them.
use mathlib.Core.Path.{◌≡◌, refl}
use Prim.Native.Nat.{ℕ, ◌+◌, ◌*◌, ◌≤◌}
use native.Mathlib.Omega.{arith}
use lib.IntN.{ℤ, pos, negsuc, neg_ℤ, nat_abs, ◌+ℤ◌, ◌-ℤ◌, ◌*ℤ◌}
use lib.Signed.{◌≤ℤ◌}
use Rattle.std.proofs.lemmas.Int.{unsigned_abs-mul}
use Rattle.integers.proofs.Parts.{up, dn, up_neg, dn_neg, add_law, le_of, le_to}

abs_is : (x : ℤ) → nat_abs x ≡ up x + dn x
abs_is (pos n) = omega arith
abs_is (negsuc n) = omega arith

-- a bound on an absolute value, as two of the order
pub within : {x : ℤ} {k : ℕ} → nat_abs x ≤ k → (neg_ℤ (pos k) ≤ℤ x) × (x ≤ℤ pos k)
within {x} {k} h = (le_of _ _ (simp (up_neg, dn_neg) (omega (arith, abs_is x))), le_of _ _ (omega (arith, abs_is x)))

pub abs_within : {x : ℤ} {k : ℕ} → neg_ℤ (pos k) ≤ℤ x → x ≤ℤ pos k → nat_abs x ≤ k
abs_within {x} {k} h g = go x (simp (up_neg, dn_neg) at (le_to h)) (le_to g)
  where
    go : (x : ℤ) → dn (pos k) + dn x ≤ up x + up (pos k) → up x + dn (pos k) ≤ up (pos k) + dn x → nat_abs x ≤ k
    go (pos n) h g = omega arith
    go (negsuc n) h g = omega arith

pub abs_mul : (x y : ℤ) → nat_abs (x *ℤ y) ≡ nat_abs x * nat_abs y
abs_mul x y = unsigned_abs-mul x y

pub abs_add : (x y : ℤ) → nat_abs (x +ℤ y) ≤ nat_abs x + nat_abs y
abs_add x y = go (x +ℤ y) (add_law x y)
  where
    go : (z : ℤ) → up z + (dn x + dn y) ≡ dn z + (up x + up y) → nat_abs z ≤ nat_abs x + nat_abs y
    go (pos n) h = omega (arith, abs_is x, abs_is y)
    go (negsuc n) h = omega (arith, abs_is x, abs_is y)

pub abs_neg : (x : ℤ) → nat_abs (neg_ℤ x) ≡ nat_abs x
abs_neg x = omega (arith, abs_is x, abs_is (neg_ℤ x), up_neg x, dn_neg x)

pub abs_sub : (x y : ℤ) → nat_abs (x -ℤ y) ≤ nat_abs x + nat_abs y
abs_sub x y = omega (arith, abs_add x (neg_ℤ y), abs_neg y)

-- a number that is not negative is its absolute value
pub abs_pos : {x : ℤ} → pos 0 ≤ℤ x → x ≡ pos (nat_abs x)
abs_pos {x = pos n} h = refl
abs_pos {x = negsuc n} h = absurd h.le

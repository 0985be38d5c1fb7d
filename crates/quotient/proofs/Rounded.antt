-- The rounded quotient by its sentence: what is defined is the whole number nearest to n / d, with the tie rule's choice at a half, and there is no other.
use mathlib.Core.Path.{◌≡◌}
use mathlib.Core.Logic.{◌↔◌}
use Prim.Native.Nat.{suc, ◌*◌, ◌≤◌}
use native.Mathlib.Nat.{le_antisymm}
use lib.IntN.{ℤ, pos, negsuc, nat_abs}
use lib.Signed.{◌<ℤ◌}
use Rattle.integers.proofs.Linear.{zarith}
use Rattle.quotient.specs.Rounded.{distance, IsRounded, size_of, quotient}
use Rattle.quotient.proofs.Nearest.{distance_neg, nearest_of}
use Rattle.quotient.proofs.Halves.{half_size, quotient_halves, halves_one}

-- at most half of the divisor away
quotient_half : (n d : ℤ) → pos 0 <ℤ d → 2 * distance n d (quotient n d) ≤ nat_abs d
unfolding quotient
quotient_half n (negsuc b) h = absurd h.lt
quotient_half (pos a) (pos b) h = half_size a b (omega zarith)
quotient_half (negsuc a) (pos b) h = rw (distance_neg (pos (suc a)) (pos b) (pos (size_of (suc a) b))) (half_size (suc a) b (omega zarith))

pub quotient_rounded : (n d : ℤ) → pos 0 <ℤ d → IsRounded n d (quotient n d)
quotient_rounded n d h = record {
  nearest = λ k. nearest_of n d (quotient n d) k (quotient_half n d h);
  halves = λ k. quotient_halves n d k h;
}

-- two such numbers are equally near
pub rounded_unique : (n d q p : ℤ) → pos 0 <ℤ d → IsRounded n d q → IsRounded n d p → q ≡ p
rounded_unique n d q p h r s = halves_one n d q p h r s (le_antisymm (r.nearest p) (s.nearest q))

-- The sentence, whole
pub quotient_is : (n d q : ℤ) → pos 0 <ℤ d → (q ≡ quotient n d) ↔ IsRounded n d q
quotient_is n d q h = (λ e. rw e (quotient_rounded n d h), λ r. rounded_unique n d q (quotient n d) h r (quotient_rounded n d h))

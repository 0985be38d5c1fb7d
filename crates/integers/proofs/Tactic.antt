-- Linear arithmetic over the integers, with a product of unknowns as an unknown of its own: `simp zi (simp zo (omega zarith))`.
-- The hypotheses stand in the goal, as arrows: bind the numbers alone. A hypothesis times a factor is a hypothesis of its own (`le_mul`, `le_mul_abs`, `ap`).
use mathlib.Core.Logic.{◌↔◌}
use Prim.Native.Nat.{ℕ, ◌*◌, ◌≤◌}
use lib.IntN.{ℤ, pos, neg_ℤ, nat_abs, ◌+ℤ◌, ◌*ℤ◌}
use lib.Signed.{◌≤ℤ◌, ◌<ℤ◌}
use Rattle.integers.proofs.Linear.{zin, zout, zarith}
use Rattle.integers.proofs.Order.{abs_le, le_mul}
use Rattle.integers.proofs.Absolute.{within, abs_within}

pub abs_nat : (x : ℤ) (k : ℕ) → nat_abs x ≤ k ↔ ((neg_ℤ (pos k) ≤ℤ x) × (x ≤ℤ pos k))
abs_nat x k = (within, (λ h. abs_within h.0 h.1))

pub ruleset zi = (abs_nat, abs_le, zin)

pub ruleset zo = zout

pub lt_suc : (x y : ℤ) → x <ℤ y → (x +ℤ pos 1) ≤ℤ y
lt_suc x y = simp zi (simp zo (omega zarith))

mul_abs_l : (j : ℕ) (k r d : ℤ) → (k *ℤ neg_ℤ d) ≤ℤ (k *ℤ (pos j *ℤ r)) → neg_ℤ (k *ℤ d) ≤ℤ (pos j *ℤ (k *ℤ r))
mul_abs_l j k r d = simp zi (simp zo (omega zarith))

mul_abs_r : (j : ℕ) (k r d : ℤ) → (k *ℤ (pos j *ℤ r)) ≤ℤ (k *ℤ d) → (pos j *ℤ (k *ℤ r)) ≤ℤ (k *ℤ d)
mul_abs_r j k r d = simp zi (simp zo (omega zarith))

-- a bound on an absolute value, times a factor that is not negative
pub le_mul_abs : (j : ℕ) (k r d : ℤ) → pos 0 ≤ℤ k → pos (j * nat_abs r) ≤ℤ d → pos (j * nat_abs (k *ℤ r)) ≤ℤ (k *ℤ d)
le_mul_abs j k r d h g = (abs_le j (k *ℤ r) (k *ℤ d)).1 (mul_abs_l j k r d (le_mul h ((abs_le j r d).0 g).0), mul_abs_r j k r d (le_mul h ((abs_le j r d).0 g).1))

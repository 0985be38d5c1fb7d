-- The rounded quotient from the division toward zero: one step further from zero where the tie rule says so.
use mathlib.Core.Path.{◌≡◌, refl, ap}
use Rattle.std.specs.Int.{int_signum}
use mathlib.Core.Bool.{Bool, true, false, cond}
use Prim.Native.Nat.{ℕ, zero, suc, ◌+◌, ◌-◌, ◌/◌, ◌%◌, ◌<◌, ◌≤◌}
use native.Mathlib.Omega.{arith}
use lib.IntN.{ℤ, pos, negsuc, neg_ℤ, nat_abs, +ℤ_idr, ◌+ℤ◌, ◌-ℤ◌, ◌*ℤ◌}
use lib.Signed.{◌<ℤ◌, quot_z, rem_z}
use Rattle.integers.proofs.Linear.{zarith}
use Rattle.integers.proofs.Tactic.{zi, zo}
use Rattle.integers.proofs.Absolute.{abs_neg}
use Rattle.integers.proofs.Division.{quot_rem}
use Rattle.quotient.specs.Rounded.{goes_away, size_of, quotient, remainder}
use Rattle.quotient.specs.inner.Step.{away, step}
use Rattle.quotient.proofs.Halves.{tie_away}

-- by what the tie rule answers, on either side of zero
step_up : (m : ℕ) (w : Bool) → pos m +ℤ cond w (pos 1) (pos 0) ≡ pos (cond w (m + 1) m)
step_up m true = refl
step_up m false = +ℤ_idr (pos m)

step_down : (b m r : ℕ) (w : Bool) → 0 < b → goes_away m r (b - r) ≡ w → neg_ℤ (pos m) +ℤ cond w (away (neg_ℤ (pos r))) (pos 0) ≡ neg_ℤ (pos (cond w (m + 1) m))
unfolding away
step_down b m r false h e = +ℤ_idr _
step_down b m zero true h e = absurd (omega (arith, tie_away _ _ _ e))
step_down b m (suc r) true h e = simp zi (simp zo (omega zarith))

pub step_quotient : (n d : ℤ) → pos 0 <ℤ d → quot_z n d +ℤ step (quot_z n d) (rem_z n d) d ≡ quotient n d
unfolding quotient size_of step away
step_quotient n (negsuc b) h = absurd h.lt
step_quotient (pos a) (pos b) h = step_up (a / b) (goes_away (a / b) (a % b) (b - a % b))
step_quotient (negsuc a) (pos b) h = rw (abs_neg (pos (suc a / b)), abs_neg (pos (suc a % b))) (step_down b (suc a / b) (suc a % b) _ (omega zarith) refl)

-- the remainder, from that of the division toward zero
shift : (n d q r k : ℤ) → q *ℤ d +ℤ r ≡ n → n -ℤ (q +ℤ k) *ℤ d ≡ r -ℤ k *ℤ d
shift n d q r k = simp zi (simp zo (omega zarith))

pub step_remainder : (n d : ℤ) → pos 0 <ℤ d → remainder n d ≡ rem_z n d -ℤ step (quot_z n d) (rem_z n d) d *ℤ d
unfolding remainder
step_remainder n d h = rw (← step_quotient n d h) (shift n d (quot_z n d) (rem_z n d) (step (quot_z n d) (rem_z n d) d) (quot_rem n d h))

pub step_small : (q r d : ℤ) → nat_abs (step q r d) ≤ 1
unfolding step away
step_small q r d = go r (goes_away (nat_abs q) (nat_abs r) (nat_abs d - nat_abs r))
  where
    go : (r : ℤ) (w : Bool) → nat_abs (cond w (away r) (pos 0)) ≤ 1
    go r false = omega arith
    go (pos a) true = omega arith
    go (negsuc a) true = omega arith

-- the step as the code takes it: a remainder of zero never goes on
pub signum_steps : (q r d : ℤ) → nat_abs r < nat_abs d → goes_away (nat_abs q) (nat_abs r) (nat_abs d - nat_abs r) ≡ true → int_signum r ≡ step q r d
unfolding step away
signum_steps q (pos zero) d h e = absurd (omega (arith, tie_away _ _ _ e))
signum_steps q (pos (suc n)) d h e = rw e (ap pos (omega arith))
signum_steps q (negsuc n) d h e = rw e

pub stays : (q r d : ℤ) → goes_away (nat_abs q) (nat_abs r) (nat_abs d - nat_abs r) ≡ false → pos 0 ≡ step q r d
unfolding step
stays q r d e = rw e

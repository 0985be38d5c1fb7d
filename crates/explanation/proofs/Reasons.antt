-- The reason gives the price.
use mathlib.Core.Path.{◌≡◌, refl}
use mathlib.Core.Bool.{Bool, true, false, cond}
use lib.IntN.{ℤ, pos, ◌-ℤ◌}
use lib.Signed.{◌≤ℤ◌, ◌<ℤ◌, lt_z}
use Rattle.integers.proofs.Linear.{zarith}
use Rattle.integers.proofs.Tactic.{zi, zo}
use Rattle.integers.proofs.Machine.{lt_true, lt_false}
use Rattle.records.specs.declared.Head.{Head}
use Rattle.figures.specs.Payment.{price}
use Rattle.figures.proofs.Payments.{price_above, price_below, price_zero}
use Rattle.explanation.specs.Explanation.{Above, Below, At}
use Rattle.explanation.specs.Explanation.{side_of}
use Rattle.explanation.specs.Promise.{price_for}

above_zero : (x y : ℤ) → y <ℤ x → pos 0 <ℤ (x -ℤ y)
above_zero x y = simp zi (simp zo (omega zarith))

below_zero : (x y : ℤ) → x <ℤ y → (x -ℤ y) <ℤ pos 0
below_zero x y = simp zi (simp zo (omega zarith))

at_zero : (x y : ℤ) → x ≤ℤ y → y ≤ℤ x → x -ℤ y ≡ pos 0
at_zero x y = simp zi (simp zo (omega zarith))

pub side_prices : (h : Head) (flow watts : ℤ) → price h (flow -ℤ watts) ≡ price_for h (side_of flow watts)
unfolding side_of
side_prices h flow watts = go (lt_z watts flow) (lt_z flow watts) refl refl
  where
    go : (a b : Bool) → lt_z watts flow ≡ a → lt_z flow watts ≡ b → price h (flow -ℤ watts) ≡ price_for h (cond a Above (cond b Below At))
    go true b p q = price_above h (flow -ℤ watts) (above_zero flow watts (lt_true _ _ p))
    go false true p q = price_below h (flow -ℤ watts) (below_zero flow watts (lt_true _ _ q))
    go false false p q = rw (at_zero flow watts (lt_false _ _ p) (lt_false _ _ q)) (price_zero h)

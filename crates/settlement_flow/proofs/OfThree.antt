-- The middle one of three, by the machine's lesser and greater of two.
use mathlib.Core.Path.{◌≡◌, refl}
use mathlib.Core.Bool.{Bool, true, false, cond}
use lib.IntN.{ℤ}
use lib.Signed.{◌≤ℤ◌, ◌<ℤ◌, le_z, lt_z}
use Rattle.std.specs.Int.{int_min, int_max}
use Rattle.integers.proofs.Linear.{zarith}
use Rattle.integers.proofs.Order.{≤_antisym, lt_le}
use Rattle.integers.proofs.Machine.{lt_true, lt_false, le_true, le_false}
use Rattle.figures.specs.Lake.{lesser, greater, middle}

never : {x y : ℤ} {A : Type 0} → x ≤ℤ y → y <ℤ x → A
never {x} {y} h k = let f : ⊥ = omega zarith in absurd f

lesser_is : (x y : ℤ) → int_min x y ≡ lesser le_z x y
lesser_is x y = by (le_z x y) (lt_z y x) refl refl
  where
    by : (a b : Bool) → le_z x y ≡ a → lt_z y x ≡ b → cond b y x ≡ cond a x y
    by true true e f = never (le_true x y e) (lt_true y x f)
    by true false e f = refl
    by false true e f = refl
    by false false e f = never (lt_false y x f) (le_false x y e)

greater_is : (x y : ℤ) → int_max x y ≡ greater le_z x y
greater_is x y = by (le_z x y) (lt_z y x) refl refl
  where
    by : (a b : Bool) → le_z x y ≡ a → lt_z y x ≡ b → cond b x y ≡ cond a y x
    by true true e f = never (le_true x y e) (lt_true y x f)
    by true false e f = refl
    by false true e f = refl
    by false false e f = never (lt_false y x f) (le_false x y e)

-- either of two that are equal
lesser_turned : (x y : ℤ) → int_min y x ≡ lesser le_z x y
lesser_turned x y = by (le_z x y) (lt_z x y) refl refl
  where
    by : (a b : Bool) → le_z x y ≡ a → lt_z x y ≡ b → cond b x y ≡ cond a x y
    by true true e f = refl
    by true false e f = ≤_antisym (lt_false x y f) (le_true x y e)
    by false true e f = never (lt_le (lt_true x y f)) (le_false x y e)
    by false false e f = refl

pub middle_is : (x y z : ℤ) → int_max (int_min x y) (int_min z (int_max x y)) ≡ middle le_z x y z
middle_is x y z = rw (greater_is (int_min x y) (int_min z (int_max x y)), lesser_turned (int_max x y) z, lesser_is x y, greater_is x y)

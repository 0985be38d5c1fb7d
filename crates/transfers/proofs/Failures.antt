-- A law of a call that failed, by errno.
use mathlib.Core.Path.{◌≡◌, refl}
use mathlib.Core.Bool.{false, cond}
use Prim.Native.Nat.{ℕ}
use native.Mathlib.Omega.{arith}
use lib.Dec.{eqb}
use lib.IntN.{ℤ, pos, negsuc, nat_abs}
use lib.Signed.{lt_z}
use Rattle.transfers.specs.declared.CallError.TheVariants.{Interrupted, Failed}
use Rattle.transfers.specs.inner.Steps.{failed}

pub failed_number : (errno : ℤ) → lt_z errno (pos 0) ≡ false → failed errno ≡ cond (eqb (nat_abs errno) 4) Interrupted (Failed (record { number = nat_abs errno }))
failed_number (pos n) t = refl
failed_number (negsuc n) t = absurd (let z : ◌≡◌ {A = ℕ} 0 1 = cc in omega arith)

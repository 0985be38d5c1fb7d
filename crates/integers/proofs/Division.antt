-- Division toward zero by a positive number: quotient and remainder, and what they fit.
use mathlib.Core.Path.{◌≡◌}
use Prim.Native.Nat.{◌<◌}
use lib.IntN.{ℤ, pos, negsuc, nat_abs, ◌+ℤ◌, ◌*ℤ◌}
use lib.Signed.{◌<ℤ◌, quot_z, rem_z, mag_rem}
use mir.Syntax.{w64}
use mir.Val.{SFits}
use mir.ValLaws.{sfits_le}
use native.Mathlib.Omega.{arith}
use Rattle.std.proofs.lemmas.Int.{quot-rem, rem_below, quot_fits}
use Rattle.integers.proofs.Linear.{zarith}

pub quot_rem : (n d : ℤ) → pos 0 <ℤ d → quot_z n d *ℤ d +ℤ rem_z n d ≡ n
quot_rem n d h = quot-rem n d

pub abs_rem : (n d : ℤ) → pos 0 <ℤ d → nat_abs (rem_z n d) < nat_abs d
abs_rem n (pos b) h = rem_below n (pos b) (omega zarith)
abs_rem n (negsuc b) h = absurd h.lt

-- a quotient by a positive number and a remainder fit where the dividend does
pub fit_quot : {n d : ℤ} → SFits w64 n → pos 0 <ℤ d → SFits w64 (quot_z n d)
fit_quot {n} {d} f h = quot_fits w64 n d f h

pub fit_rem : {n : ℤ} (d : ℤ) → SFits w64 n → SFits w64 (rem_z n d)
fit_rem {n} d f = sfits_le (mag_rem n d) f

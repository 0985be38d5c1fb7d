-- Each cell of an array of i64 fits an i64.
use Prim.Native.Nat.{ℕ, zero, suc}
use native.Mathlib.Omega.{arith}
use mathlib.Core.List.{List, [], ◌∷◌}
use denote.Array.{each}
use denote.Shadow.{shadow}
use denote.Signed.{SInt}
use lib.IntN.{ℤ, pos}
use lib.ListN.{get_or}
use mir.Syntax.{w64}
use mir.Val.{Val, SFits}

pub cell_fits : (xs : List ℤ) (us : List Val) (i : ℕ) → shadow (each ℤ (SInt w64).own_val xs us) → SFits w64 (get_or xs i (pos 0))
cell_fits [] us i p = record { sfits = omega arith }
cell_fits (x ∷ xs) [] i p = absurd p
cell_fits (x ∷ xs) (u ∷ us) zero p = record { sfits = p.0.1 }
cell_fits (x ∷ xs) (u ∷ us) (suc i) p = cell_fits xs us i p.1

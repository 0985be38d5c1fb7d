-- What rows that are not met leave.
use Prim.Native.Nat.{ℕ, suc, ◌≤◌}
use mathlib.Core.Path.{◌≡◌, refl, sym}
use mathlib.Core.Bool.{Bool, true, false, ◌&&◌, ◌||◌, true≢false}
use native.Mathlib.Nat.{suc-ne-zero}
use lib.Dec.{ltb}
use borrow.Author.Tests.{ltb-false}
use Rattle.rows.specs.Rows.{row, outside}

-- neither of two conditions
pub neither : (a b : Bool) → (a || b) ≡ false → (a ≡ false) × (b ≡ false)
neither true b e = absurd (true≢false e)
neither false b e = (refl, e)

-- both of two conditions
pub both : (a b : Bool) → (a && b) ≡ true → (a ≡ true) × (b ≡ true)
both true b e = (refl, e)
both false b e = absurd (true≢false (sym e))

-- no row from this one on
pub row_pass : (n : ℕ) (met : Bool) (below : ℕ) → row (suc n) met below ≡ 0 → (met ≡ false) × (below ≡ 0)
row_pass n true below e = absurd (suc-ne-zero n e)
row_pass n false below e = (refl, e)

-- what holds of a row's number and of what the rows below it say holds of the first that fits
pub row_either : (P : ℕ → Type 0) (n : ℕ) (met : Bool) (below : ℕ) → P n → P below → P (row n met below)
row_either P n true below p q = p
row_either P n false below p q = q

-- within low..high
pub within : (low n high : ℕ) → outside low n high ≡ false → (low ≤ n) × (n ≤ high)
within low n high e =
    let x = neither (ltb n low) (ltb high n) e in
    (ltb-false _ _ x.0, ltb-false _ _ x.1)

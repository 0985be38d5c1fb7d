-- By cases on two numbers: below or not, equal or not.
use Prim.Native.Nat.{ℕ, ◌≤◌, ◌<◌}
use mathlib.Core.Path.{◌≡◌, refl}
use mathlib.Core.Bool.{Bool, true, false}
use borrow.Author.Tests.{ltb-true, ltb-false, eqb-true, eqb-false}
use lib.Dec.{ltb, eqb}

by_order : {P : Type 0} (b : Bool) (i n : ℕ) → ltb i n ≡ b → (i < n → P) → (n ≤ i → P) → P
by_order true i n e p q = p (ltb-true _ _ e)
by_order false i n e p q = q (ltb-false _ _ e)

by_equal : {P : Type 0} (b : Bool) (m n : ℕ) → eqb m n ≡ b → (m ≡ n → P) → ((m ≡ n → ⊥) → P) → P
by_equal true m n e p q = p (eqb-true _ _ e)
by_equal false m n e p q = q (eqb-false _ _ e)

pub below_or : {P : Type 0} (i n : ℕ) → (i < n → P) → (n ≤ i → P) → P
below_or i n p q = by_order (ltb i n) i n refl p q

pub equal_or : {P : Type 0} (m n : ℕ) → (m ≡ n → P) → ((m ≡ n → ⊥) → P) → P
equal_or m n p q = by_equal (eqb m n) m n refl p q

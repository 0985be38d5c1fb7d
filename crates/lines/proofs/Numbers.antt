-- A number that is passed on to a line's writer is read back from its bits.
use mathlib.Core.Path.{◌≡◌, refl, subst}
use mathlib.Core.List.{List}
use Prim.Native.Nat.{ℕ}
use lib.IntN.{ℤ}
use mir.Syntax.{w64}
use mir.ValLaws.{to_z-of_z}
use mir.Val.{to_z, of_z, SFits}
use Rattle.writers.specs.inner.Prepended.{Prepended}
use Rattle.printout.specs.Lines.{gtl_line}

-- the numbers of a line or of several lines
module _ {a b c : ℤ} (ha : SFits w64 a) (hb : SFits w64 b) (hc : SFits w64 c) where
  pub three_read_back : (f : ℤ → ℤ → ℤ → List ℕ) → f (to_z w64 (of_z w64 a)) (to_z w64 (of_z w64 b)) (to_z w64 (of_z w64 c)) ≡ f a b c
  three_read_back f = rw (to_z-of_z w64 a ha, to_z-of_z w64 b hb, to_z-of_z w64 c hc) refl

  pub gtl_read_back : gtl_line (to_z w64 (of_z w64 a)) (to_z w64 (of_z w64 b)) (to_z w64 (of_z w64 c)) ≡ gtl_line a b c
  gtl_read_back = three_read_back gtl_line

module _ {a b c : ℤ} {xs ys : List ℕ} {m n : ℕ} (ha : SFits w64 a) (hb : SFits w64 b) (hc : SFits w64 c) where
  pub three_as_is : (f : ℤ → ℤ → ℤ → List ℕ) → Prepended (f (to_z w64 (of_z w64 a)) (to_z w64 (of_z w64 b)) (to_z w64 (of_z w64 c))) xs m ys n → Prepended (f a b c) xs m ys n
  three_as_is f w = subst (λ (bytes : List ℕ). Prepended bytes xs m ys n) (three_read_back ha hb hc f) w

  pub gtl_as_is : Prepended (gtl_line (to_z w64 (of_z w64 a)) (to_z w64 (of_z w64 b)) (to_z w64 (of_z w64 c))) xs m ys n → Prepended (gtl_line a b c) xs m ys n
  gtl_as_is w = three_as_is gtl_line w

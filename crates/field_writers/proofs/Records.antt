-- A record is written field by field.
use Prim.Native.Nat.{ℕ, ◌+◌, ◌-◌}
use mathlib.Core.Path.{ap}
use mathlib.Core.List.{List, [], ◌∷◌, ◌++◌}
use lib.IntN.{ℤ}
use lib.ListN.{length, take, drop}
use mir.Syntax.{w16, w32}
use mir.Val.{to_z, of_z, SFits}
use mir.Facts.{to_z-of_z}
use Rattle.writers.specs.inner.Wrote.{Wrote}
use Rattle.writers.proofs.Writing.{next, renamed}
use Rattle.field_writers.specs.FieldBytes.{signed16, signed32}

module _ {kind : ℕ} {q xs ys zs : List ℕ} {n m : ℕ} where
  -- behind the kind byte, the first field
  pub first : Wrote (kind ∷ []) xs ys n → Wrote q (take (length ys - n) (drop n ys)) zs m
      → Wrote (kind ∷ q) xs (take n ys ++ (zs ++ drop (length ys - n) (drop n ys))) (n + m)
  first f g = next f g

  -- behind some fields, one more
  pub field : {p : List ℕ} → Wrote (kind ∷ p) xs ys n → Wrote q (take (length ys - n) (drop n ys)) zs m
      → Wrote (kind ∷ (p ++ q)) xs (take n ys ++ (zs ++ drop (length ys - n) (drop n ys))) (n + m)
  field f g = next f g

-- a signed number that is passed to a writer is read back from its bits
module _ {z : ℤ} {xs ys : List ℕ} {n : ℕ} where
  pub signed16_as_is : SFits w16 z → Wrote (signed16 (to_z w16 (of_z w16 z))) xs ys n → Wrote (signed16 z) xs ys n
  signed16_as_is h w = renamed (ap signed16 (to_z-of_z h)) w

  pub signed32_as_is : SFits w32 z → Wrote (signed32 (to_z w32 (of_z w32 z))) xs ys n → Wrote (signed32 z) xs ys n
  signed32_as_is h w = renamed (ap signed32 (to_z-of_z h)) w

-- A section grows by a record.
use Prim.Native.Nat.{ℕ, ◌+◌, ◌*◌, ◌-◌, ◌<◌}
use mathlib.Core.Path.{◌≡◌, sym}
use mathlib.Core.List.{List, [], ◌∷◌, ◌++◌}
use native.Mathlib.Omega.{arith}
use lib.ListN.{length, take, drop, get_or}
use Rattle.writers.specs.inner.Wrote.{Wrote}
use Rattle.writers.proofs.Writing.{none, next, renamed}
use Rattle.sheet_bytes.specs.SheetBytes.{all}
use Rattle.sheet_bytes.specs.inner.Returns.{Each}
use Rattle.sheet_bytes.proofs.Sections.{taken, each_more, all_more}

-- the first i of some records were written, each in `size` bytes, and P holds of each
pub record Section {A : Type 0} (size kind : ℕ) (body : A → List ℕ) (P : A → Type 0) (l : List A) (before after : List ℕ) (at i : ℕ) : Type 0 where
  pub place : at ≡ size * i
  pub wrote : Wrote (all kind body (take i l)) before after at
  pub each : Each P (take i l)

module _ {A : Type 0} {size kind : ℕ} {body : A → List ℕ} {P : A → Type 0} {l : List A} {xs : List ℕ} where
  pub begun : Section size kind body P l xs xs 0 0
  unfolding all
  begun = record { place = omega arith; wrote = none; each = tt }

  pub grown : {ys : List ℕ} {at i : ℕ} → Section size kind body P l xs ys at i → i < length l → {a : A} {zs : List ℕ} {k : ℕ} → a ≡ get_or l i a
      → Wrote (kind ∷ body a) (take (length ys - at) (drop at ys)) zs k → k ≡ size → P a
      → Section size kind body P l xs (take at ys ++ (zs ++ drop (length ys - at) (drop at ys))) (at + k) (i + 1)
  grown {i = i} s h {a} is w e p =
      let one : take (i + 1) l ≡ take i l ++ (a ∷ []) = rw is (taken l i a h) in
      record {
        place = rw e (omega (arith, s.place));
        wrote = rw one (renamed (sym (all_more kind body (take i l) a)) (next s.wrote w));
        each = rw one (each_more P (take i l) s.each p);
      }

-- An array is filled record by record, with zeros behind them.
use Prim.Native.Nat.{ℕ, suc, ◌+◌, ◌-◌, ◌≤◌, ◌<◌}
use mathlib.Core.Path.{◌≡◌, ◌∙◌}
use mathlib.Core.List.{List, [], ◌∷◌, ◌++◌}
use native.Mathlib.Numerals.{add-one}
use native.Mathlib.Omega.{arith}
use lib.ListN.{length, take, get_or, set, replicate}
use lib.Seq.{take-suc, take_all, length-take-le, set_at, append_snoc}
use Rattle.drafts.specs.Draft.{cells}
use Rattle.due_factors.proofs.DueList.{length_due, per_most}
use Rattle.layout.specs.declared.Layout.{Layout}
use Rattle.layout.specs.inner.Places.{counts_in}
use Rattle.sheet.specs.Sheet.{Accepted}
use Rattle.sheet.specs.Sheet.{read_sheet}
use Rattle.sheet.proofs.Accepted.{allowed, all_due}

module _ {A : Type 0} (most : ℕ) (none : A) (l : List A) where
  -- one more of the records stands in the array
  pub more : {cs : List A} {i : ℕ} → cs ≡ cells most none (take i l) → i < length l → length l ≤ most → {a : A} → a ≡ get_or l i none → set cs i a ≡ cells most none (take (i + 1) l)
  more {i = i} are h g e =
      let m : length (take i l) ≡ i = length-take-le i l (omega arith) in
      let m' : length (take (i + 1) l) ≡ i + 1 = length-take-le (i + 1) l (omega arith) in
      let k : most - i ≡ suc (most - (i + 1)) = omega arith in
      let t : take (i + 1) l ≡ take i l ++ (get_or l i none ∷ []) = rw add-one (take-suc l i none h) in
      rw (e, m', t, append_snoc, are, m, k) (set_at (take i l) none (replicate (most - (i + 1)) none) (get_or l i none) i m)

  pub whole : {cs : List A} {i : ℕ} → cs ≡ cells most none (take i l) → length l ≤ i → cs ≡ cells most none l
  whole {i = i} are h = are ∙ rw (take_all i l h)

-- an accepted sheet has at most 2888 factors
pub few_factors : (s : List ℕ) (l : Layout) → read_sheet s ≡ Accepted l → l.factors ≤ 2888
few_factors s l e = let few = (allowed s l e).few in omega (arith, all_due s l e, length_due (counts_in l), per_most (counts_in l) few)

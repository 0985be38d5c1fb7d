-- Whether an accepted sheet has paths, by its layout; its adjusted flow.
use Prim.Native.Nat.{ℕ, ◌≤◌, ◌<◌}
use mathlib.Core.Path.{◌≡◌, ◌∙◌}
use mathlib.Core.Bool.{true, false}
use mathlib.Core.List.{List}
use native.Mathlib.Omega.{arith}
use borrow.Author.Tests.{le-leb, lt-leb, leb-true}
use lib.Dec.{leb, lit<}
use lib.IntN.{ℤ, nat_abs, ◌+ℤ◌}
use Rattle.integers.proofs.Machine.{Op, rd, num_is, add}
use Rattle.layout.specs.declared.Layout.{Layout}
use Rattle.sheet.specs.Sheet.{read_sheet, content_of, Accepted}
use Rattle.sheet.proofs.Accepted.{valid, counts}
use Rattle.figures.specs.Flow.{market_flow}
use Rattle.figures.specs.Lake.{has_paths, impact, adjusted_flow}
use Rattle.figures.specs.inner.Most.{most_market, most_impact, most_adjusted}
use Rattle.figures.proofs.Ranges.{impact_within}

module _ (s : List ℕ) (l : Layout) (e : read_sheet s ≡ Accepted l) where
  pub paths_are : has_paths (content_of s) ≡ leb 1 l.paths
  unfolding has_paths
  paths_are = rw (counts s l e).paths

  pub no_paths : l.paths ≡ 0 → has_paths (content_of s) ≡ false
  no_paths z = paths_are ∙ lt-leb 1 l.paths (omega arith)

  pub some_paths : (l.paths ≡ 0 → ⊥) → has_paths (content_of s) ≡ true
  some_paths n = paths_are ∙ le-leb 1 l.paths (omega (arith, n))

  pub paths_laid : has_paths (content_of s) ≡ true → 0 < l.paths
  paths_laid h = leb-true 1 l.paths (rw paths_are at h)

  -- the market flow and the impact, as they are given
  pub adjusted : (market : ℤ) → market ≡ market_flow (content_of s) → nat_abs market ≤ most_market → (z : ℤ) → z ≡ impact (content_of s) →
      Op (rd market +ℤ rd z) (adjusted_flow (content_of s)) most_adjusted
  unfolding adjusted_flow
  adjusted market m b z i =
      add {A = most_market} {B = most_impact} (num_is market _ most_market m (rw (← m) b) (lit< tt)) (num_is z _ most_impact i (impact_within (valid s l e)) (lit< tt)) (lit< tt)

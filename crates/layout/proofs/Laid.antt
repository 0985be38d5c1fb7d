-- Records that follow one another with no kind below the one before.
use Prim.Native.Nat.{ℕ, ◌+◌, ◌≤◌, ◌<◌}
use mathlib.Core.Path.{◌≡◌, refl, sym, ◌∙◌}
use native.Mathlib.Omega.{arith}
use Rattle.record_table.specs.Table.{body_length, last_kind}
use Rattle.layout.specs.declared.Layout.{Layout}
use Rattle.layout.specs.inner.Places.{count, counted, no_records, first_of, start_of, extent}
use Rattle.record_table.proofs.ByKind.{kinds}
use Rattle.layout.proofs.Places.{count_same, count_other, first_agree, first_flat}

-- the records end at a place, and none is of a kind above `last`
pub record Laid (l : Layout) (last at : ℕ) : Type 0 where
  pub here : extent l ≡ at
  pub above : (kind : ℕ) → last < kind → kind ≤ last_kind → count l kind ≡ 0

pub laid_none : Laid no_records 0 0
unfolding first_of
laid_none = record {
  here = refl;
  above = λ k g h. kinds (λ (k : ℕ). count no_records k ≡ 0) refl refl refl refl refl refl refl refl k g h;
}

module _ (l : Layout) (last at kind : ℕ) (v : Laid l last at) (low : 1 ≤ kind) (high : kind ≤ last_kind) (order : last ≤ kind) where
  -- the next record stands behind the others of its kind
  pub laid_at : at ≡ start_of l kind (count l kind)
  laid_at = sym v.here ∙ first_flat l kind (last_kind + 1) (omega arith) (λ j p q. v.above j (omega arith) (omega arith))

  pub below_same : (j : ℕ) → j < kind → count (counted l kind) j ≡ count l j
  below_same j g = count_other l kind j (omega arith) (λ q. omega arith)

  above_none : (j : ℕ) → kind < j → j ≤ last_kind → count (counted l kind) j ≡ 0
  above_none j g h = count_other l kind j h (λ q. omega arith) ∙ v.above j (omega arith) h

  pub laid_next : Laid (counted l kind) kind (at + 1 + body_length kind)
  laid_next = record {
    here =
        first_flat (counted l kind) kind (last_kind + 1) (omega arith) (λ j p q. above_none j p (omega arith))
        ∙ rw (first_agree l (counted l kind) kind below_same, count_same l kind low high) (omega (arith, laid_at));
    above = above_none;
  }

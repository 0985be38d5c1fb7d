-- The index of names, from the first record to the last: none yet, a kind that begins, one record more.
use Prim.Native.Nat.{ℕ, zero, suc, ◌+◌, ◌-◌, ◌≤◌, ◌<◌}
use mathlib.Core.Path.{◌≡◌, refl}
use mathlib.Core.Bool.{Bool, true, false, cond}
use mathlib.Core.List.{List}
use native.Mathlib.Omega.{arith}
use lib.ListN.{length, replicate, length-replicate}
use Rattle.integers.proofs.Cases.{below_or}
use Rattle.name_index.specs.inner.Index.{Indexed, longer, with_next}
use Rattle.name_index.proofs.Table.{none_indexed, begun_indexed, next-indexed}
use Rattle.layout.specs.declared.Layout.{Layout}
use Rattle.layout.specs.inner.Places.{count, counted, no_records, first_of}
use Rattle.layout.specs.inner.Listed.{named, mask, names_in, table_size, run_of, Listed}
use Rattle.record_table.specs.Table.{kind_of, last_kind}
use Rattle.record_table.proofs.ByKind.{kinds}
use Rattle.layout.proofs.Places.{count_same, count_other, first_agree}
use Rattle.layout.proofs.Laid.{Laid}

module _ (l : Layout) where
  pub names_named : (kind : ℕ) → kind ≤ last_kind → names_in l kind ≤ named l
  names_named zero h = omega arith
  names_named (suc k) h =
      kinds (λ (k : ℕ). names_in l k ≤ named l) (omega arith) (omega arith) (omega arith) (omega arith) (omega arith) (omega arith) (omega arith) (omega arith) (suc k) (omega arith) h

  named_more : (kind : ℕ) → 1 ≤ kind → kind ≤ last_kind → named (counted l kind) ≡ named l + cond (kind_of kind).named 1 0
  unfolding counted
  named_more =
      kinds (λ (k : ℕ). named (counted l k) ≡ named l + cond (kind_of k).named 1 0)
      (omega arith) (omega arith) (omega arith) (omega arith) (omega arith) (omega arith) (omega arith) (omega arith)

  no_names : (kind : ℕ) → count l kind ≡ 0 → names_in l kind ≡ 0
  no_names k z = rw z (pick (kind_of k).named)
    where
      pick : (b : Bool) → ◌≡◌ {A = ℕ} (cond b 0 0) 0
      pick true = refl
      pick false = refl

module _ (s : List ℕ) where
  pub listed_none : Listed s no_records 0 (replicate table_size 0)
  unfolding first_of
  listed_none = record { full = length-replicate {A = ℕ} table_size 0; holds = none_indexed s (run_of no_records 0) table_size refl (omega arith) }

  module _ (l : Layout) (kind : ℕ) (table : List ℕ) where
    -- at a record that may come next, of whichever kind
    pub listed_at : (last at : ℕ) → Laid l last at → last ≤ kind → kind ≤ last_kind → Listed s l last table → Listed s l kind table
    listed_at last at v order high x =
        below_or last kind
        (λ a.
        let z : names_in l kind ≡ 0 = no_names l kind (v.above kind a high) in
        record { full = x.full; holds = begun_indexed s (run_of l last) table x.holds (run_of l kind) z (omega (arith, names_named l last (omega arith))) refl })
        (λ a. let e : kind ≡ last = omega arith in rw e x)

    module _ (low : 1 ≤ kind) (high : kind ≤ last_kind) where
      first-same : first_of (counted l kind) kind ≡ first_of l kind
      first-same = first_agree l (counted l kind) kind (λ j g. count_other l kind j (omega arith) (λ q. omega arith))

      -- once its name is added
      pub listed_next : (before : List ℕ) → (kind_of kind).named ≡ true → Listed s l kind before → mask + 1 + named l < table_size →
          table ≡ with_next s (run_of l kind) before → length table ≡ table_size → Listed s (counted l kind) kind table
      listed_next before n x r w f =
          let c = count_same l kind low high in
          let m : named (counted l kind) ≡ named l + 1 = rw n at (named_more l kind low high) in
          let q : names_in l kind ≤ named l = names_named l kind high in
          let b : named (counted l kind) - (count l kind + 1) ≡ named l - count l kind = omega arith in
          let y : Indexed s (longer (run_of l kind)) table = rw w (next-indexed s (run_of l kind) before x.holds (omega (arith, x.full))) in
          record { full = f; holds = rw (n, c, b, first-same) (rw n at y) }

      -- a record without a name
      pub listed_kept : (kind_of kind).named ≡ false → Listed s l kind table → Listed s (counted l kind) kind table
      listed_kept n x =
          let m : named (counted l kind) ≡ named l + 0 = rw n at (named_more l kind low high) in
          let b : named (counted l kind) - 0 ≡ named l - 0 = omega arith in
          record { full = x.full; holds = rw (n, b, first-same) (rw n at x.holds) }

-- The number that is printed of an offending record is the one within its kind: one more than the records of its kind that pass before it.
use Prim.Native.Nat.{ℕ, ◌+◌, ◌≤◌, ◌<◌}
use mathlib.Core.Path.{◌≡◌, refl, ap, ◌∙◌}
use mathlib.Core.Bool.{cond}
use mathlib.Core.List.{List}
use native.Mathlib.Omega.{arith}
use borrow.Author.Tests.{lt-leb, eq-eqb, ne_eqb}
use lib.Dec.{eqb}
use lib.ListN.{length, take, drop}
use lib.Seq.{get_or-take, length-take-le}
use Rattle.fields.specs.Fields.{byte_at}
use Rattle.integers.proofs.Cases.{equal_or}
use Rattle.record_table.specs.Table.{last_kind, body_in}
use Rattle.record_table.proofs.ByKind.{kinds}
use Rattle.records.specs.Content.{Content, no_content, count_of, with_record}
use Rattle.layout.specs.declared.Layout.{Layout}
use Rattle.layout.specs.Layout.{layout_of}
use Rattle.layout.specs.inner.Places.{count}
use Rattle.layout.proofs.Places.{count_same, count_other}
use Rattle.sheet.specs.Passed.{Passed, none, more}
use Rattle.sheet.proofs.Passing.{layout_with, fronted}
use Rattle.record_numbers.specs.RecordNumbers.{records_of, record_number}
use Rattle.record_numbers.proofs.Counted.{remaining, remaining_none, remaining_next}

count_none : (kind : ℕ) → 1 ≤ kind → kind ≤ last_kind → count_of no_content kind ≡ 0
count_none = kinds (λ (k : ℕ). count_of no_content k ≡ 0) refl refl refl refl refl refl refl refl

-- one record more is one more of its kind
count_with : (c : Content) (k kind : ℕ) (b : List ℕ) → 1 ≤ k → k ≤ last_kind → kind ≤ last_kind → count_of (with_record c k b) kind ≡ count_of c kind + cond (eqb k kind) 1 0
unfolding layout_of
count_with c k kind b low high h =
    ap (λ (l : Layout). count l kind) (layout_with c k b)
    ∙ equal_or k kind (λ e. rw (eq-eqb k kind e, ← e) (count_same (layout_of c) k low high)) (λ n. rw (ne_eqb k kind n, count_other (layout_of c) k kind h n) (omega arith))

module _ (s : List ℕ) (n kind : ℕ) (within : n ≤ length s) (low : 1 ≤ kind) (high : kind ≤ last_kind) where
  -- those that pass are counted, and the rest from there on
  counted : {at last : ℕ} {c : Content} → Passed s at last c → at ≤ n → records_of kind 0 (take n s) ≡ count_of c kind + remaining kind (take n s) at
  counted none h = omega (arith, count_none kind low high)
  counted (more {at} {last} {c} p h e) g =
      let f = fronted s at last c h e in
      let l = length-take-le n s within in
      let b : byte_at (take n s) at ≡ byte_at s at = get_or-take n s at 0 (omega arith) in
      let r = rw b at (remaining_next kind at (take n s) (omega arith)) in
      omega (arith, counted p (omega arith), r, count_with c (byte_at s at) kind (body_in (byte_at s at) (drop (at + 1) s)) f.low f.high high)

pub numbered : (s : List ℕ) (at last : ℕ) (c : Content) → Passed s at last c → at < length s → 1 ≤ byte_at s at → byte_at s at ≤ last_kind → record_number s at ≡ 1 + count_of c (byte_at s at)
unfolding record_number
numbered s at last c p h low high =
    let l = length-take-le at s (omega arith) in
    rw (lt-leb (length s) at h) (omega (arith, counted s at (byte_at s at) (omega arith) low high p (omega arith), remaining_none (byte_at s at) at (take at s) (omega arith)))

-- The reader on whole records, and what it tells of them.
use Prim.Native.Nat.{ℕ, ◌+◌, ◌≤◌}
use mathlib.Core.Path.{◌≡◌, refl}
use mathlib.Core.Bool.{Bool, true, false, ◌&&◌, cond}
use mathlib.Core.List.{List, [], ◌∷◌, ◌++◌, append-nil, append_assoc}
use native.Mathlib.Omega.{arith}
use lib.Dec.{eqb, leb}
use lib.ListN.{length, length-append}
use lib.Seq.{take_at, drop_at, append_snoc}
use borrow.Author.Tests.{le-ltb, eqb-true, eqb-false}
use Rattle.rows.specs.Rows.{row}
use Rattle.record_table.specs.Table.{last_kind, body_length}
use Rattle.records.specs.Content.{Content, count_of, with_record}
use Rattle.record_rows.specs.Rows.{one_too_many, front_row, repeats, body_row, record_row}
use Rattle.sheet.specs.Sheet.{Reading, holds, fails, unless, records_from, number_in}
use Rattle.sheet.proofs.RecordByRecord.{from_skip}
use Rattle.sheet_bytes.specs.SheetBytes.{all}
use Rattle.sheet_bytes.specs.ContentRow.{then_row, in_turn}
use Rattle.sheet_bytes.specs.inner.Returns.{Returns, Each}

-- rows 5 to 11 of a record of a kind with its body
abbrev pub judged : Content → ℕ → List ℕ → ℕ
judged c kind b = row 5 (one_too_many kind (count_of c kind)) (body_row c kind (repeats c kind b) b)

module _ (c : Content) (last kind : ℕ) (low : 1 ≤ kind) (high : kind ≤ last_kind) (order : last ≤ kind) (first : kind ≡ 1 → count_of c kind ≡ 0) where
  no_second : (b : Bool) → eqb kind 1 ≡ b → (b && leb 1 (count_of c kind)) ≡ false
  no_second true e = rw (first (eqb-true kind 1 e)) refl
  no_second false e = refl

  -- rows 2 to 4 fit no whole record in its order
  fronts : (left below : ℕ) → body_length kind ≤ left → front_row last kind (count_of c kind) left below ≡ row 5 (one_too_many kind (count_of c kind)) below
  unfolding front_row
  fronts left below h = rw (le-ltb kind 1 low, le-ltb last_kind kind high, le-ltb left (body_length kind) h, le-ltb kind last order, no_second (eqb kind 1) refl) refl

  pub step : (at : ℕ) (b rest : List ℕ) → length b ≡ body_length kind →
      records_from at 0 last c (kind ∷ (b ++ rest)) ≡ unless (judged c kind b) at (records_from (at + 1 + body_length kind) 0 kind (with_record c kind b) rest)
  unfolding records_from record_row
  step at b rest e =
      let n : body_length kind ≤ length (b ++ rest) = omega (arith, length-append b rest) in
      rw (
        take_at b rest (body_length kind) e,
        fronts (length (b ++ rest)) (body_row c kind (repeats c kind b) b) n,
        from_skip (at + 1) (body_length kind) kind (with_record c kind b) (b ++ rest) n,
        drop_at b rest (body_length kind) e,
      )
      refl

-- a reading's number, and what it holds where that is 0
pub record Tells (r : Reading) (number : ℕ) (c : Content) : Type 0 where
  pub number_is : number_in r ≡ number
  pub holds_it : number ≡ 0 → r ≡ holds c

pub tells_held : (c : Content) → Tells (holds c) 0 c
tells_held c = record { number_is = refl; holds_it = λ e. refl }

pub tells_unless : (number at later : ℕ) (next : Reading) (c : Content) → Tells next later c → Tells (unless number at next) (then_row number later) c
tells_unless number at later next c t = pick (eqb number 0) refl
  where
    pick : (b : Bool) → eqb number 0 ≡ b → Tells (cond b next (fails number at)) (cond b later number) c
    pick true e = t
    pick false e = record { number_is = refl; holds_it = λ z. absurd (eqb-false number 0 e z) }

-- The records of a kind, one behind the other: `with l` is the content in which l are those of the kind
module _ {A : Type 0} (kind : ℕ) (body : A → List ℕ) (of : List ℕ → A) (row_of : List A → A → ℕ) (with : List A → Content)
    (low : 2 ≤ kind) (high : kind ≤ last_kind)
    (row_is : (before : List A) (a : A) → Returns kind body of a → judged (with before) kind (body a) ≡ row_of before a)
    (next-is : (before : List A) (a : A) → Returns kind body of a → with_record (with before) kind (body a) ≡ with (before ++ (a ∷ [])))
    (rest : List ℕ) (later : ℕ) (c : Content) where
  pub section : (l before : List A) → Each (Returns kind body of) l →
      ((at last : ℕ) → last ≤ kind → Tells (records_from at 0 last (with (before ++ l)) rest) later c) →
      (at last : ℕ) → last ≤ kind → Tells (records_from at 0 last (with before) (all kind body l ++ rest)) (in_turn row_of before l later) c
  unfolding all in_turn
  section [] before h t at last o = rw (append-nil before) at (t at last o)
  section (a ∷ l) before h t at last o =
      let behind = section l (before ++ (a ∷ [])) h.1 (λ at last o. rw (append_snoc before a l) (t at last o)) (at + 1 + body_length kind) kind (omega arith) in
      rw (
        append_assoc (body a) (all kind body l) rest,
        step (with before) last kind (omega arith) high o (λ e. absurd (omega arith)) at (body a) (all kind body l ++ rest) h.0.long,
        row_is before a h.0,
        next-is before a h.0,
      )
      (tells_unless (row_of before a) at _ _ c behind)

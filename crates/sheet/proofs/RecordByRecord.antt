-- The reading, a record at a time.
use Prim.Native.Nat.{ℕ, zero, suc, ◌+◌, ◌≤◌, ◌<◌}
use mathlib.Core.Path.{◌≡◌, refl, sym, ap, ◌∙◌}
use mathlib.Core.List.{List, [], ◌∷◌}
use native.Mathlib.Numerals.{add-one}
use native.Mathlib.Omega.{arith}
use lib.ListN.{length, drop, drop_of_length-le}
use lib.Seq.{drop-drop, drop-cons}
use borrow.Author.Tests.{eq-eqb, ne_eqb}
use Rattle.fields.specs.Fields.{byte_at}
use Rattle.record_table.specs.Table.{body_length, body_in}
use Rattle.records.specs.Content.{Content, count_of, no_content, with_record}
use Rattle.record_rows.specs.Rows.{record_row, last_row, first_row}
use Rattle.record_rows.proofs.FrontRows.{Fronted, front_pass}
use Rattle.sheet.specs.Sheet.{Refused}
use Rattle.sheet.specs.Sheet.{holds, fails, unless, records_from, reading, read_sheet}
use Rattle.sheet.specs.Passed.{Passed, none, more}

pub from_skip : (at skip last : ℕ) (c : Content) (r : List ℕ) → skip ≤ length r → records_from at skip last c r ≡ records_from (at + skip) 0 last c (drop skip r)
unfolding records_from
from_skip at zero last c r h = let e : at + 0 ≡ at = omega arith in rw e
from_skip at (suc skip) last c [] h = absurd (omega arith)
from_skip at (suc skip) last c (b ∷ r) h = let e : at + suc skip ≡ at + 1 + skip = omega arith in rw e (from_skip (at + 1) skip last c r (omega arith))

module _ (s : List ℕ) (at last : ℕ) (c : Content) where
  abbrev pub row_here : ℕ
  row_here = record_row c last (byte_at s at) (drop (at + 1) s)

  abbrev pub content_next : Content
  content_next = with_record c (byte_at s at) (body_in (byte_at s at) (drop (at + 1) s))

  here_passes : row_here ≡ 0 → Fronted last (byte_at s at) (count_of c (byte_at s at)) (length (drop (at + 1) s))
  unfolding record_row
  here_passes q = (front_pass _ _ _ _ _ q).0

  from_at : at < length s → records_from at 0 last c (drop at s) ≡ unless row_here at (records_from (at + 1) (body_length (byte_at s at)) (byte_at s at) content_next (drop (at + 1) s))
  unfolding records_from
  from_at h = rw (drop-cons s at 0 h, add-one)

  pub from_refused : at < length s → (row_here ≡ 0 → ⊥) → records_from at 0 last c (drop at s) ≡ fails row_here at
  from_refused h q = from_at h ∙ rw (ne_eqb _ _ q)

  pub from_next : at < length s → row_here ≡ 0 →
      records_from (at + 1 + body_length (byte_at s at)) 0 (byte_at s at) content_next (drop (at + 1 + body_length (byte_at s at)) s) ≡ records_from at 0 last c (drop at s)
  from_next h q =
      let k = byte_at s at in
      sym (from_at h
      ∙ rw (eq-eqb _ _ q) (from_skip (at + 1) (body_length k) k content_next (drop (at + 1) s) (here_passes q).fits)
      ∙ ap (records_from (at + 1 + body_length k) 0 k content_next) (drop-drop (body_length k) (at + 1) s))

  pub from_end : length s ≤ at → records_from at 0 last c (drop at s) ≡ unless (last_row c) at (holds c)
  unfolding records_from
  from_end h = rw (drop_of_length-le s {i = at} h)

-- behind records that pass, what is left answers for the whole
pub from_passed : (s : List ℕ) {at last : ℕ} {c : Content} → Passed s at last c → records_from at 0 last c (drop at s) ≡ records_from 0 0 0 no_content s
from_passed s none = refl
from_passed s (more {at} {last} {c} p h e) = from_next s at last c h e ∙ from_passed s p

-- the first record
pub first_empty : (s : List ℕ) → length s ≡ 0 → first_row s ≡ 1
unfolding first_row
first_empty [] e = refl
first_empty (k ∷ r) e = absurd (omega arith)

pub first_other : (s : List ℕ) → (byte_at s 0 ≡ 1 → ⊥) → first_row s ≡ 1
unfolding first_row
first_other [] e = refl
first_other (k ∷ r) e = rw (ne_eqb k 1 e)

first_head : (s : List ℕ) → (length s ≡ 0 → ⊥) → byte_at s 0 ≡ 1 → first_row s ≡ 0
unfolding first_row
first_head [] n e = absurd (n refl)
first_head (k ∷ r) n e = rw (eq-eqb k 1 e)

pub read_first : (s : List ℕ) → first_row s ≡ 1 → read_sheet s ≡ Refused 1 0
unfolding read_sheet reading
read_first s e = rw e

pub read_on : (s : List ℕ) {at last : ℕ} {c : Content} → (length s ≡ 0 → ⊥) → byte_at s 0 ≡ 1 → Passed s at last c → records_from at 0 last c (drop at s) ≡ reading s
unfolding reading
read_on s n e p = from_passed s p ∙ rw (first_head s n e)

-- The row of a record by its kind, where none of rows 2 to 5 fits it.
use Prim.Native.Nat.{ℕ, ◌+◌, ◌-◌, ◌<◌}
use mathlib.Core.Path.{◌≡◌, refl, sym, ◌∙◌}
use mathlib.Core.Bool.{true, false}
use mathlib.Core.List.{List}
use lib.ListN.{length, drop}
use Rattle.fields.specs.Fields.{byte_at}
use Rattle.record_table.specs.Table.{kind_of, body_in}
use Rattle.std.specs.Result.{IsErr}
use Rattle.std.specs.Prelude.{Result}
use Rattle.rows.specs.declared.Refusal.{Refusal}
use Rattle.record_table.specs.inner.Kinds.{code, Named}
use Rattle.record_table.proofs.ByKind.{unnamed}
use Rattle.record_table.specs.declared.kind.Kind.{Kind}
use Rattle.record_table.specs.declared.kind.Kind.TheVariants as kind
use Rattle.records.specs.Bodies.{factor_of, circulation_of}
use Rattle.record_rows.specs.Rows.{front_row, repeats, body_row, factor_row, circulation_row}
use Rattle.layout.specs.declared.Layout.{Layout}
use Rattle.layout.specs.inner.Places.{count, due_of, content_at}
use Rattle.layout.specs.inner.Listed.{Listed}
use Rattle.layout.proofs.Contents.{count_at, counts_at}
use Rattle.sheet.specs.Passed.{Passed}
use Rattle.sheet.specs.inner.RowHere.{RowHere}
use Rattle.sheet.proofs.Passing.{at_listed, body_decides}

-- all kinds but two have names
pub has_name : (k : Kind) → (k ≡ kind.Factor → ⊥) → (k ≡ kind.Circulation → ⊥) → (kind_of (code k)).named ≡ true
has_name kind.Head f c = refl
has_name kind.Zone f c = refl
has_name kind.Unit f c = refl
has_name kind.Point f c = refl
has_name kind.Par f c = refl
has_name kind.Factor f c = absurd (f refl)
has_name kind.Path f c = refl
has_name kind.Circulation f c = absurd (c refl)

-- an answer that is a refusal names no kind
pub no_kind : (byte : ℕ) (answer : Result Kind Refusal) → IsErr answer → Named byte answer
no_kind byte answer e kind q = unnamed (rw q at e)

module _ (s table : List ℕ) (l : Layout) (last at number : ℕ)
    (p : Passed s at last (content_at s l))
    (below : at < length s)
    (t : Listed s l last table)
    (front : front_row last (byte_at s at) (count l (byte_at s at)) (length s - (at + 1)) 0 ≡ 0) where
  -- of a record without a name
  unnamed_here : (kind_of (byte_at s at)).named ≡ false →
      number ≡ body_row (content_at s l) (byte_at s at)
      (repeats (content_at s l) (byte_at s at) (body_in (byte_at s at) (drop (at + 1) s)))
      (body_in (byte_at s at) (drop (at + 1) s)) →
      RowHere s l last at table number
  unnamed_here n e =
      let is = e ∙ sym (body_decides s l last (byte_at s at) at front) in
      record { is = is; listed = λ q. at_listed s at last l p table below (sym is ∙ q) n t }

  pub factor_here : byte_at s at ≡ 6 → number ≡ factor_row (due_of l) l.factors (factor_of (body_in 6 (drop (at + 1) s))) →
      RowHere s l last at table number
  unfolding body_row
  factor_here k e = unnamed_here (rw k refl) (rw (k, counts_at s l, count_at s l 6) e)

  pub circulation_here : byte_at s at ≡ 8 → number ≡ circulation_row (circulation_of (body_in 8 (drop (at + 1) s))) →
      RowHere s l last at table number
  unfolding body_row
  circulation_here k e = unnamed_here (rw k refl) (rw k e)

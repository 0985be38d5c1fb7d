-- `write_draft` meets its contract.
use Prim.Native.Nat.{ℕ, ◌≤◌}
use mathlib.Core.Path.{◌≡◌, refl, sym, ap, ◌∙◌}
use mathlib.Core.List.{List}
use native.Mathlib.Omega.{arith}
use lib.ListN.{length, take}
use lib.Seq.{length-take-le}
use Rattle.rows.proofs.Refusing.{refuses}
use Rattle.sheet.specs.Sheet.{reading, number_in}
use Rattle.records.specs.Content.{Content}
use Rattle.sheet_bytes.specs.SheetBytes.{sheet_bytes}
use Rattle.sheet_bytes.specs.ContentRow.{content_row}
use Rattle.sheet_bytes.specs.inner.Marked.{marked}
use Rattle.sheet_bytes.specs.inner.Returns.{Returned}
use Rattle.sheet_bytes.proofs.Marked.{unmarked}
use Rattle.writers.specs.inner.Wrote.{Wrote}
use Rattle.writers.proofs.Writing.{front, within}
use Rattle.sheet_bytes.proofs.RoundTrips.{row_read}
use Rattle.drafts.specs.declared.Draft.{Draft}
use Rattle.drafts.specs.Draft.{given}
use Rattle.sheet_writer.specs.inner.Given.{at_most}
use Rattle.sheet_writer.proofs.Given.{Parts, given_most}
use Rattle.sheet_writer.proofs.Answers.{refused, too_short, wrote}
use borrow.Author.Rules.{rules}
use Rattle.sheet_writer.proofs.write_draft.Goals as goal

-- the draft's arrays are full
parts_of : (d : Draft) → length d.zones ≡ 33 → length d.units ≡ 257 → length d.points ≡ 33 → length d.pars ≡ 9 → length d.factors ≡ 2889 → length d.paths ≡ 5 → length d.circulations ≡ 2
    → Parts d (at_most d.zone_count 33) (at_most d.unit_count 257) (at_most d.point_count 33) (at_most d.par_count 9) (at_most d.factor_count 2889) (at_most d.path_count 5)
    (at_most d.circulation_count 2)
parts_of d z u p a f q k = record {
  zones = record { full = z; is = refl };
  units = record { full = u; is = refl };
  points = record { full = p; is = refl };
  pars = record { full = a; is = refl };
  factors = record { full = f; is = refl };
  paths = record { full = q; is = refl };
  circulations = record { full = k; is = refl };
}

-- the number of what is written is the content's
number_is : (d : Draft) {n r : ℕ} {xs ys : List ℕ} → Wrote (sheet_bytes (marked (given d))) xs ys n → Returned (marked (given d)) → length (given d).zones ≤ 33 →
    r ≡ number_in (reading (take n ys)) → r ≡ content_row (given d)
number_is d w ret few e = e ∙ ap (λ (s : List ℕ). number_in (reading s)) (front w) ∙ row_read (given d) d.head refl ret few

pub slice_bounds-bytes-end : goal.slice_bounds-bytes-end
slice_bounds-bytes-end c = within c.put_sheet-n.ensures.wrote

pub put_sheet-n-requires : goal.put_sheet-n-requires
put_sheet-n-requires c =
    let g = c.well_formed.0.1.1 in
    let ps = parts_of c.args.d g.1.1.0.1.0.1 g.1.1.1.1.0.1.0.1 g.1.1.1.1.1.1.0.1.0.1 g.1.1.1.1.1.1.1.1.0.1.0.1 g.1.1.1.1.1.1.1.1.1.1.0.1.0.1 g.1.1.1.1.1.1.1.1.1.1.1.1.0.1.0.1 g.1.1.1.1.1.1.1.1.1.1.1.1.1.1.0.1.0.1 in
    search (rules, given_most ps)

pub slice_bounds-checked-end : goal.slice_bounds-checked-end
slice_bounds-checked-end c = sym (length-take-le _ _ (within c.put_sheet-n.ensures.wrote))

pub returns-in-Err : goal.returns-in-Err
returns-in-Err c =
    let w = c.put_sheet-n.ensures in
    let number = number_is c.args.d w.wrote w.returned w.few c.in-Err.ensures in
    rw (← c.number.ensures) at (refused (given c.args.d) c.args.out.now _ number (refuses c.in-Err.refusal refl))

pub returns-then-out-n : goal.returns-then-out-n
returns-then-out-n c =
    let w = c.put_sheet-n.ensures in
    let number = number_is c.args.d w.wrote w.returned w.few c.in_default.ensures in
    let d = given c.args.d in
    let e = sym number in
    rw (← c.number-then-out-n.ensures) at (too_short d c.args.out.now e (omega (arith, c.if-out-n.true, w.wrote.count, ap (λ (x : Content). length (sheet_bytes x)) (unmarked d e))))

pub returns : goal.returns
returns c =
    let w = c.put_sheet-n.ensures in
    let number = number_is c.args.d w.wrote w.returned w.few c.in_default.ensures in
    let d = c.args.d in
    let e = sym number in
    wrote (given d) c.args.out.now d.head refl w.returned e (omega (arith, c.if-out-n.false, w.wrote.count)) c.put_sheet.ensures.wrote

-- `record_row` meets its contract: where rows 2 to 5 pass the body is whole and stands behind the others of its kind.
use mathlib.Core.Path.{◌≡◌, refl, sym, ap, ◌∙◌}
use native.Mathlib.Omega.{arith}
use native.Mathlib.Nat.{add-sub_cancel_left}
use borrow.Author.Rules.{rules}
use Rattle.fields.specs.Fields.{byte_at}
use Rattle.record_table.specs.inner.Kinds.{code}
use Rattle.rows.specs.Refusals.{number, row_of}
use Rattle.rows.proofs.Refusing.{refuses}
use Rattle.record_rows.proofs.FrontRows.{front_pass}
use Rattle.layout.specs.inner.Places.{content_at}
use Rattle.layout.proofs.Contents.{zones_at}
use Rattle.layout.proofs.Laid.{laid_at}
use Rattle.layout.proofs.Listed.{listed_at}
use Rattle.sheet.proofs.Passing.{at-laid, at-allowed, body_decides, front_decides}
use Rattle.sheet.proofs.RecordRow.{has_name, no_kind, factor_here, circulation_here}
use Rattle.sheet.proofs.record_row.Goals as goal

pub returns-in_err-kind : goal.returns-in_err-kind
returns-in_err-kind c =
    let a = c.args in
    let refusal = c.in_err-kind.field-0.0 in
    let r : row_of c.from_residual.result ≡ number refusal = search rules in
    let front = rw c.count_of-earlier.ensures at (sym c.in_err-kind.ensures.0) in (
      record {
        is = rw r (sym (front_decides a.s.now a.l a.last (byte_at a.s.now a.at) a.at (number refusal) front (refuses refusal refl)));
        listed = λ e. absurd (refuses refusal r e);
      },
      no_kind _ c.from_residual.result c.from_residual.ensures.0,
    )

pub slice_bounds-b-end : goal.slice_bounds-b-end
slice_bounds-b-end c =
    let k : code c.in_ok-kind.kind ≡ byte_at c.args.s.now c.args.at = c.in_ok-kind.ensures.1 c.in_ok-kind.kind refl in
    let f = (front_pass _ _ _ _ 0 (sym c.in_ok-kind.ensures.0)).0 in
    omega (arith, f.fits, rw k at c.body_length.ensures)

pub factor_row-requires : goal.factor_row-requires
factor_row-requires c = rw c.counts_in.ensures (at-allowed _ _ _ _ c.requires.0).few

pub returns-in_err-factor_row-in-Factor : goal.returns-in_err-factor_row-in-Factor
returns-in_err-factor_row-in-Factor c =
    let a = c.args in
    let s = a.s.now in
    let refusal = c.in_err-factor_row-in-Factor.field-0.0 in
    let r : row_of c.from_residual-in_err-factor_row-in-Factor.result ≡ number refusal = search rules in
    let is6 : byte_at s a.at ≡ 6 = sym (c.in_ok-kind.ensures.1 c.in_ok-kind.kind refl) ∙ ap code c.in-Factor.is in
    let front = rw c.count_of-earlier.ensures at (sym c.in_ok-kind.ensures.0) in
    let b = rw (c.body_length.ensures, c.in-Factor.is) at (simp add-sub_cancel_left at c.factor_of.ensures) in
    let e = rw (b, c.counts_in.ensures) at c.in_err-factor_row-in-Factor.ensures in (
      factor_here s a.table.now a.l a.last a.at _ c.requires.0 c.requires.1 c.requires.2 front is6 (r ∙ e),
      no_kind _ _ c.from_residual-in_err-factor_row-in-Factor.ensures.0,
    )

pub returns-in_err-circulation_row-in-Circulation : goal.returns-in_err-circulation_row-in-Circulation
returns-in_err-circulation_row-in-Circulation c =
    let a = c.args in
    let s = a.s.now in
    let refusal = c.in_err-circulation_row-in-Circulation.field-0.0 in
    let r : row_of c.from_residual-in_err-circulation_row-in-Circulation.result ≡ number refusal = search rules in
    let is8 : byte_at s a.at ≡ 8 = sym (c.in_ok-kind.ensures.1 c.in_ok-kind.kind refl) ∙ ap code c.in-Circulation.is in
    let front = rw c.count_of-earlier.ensures at (sym c.in_ok-kind.ensures.0) in
    let b = rw (c.body_length.ensures, c.in-Circulation.is) at (simp add-sub_cancel_left at c.circulation_of.ensures) in
    let e = rw b at c.in_err-circulation_row-in-Circulation.ensures in (
      circulation_here s a.table.now a.l a.last a.at _ c.requires.0 c.requires.1 c.requires.2 front is8 (r ∙ e),
      no_kind _ _ c.from_residual-in_err-circulation_row-in-Circulation.ensures.0,
    )

pub repeated-repeated-requires : goal.repeated-repeated-requires
repeated-repeated-requires c =
    let a = c.args in
    let k : code c.in_ok-kind.kind ≡ byte_at a.s.now a.at = c.in_ok-kind.ensures.1 c.in_ok-kind.kind refl in
    let f = (front_pass _ _ _ _ 0 (sym c.in_ok-kind.ensures.0)).0 in
    let v = at-laid _ _ _ _ c.requires.0 in
    let n = has_name c.in_ok-kind.kind c.in_default.not-Factor c.in_default.not-Circulation in (
      n,
      rw k (laid_at a.l _ a.at _ v f.low f.high f.order),
      rw k (omega (arith, f.fits)),
      at-allowed _ _ _ _ c.requires.0,
      rw k (listed_at _ a.l _ _ a.last a.at v f.order f.high c.requires.2),
    )

pub returns-in_err-named_row-in_default : goal.returns-in_err-named_row-in_default
returns-in_err-named_row-in_default c =
    let a = c.args in
    let s = a.s.now in
    let refusal = c.in_err-named_row-in_default.field-0.0 in
    let r : row_of c.from_residual-in_err-named_row-in_default.result ≡ number refusal = search rules in
    let k : code c.in_ok-kind.kind ≡ byte_at s a.at = c.in_ok-kind.ensures.1 c.in_ok-kind.kind refl in
    let front = rw c.count_of-earlier.ensures at (sym c.in_ok-kind.ensures.0) in
    let e = rw k at (simp add-sub_cancel_left at (c.in_err-named_row-in_default.ensures (content_at s a.l) (zones_at s a.l))) in (
      record {
        is = rw (r, body_decides s a.l a.last _ a.at front) (rw (c.body_length.ensures, c.repeated-repeated.ensures.0, k) at e);
        listed = λ q. absurd (refuses refusal r q);
      },
      no_kind _ _ c.from_residual-in_err-named_row-in_default.ensures.0,
    )

pub returns-in_ok-factor_row-in-Factor : goal.returns-in_ok-factor_row-in-Factor
returns-in_ok-factor_row-in-Factor c =
    let a = c.args in
    let s = a.s.now in
    let k = c.in_ok-kind.ensures.1 in
    let is6 : byte_at s a.at ≡ 6 = sym (k c.in_ok-kind.kind refl) ∙ ap code c.in-Factor.is in
    let front = rw c.count_of-earlier.ensures at (sym c.in_ok-kind.ensures.0) in
    let b = rw (c.body_length.ensures, c.in-Factor.is) at (simp add-sub_cancel_left at c.factor_of.ensures) in
    let e = rw (b, c.counts_in.ensures) at c.in_ok-factor_row-in-Factor.ensures in
    (factor_here s a.table.now a.l a.last a.at 0 c.requires.0 c.requires.1 c.requires.2 front is6 e, k)

pub returns-in_ok-circulation_row-in-Circulation : goal.returns-in_ok-circulation_row-in-Circulation
returns-in_ok-circulation_row-in-Circulation c =
    let a = c.args in
    let s = a.s.now in
    let k = c.in_ok-kind.ensures.1 in
    let is8 : byte_at s a.at ≡ 8 = sym (k c.in_ok-kind.kind refl) ∙ ap code c.in-Circulation.is in
    let front = rw c.count_of-earlier.ensures at (sym c.in_ok-kind.ensures.0) in
    let b = rw (c.body_length.ensures, c.in-Circulation.is) at (simp add-sub_cancel_left at c.circulation_of.ensures) in
    let e = rw b at c.in_ok-circulation_row-in-Circulation.ensures in
    (circulation_here s a.table.now a.l a.last a.at 0 c.requires.0 c.requires.1 c.requires.2 front is8 e, k)

pub returns-in_ok-named_row-in_default : goal.returns-in_ok-named_row-in_default
returns-in_ok-named_row-in_default c =
    let a = c.args in
    let s = a.s.now in
    let k : code c.in_ok-kind.kind ≡ byte_at s a.at = c.in_ok-kind.ensures.1 c.in_ok-kind.kind refl in
    let front = rw c.count_of-earlier.ensures at (sym c.in_ok-kind.ensures.0) in
    let e = rw k at (simp add-sub_cancel_left at (c.in_ok-named_row-in_default.ensures (content_at s a.l) (zones_at s a.l))) in (
      record {
        is = rw (body_decides s a.l a.last (byte_at s a.at) a.at front) (rw (c.body_length.ensures, c.repeated-repeated.ensures.0, k) at e);
        listed = λ q. rw k at c.repeated-repeated.ensures.1;
      },
      c.in_ok-kind.ensures.1,
    )

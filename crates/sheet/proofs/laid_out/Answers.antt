-- `laid_out` meets its contract.
use mathlib.Core.Path.{◌≡◌, refl, sym, ◌∙◌}
use native.Mathlib.Omega.{arith}
use lib.ListN.{length}
use borrow.Author.Rules.{rules}
use Rattle.rows.proofs.Refusing.{refuses}
use Rattle.layout.specs.inner.Places.{no_records, content_at}
use Rattle.layout.proofs.Contents.{none_at, layout_at}
use Rattle.layout.proofs.Listed.{listed_none}
use Rattle.sheet.specs.Passed.{none, more}
use Rattle.sheet.specs.Sheet.{read_sheet}
use Rattle.sheet.proofs.RecordByRecord.{first_empty, first_other, read_first, read_on, from_refused, from_end}
use Rattle.sheet.proofs.Passing.{at-laid, at-allowed, at_next}
use Rattle.sheet.proofs.laid_out.Goals as goal
use Rattle.sheet.proofs.laid_out.Goals.{then-is_empty-via-then-is_empty, then-is_empty-via-else-is_empty+then-s-code}

pub returns-then-is_empty : goal.returns-then-is_empty
returns-then-is_empty c =
    let s = c.args.s.now in
    elim c.then-is_empty.branch [
      | then-is_empty-via-then-is_empty w ↦ (let e : length s ≡ 0 = search rules in sym (read_first s (first_empty s e)))
      | then-is_empty-via-else-is_empty+then-s-code w ↦ sym (read_first s (first_other s (rw w.code.ensures at w.if-s-code.true)))
    ]

pub loop-at-init : goal.loop-at-init
loop-at-init c =
    let s = c.args.s.now in
    let z : c.default-l.result ≡ no_records = search (rules, c.default-l.ensures) in
    rw z (rw (none_at s) (none, listed_none s))

pub returns-in-Err : goal.returns-in-Err
unfolding read_sheet
returns-in-Err c =
    let s = c.args.s.now in
    let i = c.loop-at in
    let e = c.in-Err.ensures.0.is in
    let n : (length s ≡ 0 → ⊥) = search rules in
    let head = rw c.code.ensures at c.if-s-code.false in
    rw (← read_on _ n head i.invariant.0)
    (rw (from_refused s i.at i.last (content_at s i.l) c.loop-at-test.true (λ q. refuses c.in-Err.refusal refl (e ∙ q)), e))

pub add-requires : goal.add-requires
add-requires c = omega (arith, (at-laid _ _ _ _ c.loop-at.invariant.0).here)

pub past_factors-at-requires : goal.past_factors-at-requires
past_factors-at-requires c =
    let s = c.args.s.now in
    let i = c.loop-at in
    let h = c.loop-at-test.true in
    let q = sym c.in-Ok.ensures.0.is in
    rw (c.add.ensures, c.body_length.ensures, c.code-last.ensures, c.in-Ok.ensures.1 c.in-Ok.kind refl)
    (rw (at_next s i.at i.last i.l i.invariant.0 h q) at (more i.invariant.0 h q))

pub ended-requires : goal.ended-requires
ended-requires c = at-allowed _ _ _ _ c.loop-at.invariant.0

pub returns : goal.returns
unfolding read_sheet
returns c =
    let s = c.args.s.now in
    let i = c.loop-at in
    let n : (length s ≡ 0 → ⊥) = search rules in
    let head = rw c.code.ensures at c.if-s-code.false in
    rw (← read_on _ n head i.invariant.0)
    (rw (from_end s i.at i.last (content_at s i.l) c.loop-at-test.false) (c.ended.ensures (content_at s i.l) (layout_at s i.l)))

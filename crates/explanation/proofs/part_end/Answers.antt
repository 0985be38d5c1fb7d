-- `part_end` meets its contract.
use Prim.Native.Nat.{◌+◌}
use mathlib.Core.Path.{◌≡◌, sym, ◌∙◌}
use native.Mathlib.Omega.{arith}
use borrow.Author.Tests.{leb-true, leb-false}
use Rattle.rows.specs.Refusals.{number}
use Rattle.fields.specs.Fields.{byte_at}
use Rattle.explanation.specs.Explanation.{shown_bytes, part_end}
use Rattle.explanation.proofs.Parts.{ends_whole, ends_short, ends_empty, kind_byte, whole_record}
use Rattle.explanation.proofs.part_end.Goals as goal

pub returns-then-left-eq0 : goal.returns-then-left-eq0
returns-then-left-eq0 c =
    let e = ends_empty c.args.sheet.now (number c.args.refusal) c.args.from (omega (arith, c.if-left-eq0.true, c.requires)) in
    omega (arith, e, c.if-left-eq0.true, c.requires)

pub returns-then-of_kind_byte : goal.returns-then-of_kind_byte
returns-then-of_kind_byte c =
    let a = c.args in
    let s = a.sheet.now in
    let b = kind_byte s (number a.refusal) a.from (leb-true _ _ (sym c.of_kind_byte.ensures ∙ c.if-of_kind_byte.true)) in
    let n = c.if-left-eq0.false in
    rw (ends_whole s (number a.refusal) a.from (omega (arith, b, n)), b)

pub returns-then-left-body : goal.returns-then-left-body
returns-then-left-body c =
    let a = c.args in
    let s = a.sheet.now in
    let w = whole_record s (number a.refusal) a.from (leb-false _ _ (sym c.of_kind_byte.ensures ∙ c.if-of_kind_byte.false)) in
    sym (ends_short s (number a.refusal) a.from (omega (arith, w, c.if-left-body.true, c.body_length-body.ensures)))

pub returns : goal.returns
returns c =
    let a = c.args in
    let s = a.sheet.now in
    let w = whole_record s (number a.refusal) a.from (leb-false _ _ (sym c.of_kind_byte.ensures ∙ c.if-of_kind_byte.false)) in
    let n : part_end s (number a.refusal) a.from ≡ a.from + shown_bytes (number a.refusal) (byte_at s a.from) = ends_whole s (number a.refusal) a.from (omega (arith, w, c.if-left-body.false, c.body_length-body.ensures)) in
    omega (arith, n, w, c.body_length-body.ensures)

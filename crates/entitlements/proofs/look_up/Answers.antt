-- `look_up` meets its contract.
use Rattle.std.proofs.Common.{rules, arith, sym, ap, ◌∙◌, ◌≡◌, length}
use mir.Facts.{to_z-of_z}
use mir.Syntax.{w64}
use mir.Val.{SFits}
use Rattle.fields.proofs.Lists.{tail_is}
use Rattle.entitlements.specs.Entitlements.{Found}
use Rattle.entitlements.proofs.ByRecord.{look_other_length}
use Rattle.entitlements.proofs.Chunks.{left_all, left_none, left_here, left_on}
use Rattle.entitlements.proofs.look_up.Goals as goal

pub returns-in_err-row : goal.returns-in_err-row
returns-in_err-row c =
    let u : length c.args.name.now ≡ 16 → ⊥ = λ q. absurd (search rules) in
    rw (look_other_length c.args.entries.now c.args.name.now c.requires u) (search rules)

pub loop-entry-init : goal.loop-entry-init
loop-entry-init c =
    let same = c.into_iter-entry-iterator.ensures.into_iter_gives in
    let items = c.chunks_exact-entry-items.ensures in
    rw (same, items.rest) (items.size, left_all _ _ (λ i. omega (arith, c.type_inv.entries i)) c.requires)

pub returns-then-has_words : goal.returns-then-has_words
returns-then-has_words c =
    let steps = c.in-Some.ensures.steps in
    let e = rw (c.be64_at-high.ensures, c.be64_at-low.ensures) at c.has_words.ensures in
    let z = steps.1.1 ∙ c.loop-entry.invariant.0 in
    let k = left_here _ _ z _ _ _ c.loop-entry.invariant.1 steps.1.0 (λ i. omega (arith, c.type_inv.name i)) (search rules) (sym e ∙ c.if-has_words.true) in
    let f : SFits w64 c.value_of.result = record { sfits = c.value_of.type_inv } in
    let v = rw (tail_is c.in-Some.entry.now 1) at c.value_of.ensures in
    ap Found (to_z-of_z f ∙ v) ∙ sym k

pub loop-entry-preserved : goal.loop-entry-preserved
loop-entry-preserved c =
    let steps = c.in-Some.ensures.steps in
    let e = rw (c.be64_at-high.ensures, c.be64_at-low.ensures) at c.has_words.ensures in
    let z = steps.1.1 ∙ c.loop-entry.invariant.0 in (
      steps.0 ∙ c.loop-entry.invariant.0,
      left_on _ _ z _ _ _ c.loop-entry.invariant.1 steps.1.0 (λ i. omega (arith, c.type_inv.name i)) (search rules) (sym e ∙ c.if-has_words.false),
    )

pub returns : goal.returns
returns c = sym (left_none c.loop-entry.invariant.1 (omega (arith, c.in-None.ensures.steps.1.0, c.loop-entry.invariant.0)))

-- `m2m_entitlement` meets its contract.
use mathlib.Core.Path.{◌≡◌, sym, ap, ◌∙◌}
use lib.IntN.{ℤ}
use mir.Facts.{to_z-of_z}
use mir.Syntax.{w64}
use mir.Val.{SFits}
use borrow.Author.Rules.{rules}
use Rattle.exports.specs.Answers.{entitlement_answer}
use Rattle.exports.proofs.m2m_entitlement.Goals as goal

pub returns-in-Err : goal.returns-in-Err
returns-in-Err c = rw c.number.ensures (ap entitlement_answer c.in-Err.ensures)

pub returns-in-Ok : goal.returns-in-Ok
returns-in-Ok c =
    let value_fits : SFits w64 c.in-Ok.value = search rules in
    ap (λ (z : ℤ). record { refusal = 0; value = z }) (to_z-of_z value_fits)
    ∙ ap entitlement_answer c.in-Ok.ensures

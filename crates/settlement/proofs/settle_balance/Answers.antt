-- `settle_balance` meets its contract.
use mathlib.Core.Path.{◌≡◌, sym, ap, ◌∙◌}
use mir.Facts.{to_z-of_z}
use borrow.Author.Rules.{rules}
use Rattle.std.specs.Prelude.{Err}
use Rattle.rows.proofs.Refusing.{refuses}
use Rattle.settlement.specs.Settled.{refused_by}
use Rattle.settlement.proofs.Stages.{balance_refused, balance_passed}
use Rattle.settlement.proofs.settle_balance.Goals as goal

pub returns-in_err-served : goal.returns-in_err-served
returns-in_err-served c =
    let refusal = c.in_err-served.field-0.0 in
    let e : c.from_residual.result ≡ Err refusal = search rules in
    rw e (ap refused_by c.in_err-served.ensures ∙ sym (balance_refused _ _ (λ z. refuses refusal (sym c.in_err-served.ensures) z)))

pub settle_flow-requires : goal.settle_flow-requires
settle_flow-requires c = rw (to_z-of_z c.ranges.e) c.requires

pub returns : goal.returns
returns c =
    let same = c.in_ok-served.ensures.0 in
    let passed = rw same at c.in_ok-served.served.ready.passed in
    rw (balance_passed _ _ passed) (rw (to_z-of_z c.ranges.e, same) at c.settle_flow.ensures)

-- `interval_or_refusal` meets its contract.
use Prim.Native.Nat.{◌≤◌}
use mathlib.Core.Path.{◌≡◌, sym, ap, subst}
use lib.IntN.{ℤ, nat_abs}
use mir.Facts.{to_z-of_z}
use mir.Syntax.{w64}
use mir.Val.{SFits}
use borrow.Author.Rules.{rules}
use Rattle.entitlements.proofs.Answers.{value_within}
use Rattle.settlement.specs.Settled.{by_list, after_sheet}
use Rattle.std.specs.Prelude.{Err}
use Rattle.settlement.proofs.interval_or_refusal.Goals as goal

pub settle_balance-requires : goal.settle_balance-requires
settle_balance-requires c =
    let e_fits : SFits w64 c.in_ok-e.e = search rules in
    subst (λ (z : ℤ). nat_abs z ≤ 100000) (sym (to_z-of_z e_fits)) (value_within _ _ _ (sym c.in_ok-e.ensures))

pub returns-in_err-e : goal.returns-in_err-e
unfolding after_sheet by_list
returns-in_err-e c =
    let e : c.from_residual.result ≡ Err c.in_err-e.field-0.0 = search rules in
    let f = rw c.head_at-h.ensures at c.in_err-e.ensures in
    rw e (ap (by_list _) f)

pub returns : goal.returns
unfolding after_sheet by_list
returns c =
    let e_fits : SFits w64 c.in_ok-e.e = search rules in
    let f = rw c.head_at-h.ensures at c.in_ok-e.ensures in
    rw (← f) (rw (to_z-of_z e_fits) at c.settle_balance.ensures)

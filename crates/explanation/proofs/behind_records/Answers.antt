-- `behind_records` meets its contract.
use Prim.Native.Nat.{ℕ}
use mathlib.Core.Path.{◌≡◌, refl}
use mir.Facts.{to_z-of_z}
use mir.Syntax.{w64}
use mir.Val.{SFits}
use borrow.Author.Rules.{rules}
use borrow.Author.Tests.{eq-eqb, ne_eqb}
use Rattle.rows.specs.declared.Refusal.{Refusal}
use Rattle.rows.specs.Refusals.{number}
use Rattle.rows.proofs.Refusing.{refuses}
use Rattle.settlement.specs.declared.Interval.{Interval}
use Rattle.settlement.specs.Settled.{refused_by}
use Rattle.explanation.specs.declared.Side.{Side}
use Rattle.explanation.specs.Explanation.{None, side_of, behind_records}
use Rattle.explanation.specs.Found.{reason_of}
use Rattle.explanation.proofs.behind_records.Goals as goal

-- of an interval that is not refused
of_accepted : (end : ℕ) (j i : Interval) (side : Side) → j ≡ i → j.statement.refusal ≡ 0 → reason_of side ≡ side_of j.statement.settled j.statement.entitlement →
    record { refusal = 0; from = end; to = end; reason = reason_of side } ≡ behind_records end i.statement
unfolding behind_records
of_accepted end j i side same accepted e = rw (← same, eq-eqb _ _ accepted, accepted, e)

of_refused : (end : ℕ) (i : Interval) (refusal : Refusal) → refused_by (number refusal) ≡ i → record { refusal = number refusal; from = end; to = end; reason = None } ≡ behind_records end i.statement
unfolding behind_records
of_refused end i refusal same = rw (← same, ne_eqb _ _ (refuses refusal refl))

pub returns-in-Ok : goal.returns-in-Ok
returns-in-Ok c = λ i s.
    let settled_fits : SFits w64 c.in-Ok.i.statement.settled = search rules in
    let entitlement_fits : SFits w64 c.in-Ok.i.statement.entitlement = search rules in
    let t = rw c.in-Ok.is at s in
    of_accepted _ _ _ _ t.0 t.1 (rw (to_z-of_z settled_fits, to_z-of_z entitlement_fits) at c.side_of.ensures)

pub returns-in-Err : goal.returns-in-Err
returns-in-Err c = λ i s. of_refused _ _ _ (rw c.in-Err.is at s)

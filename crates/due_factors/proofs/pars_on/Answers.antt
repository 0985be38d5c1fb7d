-- `pars_on` meets its contract.
use borrow.Author.Tests.{eq-eqb, ne_eqb}
use mathlib.Core.Path.{refl}
use native.Mathlib.Omega.{arith}
use Rattle.due_factors.proofs.pars_on.Goals as goal

pub returns-then-target-eq0 : goal.returns-then-target-eq0
returns-then-target-eq0 c = rw (eq-eqb _ _ c.if-target-eq0.true) (refl, omega arith)

pub returns-else-target-eq0 : goal.returns-else-target-eq0
returns-else-target-eq0 c = rw (ne_eqb _ _ c.if-target-eq0.false) (refl, omega arith)

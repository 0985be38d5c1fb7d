-- `run_of` meets its contract, subject by subject.
use mathlib.Core.Path.{refl}
use native.Mathlib.Omega.{arith}
use Rattle.due_factors.specs.Due.{how_many}
use Rattle.due_factors.proofs.DueList.{in-units, in-zones, in-points, in-pars}
use Rattle.due_factors.proofs.run_of.Goals as goal

pub returns-then-i-n : goal.returns-then-i-n
unfolding how_many
returns-then-i-n c =
    let a = c.args in
    (λ t. in-units a.n t a.pars a.i c.if-i-n.true, refl, omega arith, omega arith)

pub returns-then-j-n : goal.returns-then-j-n
unfolding how_many
returns-then-j-n c =
    let a = c.args in
    (λ t. in-zones a.n t a.pars a.i c.if-i-n.false c.if-j-n.true, refl, omega arith, omega arith)

pub returns-then-k-n : goal.returns-then-k-n
unfolding how_many
returns-then-k-n c =
    let a = c.args in
    (λ t. in-points a.n t a.pars a.i c.if-i-n.false c.if-j-n.false c.if-k-n.true, refl, omega arith, omega arith)

pub returns : goal.returns
unfolding how_many
returns c =
    let a = c.args in
    (λ t. in-pars a.n t a.pars a.i (omega arith) (omega arith), refl, omega arith, omega arith)

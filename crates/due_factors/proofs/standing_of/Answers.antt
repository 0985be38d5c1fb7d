-- `standing_of` meets its contract.
use native.Mathlib.Omega.{arith}
use mathlib.Core.Path.{sym}
use Rattle.due_factors.proofs.ByTarget.{some-each, stands, standing-flowgate, standing-par}
use Rattle.due_factors.proofs.standing_of.Goals as goal

pub returns-then-k-each : goal.returns-then-k-each
returns-then-k-each c = sym (standing-flowgate c.args.n c.args.k (rw c.every-each.ensures.0 at c.if-k-each.true))

pub nonzero_div-result : goal.nonzero_div-result
nonzero_div-result c =
    let some = some-each c.args.n c.args.k (rw c.every-each.ensures.0 at c.if-k-each.false) c.requires.1 in
    omega (arith, c.every-each.ensures.0, some)

pub overflow_add-result : goal.overflow_add-result
overflow_add-result c =
    let a = c.args in
    let s = rw (standing-par a.n a.k (rw c.every-each.ensures.0 at c.if-k-each.false)) at (stands a.n a.k c.requires.1) in
    rw c.every-each.ensures.0 (omega (arith, s.known, c.requires.0.pars_most))

pub nonzero_rem-result : goal.nonzero_rem-result
nonzero_rem-result c = nonzero_div-result c

pub returns : goal.returns
returns c = rw c.every-each.ensures.0 (sym (standing-par c.args.n c.args.k (rw c.every-each.ensures.0 at c.if-k-each.false)))

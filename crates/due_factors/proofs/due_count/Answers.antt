-- `due_count` meets its contract.
use native.Mathlib.Omega.{arith}
use mathlib.Core.Path.{sym}
use Rattle.due_factors.proofs.DueList.{length_due, per_most}
use Rattle.due_factors.proofs.due_count.Goals as goal

pub overflow_mul-result : goal.overflow_mul-result
overflow_mul-result c = rw c.every-each.ensures.0 (omega (arith, per_most c.args.n c.requires))

pub overflow_add-result-2 : goal.overflow_add-result-2
overflow_add-result-2 c =
    let most = per_most c.args.n c.requires in
    rw c.every-each.ensures.0 (omega (arith, most, c.every-each.ensures, c.requires.pars_most))

pub returns : goal.returns
returns c = rw c.every-each.ensures.0 (sym (length_due c.args.n))

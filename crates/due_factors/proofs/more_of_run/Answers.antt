-- `more_of_run` meets its contract.
use mathlib.Core.Path.{sym, ◌∙◌}
use native.Mathlib.Omega.{arith}
use Rattle.records.specs.Codes.{subject_code}
use Rattle.due_factors.proofs.Runs.{more_at}
use Rattle.due_factors.proofs.ByTarget.{stands, due-standing}
use Rattle.due_factors.proofs.more_of_run.Goals as goal

pub run_of-run-requires : goal.run_of-run-requires
run_of-run-requires c =
    let a = c.args in
    let s = rw (← c.standing_of-at.ensures) at (stands a.n a.k c.requires.1) in
    (c.requires.0, rw c.pars_on.ensures.0 s.within)

pub returns : goal.returns
returns c =
    let a = c.args in
    let t = c.standing_of-at.result.target in
    let d = rw (← c.standing_of-at.ensures) at (due-standing a.n a.k c.requires.1) in
    let e = sym (rw c.pars_on.ensures.0 at (c.run_of-run.ensures.0 t)) ∙ d in
    let m = rw c.pars_on.ensures.0 at c.run_of-run.ensures.1 in
    omega (arith, m, more_at a.n a.k c.requires.1 t (subject_code c.run_of-run.result.subject) c.run_of-run.result.behind e)

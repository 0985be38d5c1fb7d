-- `due_at` meets its contract.
use mathlib.Core.Path.{◌∙◌, sym}
use Rattle.due_factors.proofs.ByTarget.{stands, due-standing}
use Rattle.due_factors.proofs.due_at.Goals as goal

pub run_of-run-requires : goal.run_of-run-requires
run_of-run-requires c =
    let a = c.args in
    let s = rw (← c.standing_of-at.ensures) at (stands a.n a.k c.requires.1) in
    (c.requires.0, rw c.pars_on.ensures.0 s.within)

pub returns : goal.returns
returns c =
    let a = c.args in
    let r = c.standing_of-at.result in
    let d = rw (← c.standing_of-at.ensures) at (due-standing a.n a.k c.requires.1) in
    rw c.code.ensures (sym (rw c.pars_on.ensures.0 at (c.run_of-run.ensures.0 r.target)) ∙ d)

-- `place_of` meets its contract.
use Prim.Native.Nat.{◌+◌, ◌*◌, ◌-◌, ◌<◌}
use native.Mathlib.Omega.{arith}
use Rattle.records.specs.Codes.{subject_code}
use mathlib.Core.Path.{sym}
use Rattle.due_factors.proofs.KeyPlaces.{place_flowgate, place_par, place_below}
use Rattle.due_factors.proofs.DueList.{length_due, per_most}
use Rattle.due_factors.proofs.place_of.Goals as goal
use Rattle.due_factors.proofs.place_of.Goals.{After-every-each}

-- the place is below the list's length, which is small
fits : (c : After-every-each) →
    let a = c.args in
    let q = c.every-each.result in
    q + a.n.pars + (a.target - 1) * q + (c.offset_of-offset.result + a.i) < 4096
fits c =
    let a = c.args in
    let asked = c.requires.1 in
    let few = c.requires.0 in
    let below = place_below a.n a.target (subject_code a.subject) a.i asked in
    let place = place_par a.n a.target (subject_code a.subject) a.i asked c.if-target-eq0.false in
    rw (c.every-each.ensures.0, c.offset_of-offset.ensures, ← place) (omega (arith, below, length_due a.n, per_most a.n few, few))

pub overflow_add-result : goal.overflow_add-result
overflow_add-result c =
    let a = c.args in
    let asked = c.requires.1 in
    let few = c.requires.0 in
    let below = place_below a.n a.target (subject_code a.subject) a.i asked in
    let e = place_flowgate a.n a.target (subject_code a.subject) a.i asked c.if-target-eq0.true in
    omega (arith, c.offset_of-offset.ensures, e, below, length_due a.n, per_most a.n few, few)

pub returns-then-target-eq0 : goal.returns-then-target-eq0
returns-then-target-eq0 c =
    let a = c.args in
    rw c.offset_of-offset.ensures (sym (place_flowgate a.n a.target (subject_code a.subject) a.i c.requires.1 c.if-target-eq0.true))

pub overflow_mul-result : goal.overflow_mul-result
overflow_mul-result c = omega (arith, fits c.before)

pub overflow_add-result-3 : goal.overflow_add-result-3
overflow_add-result-3 c = omega (arith, fits c.before)

pub overflow_add-result-4 : goal.overflow_add-result-4
overflow_add-result-4 c = omega (arith, fits c.before)

pub overflow_add-result-5 : goal.overflow_add-result-5
overflow_add-result-5 c = omega (arith, fits c.before)

pub returns : goal.returns
returns c =
    let a = c.args in
    let place = place_par a.n a.target (subject_code a.subject) a.i c.requires.1 c.if-target-eq0.false in
    rw (c.every-each.ensures.0, c.offset_of-offset.ensures) (sym place)

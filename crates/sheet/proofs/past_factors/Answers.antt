-- `past_factors` meets its contract: those of a run that are good pass.
use Prim.Native.Nat.{ℕ, ◌<◌}
use mathlib.Core.List.{List}
use mathlib.Core.Path.{◌≡◌}
use native.Mathlib.Omega.{arith}
use lib.ListN.{length, get_or}
use Rattle.due_factors.specs.declared.Counts.{Counts}
use Rattle.due_factors.specs.Due.{due_list, no_due}
use Rattle.due_factors.specs.inner.Places.{Few}
use Rattle.due_factors.proofs.DueList.{length_due, per_most}
use Rattle.due_factors.proofs.Runs.{RunDue, run_due}
use Rattle.layout.specs.declared.Layout.{Layout}
use Rattle.layout.specs.inner.Places.{counts_in, due_of, content_at}
use Rattle.sheet.specs.Passed.{Passed}
use Rattle.sheet.proofs.Passing.{passed_within, at-allowed}
use Rattle.sheet.proofs.FactorRuns.{listed_factors, run-passed}
use Rattle.sheet.proofs.past_factors.Goals as goal

few-there : (s : List ℕ) (l : Layout) (last at : ℕ) → Passed s at last (content_at s l) → Few (counts_in l)
few-there s l last at p = (at-allowed s at last l p).few

-- the run of the factor that is due behind those that are there
run-there : (s : List ℕ) (l : Layout) (last at many : ℕ) (n : Counts) → Passed s at last (content_at s l) → n ≡ counts_in l → many ≡ length (due_list n) → l.factors < many →
    RunDue (counts_in l) l.factors (get_or (due_of l) l.factors no_due)
run-there s l last at many n p e m below = run_due _ _ (rw e at (rw m at below)) (few-there s l last at p)

pub due_count-requires : goal.due_count-requires
due_count-requires c = rw c.counts_in-counts.ensures (few-there _ _ _ _ c.requires)

pub more_of_run-most-requires : goal.more_of_run-most-requires
more_of_run-most-requires c =
    let below = rw c.counts_in-counts.ensures at (rw c.due_count.ensures at c.if-due_count-l.false) in
    rw c.counts_in-counts.ensures (few-there _ _ _ _ c.requires, below)

pub due_at-requires : goal.due_at-requires
due_at-requires c =
    let below = rw c.counts_in-counts.ensures at (rw c.due_count.ensures at c.if-due_count-l.false) in
    rw c.counts_in-counts.ensures (few-there _ _ _ _ c.requires, below)

pub key_of-key-requires : goal.key_of-key-requires
key_of-key-requires c =
    let f = few-there _ _ _ _ c.requires in
    let r = run-there _ _ _ _ _ _ c.requires c.counts_in-counts.ensures c.due_count.ensures c.if-due_count-l.false in
    rw (rw c.counts_in-counts.ensures at c.due_at.ensures) (omega (arith, r.known, f.pars_most), r.subject, omega (arith, r.few))

pub good_factors-n-requires : goal.good_factors-n-requires
good_factors-n-requires c =
    let f = few-there _ _ _ _ c.requires in
    let r = run-there _ _ _ _ _ _ c.requires c.counts_in-counts.ensures c.due_count.ensures c.if-due_count-l.false in
    let k = rw (rw c.counts_in-counts.ensures at c.due_at.ensures) at c.key_of-key.ensures in
    let n = rw c.counts_in-counts.ensures at c.more_of_run-most.ensures in
    (passed_within _ c.requires, omega (arith, k, n, r.known, r.subject, r.few, f.pars_most))

pub overflow_add-l : goal.overflow_add-l
overflow_add-l c =
    let l = c.args.l.now in
    let f = few-there _ _ _ _ c.requires in
    let r = run-there _ _ _ _ _ _ c.requires c.counts_in-counts.ensures c.due_count.ensures c.if-due_count-l.false in
    let n = rw c.counts_in-counts.ensures at c.more_of_run-most.ensures in
    omega (arith, c.good_factors-n.ensures.0, n, r.below, length_due (counts_in l), per_most (counts_in l) f, f)

pub returns : goal.returns
returns c =
    let a = c.args in
    let n = c.good_factors-n.result in
    let r = run-there _ _ _ _ _ _ c.requires c.counts_in-counts.ensures c.due_count.ensures c.if-due_count-l.false in
    let is6 : a.last ≡ 6 = rw c.code.ensures at c.if-last-code.false in
    let d = rw c.counts_in-counts.ensures at c.due_at.ensures in
    let g = rw (c.key_of-key.ensures, d, rw c.counts_in-counts.ensures at c.more_of_run-most.ensures) at c.good_factors-n.ensures in
    (omega arith, rw is6 (run-passed a.s.now a.at a.l.now (rw is6 at c.requires) r n g.0 g.1), λ table t. rw is6 (listed_factors _ _ n table (rw is6 at t)))

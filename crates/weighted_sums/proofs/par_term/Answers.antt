-- `par_term` meets its contract.
use native.Mathlib.Omega.{arith}
use borrow.Author.Rules.{rules}
use Rattle.weighted_sums.specs.inner.Weighted.{power_of, weighted_term}
use Rattle.weighted_sums.proofs.Laws.{par_asked, over_small, par_power_read}
use Rattle.weighted_sums.proofs.par_term.Goals as goal

pub tenfold_in-power-requires : goal.tenfold_in-power-requires
tenfold_in-power-requires c = over_small _ _ c.args.sheet.now.accepted _ c.requires _ c.par_at-p.ensures _ c.over_target.ensures

pub weigh-requires : goal.weigh-requires
weigh-requires c =
    let a = c.args.sheet.now.accepted in
    let n = par_power_read _ _ a _ c.requires _ c.par_at-p.ensures _ c.over_target.ensures c.args.class _ c.tenfold_in-power.ensures in
    (par_asked _ _ a _ c.requires, rw n.is (omega (arith, n.abs)))

pub returns : goal.returns
unfolding weighted_term power_of
returns c =
    let n = par_power_read _ _ c.args.sheet.now.accepted _ c.requires _ c.par_at-p.ensures _ c.over_target.ensures c.args.class _ c.tenfold_in-power.ensures in
    let e = rw n.is at c.weigh.ensures in
    search (rules, e)

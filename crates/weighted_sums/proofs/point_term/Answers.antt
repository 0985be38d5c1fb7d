-- `point_term` meets its contract.
use native.Mathlib.Omega.{arith}
use borrow.Author.Rules.{rules}
use Rattle.weighted_sums.specs.inner.Weighted.{power_of, weighted_term}
use Rattle.weighted_sums.proofs.Laws.{point_asked, net_small, point_power_read}
use Rattle.weighted_sums.proofs.point_term.Goals as goal

pub tenfold_in-power-requires : goal.tenfold_in-power-requires
tenfold_in-power-requires c = net_small _ _ c.args.sheet.now.accepted _ c.requires.1 _ c.point_at-p.ensures _ c.net_schedule.ensures

pub weigh-requires : goal.weigh-requires
weigh-requires c =
    let a = c.args.sheet.now.accepted in
    let n = point_power_read _ _ a _ c.requires.1 _ c.point_at-p.ensures _ c.net_schedule.ensures c.args.class _ c.tenfold_in-power.ensures in
    (point_asked _ _ a c.requires.0 _ c.requires.1, rw n.is (omega (arith, n.abs)))

pub returns : goal.returns
unfolding weighted_term power_of
returns c =
    let n = point_power_read _ _ c.args.sheet.now.accepted _ c.requires.1 _ c.point_at-p.ensures _ c.net_schedule.ensures c.args.class _ c.tenfold_in-power.ensures in
    let e = rw n.is at c.weigh.ensures in
    search (rules, e)

-- `output_term` meets its contract.
use native.Mathlib.Omega.{arith}
use borrow.Author.Rules.{rules}
use Rattle.weighted_sums.specs.inner.Weighted.{power_of, weighted_term}
use Rattle.weighted_sums.proofs.Laws.{unit_asked, output_read}
use Rattle.weighted_sums.proofs.output_term.Goals as goal

pub weigh-requires : goal.weigh-requires
weigh-requires c =
    let a = c.args.sheet.now.accepted in
    let n = output_read _ _ a _ c.requires.1 _ c.unit_at-u.ensures _ c.from.ensures in
    (unit_asked _ _ a c.requires.0 _ c.requires.1, rw n.is (omega (arith, n.abs)))

pub returns : goal.returns
unfolding weighted_term power_of
returns c =
    let e = rw (output_read _ _ c.args.sheet.now.accepted _ c.requires.1 _ c.unit_at-u.ensures _ c.from.ensures).is at c.weigh.ensures in
    search (rules, e)

-- `points_of` meets its contract.
use mathlib.Core.Path.{◌≡◌}
use Prim.Native.Nat.{◌≤◌}
use native.Mathlib.Omega.{arith}
use borrow.Author.Rules.{rules}
use Rattle.due_factors.specs.Due.{how_many}
use Rattle.weighted_sums.specs.inner.Weighted.{weighted_term, members, weighted_sum}
use Rattle.sheet.specs.Sheet.{content_of}
use Rattle.sheet.proofs.Accepted.{valid, counts}
use Rattle.weighted_sums.proofs.Laws.{point_term_within}
use Rattle.weighted_sums.proofs.points_of.Goals as goal

pub sum_to-requires : goal.sum_to-requires
sum_to-requires c =
    let a = c.args.sheet.now.accepted in
    let few : c.args.sheet.now.layout.points ≤ 32 = omega (arith, (counts _ _ a).points, (valid _ _ a).points_most) in
    record {
      callable = λ i l. search rules;
      most = 104000000000;
      within = λ i r l p. let e : r ≡ weighted_term (content_of c.args.sheet.now.bytes.now) 3 c.args.class c.args.target i = search rules in rw e (point_term_within _ _ a c.args.class c.requires l);
      fits = omega (arith, few);
    }

pub returns : goal.returns
unfolding weighted_sum members how_many
returns c =
    let e = c.sum_to.ensures.is (weighted_term (content_of c.args.sheet.now.bytes.now) 3 c.args.class c.args.target) (λ i r l p. search rules) in
    let n = (counts _ _ c.args.sheet.now.accepted).points in
    search (rules, e, n)

-- `weighted_load` meets its contract.
use mathlib.Core.Path.{◌≡◌}
use Prim.Native.Nat.{◌≤◌}
use native.Mathlib.Omega.{arith}
use borrow.Author.Rules.{rules}
use Rattle.figures.specs.Flow.{load_term, weighted_load}
use Rattle.sheet.specs.Sheet.{content_of}
use Rattle.sheet.proofs.Accepted.{valid, counts}
use Rattle.weighted_sums.proofs.Laws.{load_term_within}
use Rattle.weighted_sums.proofs.weighted_load.Goals as goal

pub sum_to-requires : goal.sum_to-requires
sum_to-requires c =
    let a = c.args.sheet.now.accepted in
    let few : c.args.sheet.now.layout.zones ≤ 32 = omega (arith, (counts _ _ a).zones, (valid _ _ a).zones_most) in
    record {
      callable = λ i l. search rules;
      most = 104000000000;
      within = λ i r l p. let e : r ≡ load_term (content_of c.args.sheet.now.bytes.now) c.args.target i = search rules in rw e (load_term_within _ _ a c.requires.1 l);
      fits = omega (arith, few);
    }

pub returns : goal.returns
unfolding weighted_load
returns c =
    let e = c.sum_to.ensures.is (load_term (content_of c.args.sheet.now.bytes.now) c.args.target) (λ i r l p. search rules) in
    let n = (counts _ _ c.args.sheet.now.accepted).zones in
    search (rules, e, n)

-- `carried_sum` meets its contract.
use Prim.Native.Nat.{◌≤◌}
use mathlib.Core.Path.{◌≡◌}
use native.Mathlib.Omega.{arith}
use borrow.Author.Rules.{rules}
use Rattle.records.specs.Codes.{class_code}
use Rattle.sheet.specs.Sheet.{content_of}
use Rattle.sheet.proofs.Accepted.{counts}
use Rattle.figures.specs.Flow.{carried_term, carried_sum}
use Rattle.figures.specs.inner.Most.{most_over_par}
use Rattle.figures.proofs.Bounds.{carried_term_small}
use Rattle.generation_to_load.proofs.Laws.{is_valid}
use Rattle.market_flow.proofs.carried_sum.Goals as goal

pub sum_to-requires : goal.sum_to-requires
sum_to-requires c =
    let a = c.args.served.now.ready in
    let few : c.args.served.now.sheet.layout.pars ≤ 8 = omega (arith, (counts _ _ a.accepted).pars, (is_valid a).pars_most) in
    record {
      callable = λ i l. search rules;
      most = most_over_par;
      within = λ i r l p. let e : r ≡ carried_term (content_of c.args.served.now.sheet.bytes.now) (class_code c.args.class) i = search rules in
          rw e (carried_term_small (is_valid a) a.passed (class_code c.args.class) i (rw (counts _ _ a.accepted).pars at l));
      fits = omega (arith, few);
    }

pub returns : goal.returns
unfolding carried_sum
returns c =
    let e = c.sum_to.ensures.is (carried_term (content_of c.args.served.now.sheet.bytes.now) (class_code c.args.class)) (λ i r l p. search rules) in
    let n = (counts _ _ c.args.served.now.ready.accepted).pars in
    search (rules, e, n)

-- `path_sum` meets its contract.
use Prim.Native.Nat.{◌≤◌, ◌*◌}
use mathlib.Core.Path.{◌≡◌, ap}
use native.Mathlib.Omega.{arith}
use borrow.Author.Rules.{rules}
use Rattle.records.specs.declared.Circulation.{Circulation}
use Rattle.sheet.specs.Sheet.{content_of}
use Rattle.sheet.proofs.Accepted.{valid, counts}
use Rattle.figures.specs.Lake.{path_term, path_sum}
use Rattle.figures.proofs.Ranges.{paths_most, path_term_within, lake_whole}
use Rattle.settlement_flow.proofs.path_sum.Goals as goal

pub circulation_at-requires : goal.circulation_at-requires
circulation_at-requires c =
    let a = c.args.sheet.now.accepted in
    let n = counts _ _ a in
    omega (arith, n.circulations, lake_whole (valid _ _ a).lake (omega (arith, n.paths, c.requires)))

pub sum_to-requires : goal.sum_to-requires
sum_to-requires c =
    let a = c.args.sheet.now.accepted in
    let around = ap (λ (x : Circulation). x.flow) c.circulation_at.ensures in
    let few : c.args.sheet.now.layout.paths ≤ 4 = omega (arith, (counts _ _ a).paths, paths_most (valid _ _ a)) in
    record {
      callable = λ i l. search (rules, around);
      most = 1000000 * 10000 * 10;
      within = λ i r l p. let e : r ≡ path_term (content_of c.args.sheet.now.bytes.now) i = search (rules, around) in rw e (path_term_within (valid _ _ a) i (rw (counts _ _ a).paths at l));
      fits = omega (arith, few);
    }

pub returns : goal.returns
unfolding path_sum
returns c =
    let around = ap (λ (x : Circulation). x.flow) c.circulation_at.ensures in
    let e = c.sum_to.ensures.is (path_term (content_of c.args.sheet.now.bytes.now)) (λ i r l p. search (rules, around)) in
    let n = (counts _ _ c.args.sheet.now.accepted).paths in
    search (rules, e, n)

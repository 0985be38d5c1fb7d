-- `amount_of` sums the cells that count.
use native.Mathlib.Omega.{arith}
use mathlib.Core.Path.{◌≡◌}
use borrow.Author.Rules.{rules}
use Rattle.hour_cells.specs.Cells.{cell_at, amount_of}
use Rattle.hour_cells.proofs.Cells.{cell_at_within}
use Rattle.hour_cells.proofs.amount_of.Goals as goal

pub sum_to-requires : goal.sum_to-requires
unfolding cell_at
sum_to-requires c =
    record {
      callable = λ i l. search rules;
      most = 2000000000000;
      within = λ i r l p. let e : r ≡ cell_at c.args.amounts i = search rules in rw e (cell_at_within c.args.amounts i);
      fits = omega (arith, c.held.ensures.1);
    }

pub returns : goal.returns
unfolding amount_of cell_at
returns c =
    let e = c.sum_to.ensures.is (cell_at c.args.amounts) (λ i r l p. search rules) in
    search (rules, e)

-- `net` meets its contract.
use mathlib.Core.Path.{◌≡◌, ◌∙◌}
use native.Mathlib.Omega.{arith}
use borrow.Author.Rules.{rules}
use mir.Facts.{to_z-of_z}
use mir.Syntax.{w64}
use Rattle.zone_sums.specs.inner.Ledger.{figure_at}
use Rattle.zone_sums.proofs.net.Goals as goal

pub sum_to-requires : goal.sum_to-requires
unfolding figure_at
sum_to-requires c = record {
  callable = λ i h. search (rules, arith);
  most = 2048000000;
  within = λ i r h e.
      let is : r ≡ figure_at c.args.figures.now i = search rules in
      rw is (c.requires.1.most i (omega arith));
  fits = omega arith;
}

pub returns : goal.returns
unfolding figure_at
returns c = to_z-of_z {w = w64} (record { sfits = c.sum_to.type_inv }) ∙ c.sum_to.ensures.is _ (λ i r h e. search rules)

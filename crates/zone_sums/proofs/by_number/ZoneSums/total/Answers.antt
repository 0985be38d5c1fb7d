-- `total` meets its contract.
use mathlib.Core.Path.{◌≡◌, ◌∙◌}
use native.Mathlib.Omega.{arith}
use borrow.Author.Rules.{rules}
use mir.Facts.{to_z-of_z}
use mir.Syntax.{w64}
use Rattle.zone_sums.specs.inner.Ledger.{amount_at, total}
use Rattle.zone_sums.proofs.Laws.{amount_most}
use Rattle.zone_sums.proofs.by_number.ZoneSums.total.Goals as goal

pub sum_to-requires : goal.sum_to-requires
sum_to-requires c = record {
  callable = λ i h. search (rules, arith);
  most = 1024000000;
  within = λ i r h e.
      let is : r ≡ amount_at c.args.self.now.sums i = search rules in
      rw is (amount_most _ c.args.self.now.small i (omega arith));
  fits = omega arith;
}

pub returns : goal.returns
unfolding total
returns c = to_z-of_z {w = w64} (record { sfits = c.sum_to.type_inv }) ∙ c.sum_to.ensures.is _ (λ i r h e. search rules)

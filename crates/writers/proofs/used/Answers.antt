-- `used` finds the first zero byte.
use mathlib.Core.Path.{refl, ◌∙◌}
use lib.Dec.{eqb}
use borrow.Author.Rules.{rules}
use Rattle.std.proofs.Common.{tests}
use Rattle.std.proofs.lemmas.Iterator.{YieldsList-from_slice}
use Rattle.std.proofs.lemmas.Iterator.Search.{position_from_yields_List}
use Rattle.writers.proofs.Names.{used_is}
use Rattle.writers.proofs.used.Goals as goal

pub returns-clause-value : goal.returns-clause-value
returns-clause-value c =
    let p = position_from_yields_List (λ b. eqb b 0) _ _ c.position.result c.position.ensures.ran (YieldsList-from_slice c.args.name.now cc) (λ x b q k. search (rules, tests)) in
    c.unwrap_or.ensures ∙ rw p (used_is c.args.name.now _ refl)

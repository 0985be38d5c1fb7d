-- `settlement_flow` meets its contract.
use mathlib.Core.Path.{sym, ◌∙◌}
use mir.Facts.{to_z-of_z}
use borrow.Author.Rules.{rules}
use Rattle.figures.proofs.Bounds.{with_paths, without_paths}
use Rattle.settlement_flow.proofs.Paths.{paths_laid, adjusted}
use Rattle.settlement_flow.proofs.settlement_flow.Goals as goal

pub returns-then-not-has_paths : goal.returns-then-not-has_paths
returns-then-not-has_paths c =
    rw (to_z-of_z c.ranges.market) (c.requires.0 ∙ sym (without_paths _ _ (sym c.has_paths.ensures ∙ c.if-not-has_paths.true)))

pub impact-requires : goal.impact-requires
impact-requires c = paths_laid _ _ c.args.sheet.now.accepted (sym c.has_paths.ensures ∙ c.if-not-has_paths.false)

pub overflow_add-adjusted : goal.overflow_add-adjusted
overflow_add-adjusted c = (adjusted _ _ c.args.sheet.now.accepted _ c.requires.0 c.requires.1 _ c.impact.ensures).fits

pub returns : goal.returns
returns c =
    let a = (adjusted _ _ c.args.sheet.now.accepted _ c.requires.0 c.requires.1 _ c.impact.ensures).num.is in
    let w = with_paths _ c.args.watts (sym c.has_paths.ensures ∙ c.if-not-has_paths.false) in
    let e = rw (a, c.requires.0) at c.middle.ensures in
    rw w (search (rules, e))

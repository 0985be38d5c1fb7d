-- `text_of` takes the piece of that number.
use mathlib.Core.Path.{ap, ◌∙◌}
use borrow.Author.Rules.{rules}
use Rattle.std.proofs.Common.{tests}
use Rattle.std.proofs.lemmas.Iterator.Consumers.{nth_from_yields_List}
use Rattle.std.proofs.lemmas.Iterator.Splits.{YieldsList-from_slice_split}
use Rattle.texts.proofs.Texts.{zero_byte, piece_is, pointed}
use Rattle.texts.proofs.text_of.Goals as goal

pub returns : goal.returns
returns c =
    let s = c.split.ensures in
    let e = nth_from_yields_List c.nth.result _ _ c.nth.ensures.ran (YieldsList-from_slice_split _ zero_byte c.args.texts.now s.rest s.done s.closure (λ x b q k. search (rules, tests))) in
    ap (λ x. x.now) c.unwrap_or.ensures ∙ pointed c.nth.result _ ∙ rw e (piece_is c.args.texts.now c.args.n)

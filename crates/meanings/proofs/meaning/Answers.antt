-- `meaning` takes the entry of its table.
use mathlib.Core.Path.{◌∙◌}
use Rattle.writers.specs.Text.{ascii}
use Rattle.texts.specs.inner.Texts.{packed}
use Rattle.meanings.proofs.Meanings.{meaning_is, meaning_most}
use Rattle.meanings.proofs.meaning.Goals as goal

pub returns : goal.returns
unfolding ascii packed
returns c =
    let e = rw c.from.ensures at c.text_of.ensures in
    record { value = e ∙ meaning_is c.args.refusal; room = rw (e, meaning_is c.args.refusal) (meaning_most c.args.refusal) }

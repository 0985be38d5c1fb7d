-- `kind_word` takes the entry of its table.
use mathlib.Core.Path.{◌≡◌, refl, ◌∙◌}
use borrow.Author.Tests.{le-leb, lt-leb}
use Rattle.writers.specs.Text.{ascii}
use Rattle.texts.specs.inner.Texts.{packed}
use Rattle.meanings.specs.inner.Tables.{word_of}
use Rattle.meanings.proofs.Meanings.{word_is, word_most}
use Rattle.meanings.proofs.kind_word.Goals as goal
use Rattle.meanings.proofs.kind_word.Goals.{then-kind-le8, else-kind-le8}

pub returns : goal.returns
unfolding ascii packed
returns c =
    let place : c.from.result ≡ word_of c.args.kind = c.from.ensures ∙ elim c.if-kind-le8.branch [
      | then-kind-le8 w ↦ w.from-is ∙ rw (le-leb _ _ w.if-kind-le8.true) refl
      | else-kind-le8 w ↦ w.from-is ∙ rw (lt-leb _ _ w.if-kind-le8.false) refl
    ] in
    let e = rw place at c.text_of.ensures in
    record { value = e ∙ word_is c.args.kind; room = rw (e, word_is c.args.kind) (word_most c.args.kind) }

-- `listed` meets its contract: a search that has come to the first names answers for all.
use mathlib.Core.Path.{sym, ◌∙◌}
use native.Mathlib.Omega.{arith}
use Rattle.name_index.proofs.Table.{search-on, same_name_here}
use Rattle.name_index.proofs.listed.Goals as goal

pub returns-then-has_words : goal.returns-then-has_words
returns-then-has_words c =
    let k = search-on _ _ _ _ c.requires.3 c.loop-last.last c.loop-last-test.true c.loop-last.invariant in
    let e = rw (c.be64_at-high.ensures, c.be64_at-low.ensures) at c.has_words.ensures in
    sym (k.found (sym (e ∙ same_name_here _ _ _ _ (λ i. (c.type_inv.s i).fits) c.requires.1 k c.requires.0) ∙ c.if-has_words.true))

pub loop-last-smaller : goal.loop-last-smaller
loop-last-smaller c =
    let k = search-on _ _ _ _ c.requires.3 c.loop-last.last c.loop-last-test.true c.loop-last.invariant in
    omega (arith, k.less)

pub loop-last-preserved : goal.loop-last-preserved
loop-last-preserved c =
    let k = search-on _ _ _ _ c.requires.3 c.loop-last.last c.loop-last-test.true c.loop-last.invariant in
    let e = rw (c.be64_at-high.ensures, c.be64_at-low.ensures) at c.has_words.ensures in
    rw c.from-last-in-loop-last.ensures (k.next (sym (e ∙ same_name_here _ _ _ _ (λ i. (c.type_inv.s i).fits) c.requires.1 k c.requires.0) ∙ c.if-has_words.false))

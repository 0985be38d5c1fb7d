-- `ended` meets its contract.
use mathlib.Core.Path.{◌≡◌, refl, sym, ap, ◌∙◌}
use borrow.Author.Tests.{ne_eqb}
use Rattle.records.specs.Content.{Content}
use Rattle.record_rows.specs.Rows.{last_row, end_row}
use Rattle.layout.specs.declared.Layout.{Layout}
use Rattle.layout.specs.inner.Places.{counts_in}
use Rattle.layout.specs.Layout.{layout_of}
use Rattle.rows.proofs.Refusing.{refuses}
use Rattle.sheet.proofs.ended.Goals as goal

last_is : (c : Content) (l : Layout) → layout_of c ≡ l → last_row c ≡ end_row (counts_in l) l.factors l.paths l.circulations
unfolding layout_of last_row
last_is c l e = ap (λ (m : Layout). end_row (counts_in m) m.factors m.paths m.circulations) e

pub end_row-requires : goal.end_row-requires
end_row-requires c = rw c.counts_in.ensures c.requires.few

pub returns-in-Err : goal.returns-in-Err
returns-in-Err e = λ c q.
    let r = last_is c _ q ∙ sym (rw e.counts_in.ensures at e.in-Err.ensures) in
    rw (r, ne_eqb _ _ (refuses e.in-Err.refusal refl))

pub returns-in-Ok : goal.returns-in-Ok
returns-in-Ok e = λ c q.
    let r = last_is c _ q ∙ sym (rw e.counts_in.ensures at e.in-Ok.ensures) in
    rw (r, q)

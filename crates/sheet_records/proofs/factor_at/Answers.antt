-- `factor_at` meets its contract: the factor stands where its key is due.
use Prim.Native.Nat.{ℕ, ◌<◌}
use mathlib.Core.Path.{◌≡◌, sym, ◌∙◌}
use Rattle.std.specs.Prelude.{List}
use native.Mathlib.Omega.{arith}
use borrow.Author.Rules.{rules}
use mir.Facts.{to_z-of_z}
use mir.Val.{SFits}
use mir.Syntax.{w16, w64}
use Rattle.records.specs.Codes.{subject_code}
use Rattle.due_factors.specs.Due.{key, Asked}
use Rattle.due_factors.specs.inner.Places.{place_in}
use Rattle.due_factors.proofs.KeyPlaces.{place_below, place_holds}
use Rattle.layout.specs.declared.Layout.{Layout}
use Rattle.layout.specs.inner.Places.{counts_in, due_of}
use Rattle.sheet.specs.Sheet.{read_sheet, Accepted}
use Rattle.sheet.proofs.Accepted.{extent_is, allowed, all_due, factor_is, factor-there}
use Rattle.sheet_records.proofs.factor_at.Goals as goal

-- the sheet has the factor that is due at a place
there : (s : List ℕ) (l : Layout) (target subject i n : ℕ) → read_sheet s ≡ Accepted l → Asked l.zones l.units l.points l.pars target subject i → n ≡ place_in (due_of l) (key target subject i) → n < l.factors
there s l target subject i n p q e = rw (e, all_due _ _ p) (place_below (counts_in l) target subject i q)

pub place_of-n-requires : goal.place_of-n-requires
place_of-n-requires c = rw c.counts_in.ensures ((allowed _ _ c.args.sheet.now.accepted).few, c.requires)

pub body_at-requires : goal.body_at-requires
body_at-requires c =
    let p = c.args.sheet.now.accepted in
    let n : c.place_of-n.result ≡ place_in (due_of c.args.sheet.now.layout) (key c.args.target (subject_code c.args.subject) c.args.i) = rw (← c.counts_in.ensures) c.place_of-n.ensures in
    (omega (arith, extent_is _ _ p), there _ _ _ _ _ _ p c.requires n)

pub returns : goal.returns
returns c =
    let a = c.args in
    let p = a.sheet.now.accepted in
    let n = c.place_of-n.result in
    let v = counts_in a.sheet.now.layout in
    let e : n ≡ place_in (due_of a.sheet.now.layout) (key a.target (subject_code a.subject) a.i) = rw (← c.counts_in.ensures) c.place_of-n.ensures in
    let below = rw (← e) at (place_below v a.target (subject_code a.subject) a.i c.requires) in
    let told : SFits w16 c.factor_of-f.result.factor = search rules in
    let holds = rw (← e) at (place_holds v a.target (subject_code a.subject) a.i c.requires) in
    rw (to_z-of_z {w = w64} {z = c.from.result} (record { sfits = c.from.type_inv }), c.from.ensures, to_z-of_z {w = w16} told, c.factor_of-f.ensures, c.body_at.ensures.0)
    (sym (factor_is _ _ p a.target (subject_code a.subject) a.i n below holds ∙ rw (factor-there _ _ p n (there _ _ _ _ _ _ p c.requires e))))

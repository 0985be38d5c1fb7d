-- `good_factor` meets its contract.
use Prim.Native.Nat.{ℕ, ◌<◌}
use mathlib.Core.Path.{sym, ◌∙◌}
use native.Mathlib.Omega.{arith}
use borrow.Author.Tests.{eqb-true, not-true}
use Rattle.fields.specs.Fields.{byte_at}
use Rattle.rows.proofs.NotMet.{both}
use mir.Facts.{to_z-of_z}
use mir.Syntax.{w16}
use Rattle.sheet.proofs.good_factor.Goals as goal

pub returns : goal.returns
returns c =
    let f = c.sbe16_at in
    let bytes : (i : ℕ) → byte_at c.args.s.now i < 256 = λ i. omega (arith, c.type_inv.s i) in
    λ e.
    let a = both _ _ e in
    let b = both _ _ a.0 in
    record {
      bytes = bytes;
      whole = c.requires;
      kind = rw c.code.ensures at (eqb-true (byte_at c.args.s.now c.args.at) c.code.result b.0);
      bears = sym c.be32_at.ensures ∙ eqb-true _ _ b.1;
      range = rw (← f.ensures) (rw (to_z-of_z {w = w16} {z = f.result} (record { sfits = f.type_inv })) at (sym c.factor_beyond.ensures ∙ not-true _ a.1));
    }

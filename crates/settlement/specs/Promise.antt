-- What a statement promises: demands 1 and 2 (it is the one that the definition works out), payments that add to zero, and demand 3 whole.
use Rattle.std.specs.Prelude.{ℕ, ◌≡◌, List, ℤ, pos, ◌+ℤ◌}
use Rattle.records.specs.Content.{Content}
use Rattle.sheet.specs.Sheet.{holds, reading}
use Rattle.entitlements.specs.Entitlements.{Found}
use Rattle.entitlements.specs.Entitlements.{entitlement}
use Rattle.accuracy.specs.Accurate.{Accurate}
use Rattle.statement.specs.declared.Statement.{Statement}
use Rattle.settlement.specs.Settled.{flowgate, settled, figures_at}

-- an accepted interval: the sheet holds a content, the list an entitlement of its flowgate; the statement's figures are the content's at it, and accurate
pub record Accepted (sheet list : List ℕ) (s : Statement) (c : Content) (e : ℤ) : Type 0 where
  pub read : reading sheet ≡ holds c
  pub entitled : entitlement list (flowgate c) ≡ Found e
  pub figures : s ≡ figures_at c e
  pub accurate : Accurate c e

pub record Promise (sheet list : List ℕ) (s : Statement) : Type 0 where
  pub settles : s ≡ settled sheet list
  pub add_to_zero : s.nyiso +ℤ s.pjm ≡ pos 0
  pub accepted : s.refusal ≡ 0 → (c : Content) × (e : ℤ) × Accepted sheet list s c e

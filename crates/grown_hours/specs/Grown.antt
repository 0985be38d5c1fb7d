-- Hours grown from an empty one (02, request 1), and the sums over the intervals that they took.
use Rattle.std.specs.Prelude.{ℕ, ◌+◌, cond, List, [], ◌∷◌, eqb, ℤ, pos, ◌+ℤ◌}
use Rattle.records.specs.Content.{Content, head}
use Rattle.sheet.specs.Sheet.{Reading, holds, fails, reading}
use Rattle.entitlements.specs.Entitlements.{Entitlement}
use Rattle.entitlements.specs.Entitlements as found
use Rattle.entitlements.specs.Entitlements.{entitlement}
use Rattle.accuracy.specs.Fraction.{Fraction, entire, ◌⊕◌}
use Rattle.accuracy.specs.Exact.{exact_amount}
use Rattle.accuracy.specs.Accurate.{amount_bound, settlement_bound}
use Rattle.statement.specs.declared.Statement.{Statement}
use Rattle.settlement.specs.Settled.{Inputs, flowgate, interval, settled}
use Rattle.hours.specs.declared.Hour.{Hour}
use Rattle.hours.specs.Hour.{opened, refusal_of, added}

-- an hour after these inputs, one after the other
unfoldable pub grown : Hour → List Inputs → Hour
grown h [] = h
grown h (x ∷ xs) = grown (added h (interval x)).hour xs

abbrev pub hour_of : List Inputs → Hour
hour_of xs = grown opened xs

-- those among them that it takes
unfoldable pub taken_by : Hour → List Inputs → List Inputs
taken_by h [] = []
taken_by h (x ∷ xs) =
    let later = taken_by (added h (interval x)).hour xs in
    cond (eqb (refusal_of h (interval x)) 0) (x ∷ later) later

abbrev pub taken_of : List Inputs → List Inputs
taken_of xs = taken_by opened xs

-- a figure of their statements, each settled alone, together
unfoldable pub together : (Statement → ℤ) → List Inputs → ℤ
together figure [] = pos 0
together figure (x ∷ xs) = figure (settled x.sheet x.list) +ℤ together figure xs

unfoldable pub seconds_together : List Inputs → ℕ
seconds_together [] = 0
seconds_together (x ∷ xs) = (interval x).seconds + seconds_together xs

-- the exact amount of an accepted interval, and the bound of its amount's distance from it; 0 where it is refused
pub record Exact : Type 0 where
  pub amount : Fraction
  pub bound : Fraction

abbrev pub none : Exact
none = record { amount = entire (pos 0); bound = entire (pos 0) }

unfoldable pub exact_at : Content → Entitlement → Exact
exact_at c (found.Found e) = record { amount = exact_amount c e; bound = amount_bound (head c) (settlement_bound c) }
exact_at c (found.Refused row) = none

unfoldable pub exact_by : Inputs → Reading → Exact
exact_by x (holds c) = exact_at c (entitlement x.list (flowgate c))
exact_by x (fails number at) = none

-- those of several together
unfoldable pub exact_together : List Inputs → Exact
exact_together [] = none
exact_together (x ∷ xs) =
    let one = exact_by x (reading x.sheet) in
    let others = exact_together xs in
    record { amount = one.amount ⊕ others.amount; bound = one.bound ⊕ others.bound }

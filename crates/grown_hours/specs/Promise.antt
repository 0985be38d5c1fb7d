-- What the totals of an hour promise.
use Rattle.std.specs.Prelude.{◌≤◌, ◌≡◌, List, pos, ◌+ℤ◌}
use Rattle.accuracy.specs.Fraction.{Near}
use Rattle.statement.specs.declared.Statement.{Statement}
use Rattle.settlement.specs.Settled.{Inputs}
use Rattle.hours.specs.declared.Hour.{Hour}
use Rattle.hours.specs.declared.Totals.{Totals}
use Rattle.hours.specs.Totals.{totals_of}
use Rattle.grown_hours.specs.Grown.{hour_of, taken_of, together, seconds_together, exact_together}

-- the totals of an hour grown from an empty one, by the intervals that it took: amount and payments are sums of theirs, each
-- settled alone, and so 0 where there are none
pub record Sums (taken : List Inputs) (t : Totals) : Type 0 where
  pub seconds : t.seconds ≡ seconds_together taken
  pub seconds_most : t.seconds ≤ 3600
  pub amount : t.amount ≡ together (λ (s : Statement). s.amount) taken
  pub nyiso : t.nyiso ≡ together (λ (s : Statement). s.nyiso) taken
  pub pjm : t.pjm ≡ together (λ (s : Statement). s.pjm) taken
  -- the distance from the sum of the exact amounts is at most the sum of the intervals' bounds
  pub amount_near : Near t.amount (exact_together taken).amount (exact_together taken).bound

pub record Promise (h : Hour) (t : Totals) : Type 0 where
  pub totals : t ≡ totals_of h
  pub add_to_zero : t.nyiso +ℤ t.pjm ≡ pos 0
  pub grown : (xs : List Inputs) → h ≡ hour_of xs → Sums (taken_of xs) t

-- What settling an interval answers: refusals 1 to 22, with 28 behind 13, in the table's order, stage by stage, else every figure.
use Rattle.std.specs.Prelude.{ℕ, cond, List, eqb, ℤ}
use Rattle.records.specs.Codes.{nyiso, pjm, common}
use Rattle.records.specs.Content.{Content, head}
use Rattle.sheet.specs.Sheet.{Reading, holds, fails, reading}
use Rattle.entitlements.specs.Entitlements.{Entitlement}
use Rattle.entitlements.specs.Entitlements as found
use Rattle.entitlements.specs.Entitlements.{entitlement}
use Rattle.figures.specs.Balance.{balance_row}
use Rattle.figures.specs.Flow.{generation_to_load, first_remainder, second_remainder, parallel, shadow, redirect, non_common_redirect, market_flow, flow_row}
use Rattle.figures.specs.Lake.{has_paths, settlement_flow}
use Rattle.figures.specs.Payment.{in_watts, difference, price, amount, payment}
use Rattle.statement.specs.declared.Statement.{Statement}
use Rattle.statement.specs.Statement.{refused_as}
use Rattle.settlement.specs.declared.Interval.{Interval}

-- what an interval is settled from
pub record Inputs : Type 0 where
  pub sheet : List ℕ
  pub list : List ℕ

abbrev pub inputs : List ℕ → List ℕ → Inputs
inputs sheet list = record { sheet = sheet; list = list }

-- the figures of the flowgate, target 0, at an entitlement in tenths of a MW
unfoldable pub figures_at : Content → ℤ → Statement
figures_at c e = record {
  refusal = 0;
  name = (head c).name;
  has_paths = has_paths c;
  gtl = generation_to_load c 0;
  first_remainder = first_remainder c 0;
  second_remainder = second_remainder c 0;
  parallel = parallel c 0;
  shadow = shadow c 0;
  common = redirect c common;
  noncommon = non_common_redirect c;
  market = market_flow c;
  settled = settlement_flow c (in_watts e);
  entitlement = in_watts e;
  price = price (head c) (difference c e);
  amount = amount c e;
  nyiso = payment (head c) (amount c e) nyiso;
  pjm = payment (head c) (amount c e) pjm;
}

-- the statement with the sheet's seconds and Monitoring RTO, which an hour keeps (02, request 1)
unfoldable pub interval_at : Content → ℤ → Interval
interval_at c e = record { statement = figures_at c e; seconds = (head c).seconds; monitoring_rto = (head c).monitoring_rto }

-- a refused interval has zeros everywhere else
abbrev pub refused_by : ℕ → Interval
refused_by row = record { statement = refused_as row; seconds = 0; monitoring_rto = 0 }

-- a stage answers the row that it met, or 0 and then what comes behind it
abbrev pub unless_met : ℕ → Interval → Interval
unless_met row behind = cond (eqb row 0) behind (refused_by row)

-- the settlement flow: row 22
unfoldable pub after_balance : Content → ℤ → Interval
after_balance c e = unless_met (flow_row (settlement_flow c (in_watts e))) (interval_at c e)

-- the balance: rows 16 to 21
unfoldable pub after_list : Content → ℤ → Interval
after_list c e = unless_met (balance_row c) (after_balance c e)

-- the entitlement list: rows 14 and 15
unfoldable pub by_list : Content → Entitlement → Interval
by_list c (found.Found e) = after_list c e
by_list c (found.Refused row) = refused_by row

-- the flowgate's name in the sheet's head
abbrev pub flowgate : Content → List ℕ
flowgate c = (head c).name

unfoldable pub after_sheet : Content → Inputs → Interval
after_sheet c x = by_list c (entitlement x.list (flowgate c))

-- the sheet: rows 1 to 13 and 28
unfoldable pub by_sheet : Inputs → Reading → Interval
by_sheet x (holds c) = after_sheet c x
by_sheet x (fails number at) = refused_by number

unfoldable pub interval : Inputs → Interval
interval x = by_sheet x (reading x.sheet)

-- the statement of a sheet and an entitlement list
unfoldable pub settled : List ℕ → List ℕ → Statement
settled sheet list = (interval (inputs sheet list)).statement

-- What an hour comes to (02, request 1): its seconds, its amount, and the payments of the two RTOs.
use Rattle.std.specs.Prelude.{cond, eqb, ℤ, neg_ℤ}
use Rattle.records.specs.Codes.{nyiso}
use Rattle.hour_cells.specs.Cells.{seconds_of, amount_of}
use Rattle.hours.specs.declared.Hour.{Hour}
use Rattle.hours.specs.declared.Totals.{Totals}

abbrev pub hour_amount : Hour → ℤ
hour_amount h = amount_of h.amounts h.count

-- the Monitoring RTO's hourly payment is the amount, the other's its negative
unfoldable pub totals_of : Hour → Totals
totals_of h = record {
  seconds = seconds_of h.seconds h.count;
  amount = hour_amount h;
  nyiso = cond (eqb h.monitoring_rto nyiso) (hour_amount h) (neg_ℤ (hour_amount h));
  pjm = cond (eqb h.monitoring_rto nyiso) (neg_ℤ (hour_amount h)) (hour_amount h);
}

-- An interval put together from its head, flow, settlement flow and payment.
use Rattle.std.specs.Prelude.{Bool, ℤ, ◌≡◌, Result, Ok, Err}
use Rattle.rows.specs.declared.Refusal.{Refusal}
use Rattle.rows.specs.Refusals.{number}
use Rattle.records.specs.declared.Head.{Head}
use Rattle.market_flow.specs.declared.Flow.{Flow}
use Rattle.payment.specs.declared.Payment.{Payment}
use Rattle.settlement.specs.declared.Interval.{Interval}
use Rattle.settlement.specs.Settled.{refused_by}

-- paths: whether the sheet has paths
abbrev pub interval_of : Head → Flow → Bool → ℤ → Payment → Interval
interval_of h f paths settled p = record {
  statement = record {
    refusal = 0;
    name = h.name;
    has_paths = paths;
    gtl = f.gtl;
    first_remainder = f.first_remainder;
    second_remainder = f.second_remainder;
    parallel = f.parallel;
    shadow = f.shadow;
    common = f.common;
    noncommon = f.noncommon;
    market = f.market;
    settled = settled;
    entitlement = p.entitlement;
    price = p.price;
    amount = p.amount;
    nyiso = p.nyiso;
    pjm = p.pjm;
  };
  seconds = h.seconds;
  monitoring_rto = h.monitoring_rto;
}

-- a stage settles an interval: the interval, which is not refused, or the refusal whose number it has
abbrev pub Settles : Result Interval Refusal → Interval → Type 0
Settles (Ok i) x = (i ≡ x) × (i.statement.refusal ≡ 0)
Settles (Err refusal) x = refused_by (number refusal) ≡ x

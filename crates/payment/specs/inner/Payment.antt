-- What is paid on a flow at an entitlement in watts, by the head's prices, seconds and Monitoring RTO (document 01, 'The payment').
use Rattle.std.specs.Prelude.{◌≤◌, ℤ, nat_abs, ◌-ℤ◌}
use Rattle.records.specs.declared.Head.{Head}
use Rattle.records.specs.Codes.{nyiso, pjm}
use Rattle.record_rows.specs.inner.Valid.{HeadFits}
use Rattle.figures.specs.Flow.{most_flow}
use Rattle.figures.specs.Payment.{price, amount_of, payment}
use Rattle.payment.specs.declared.Payment.{Payment}

unfoldable pub payment_of : Head → ℤ → ℤ → Payment
payment_of h flow watts = record {
  entitlement = watts;
  price = price h (flow -ℤ watts);
  amount = amount_of h (flow -ℤ watts);
  nyiso = payment h (amount_of h (flow -ℤ watts)) nyiso;
  pjm = payment h (amount_of h (flow -ℤ watts)) pjm;
}

-- what rows 9, 14 and 22 leave
pub record Payable (h : Head) (flow watts : ℤ) : Type 0 where
  pub head_fits : HeadFits h
  pub flow_most : nat_abs flow ≤ most_flow
  pub watts_most : nat_abs watts ≤ most_flow

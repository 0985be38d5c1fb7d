-- The payment (7.2). Prices are cents per MWh, amounts thousandths of a cent, entitlements tenths of a MW.
use Rattle.std.specs.Prelude.{ℕ, zero, suc, cond, eqb, ℤ, pos, negsuc, neg_ℤ, ◌-ℤ◌, ◌*ℤ◌}
use Rattle.quotient.specs.Rounded.{quotient}
use Rattle.records.specs.declared.Head.{Head}
use Rattle.records.specs.Content.{Content, head}
use Rattle.figures.specs.Lake.{settlement_flow}

-- an entitlement in watts
unfoldable pub in_watts : ℤ → ℤ
in_watts entitlement = entitlement *ℤ pos 100000

-- the settlement flow takes the market flow's place (document 02, request 6)
unfoldable pub difference : Content → ℤ → ℤ
difference c entitlement = settlement_flow c (in_watts entitlement) -ℤ in_watts entitlement

-- a difference's price: above zero the Monitoring price, below zero the Non-Monitoring price, at zero 0
unfoldable pub price : Head → ℤ → ℤ
price h (pos zero) = pos 0
price h (pos (suc n)) = pos h.monitoring_price
price h (negsuc n) = pos h.nonmonitoring_price

-- a difference's amount
unfoldable pub amount_of : Head → ℤ → ℤ
amount_of h d = quotient (d *ℤ price h d *ℤ pos h.seconds) (pos 3600000)

unfoldable pub amount : Content → ℤ → ℤ
amount c entitlement = amount_of (head c) (difference c entitlement)

-- The payment of an RTO, positive where it receives: the Monitoring RTO's is the amount, the other's its negative
unfoldable pub payment : Head → ℤ → ℕ → ℤ
payment h amount rto = cond (eqb h.monitoring_rto rto) amount (neg_ℤ amount)

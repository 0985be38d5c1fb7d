-- A difference's price goes by its sign alone; and how large the payment's figures can be where refusal 22 is not met.
use Prim.Native.Nat.{ℕ, zero, suc, ◌≤◌}
use native.Mathlib.Nat.{le_refl}
use native.Mathlib.Omega.{arith}
use mathlib.Core.Path.{◌≡◌, refl, sym}
use mathlib.Core.Bool.{Bool, true, false, cond}
use borrow.Author.Tests.{ltb-false, eqb-true, eqb-false}
use lib.Dec.{eqb, ltb}
use lib.IntN.{ℤ, pos, negsuc, neg_ℤ, nat_abs, ◌*ℤ◌, neg_ℤ-neg_ℤ}
use lib.Signed.{◌≤ℤ◌, ◌<ℤ◌}
use Rattle.integers.proofs.Parts.{lt_to}
use Rattle.integers.proofs.Absolute.{abs_sub, abs_neg}
use Rattle.rows.proofs.NotMet.{row_pass}
use Rattle.records.specs.declared.Head.{Head}
use Rattle.records.specs.Codes.{nyiso, pjm}
use Rattle.records.specs.Content.{Content, head}
use Rattle.record_rows.specs.inner.Valid.{Valid, HeadFits}
use Rattle.figures.specs.Flow.{most_flow, flow_row}
use Rattle.figures.specs.Lake.{settlement_flow}
use Rattle.figures.specs.Payment.{in_watts, difference, price, amount_of, amount, payment}
use Rattle.figures.specs.inner.Most.{most_difference, most_amount}
use Rattle.figures.proofs.Numbers.{natural_least, times_within, quotient_share}

pub price_above : (h : Head) (d : ℤ) → pos 0 <ℤ d → price h d ≡ pos h.monitoring_price
unfolding price
price_above h (pos zero) l = let z : ⊥ = omega (arith, lt_to l) in absurd z
price_above h (pos (suc n)) l = refl
price_above h (negsuc n) l = absurd l.lt

pub price_below : (h : Head) (d : ℤ) → d <ℤ pos 0 → price h d ≡ pos h.nonmonitoring_price
unfolding price
price_below h (pos n) l = let z : ⊥ = omega (arith, lt_to l) in absurd z
price_below h (negsuc n) l = refl

pub price_zero : (h : Head) → price h (pos 0) ≡ pos 0
unfolding price
price_zero h = refl

pub price_least : (h : Head) (d : ℤ) → pos 0 ≤ℤ price h d
unfolding price
price_least h (pos zero) = natural_least 0
price_least h (pos (suc n)) = natural_least h.monitoring_price
price_least h (negsuc n) = natural_least h.nonmonitoring_price

module _ {h : Head} (f : HeadFits h) where
  pub price_within : (d : ℤ) → nat_abs (price h d) ≤ 400000
  unfolding price
  price_within (pos zero) = omega arith
  price_within (pos (suc n)) = f.monitoring_price
  price_within (negsuc n) = f.nonmonitoring_price

  -- difference × price × seconds, and its rounded quotient
  pub charge_within : (d : ℤ) → nat_abs d ≤ most_difference → nat_abs (d *ℤ price h d *ℤ pos h.seconds) ≤ 7200000000000000000
  charge_within d l = times_within (d *ℤ price h d) (pos h.seconds) (times_within d (price h d) l (price_within d)) f.seconds_most

  pub amount_of_within : (d : ℤ) → nat_abs d ≤ most_difference → nat_abs (amount_of h d) ≤ most_amount
  unfolding amount_of
  amount_of_within d l = quotient_share (d *ℤ price h d *ℤ pos h.seconds) (pos 3600000) most_amount (record { lt = tt }) (charge_within d l)

pub flow_within : (flow : ℤ) → flow_row flow ≡ 0 → nat_abs flow ≤ most_flow
unfolding flow_row
flow_within flow e = omega (arith, ltb-false, (row_pass 21 (ltb most_flow (nat_abs flow)) 0 e).0)

pub in_watts_within : (entitlement : ℤ) → nat_abs entitlement ≤ 100000 → nat_abs (in_watts entitlement) ≤ most_flow
unfolding in_watts
in_watts_within entitlement h = times_within entitlement (pos 100000) h (le_refl 100000)

module _ (c : Content) (entitlement : ℤ) (e : flow_row (settlement_flow c (in_watts entitlement)) ≡ 0) (h : nat_abs entitlement ≤ 100000) where
  pub difference_within : nat_abs (difference c entitlement) ≤ most_difference
  unfolding difference
  difference_within =
      let flow = settlement_flow c (in_watts entitlement) in
      omega (arith, abs_sub flow (in_watts entitlement), flow_within flow e, in_watts_within entitlement h)

  pub amount_within : Valid c → nat_abs (amount c entitlement) ≤ most_amount
  unfolding amount
  amount_within v = amount_of_within v.head_fits (difference c entitlement) difference_within

-- the two payments of an amount: one is the other's negative, and neither is larger than it
pub payments_opposite : {h : Head} → HeadFits h → (a : ℤ) → payment h a pjm ≡ neg_ℤ (payment h a nyiso)
unfolding payment
payments_opposite {h} f a = go (eqb h.monitoring_rto 1) refl
  where
    go : (b : Bool) → eqb h.monitoring_rto 1 ≡ b → cond (eqb h.monitoring_rto 2) a (neg_ℤ a) ≡ neg_ℤ (cond b a (neg_ℤ a))
    go true p = rw (eqb-true h.monitoring_rto 1 p)
    go false p =
        let two : h.monitoring_rto ≡ 2 = omega (arith, eqb-false h.monitoring_rto 1 p) in
        rw two (sym (neg_ℤ-neg_ℤ a))

pub payment_within : (h : Head) (a : ℤ) (rto : ℕ) {k : ℕ} → nat_abs a ≤ k → nat_abs (payment h a rto) ≤ k
unfolding payment
payment_within h a rto {k} l = go (eqb h.monitoring_rto rto)
  where
    go : (b : Bool) → nat_abs (cond b a (neg_ℤ a)) ≤ k
    go true = l
    go false = rw (abs_neg a) l

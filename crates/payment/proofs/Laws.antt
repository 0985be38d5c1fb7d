-- Bounds: nothing on the way to the amount leaves an i64.
use Prim.Native.Nat.{◌≤◌}
use mathlib.Core.Path.{◌≡◌, refl}
use native.Mathlib.Omega.{arith}
use lib.Dec.{lit<}
use lib.IntN.{ℤ, pos, nat_abs, ◌-ℤ◌, ◌*ℤ◌}
use mir.Syntax.{w64}
use mir.Val.{to_z}
use Rattle.integers.proofs.Machine.{Op, rd, num, num_is, num_u, mul, sub}
use Rattle.records.specs.declared.Head.{Head}
use Rattle.record_rows.specs.inner.Valid.{HeadFits}
use Rattle.figures.specs.Payment.{in_watts, price}
use Rattle.figures.proofs.Payments.{price_within}
use Rattle.payment.specs.inner.Payment.{Payable}

module _ (h : Head) (v : HeadFits h) (d : ℤ) (b : nat_abs d ≤ 20000000000) where
  -- difference × price, then × seconds, where p is the price as the call returned it
  pub first_product : (p : ℤ) → p ≡ price h d → Op (rd d *ℤ rd p) (d *ℤ price h d) 8000000000000000
  first_product p e = mul (num d 20000000000 b (lit< tt)) (num_is p _ 400000 e (price_within v d) (lit< tt)) (lit< tt)

  pub second_product : (p : ℤ) → p ≡ price h d → Op (rd (rd d *ℤ rd p) *ℤ to_z w64 h.seconds) (d *ℤ price h d *ℤ pos h.seconds) 7200000000000000000
  second_product p e = mul (first_product p e).num (num_u _ 900 v.seconds_most (lit< tt)) (lit< tt)

-- an entitlement in watts
pub in_watts_lem : (e : ℤ) → nat_abs e ≤ 100000 → Op (rd e *ℤ pos 100000) (in_watts e) 10000000000
unfolding in_watts
in_watts_lem e h = mul {B = 100000} (num e 100000 h (lit< tt)) (record { is = refl; abs = omega arith }) (lit< tt)

-- the difference
pub gap : (h : Head) (flow watts : ℤ) → Payable h flow watts → Op (rd flow -ℤ rd watts) (flow -ℤ watts) 20000000000
gap h flow watts v = sub (num flow 10000000000 v.flow_most (lit< tt)) (num watts 10000000000 v.watts_most (lit< tt)) (lit< tt)

-- How large the figures of an accepted statement are at most, and that its flowgate's name has 16 bytes.
use Prim.Native.Nat.{ℕ, ◌≤◌}
use native.Mathlib.Decide.{ℕ_discrete}
use native.Mathlib.Omega.{arith}
use mathlib.Core.Path.{◌≡◌, refl, sym}
use mathlib.Core.Bool.{Bool, true, false, cond}
use mathlib.Core.List.{List}
use lib.IntN.{ℤ, pos, nat_abs, neg_ℤ}
use lib.ListN.{length}
use lib.Signed.{◌≤ℤ◌}
use Rattle.records.specs.Codes.{nyiso, common}
use Rattle.records.specs.Content.{Content, head}
use Rattle.record_rows.specs.inner.Valid.{Valid}
use Rattle.entitlements.specs.Entitlements as found
use Rattle.entitlements.specs.Entitlements.{row14, entries_of, look_up, entitlement}
use Rattle.entitlements.proofs.Answers.{value_within}
use Rattle.entitlements.proofs.ByRecord.{look_other_length}
use Rattle.figures.specs.Balance.{balance_row}
use Rattle.figures.specs.Flow.{most_flow, flow_row}
use Rattle.figures.specs.Lake.{settlement_flow}
use Rattle.figures.specs.Payment.{in_watts, difference, amount}
use Rattle.figures.specs.inner.Most.{most_power, most_generation_to_load, most_schedule, most_redirect, most_market, most_amount}
use Rattle.figures.proofs.Ranges.{parallel-within, shadow-within}
use Rattle.figures.proofs.Bounds.{first-remainder-small, generation-to-load-small, second-remainder-small, redirect_small, non_common_redirect_small, market_flow_small, without_paths}
use Rattle.figures.proofs.Payments.{price_within, price_least, flow_within, in_watts_within, amount_within, payments_opposite, payment_within}
use Rattle.statement.specs.declared.Statement.{Statement}
use Rattle.settlement.specs.Settled.{inputs, figures_at, flowgate, settled}
use Rattle.settlement.proofs.Promised.{holds_valid, no_row_met, statement_is}

-- a price is not negative, and PJM's payment is the negative of NYISO's. Row 22 leaves the market flow of a sheet with paths as large as it can be
pub record Bounded (s : Statement) : Type 0 where
  pub name : length s.name ≡ 16
  pub gtl : nat_abs s.gtl ≤ most_generation_to_load
  pub first_remainder : nat_abs s.first_remainder ≤ most_power
  pub second_remainder : nat_abs s.second_remainder ≤ most_power
  pub parallel : nat_abs s.parallel ≤ most_schedule
  pub shadow : nat_abs s.shadow ≤ most_schedule
  pub common : nat_abs s.common ≤ most_redirect
  pub noncommon : nat_abs s.noncommon ≤ most_redirect
  pub market : nat_abs s.market ≤ most_market
  pub settled : nat_abs s.settled ≤ most_flow
  pub unsettled : s.has_paths ≡ false → s.market ≡ s.settled
  pub entitlement : nat_abs s.entitlement ≤ most_flow
  pub price : nat_abs s.price ≤ 400000
  pub price_least : pos 0 ≤ℤ s.price
  pub amount : nat_abs s.amount ≤ most_amount
  pub nyiso : nat_abs s.nyiso ≤ most_amount
  pub pjm : s.pjm ≡ neg_ℤ s.nyiso

-- every entry's name has 16 bytes, and so has one that is found
found_sized : (list name : List ℕ) (e : ℤ) → entitlement list name ≡ found.Found e → length name ≡ 16
unfolding entitlement
found_sized list name e q = by (ℕ_discrete (length name) 16)
  where
    go : (b : Bool) → row14 list ≡ b → cond b (found.Refused 14) (look_up (entries_of list) name) ≡ found.Found e → (length name ≡ 16 → ⊥) → ⊥
    go true r q n = let z : ◌≡◌ {A = ℕ} 0 1 = cc in omega arith
    go false r q n = let z : ◌≡◌ {A = ℕ} 0 1 = cc (look_other_length list name r n) in omega arith

    by : Dec (length name ≡ 16) → length name ≡ 16
    by (yes h) = h
    by (no h) = absurd (go (row14 list) refl q h)

figures_bounded : (c : Content) (e : ℤ) → Valid c → balance_row c ≡ 0 → flow_row (settlement_flow c (in_watts e)) ≡ 0 → nat_abs e ≤ 100000 → length (flowgate c) ≡ 16 → Bounded (figures_at c e)
unfolding figures_at
figures_bounded c e v b f h n =
    let k : 0 ≤ length c.pars = omega arith in
    let a = amount_within c e f h v in
    record {
      name = n;
      gtl = generation-to-load-small v b k;
      first_remainder = first-remainder-small v b k;
      second_remainder = second-remainder-small v b k;
      parallel = parallel-within v k;
      shadow = shadow-within v k;
      common = redirect_small v b common;
      noncommon = non_common_redirect_small v b;
      market = market_flow_small v b;
      settled = flow_within (settlement_flow c (in_watts e)) f;
      unsettled = λ n. sym (without_paths c (in_watts e) n);
      entitlement = in_watts_within e h;
      price = price_within v.head_fits (difference c e);
      price_least = price_least (head c) (difference c e);
      amount = a;
      nyiso = payment_within (head c) (amount c e) nyiso a;
      pjm = payments_opposite v.head_fits (amount c e);
    }

pub bounded : (sheet list : List ℕ) → (settled sheet list).refusal ≡ 0 → Bounded (settled sheet list)
unfolding settled
bounded sheet list z =
    let n = no_row_met (inputs sheet list) z in
    let c = n.0 in
    let e = n.1 in
    let m = n.2 in
    rw (statement_is m)
    (figures_bounded c e (holds_valid sheet c m.read) m.balanced m.inside (value_within list (flowgate c) e m.entitled) (found_sized list (flowgate c) e m.entitled))

-- Each stage of the settlement: refused by its row, or passed on.
use Prim.Native.Nat.{◌≤◌}
use mathlib.Core.Path.{◌≡◌, refl}
use borrow.Author.Tests.{eq-eqb, ne_eqb}
use lib.IntN.{ℤ, nat_abs}
use Rattle.records.specs.Content.{Content, head}
use Rattle.record_rows.specs.inner.Valid.{Valid}
use Rattle.figures.specs.Balance.{balance_row}
use Rattle.figures.specs.Flow.{flow_row}
use Rattle.figures.specs.Lake.{has_paths, settlement_flow}
use Rattle.figures.specs.Payment.{in_watts, difference, amount}
use Rattle.figures.proofs.Payments.{flow_within, in_watts_within}
use Rattle.market_flow.specs.inner.Flow.{flow_of}
use Rattle.payment.specs.inner.Payment.{payment_of, Payable}
use Rattle.settlement.specs.Settled.{figures_at, interval_at, refused_by, after_balance, after_list}
use Rattle.settlement.specs.inner.Parts.{interval_of}

module _ (c : Content) (e : ℤ) where
  pub flow_refused : (flow_row (settlement_flow c (in_watts e)) ≡ 0 → ⊥) → after_balance c e ≡ refused_by (flow_row (settlement_flow c (in_watts e)))
  unfolding after_balance
  flow_refused n = rw (ne_eqb _ _ n)

  pub flow_passed : flow_row (settlement_flow c (in_watts e)) ≡ 0 → after_balance c e ≡ interval_at c e
  unfolding after_balance
  flow_passed z = rw (eq-eqb _ _ z)

  pub figures_are : interval_of (head c) (flow_of c) (has_paths c) (settlement_flow c (in_watts e)) (payment_of (head c) (settlement_flow c (in_watts e)) (in_watts e)) ≡ interval_at c e
  unfolding interval_at figures_at amount difference payment_of
  figures_are = refl

  pub payable : Valid c → flow_row (settlement_flow c (in_watts e)) ≡ 0 → nat_abs e ≤ 100000 → Payable (head c) (settlement_flow c (in_watts e)) (in_watts e)
  payable v z b = record { head_fits = v.head_fits; flow_most = flow_within (settlement_flow c (in_watts e)) z; watts_most = in_watts_within e b }

  pub balance_refused : (balance_row c ≡ 0 → ⊥) → after_list c e ≡ refused_by (balance_row c)
  unfolding after_list
  balance_refused n = rw (ne_eqb _ _ n)

  pub balance_passed : balance_row c ≡ 0 → after_list c e ≡ after_balance c e
  unfolding after_list
  balance_passed z = rw (eq-eqb _ _ z)

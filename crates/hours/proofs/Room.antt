-- What an hour that refuses nothing has; its amount and the negative of it as machine numbers.
use Prim.Native.Nat.{ℕ, ◌+◌, ◌<◌, ◌≤◌}
use native.Mathlib.Omega.{arith}
use mathlib.Core.Path.{◌≡◌}
use mathlib.Core.Bool.{false}
use mathlib.Core.List.{List}
use borrow.Author.Tests.{ltb-false, leb-false}
use lib.Dec.{ltb, leb}
use lib.IntN.{ℤ, pos, neg_ℤ, ◌-ℤ◌, +ℤ_idl}
use Rattle.rows.proofs.NotMet.{row_pass}
use Rattle.integers.proofs.Absolute.{abs_neg}
use Rattle.integers.proofs.Machine.{Op, op, rd, num_is}
use Rattle.settlement.specs.declared.Interval.{Interval}
use Rattle.hour_cells.specs.Cells.{seconds_of, amount_of}
use Rattle.hour_cells.proofs.Cells.{amount_within}
use Rattle.hours.specs.declared.Hour.{Hour}
use Rattle.hours.specs.Hour.{is_other, hour_row}

module _ (r : ℤ) (amounts : List ℤ) (count : ℕ) (e : r ≡ amount_of amounts count) where
  pub itself : rd r ≡ amount_of amounts count
  itself = (num_is r (amount_of amounts count) 120000000000000 e (amount_within amounts count) (omega arith)).is

  pub negated : Op (pos 0 -ℤ rd r) (neg_ℤ (amount_of amounts count)) 120000000000000
  negated =
      op (rw itself (+ℤ_idl (neg_ℤ (amount_of amounts count)))) (omega (arith, abs_neg (amount_of amounts count), amount_within amounts count)) (omega arith)

-- what rows 24 to 26 leave where none of them is met
pub record Admits (h : Hour) (i : Interval) : Type 0 where
  pub room : h.count < 60
  pub time : seconds_of h.seconds h.count + i.seconds ≤ 3600
  pub one : is_other h i ≡ false

pub admits : (h : Hour) (i : Interval) → hour_row h i ≡ 0 → Admits h i
unfolding hour_row
admits h i e =
    let a = row_pass 23 (leb 60 h.count) _ e in
    let b = row_pass 24 (ltb 3600 (seconds_of h.seconds h.count + i.seconds)) _ a.1 in
    let c = row_pass 25 (is_other h i) 0 b.1 in
    record { room = leb-false _ _ a.0; time = ltb-false _ _ b.0; one = c.0 }

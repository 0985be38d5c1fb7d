-- Which numbers a sheet and what follows it are refused by: never row 23.
use Prim.Native.Nat.{ℕ, ◌≤◌, ◌+◌}
use mathlib.Core.Path.{◌≡◌}
use mathlib.Core.Bool.{Bool, true, false, cond, not, ◌||◌}
use mathlib.Core.List.{List, [], ◌∷◌}
use native.Mathlib.Omega.{arith}
use lib.Dec.{eqb}
use lib.IntN.{ℤ, pos, nat_abs}
use lib.Signed.{le_z, lt_z}
use lib.ListN.{length, drop}
use borrow.Author.Tests.{lt-ltb, le-ltb}
use Rattle.fields.specs.Fields.{byte_at}
use Rattle.integers.proofs.Cases.{below_or}
use Rattle.names.specs.Names.{same_list}
use Rattle.rows.specs.Rows.{row, beyond}
use Rattle.rows.proofs.NotMet.{row_either}
use Rattle.records.specs.Content.{Content}
use Rattle.due_factors.specs.Due.{counts_of}
use Rattle.record_rows.specs.Rows.{no_zone_or_unit, still_due, lake_in_part, end_row, last_row}
use Rattle.sheet.specs.inner.Answers.{row_at, Refuses}
use Rattle.sheet.proofs.Numbers.{record_most}
use Rattle.entitlements.specs.Entitlements.{Entitlement}
use Rattle.entitlements.specs.Entitlements as found
use Rattle.entitlements.specs.Entitlements.{Entry, row14, entries_of, look_up, entitlement}
use Rattle.figures.specs.Balance.{gross_load, gross_output, none_below_zero, zone_load, final_load, zone_generation, net_generation, final_generation, balance_row}
use Rattle.figures.specs.Flow.{most_flow, flow_row}
use Rattle.figures.specs.Lake.{settlement_flow}
use Rattle.figures.specs.Payment.{in_watts}
use Rattle.settlement.specs.declared.Interval.{Interval}
use Rattle.settlement.specs.Settled.{Inputs, figures_at, interval_at, refused_by, unless_met, after_balance, after_list, by_list, flowgate, after_sheet}

-- the sheet's rows are 1 to 13 and 28
abbrev Not23 : ℕ → Type 0
Not23 n = n ≡ 23 → ⊥

end_not_23 : (c : Content) → Not23 (last_row c)
unfolding last_row end_row
end_not_23 c =
    row_either Not23 12 (no_zone_or_unit (counts_of c)) _ (λ q. omega arith)
    (row_either Not23 13 (still_due (counts_of c) (length c.factors)) _ (λ q. omega arith)
    (row_either Not23 28 (lake_in_part (length c.paths) (length c.circulations)) 0 (λ q. omega arith) (λ q. omega arith)))

pub sheet_not_23 : (s : List ℕ) (number at : ℕ) → Refuses s number at → Not23 number
unfolding row_at
sheet_not_23 s number at r q =
    below_or at (length s)
    (λ a. omega (arith, rw (lt-ltb at (length s) a) at r.row, record_most r.content r.last (byte_at s at) (drop (at + 1) s)))
    (λ a. end_not_23 r.content (omega (arith, rw (le-ltb at (length s) a) at r.row)))

-- behind the sheet's come 14 to 22
abbrev pub Behind : ℕ → Type 0
Behind n = (1 ≤ n → 14 ≤ n) × (n ≤ 22)

behind : (n : ℕ) (met : Bool) (below : ℕ) → Behind n → Behind below → Behind (row n met below)
behind = row_either Behind

zero_behind : Behind 0
zero_behind = (λ g. absurd (omega arith), omega arith)

-- the list's
abbrev number_of : Entitlement → ℕ
number_of (found.Found e) = 0
number_of (found.Refused number) = number

look_up_behind : (es : List Entry) (name : List ℕ) → Behind (number_of (look_up es name))
unfolding look_up
look_up_behind [] name = (λ g. omega arith, omega arith)
look_up_behind (x ∷ es) name = go (same_list x.name name) (look_up_behind es name)
  where
    go : (b : Bool) → Behind (number_of (look_up es name)) → Behind (number_of (cond b (found.Found x.value) (look_up es name)))
    go true h = zero_behind
    go false h = h

list_behind : (list name : List ℕ) → Behind (number_of (entitlement list name))
unfolding entitlement
list_behind list name = go (row14 list)
  where
    go : (b : Bool) → Behind (number_of (cond b (found.Refused 14) (look_up (entries_of list) name)))
    go true = (λ g. omega arith, omega arith)
    go false = look_up_behind (entries_of list) name

-- balance and flow
balance_behind : (c : Content) → Behind (balance_row c)
unfolding balance_row
balance_behind c =
    behind 16 (lt_z (pos 2000000) (gross_load c) || lt_z (pos 2000000) (gross_output c)) _ (λ g. omega arith, omega arith)
    (behind 17 (not (none_below_zero c (zone_load c))) _ (λ g. omega arith, omega arith)
    (behind 18 (le_z (final_load c) (pos 0)) _ (λ g. omega arith, omega arith)
    (behind 19 (not (none_below_zero c (zone_generation c))) _ (λ g. omega arith, omega arith)
    (behind 20 (eqb (nat_abs (net_generation c)) 0) _ (λ g. omega arith, omega arith)
    (behind 21 (lt_z (final_generation c) (pos 0)) 0 (λ g. omega arith, omega arith) (λ g. omega arith, omega arith))))))

flow_behind : (flow : ℤ) → Behind (flow_row flow)
unfolding flow_row
flow_behind flow = behind 22 (beyond most_flow flow) 0 (λ g. omega arith, omega arith) (λ g. omega arith, omega arith)

abbrev Settles : Interval → Type 0
Settles i = Behind i.statement.refusal

stage_behind : (row : ℕ) (behind : Interval) → Behind row → Settles behind → Settles (unless_met row behind)
stage_behind row behind h g = go (eqb row 0)
  where
    go : (b : Bool) → Settles (cond b behind (refused_by row))
    go true = g
    go false = h

-- what follows a sheet whose records all pass
pub settled_behind : (c : Content) (x : Inputs) → Settles (after_sheet c x)
unfolding after_sheet by_list after_list after_balance interval_at figures_at
settled_behind c x = go (entitlement x.list (flowgate c)) (list_behind x.list (flowgate c))
  where
    go : (f : Entitlement) → Behind (number_of f) → Settles (by_list c f)
    go (found.Found e) h =
        stage_behind (balance_row c) (after_balance c e) (balance_behind c)
        (stage_behind (flow_row (settlement_flow c (in_watts e))) (interval_at c e) (flow_behind (settlement_flow c (in_watts e))) (λ g. omega arith, omega arith))
    go (found.Refused number) h = h

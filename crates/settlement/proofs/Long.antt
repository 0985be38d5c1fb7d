-- A program that reads no more than a buffer of each file gives the answer of the whole files.
use Prim.Native.Nat.{ℕ, ◌≤◌, ◌<◌}
use mathlib.Core.Path.{◌≡◌, refl, sym, ap, ◌∙◌}
use mathlib.Core.List.{List}
use lib.ListN.{take}
use Rattle.records.specs.Content.{Content}
use Rattle.sheet.specs.Sheet.{Outcome}
use Rattle.sheet.specs.Sheet.{Accepted, Refused}
use Rattle.sheet.specs.Sheet.{read_sheet, content_of}
use Rattle.sheet.specs.inner.Longest.{deciding}
use Rattle.sheet.proofs.Long as sheets
use Rattle.entitlements.proofs.Answers as lists
use Rattle.settlement.specs.declared.Interval.{Interval}
use Rattle.settlement.specs.Settled.{inputs, flowgate, after_sheet, settled}
use Rattle.settlement.proofs.Read.{by_outcome, interval_is}

list_part : (c : Content) (part sheet list : List ℕ) (m : ℕ) (o : Outcome) → 52500 < m → by_outcome c (inputs part (take m list)) o ≡ by_outcome c (inputs sheet list) o
unfolding after_sheet
list_part c part sheet list m (Accepted l) h = rw (lists.first_bytes_enough list (flowgate c) m h)
list_part c part sheet list m (Refused row place) h = refl

-- the longest sheet and its next record decide, and so do 2,500 records of the list and one byte more
pub long : (sheet list : List ℕ) (n m : ℕ) → deciding ≤ n → 52500 < m → settled (take n sheet) (take m list) ≡ settled sheet list
unfolding settled
long sheet list n m g h =
    ap (λ (i : Interval). i.statement)
    (interval_is (inputs (take n sheet) (take m list))
    ∙ rw (sheets.long sheet n g, sheets.long_content sheet n g) (list_part (content_of sheet) (take n sheet) sheet list m (read_sheet sheet) h)
    ∙ sym (interval_is (inputs sheet list)))

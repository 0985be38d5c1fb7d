-- A program that reads no more than a buffer of each file explains the whole files.
use Prim.Native.Nat.{ℕ, ◌+◌, ◌≤◌, ◌<◌}
use mathlib.Core.Path.{◌≡◌, refl, sym, ap, ◌∙◌}
use mathlib.Core.List.{List}
use mathlib.Core.Logic.{⊎_elim}
use native.Mathlib.Omega.{arith}
use lib.ListN.{length, take}
use lib.Seq.{take_all, get_or-take, length-take-le}
use Rattle.fields.specs.Fields.{byte_at}
use Rattle.integers.proofs.Cases.{below_or}
use Rattle.record_table.specs.inner.Sizes.{most_size}
use Rattle.sheet.specs.Sheet.{Outcome}
use Rattle.sheet.specs.Sheet.{Accepted, Refused}
use Rattle.sheet.specs.Sheet.{read_sheet, content_of}
use Rattle.sheet.specs.inner.Longest.{longest_sheet, deciding}
use Rattle.sheet.proofs.Long as sheets
use Rattle.sheet.proofs.Refusal.{refusal}
use Rattle.entitlements.proofs.Answers as lists
use Rattle.settlement.specs.Settled.{flowgate, after_sheet}
use Rattle.explanation.specs.Explanation.{None}
use Rattle.explanation.specs.Explanation.{part_end, explained}
use Rattle.explanation.proofs.Parts.{ends_whole, shown_most}
use Rattle.explanation.proofs.Promised.{by_outcome, explained_is}

-- the part of a record that lies in the bytes read
part_read : (s : List ℕ) (n number at : ℕ) → at + most_size ≤ n → n ≤ length s → part_end (take n s) number at ≡ part_end s number at
part_read s n number at h g =
    let l = length-take-le n s g in
    let b : byte_at (take n s) at ≡ byte_at s at = get_or-take n s at 0 (omega arith) in
    let m = shown_most s number at in
    ends_whole (take n s) number at (rw b (omega arith)) ∙ rw b (sym (ends_whole s number at (omega arith)))

module _ (sheet list : List ℕ) (n m : ℕ) (enough : deciding ≤ n) (all : 52500 < m) where
  by_list_lem : (o : Outcome) → by_outcome sheet (take m list) (content_of sheet) o ≡ by_outcome sheet list (content_of sheet) o
  unfolding after_sheet
  by_list_lem (Accepted l) = rw (lists.first_bytes_enough list (flowgate (content_of sheet)) m all)
  by_list_lem (Refused number at) = refl

  by_sheet_lem : n < length sheet → (o : Outcome) → read_sheet sheet ≡ o → by_outcome (take n sheet) (take m list) (content_of sheet) o ≡ by_outcome sheet list (content_of sheet) o
  by_sheet_lem h (Accepted l) e = absurd (omega (arith, sheets.accepted_short sheet l e))
  by_sheet_lem h (Refused number at) e =
      let a : at ≤ longest_sheet = ⊎_elim (λ f. omega (arith, f.2)) (λ r. sheets.passed_short r.passed) (refusal sheet number at e) in
      ap (λ (to : ℕ). record { refusal = number; from = at; to = to; reason = None }) (part_read sheet n number at (omega arith) (omega arith))

  pub long : explained (take n sheet) (take m list) ≡ explained sheet list
  long =
      below_or n (length sheet)
      (λ h.
      explained_is (take n sheet) (take m list)
      ∙ rw (sheets.long sheet n enough, sheets.long_content sheet n enough) (by_sheet_lem h (read_sheet sheet) refl)
      ∙ sym (explained_is sheet list))
      (λ h. rw (take_all n sheet h) (explained_is sheet (take m list) ∙ by_list_lem (read_sheet sheet) ∙ sym (explained_is sheet list)))

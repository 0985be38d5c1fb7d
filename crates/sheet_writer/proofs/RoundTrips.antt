-- A planner's way: a sheet is read as a draft, and written again byte for byte. And which numbers the writer gives.
use Prim.Native.Nat.{ℕ, ◌≤◌}
use mathlib.Core.Path.{◌≡◌, refl, ap, ◌∙◌}
use mathlib.Core.Bool.{Bool, true, false, cond}
use mathlib.Core.Logic.{◌⊎◌, inl, inr}
use mathlib.Core.List.{List}
use lib.Dec.{eqb, ltb}
use lib.ListN.{length}
use Rattle.rows.specs.Rows.{row}
use Rattle.fields.proofs.Bytes.{Bytes}
use Rattle.records.specs.Content.{Content}
use Rattle.layout.specs.declared.Layout.{Layout}
use Rattle.sheet.specs.Sheet.{Accepted}
use Rattle.sheet.specs.Sheet.{read_sheet, content_of}
use Rattle.writers.specs.Written.{written}
use Rattle.sheet_bytes.specs.SheetBytes.{sheet_bytes}
use Rattle.sheet_bytes.specs.ContentRow.{content_row}
use Rattle.sheet_bytes.proofs.Numbers.{OfContent, numbers}
use Rattle.sheet_bytes.proofs.RoundTrips.{back, back_row, sheet_head}
use Rattle.drafts.specs.Draft.{given, draft_of}
use Rattle.drafts.proofs.GivenBack.{given_back}
use Rattle.sheet_writer.specs.Writing.{refusal_for, sheet_for, answer_for, left_for}
use Rattle.sheet_writer.proofs.Answers.{accepted, whole}

-- a sheet that passes rows 1 to 13 and 28, its draft, and a buffer that is not shorter
module _ (s out : List ℕ) (bytes : Bytes s) (l : Layout) (e : read_sheet s ≡ Accepted l) (room : length s ≤ length out) where
  -- the draft gives what the sheet holds
  pub draft_gives : given (draft_of (content_of s)) ≡ content_of s
  draft_gives = given_back (content_of s) (sheet_head s l e)

  same_sheet : sheet_for (content_of s) out ≡ s
  same_sheet = whole (content_of s) out (back_row s bytes l e) (rw (back s bytes l e) room) ∙ back s bytes l e

  pub written_again : answer_for (given (draft_of (content_of s))) out ≡ record { refusal = 0; length = length s }
  written_again =
      rw draft_gives
      (λ j. record { refusal = accepted (content_of s) out (back_row s bytes l e) (rw (back s bytes l e) room) j; length = ap length same_sheet j })

  pub left_again : left_for (given (draft_of (content_of s))) out ≡ written s out
  left_again = rw draft_gives (ap (λ (b : List ℕ). written b out) same_sheet)

-- 28 comes before 27, however short the buffer
pub lake_first : (c : Content) (out : List ℕ) → content_row c ≡ 28 → refusal_for c out ≡ 28
unfolding refusal_for
lake_first c out e = rw e refl

-- 0, one from 5 to 13, 28, or 27
pub writer_numbers : (c : Content) (out : List ℕ) → OfContent (refusal_for c out) ⊎ (refusal_for c out ≡ 27)
unfolding refusal_for
writer_numbers c out = by (eqb (content_row c) 0) (ltb (length out) (length (sheet_bytes c)))
  where
    by : (b short : Bool) → OfContent (cond b (row 27 short 0) (content_row c)) ⊎ (cond b (row 27 short 0) (content_row c) ≡ 27)
    by true true = inr refl
    by true false = inl (inl refl)
    by false short = inl (numbers c)

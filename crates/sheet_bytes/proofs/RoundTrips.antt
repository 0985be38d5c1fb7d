-- Both round trips, and the reader's number of a content.
use Prim.Native.Nat.{ℕ, ◌≤◌}
use mathlib.Core.Path.{◌≡◌, refl, sym, ap, ◌∙◌}
use mathlib.Core.List.{List, [], ◌∷◌}
use native.Mathlib.Omega.{arith}
use lib.ListN.{length, get_or}
use lib.Seq.{take-length}
use Rattle.fields.proofs.Bytes.{Bytes}
use Rattle.records.specs.declared.Head.{Head}
use Rattle.records.specs.Content.{Content, no_head, head}
use Rattle.layout.specs.declared.Layout.{Layout}
use Rattle.layout.specs.Layout.{layout_of}
use Rattle.sheet.specs.Sheet.{Accepted}
use Rattle.sheet.specs.Sheet.{holds, reading, number_in, outcome, read_sheet, content_of}
use Rattle.sheet.specs.inner.Longest.{longest_sheet}
use Rattle.sheet.proofs.Answers.{accepted_holds}
use Rattle.sheet.proofs.Accepted.{passed, one_head}
use Rattle.sheet.proofs.Long.{accepted_short}
use Rattle.sheet_bytes.specs.SheetBytes.{sheet_bytes}
use Rattle.sheet_bytes.specs.ContentRow.{content_row}
use Rattle.sheet_bytes.specs.inner.Returns.{Returned}
use Rattle.sheet_bytes.specs.inner.Marked.{marked}
use Rattle.sheet_bytes.proofs.Told.{told}
use Rattle.sheet_bytes.proofs.Marked.{same_row, unmarked}
use Rattle.sheet_bytes.proofs.PassedBytes.{passed_bytes, passed_returned}

-- A content with one head, whose lines into zone 0 are marked and whose records are had back from their bytes
module _ (c : Content) (h : Head) (one : c.heads ≡ h ∷ []) (returned : Returned (marked c)) where
  -- the reader finds the content's own row, a line into zone 0 included
  pub row_read : length c.zones ≤ 33 → number_in (reading (sheet_bytes (marked c))) ≡ content_row c
  row_read few = (told (marked c) h one returned).number_is ∙ same_row c few

  -- what is written is read again as the same content
  pub again : content_row c ≡ 0 → reading (sheet_bytes c) ≡ holds c
  again e =
      let m = unmarked c e in
      (rw m at (told (marked c) h one returned).holds_it) e

  -- no sheet that is written is longer than the longest
  pub written_short : content_row c ≡ 0 → length (sheet_bytes c) ≤ longest_sheet
  unfolding read_sheet
  written_short e = accepted_short (sheet_bytes c) (layout_of c) (ap outcome (again e))

single : (l : List Head) → length l ≡ 1 → l ≡ get_or l 0 no_head ∷ []
single [] e = absurd (omega arith)
single (h ∷ []) e = refl
single (h ∷ g ∷ l) e = absurd (omega arith)

pub sheet_head : (s : List ℕ) (l : Layout) → read_sheet s ≡ Accepted l → (content_of s).heads ≡ head (content_of s) ∷ []
sheet_head s l e = single (content_of s).heads (one_head s l e)

module _ (s : List ℕ) (bytes : Bytes s) (l : Layout) (e : read_sheet s ≡ Accepted l) where
  -- a sheet that passes rows 1 to 13 and 28 is written again byte for byte
  pub back : sheet_bytes (content_of s) ≡ s
  back = passed_bytes s bytes (passed s l e) ∙ take-length s

  -- and its content meets none of rows 5 to 13 and 28
  pub back_row : content_row (content_of s) ≡ 0
  back_row =
      sym (told (content_of s) (head (content_of s)) (sheet_head s l e) (passed_returned s bytes (passed s l e))).number_is
      ∙ ap number_in (ap reading back ∙ accepted_holds s l e)

-- The answer to a refused sheet, and to one that is accepted.
use Prim.Native.Nat.{ℕ}
use mathlib.Core.Path.{◌≡◌, sym, ap, ◌∙◌}
use mathlib.Core.List.{List}
use Rattle.records.specs.Content.{no_content}
use Rattle.layout.specs.declared.Layout.{Layout}
use Rattle.drafts.specs.declared.Draft.{Draft}
use Rattle.drafts.specs.Draft.{draft_of}
use Rattle.sheet.specs.Sheet.{Accepted, Refused}
use Rattle.sheet.specs.Sheet.{content_in, read_sheet, content_of}
use Rattle.sheet.proofs.Answers.{refused_fails, accepted_number, refused_number}
use Rattle.draft_reader.specs.DraftReader.{drafted_from}

-- a refused sheet has no content
refused_empty : (s : List ℕ) {number at : ℕ} → read_sheet s ≡ Refused number at → content_of s ≡ no_content
unfolding content_of
refused_empty s {number} {at} e = ap content_in (refused_fails s number at e)

module _ (s : List ℕ) {d : Draft} where
  pub of_refused : {number at : ℕ} → read_sheet s ≡ Refused number at → d ≡ draft_of no_content → record { refusal = number; draft = d } ≡ drafted_from s
  of_refused {number} {at} e f = λ j. record { refusal = sym (refused_number s number at e) j; draft = (f ∙ ap draft_of (sym (refused_empty s e))) j }

  pub of_accepted : {l : Layout} → read_sheet s ≡ Accepted l → d ≡ draft_of (content_of s) → record { refusal = 0; draft = d } ≡ drafted_from s
  of_accepted {l} e f = λ j. record { refusal = sym (accepted_number s l e) j; draft = f j }

-- What the writer of sheets promises of a content: answer and buffer are the ones defined, and what it wrote is read again as the content.
use Rattle.std.specs.Prelude.{ℕ, ◌≡◌, List, take}
use Rattle.records.specs.Content.{Content}
use Rattle.sheet.specs.Sheet.{holds, reading}
use Rattle.sheet_writer.specs.declared.Written.{Written}
use Rattle.sheet_writer.specs.Writing.{answer_for, left_for}

pub record Promise (c : Content) (before after : List ℕ) (r : Written) : Type 0 where
  pub answers : r ≡ answer_for c before
  pub leaves : after ≡ left_for c before
  pub again : r.refusal ≡ 0 → reading (take r.length after) ≡ holds c

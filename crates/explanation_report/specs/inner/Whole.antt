-- What is asked of a finding to be printed.
use Rattle.std.specs.Prelude.{ℕ, ◌+◌, ◌≤◌, List, length}
use Rattle.record_table.specs.inner.Sizes.{most_size}
use Rattle.explanation.specs.Explanation.{Finding}

-- its part lies in the sheet, and is no longer than a record
pub record Fits (sheet : List ℕ) (f : Finding) : Type 0 where
  pub order : f.from ≤ f.to
  pub within : f.to ≤ length sheet
  pub short : f.to ≤ f.from + most_size

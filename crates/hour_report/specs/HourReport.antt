-- What the program `hour` prints (02, request 1), in the words of the printed statement.
use Rattle.std.specs.Prelude.{ℕ, cond, List, ◌++◌, eqb, ℤ, pos}
use Rattle.writers.specs.Text.{ascii}
use Rattle.printout.specs.Lines.{line, amount_lines}
use Rattle.printout.specs.Listing.{refusal_line}
use Rattle.settlement.specs.declared.Interval.{Interval}
use Rattle.hours.specs.declared.Hour.{Hour}
use Rattle.hours.specs.declared.Totals.{Totals}
use Rattle.hours.specs.Hour.{refusal_of}

-- a sheet's line: its amount where the hour took it, else the refusal
unfoldable pub sheet_line : ℕ → ℤ → List ℕ
sheet_line refusal amount = cond (eqb refusal 0) (line (ascii "amount ") amount) (refusal_line refusal)

unfoldable pub told_of : Hour → Interval → List ℕ
told_of h i = sheet_line (refusal_of h i) i.statement.amount

-- the hour's lines, behind those of its sheets
unfoldable pub hour_lines : Totals → List ℕ
hour_lines t = line (ascii "seconds ") (pos t.seconds) ++ amount_lines t.amount t.nyiso t.pjm

-- `put_amounts` puts its lines one behind the other, and their numbers are read back from their bits.
use mathlib.Core.List.{append-nil, append_assoc}
use Rattle.writers.specs.Text.{ascii}
use Rattle.printout.specs.Lines.{joined, amount_lines}
use Rattle.line_groups.proofs.Numbers.{amounts_read_back}
use Rattle.line_groups.proofs.put_amounts.Goals as goal

pub returns-clause-written : goal.returns-clause-written
unfolding ascii joined amount_lines
returns-clause-written g c =
    rw (← amounts_read_back c.ranges.amount c.ranges.nyiso c.ranges.pjm) (rw (c.put_line-3.ensures.written, c.put_line-2.ensures.written, c.put_line.ensures.written) (simp (append_assoc, append-nil)))

-- `put_gtl` puts the flow, the first remainder behind it, and the second behind that.
use mathlib.Core.List.{append-nil, append_assoc}
use mir.Syntax.{w64}
use mir.Val.{to_z, of_z}
use Rattle.writers.specs.Text.{ascii}
use Rattle.writers.proofs.Prepending.{behind}
use Rattle.printout.specs.Lines.{joined, figure, gtl_line}
use Rattle.lines.proofs.Numbers.{gtl_read_back}
use Rattle.lines.proofs.put_gtl.Goals as goal

pub returns-clause-written : goal.returns-clause-written
unfolding ascii joined gtl_line
returns-clause-written g c =
    let args = c.args in
    let two = behind args.text.now (figure (ascii "gtl ") (to_z w64 (of_z w64 args.flow))) (figure (ascii " ") (to_z w64 (of_z w64 args.first))) c.put_figure.ensures.written c.put_figure-2.ensures.written in
    rw (← gtl_read_back c.ranges.flow c.ranges.first c.ranges.second, c.put_line.ensures.written, two) (simp (append_assoc, append-nil))

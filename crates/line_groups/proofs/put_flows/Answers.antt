-- `put_flows` puts its lines one behind the other, and their numbers are read back from their bits.
use mathlib.Core.List.{append-nil, append_assoc}
use borrow.Author.Rules.{rules}
use mir.Syntax.{w64}
use mir.Val.{SFits}
use Rattle.writers.specs.Text.{ascii}
use Rattle.printout.specs.Lines.{joined, flow_lines}
use Rattle.line_groups.proofs.Numbers.{flows_read_back}
use Rattle.line_groups.proofs.put_flows.Goals as goal

pub returns-clause-written : goal.returns-clause-written
unfolding ascii joined flow_lines
returns-clause-written g c =
    let s = c.args.s.now in
    let a : SFits w64 s.parallel = search rules in
    let b : SFits w64 s.shadow = search rules in
    let d : SFits w64 s.common = search rules in
    let e : SFits w64 s.noncommon = search rules in
    let f : SFits w64 s.market = search rules in
    rw (← flows_read_back a b d e f) (rw (c.put_line-5.ensures.written, c.put_line-4.ensures.written, c.put_line-3.ensures.written, c.put_line-2.ensures.written, c.put_line.ensures.written) (simp (append_assoc, append-nil)))

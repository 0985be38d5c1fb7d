-- How far the records were written.
use Rattle.record_table.specs.inner.Sizes.{size}
use Rattle.section_writers.proofs.Sections.{Section}
use Rattle.section_writers.proofs.put_all.Given as goal

abbrev pub invariant-loop-record : goal.invariant-loop-record
invariant-loop-record g l =
    let r = g.R.Record in
    Section (size r.kind) r.kind r.body r.returns l.records l.initial.out l.out l.at l.record-index

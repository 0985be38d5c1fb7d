-- `put_all` meets its contract.
use Rattle.section_writers.proofs.Sections.{begun, grown}
use Rattle.section_writers.proofs.put_all.Goals as goal

pub loop-record-init : goal.loop-record-init
loop-record-init g c = begun

pub loop-record-preserved : goal.loop-record-preserved
loop-record-preserved g c =
    let w = c.put-at.ensures in
    grown c.loop-record.invariant c.loop-record-test.true {zs = c.put-at.new.out} c.record-item.is w.wrote w.value w.returns

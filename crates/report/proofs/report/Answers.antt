-- `report` meets its contract.
use Rattle.report.specs.Report.{reported, left}
use Rattle.report.proofs.report.Goals as goal

pub returns : goal.returns
unfolding reported left
returns c =
    let e = c.settle-s.ensures.settles in
    let p = c.print.ensures in
    record { value = rw e at p.value; out_after = rw e at p.out_after; prefix_len = p.prefix_len }

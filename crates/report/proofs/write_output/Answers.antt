-- `write_output` settles, and shows the settled statement.
use mathlib.Core.Path.{ap}
use Rattle.writers.proofs.Writing.{counted, renamed}
use Rattle.printout.specs.Listing.{shown}
use Rattle.report.specs.Report.{output}
use Rattle.report.proofs.write_output.Goals as goal

pub returns : goal.returns
unfolding output
returns c =
    let w = renamed (ap shown c.settle-statement.ensures.settles) c.show.ensures in
    record { value = w.count; out_after = w.left; prefix_len = counted w }

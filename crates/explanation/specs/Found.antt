-- What is found, as the paper's numbers and values: a refusal has its number and no reason.
use Rattle.std.specs.Prelude.{Result, Ok, Err}
use Rattle.rows.specs.declared.Refusal.{Refusal}
use Rattle.rows.specs.Refusals.{row_of}
use Rattle.explanation.specs.declared.Side.{Side}
use Rattle.explanation.specs.declared.Side.TheVariants as side
use Rattle.explanation.specs.declared.Finding as told
use Rattle.explanation.specs.Explanation.{Reason, None, Above, Below, At, Finding}

abbrev pub reason_of : Side → Reason
reason_of side.Above = Above
reason_of side.Below = Below
reason_of side.At = At

abbrev pub reason_in : Result Side Refusal → Reason
reason_in (Ok s) = reason_of s
reason_in (Err refusal) = None

abbrev pub found : told.Finding → Finding
found f = record { refusal = row_of f.reason; from = f.from; to = f.to; reason = reason_in f.reason }

-- An hour that refuses nothing has room for the interval.
use mathlib.Core.Path.{sym}
use Rattle.hours.proofs.Room.{admits}
use Rattle.hours.proofs.Hour.take.Goals as goal

pub with_interval-self-requires : goal.with_interval-self-requires
with_interval-self-requires c = (admits _ _ (sym c.in-Ok.ensures)).room

-- `no_zero` meets its contract: a sum that finds the zero bytes.
use Rattle.names.proofs.ZeroBytes.{flags, flags_are}
use Rattle.names.proofs.no_zero.Goals as goal

pub returns : goal.returns
unfolding flags
returns c = flags_are 8 c.args.w

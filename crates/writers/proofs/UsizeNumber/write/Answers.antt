-- A number of 64 bits has at most 20 digits.
use native.Mathlib.Omega.{arith}
use Rattle.writers.proofs.Decimal.{natural_length}
use Rattle.writers.proofs.UsizeNumber.write.Goals as goal

pub write_natural-requires : goal.write_natural-requires
write_natural-requires c = omega (arith, c.requires, natural_length 19 c.args.self (omega (arith, c.ranges.self.fits)))

pub returns-clause-room : goal.returns-clause-room
returns-clause-room c = omega (arith, c.write_natural.ensures.count, natural_length 19 c.args.self (omega (arith, c.ranges.self.fits)))

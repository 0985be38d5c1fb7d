-- `write_natural` calls itself with less.
use Rattle.writers.proofs.+write_natural.Given as goal

abbrev pub decreases-write_natural : goal.decreases-write_natural
decreases-write_natural l = l.n

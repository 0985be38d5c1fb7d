-- How long the texts of numbers, the lines and the listing are.
use mathlib.Core.Path.{◌≡◌, refl}
use mathlib.Core.Bool.{true, false}
use mathlib.Core.List.{List}
use Prim.Native.Nat.{ℕ, zero, suc, ◌+◌, ◌*◌, ◌≤◌, ◌<◌, ◌^◌}
use native.Mathlib.Omega.{arith}
use lib.IntN.{ℤ, pos, negsuc, nat_abs, neg_ℤ}
use lib.ListN.{length, length-append}
use lib.Signed.{◌≤ℤ◌}
use Rattle.statement.specs.declared.Statement.{Statement}
use Rattle.writers.specs.Text.{ascii, decimal, unfilled, hexadecimal}
use Rattle.writers.proofs.Decimal.{natural_length}
use Rattle.writers.proofs.Names.{hexadecimal_length, unfilled_length}
use Rattle.printout.specs.Lines.{joined, figure, line, flowgate_line, gtl_line, flow_lines, settled_lines, amount_lines, payment_lines}
use Rattle.printout.specs.Listing.{listing}

-- k + 1 digits and a minus
pub decimal_length : (k : ℕ) (z : ℤ) → nat_abs z < 10 ^ suc k → length (decimal z) ≤ suc k + 1
unfolding decimal ascii
decimal_length k (pos n) h = omega (arith, natural_length k n h)
decimal_length k (negsuc n) h = omega (arith, natural_length k (suc n) h)

pub unsigned_length : (k : ℕ) (z : ℤ) → pos 0 ≤ℤ z → nat_abs z < 10 ^ suc k → length (decimal z) ≤ suc k
unfolding decimal
unsigned_length k (pos n) s h = natural_length k n h
unsigned_length k (negsuc n) s h = absurd s.le

-- of a number and its negative at most one has a minus
pub opposite_length : (k : ℕ) (z : ℤ) → nat_abs z < 10 ^ suc k → length (decimal z) + length (decimal (neg_ℤ z)) ≤ 2 * suc k + 1
unfolding decimal ascii
opposite_length k (pos zero) h = omega (arith, natural_length k 0 h)
opposite_length k (pos (suc n)) h = omega (arith, natural_length k (suc n) h)
opposite_length k (negsuc n) h = omega (arith, natural_length k (suc n) h)

pub name_length : (bs : List ℕ) → length (hexadecimal (unfilled bs)) ≤ 2 * length bs
name_length bs = omega (arith, hexadecimal_length (unfilled bs), unfilled_length bs)

figure_length : (label : List ℕ) (z : ℤ) → length (figure label z) ≡ length label + length (decimal z)
unfolding figure
figure_length label z = simp length-append

line_length : (label : List ℕ) (z : ℤ) → length (line label z) ≡ length label + length (decimal z) + 1
unfolding line ascii
line_length label z = simp (length-append, figure_length)

-- the labels' bytes with their line feeds, and the figures'
pub flowgate_length : (bs : List ℕ) → length (flowgate_line bs) ≡ 10 + length (hexadecimal (unfilled bs))
unfolding flowgate_line ascii
flowgate_length bs = simp length-append (omega arith)

pub gtl_length : (a b c : ℤ) → length (gtl_line a b c) ≡ 7 + length (decimal a) + length (decimal b) + length (decimal c)
unfolding gtl_line joined ascii
gtl_length a b c = simp (length-append, figure_length, line_length) (omega arith)

module _ (a b c d e : ℤ) where
  abbrev five : ℕ
  five = length (decimal a) + length (decimal b) + length (decimal c) + length (decimal d) + length (decimal e)

  pub flows_length : length (flow_lines a b c d e) ≡ 45 + five
  unfolding flow_lines joined ascii
  flows_length = simp (length-append, line_length) (omega arith)

  pub payment_length : length (payment_lines a b c d e) ≡ 40 + five
  unfolding payment_lines amount_lines joined ascii
  payment_length = simp (length-append, line_length) (omega arith)

pub settled_length : (z : ℤ) → length (settled_lines true z) ≡ 9 + length (decimal z)
unfolding settled_lines ascii
settled_length z = simp line_length (omega arith)

pub unsettled_length : (z : ℤ) → length (settled_lines false z) ≡ 0
unfolding settled_lines
unsettled_length z = refl

module _ (s : Statement) where
  pub listing_length : length (listing s) ≡
      length (flowgate_line s.name)
      + length (gtl_line s.gtl s.first_remainder s.second_remainder)
      + length (flow_lines s.parallel s.shadow s.common s.noncommon s.market)
      + length (settled_lines s.has_paths s.settled)
      + length (payment_lines s.entitlement s.price s.amount s.nyiso s.pjm)
  unfolding listing joined
  listing_length = simp length-append (omega arith)

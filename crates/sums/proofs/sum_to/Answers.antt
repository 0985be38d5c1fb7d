-- `sum_to` meets its contract.
use Prim.Native.Nat.{ℕ, ◌+◌, ◌*◌, ◌^◌, ◌<◌, ◌≤◌}
use mathlib.Core.Path.{sym, ◌∙◌}
use native.Mathlib.Nat.{lt_of_le_of_lt, mul-le-mul_right}
use native.Mathlib.Omega.{arith}
use lib.IntN.{ℤ, nat_abs, ◌+ℤ◌}
use mir.Val.{to_z}
use mir.Syntax.{w64}
use Rattle.integers.proofs.Absolute.{abs_add}
use Rattle.integers.proofs.Machine.{Op, rd, op, num}
use Rattle.integers.proofs.Sums.{sum_zero, sum_suc}
use Rattle.sums.proofs.sum_to.Goals as goal

-- the sum so far, s, and the next term, r
next : (s r : ℤ) (i n most : ℕ) → nat_abs s ≤ i * most → nat_abs r ≤ most → i < n → n * most < 2 ^ 63 → Op (s +ℤ rd r) (s +ℤ r) ((i + 1) * most)
next s r i n most a b l fits = op (rw (num r most b one).is) (omega (arith, abs_add s r, a, b)) (lt_of_le_of_lt (mul-le-mul_right most (omega arith)) fits)
  where
    one : most < 2 ^ 63
    one = let m : 1 * most ≤ n * most = mul-le-mul_right most (omega arith) in omega arith

pub loop-i-init : goal.loop-i-init
loop-i-init g c = record { within = λ most h. omega arith; sum = λ f h. sym (sum_zero f) }

pub overflow_add-sum : goal.overflow_add-sum
overflow_add-sum g c =
    let r = c.requires in
    (next (to_z w64 c.loop-i.sum-bits) c.term-sum.result _ _ _ (c.loop-i.invariant.within r.most r.within) (r.within _ _ c.loop-i-test.true c.term-sum.ensures) c.loop-i-test.true r.fits).fits

pub loop-i-preserved : goal.loop-i-preserved
loop-i-preserved g c =
    let r = c.requires in
    let e = (next (to_z w64 c.loop-i.sum-bits) c.term-sum.result _ _ _ (c.loop-i.invariant.within r.most r.within) (r.within _ _ c.loop-i-test.true c.term-sum.ensures) c.loop-i-test.true r.fits).num.is in
    record {
      within = λ most h. rw e (omega (arith, abs_add (to_z w64 c.loop-i.sum-bits) c.term-sum.result, c.loop-i.invariant.within most h, h _ _ c.loop-i-test.true c.term-sum.ensures));
      sum = λ f h. e ∙ rw (c.loop-i.invariant.sum f h, h _ _ c.loop-i-test.true c.term-sum.ensures) (sym (sum_suc f c.loop-i.i));
    }

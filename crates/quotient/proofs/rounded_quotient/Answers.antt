-- `rounded_quotient` meets its contract, at every dividend and every divisor above zero.
use mathlib.Core.Path.{◌≡◌, sym}
use Prim.Native.Nat.{◌*◌, ◌<◌, ◌^◌}
use native.Mathlib.Nat.{mul-le-mul_right}
use native.Mathlib.Omega.{arith}
use lib.IntN.{ℤ, pos, nat_abs, ◌+ℤ◌, ◌-ℤ◌, ◌*ℤ◌}
use lib.Signed.{◌≤ℤ◌, ◌<ℤ◌, quot_z, rem_z}
use mir.Facts.{to_z-of_z}
use mir.Syntax.{w64}
use mir.Val.{SFits}
use borrow.Author.Rules.{rules}
use Rattle.integers.proofs.Linear.{zarith}
use Rattle.integers.proofs.Tactic.{zi, zo}
use Rattle.integers.proofs.Absolute.{abs_mul}
use Rattle.integers.proofs.Division.{fit_quot, fit_rem}
use Rattle.integers.proofs.Machine.{abs_fits}
use Rattle.quotient.specs.Rounded.{remainder}
use Rattle.quotient.specs.inner.Step.{step}
use Rattle.quotient.proofs.Rounded.{quotient_rounded}
use Rattle.quotient.proofs.Laws.{near, quotient_fits}
use Rattle.quotient.proofs.Step.{step_quotient, step_remainder, step_small}
use Rattle.quotient.proofs.rounded_quotient.Goals as goal
use Rattle.quotient.proofs.rounded_quotient.Goals.{After-step_of-k, Start}

remainder-fits : (r d : ℤ) → pos (2 * nat_abs r) ≤ℤ d → SFits w64 d → SFits w64 r
remainder-fits r d = simp zi (simp zo (omega zarith))

-- what each operation gives fits, and is the definition's
module _ (n d : ℤ) (fn : SFits w64 n) (fd : SFits w64 d) (h : pos 0 <ℤ d) where
  abbrev k : ℤ
  k = step (quot_z n d) (rem_z n d) d

  sum_fits : SFits w64 (quot_z n d +ℤ k)
  sum_fits = rw (step_quotient n d h) (quotient_fits n d h fn)

  product-fits : SFits w64 (k *ℤ d)
  product-fits = abs_fits (k *ℤ d) (omega (arith, abs_mul k d, mul-le-mul_right (nat_abs d) (step_small (quot_z n d) (rem_z n d) d), size))
    where
      size : nat_abs d < 2 ^ 63
      size = go d h fd
        where
          go : (d : ℤ) → pos 0 <ℤ d → SFits w64 d → nat_abs d < 2 ^ 63
          go (pos b) h f = f.sfits
          go (lib.IntN.negsuc b) h f = absurd h.lt

  difference-fits : SFits w64 (rem_z n d -ℤ k *ℤ d)
  difference-fits = rw (← step_remainder n d h) (remainder-fits (remainder n d) d (near n d h) fd)

-- the two results of the division, without the machine's words
f-q : (c : Start) → SFits w64 (quot_z c.args.n c.args.d)
f-q c = fit_quot c.ranges.n c.requires

f-r : (c : Start) → SFits w64 (rem_z c.args.n c.args.d)
f-r c = fit_rem c.args.d c.ranges.n

k-is : (c : After-step_of-k) → c.step_of-k.result ≡ step (quot_z c.before.args.n c.before.args.d) (rem_z c.before.args.n c.before.args.d) c.before.args.d
k-is c = simp (to_z-of_z, c.before.ranges.n, c.before.ranges.d, f-q c.before, f-r c.before) at c.step_of-k.ensures

k-fits : (c : After-step_of-k) → SFits w64 c.step_of-k.result
k-fits c = search rules

pub overflow_add-result : goal.overflow_add-result
overflow_add-result c =
    let s = c.before in
    simp (to_z-of_z, s.ranges.n, s.ranges.d, f-q s, k-fits c) (rw (k-is c) (sum_fits _ _ s.ranges.n s.ranges.d s.requires))

pub overflow_mul-result : goal.overflow_mul-result
overflow_mul-result c =
    let s = c.before in
    simp (to_z-of_z, s.ranges.d, k-fits c) (rw (k-is c) (product-fits _ _ s.ranges.n s.ranges.d s.requires))

pub overflow_sub-result : goal.overflow_sub-result
overflow_sub-result c =
    let s = c.before in
    rw (to_z-of_z (overflow_mul-result c)) (simp (to_z-of_z, s.ranges.n, s.ranges.d, f-r s, k-fits c) (rw (k-is c) (difference-fits _ _ s.ranges.n s.ranges.d s.requires)))

pub returns : goal.returns
returns c =
    let s = c.before in
    rw (to_z-of_z (overflow_add-result c), to_z-of_z (overflow_sub-result c), to_z-of_z (overflow_mul-result c))
    (simp (to_z-of_z, s.ranges.n, s.ranges.d, f-q s, f-r s, k-fits c) (rw (k-is c) (let e = step_quotient _ _ s.requires in (e, sym (step_remainder _ _ s.requires), rw e (quotient_rounded _ _ s.requires)))))

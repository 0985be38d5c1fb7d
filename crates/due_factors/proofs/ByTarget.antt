-- Where the factor stands that is due behind k others: its target, and how many of that target's stand before it.
use Prim.Native.Nat.{ℕ, zero, suc, ◌+◌, ◌*◌, ◌-◌, ◌/◌, ◌%◌, ◌≤◌, ◌<◌}
use mathlib.Core.Path.{◌≡◌, refl, sym, ◌∙◌}
use native.Mathlib.Nat.{mul-le-mul_right, suc-ne-zero, div-add-mod', mod-lt}
use native.Mathlib.Numerals.{add-one}
use native.Mathlib.Omega.{arith}
use lib.ListN.{length, get_or}
use borrow.Author.Tests.{ne_eqb, lt-ltb, le-ltb}
use Rattle.integers.proofs.Cases.{below_or}
use Rattle.due_factors.specs.declared.Counts.{Counts}
use Rattle.due_factors.specs.declared.Standing.{Standing}
use Rattle.due_factors.specs.Due.{due_list, no_due}
use Rattle.due_factors.specs.inner.Places.{every, start, pars_on, own, standing}
use Rattle.due_factors.proofs.DueList.{whole, length_due, in-each, due_flowgate, due_par}

positive : (q p m : ℕ) → m < p * q → 0 < q
positive zero p m h = absurd (omega arith)
positive (suc q) p m h = omega arith

module _ (n : Counts) where
  abbrev q : ℕ
  q = every n

  abbrev pars : ℕ
  pars = n.pars

  pub start_flowgate : start n 0 ≡ 0
  unfolding start
  start_flowgate = refl

  pub start_par : (t : ℕ) → start n (suc t) ≡ q + pars + t * q
  unfolding start
  start_par t = let e : suc t - 1 ≡ t = omega arith in rw (ne_eqb (suc t) 0 (suc-ne-zero t), e)

  pub own_par : (t : ℕ) → own n (suc t) ≡ q
  own_par t = rw (ne_eqb (suc t) 0 (suc-ne-zero t)) (omega arith)

  -- a target whose factors are not all there is known
  known_at : (t i : ℕ) → start n t + i < length (due_list n) → t ≤ pars
  known_at zero i h = omega arith
  known_at (suc t) i h =
      below_or t pars (λ a. omega arith)
      (λ b. let m : pars * q ≤ t * q = mul-le-mul_right q b in absurd (omega (arith, start_par t, length_due n)))

  pub below_own : (t i : ℕ) → t ≤ pars → i < own n t → start n t + i < length (due_list n)
  below_own zero i h g = omega (arith, start_flowgate, length_due n)
  below_own (suc t) i h g =
      let m : (t + 1) * q ≤ pars * q = mul-le-mul_right q (omega arith) in
      omega (arith, start_par t, own_par t, length_due n)

  pub due_own : (t i : ℕ) → t ≤ pars → i < own n t → get_or (due_list n) (start n t + i) no_due ≡ get_or (whole n t (pars_on pars t)) i no_due
  due_own zero i h g = let z : 0 + i ≡ i = omega arith in rw (start_flowgate, z) (due_flowgate n i g)
  due_own (suc t) i h g =
      rw (start_par t, ne_eqb (suc t) 0 (suc-ne-zero t))
      (due_par n t i (omega arith) (omega (arith, own_par t)) ∙ sym (in-each n (suc t) 0 i (omega (arith, own_par t))))

  -- where the one behind k others stands
  pub record Stands (k : ℕ) (at : Standing) : Type 0 where
    pub known : at.target ≤ pars
    pub place : start n at.target + at.behind ≡ k
    pub within : at.behind < own n at.target

  module _ (k : ℕ) where
    pub some-each : q + pars ≤ k → k < length (due_list n) → 0 < q
    some-each g h = positive q pars (k - (q + pars)) (omega (arith, length_due n))

    pub standing-flowgate : k < q + pars → standing n k ≡ record { target = 0; behind = k }
    unfolding standing
    standing-flowgate h = rw (lt-ltb _ _ h)

    pub standing-par : q + pars ≤ k → standing n k ≡ record { target = (k - (q + pars)) / q + 1; behind = (k - (q + pars)) % q }
    unfolding standing
    standing-par h = rw (le-ltb _ _ h)

    pub stands : k < length (due_list n) → Stands k (standing n k)
    stands h =
        below_or k (q + pars)
        (λ a. rw (standing-flowgate a) (record { known = omega arith; place = omega (arith, start_flowgate); within = a }))
        (λ b.
        let m = k - (q + pars) in
        let p : start n (suc (m / q)) + m % q ≡ k = omega (arith, start_par (m / q), div-add-mod' m q) in
        rw (standing-par b, add-one)
        (record {
          known = known_at (suc (m / q)) (m % q) (omega (arith, p));
          place = p;
          within = omega (arith, own_par (m / q), mod-lt m {m = q} (some-each b h));
        }))

    -- and which it is
    pub due-standing : k < length (due_list n) → get_or (whole n (standing n k).target (pars_on pars (standing n k).target)) (standing n k).behind no_due ≡ get_or (due_list n) k no_due
    due-standing h =
        let s = stands h in
        sym (due_own (standing n k).target (standing n k).behind s.known s.within) ∙ rw s.place

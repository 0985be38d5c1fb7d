-- Which factor stands at a place of what is due, and at which place a factor stands: each follows from the other, so none is due twice.
use Prim.Native.Nat.{ℕ, zero, suc, ◌+◌, ◌-◌, ◌≤◌, ◌<◌}
use mathlib.Core.Path.{◌≡◌, refl, sym, ap, ◌∙◌}
use native.Mathlib.Nat.{suc-ne-zero}
use native.Mathlib.Omega.{arith}
use lib.ListN.{length, get_or}
use Rattle.integers.proofs.Cases.{below_or}
use Rattle.due_factors.specs.declared.Counts.{Counts}
use Rattle.due_factors.specs.declared.Due.{Due}
use Rattle.due_factors.specs.Due.{key, due_list, no_due, how_many, Asked}
use Rattle.due_factors.specs.inner.Places.{every, pars_on, offset, start, standing}
use Rattle.due_factors.proofs.DueList.{whole, in-units, in-zones, in-points, in-pars}
use Rattle.due_factors.proofs.ByTarget.{stands, due_own, below_own, due-standing}

-- a fact of each subject
pub subjects : (P : ℕ → Type 0) → P 1 → P 2 → P 3 → P 4 → (j : ℕ) → 1 ≤ j → j ≤ 4 → P j
subjects P p1 p2 p3 p4 j g h =
    below_or j 2 (λ a. let e : j ≡ 1 = omega arith in rw e p1)
    (λ a. below_or j 3 (λ b. let e : j ≡ 2 = omega arith in rw e p2)
    (λ b. below_or j 4 (λ c. let e : j ≡ 3 = omega arith in rw e p3)
    (λ c. let e : j ≡ 4 = omega arith in rw e p4)))

module _ (n : Counts) where
  abbrev zones : ℕ
  zones = n.zones

  abbrev units : ℕ
  units = n.units

  abbrev points : ℕ
  points = n.points

  -- how many of a subject have a factor on a target
  abbrev pub many_on : ℕ → ℕ → ℕ
  many_on target subject = how_many zones units points (pars_on n.pars target) subject

  -- the place that a target, a subject and an index from 0 name
  abbrev pub place_at : ℕ → ℕ → ℕ → ℕ
  place_at target subject i = start n target + (offset n subject + i)

  among_own : (t p j i : ℕ) → 1 ≤ j → j ≤ 4 → i < how_many zones units points p j → (offset n j + i < every n + p) × (get_or (whole n t p) (offset n j + i) no_due ≡ key t j i)
  unfolding how_many offset
  among_own t p j i g h a =
      subjects (λ (j : ℕ). i < how_many zones units points p j → (offset n j + i < every n + p) × (get_or (whole n t p) (offset n j + i) no_due ≡ key t j i))
      (λ x. let z : 0 + i ≡ i = omega arith in (omega arith, rw z (in-units n t p i x)))
      (λ x. let z : units + i - units ≡ i = omega arith in (omega arith, in-zones n t p (units + i) (omega arith) (omega arith) ∙ rw z))
      (λ x. let z : units + zones + i - units - zones ≡ i = omega arith in (omega arith, in-points n t p (units + zones + i) (omega arith) (omega arith) (omega arith) ∙ rw z))
      (λ x. let z : units + zones + points + i - units - zones - points ≡ i = omega arith in (omega arith, in-pars n t p (units + zones + points + i) (omega arith) (omega arith) ∙ rw z))
      j g h a

  -- a factor that is due stands at its place
  pub key_stands : (t j i : ℕ) → t ≤ n.pars → 1 ≤ j → j ≤ 4 → i < many_on t j → (place_at t j i < length (due_list n)) × (get_or (due_list n) (place_at t j i) no_due ≡ key t j i)
  key_stands t j i k g h a =
      let w = among_own t (pars_on n.pars t) j i g h a in
      (below_own n t (offset n j + i) k w.0, due_own n t (offset n j + i) k w.0 ∙ w.1)

  -- what stands among a target's
  record InOwn (t p i : ℕ) (d : Due) : Type 0 where
    target : d.target ≡ t
    low : 1 ≤ d.subject
    high : d.subject ≤ 4
    first : 1 ≤ d.index
    many : d.index ≤ how_many zones units points p d.subject
    at : offset n d.subject + (d.index - 1) ≡ i

  in_own : (t p i : ℕ) → i < every n + p → InOwn t p i (get_or (whole n t p) i no_due)
  unfolding offset how_many
  in_own t p i h =
      below_or i units
      (λ a. rw (in-units n t p i a) (record { target = refl; low = omega arith; high = omega arith; first = omega arith; many = omega arith; at = omega arith }))
      (λ a. below_or (i - units) zones
      (λ b. rw (in-zones n t p i a b) (record { target = refl; low = omega arith; high = omega arith; first = omega arith; many = omega arith; at = omega arith }))
      (λ b. below_or (i - units - zones) points
      (λ c. rw (in-points n t p i a b c) (record { target = refl; low = omega arith; high = omega arith; first = omega arith; many = omega arith; at = omega arith }))
      (λ c. rw (in-pars n t p i (omega arith) (omega arith)) (record { target = refl; low = omega arith; high = omega arith; first = omega arith; many = omega arith; at = omega arith }))))

  -- what stands at a place of the list
  pub record DueThere (k : ℕ) (d : Due) : Type 0 where
    pub known : d.target ≤ n.pars
    pub low : 1 ≤ d.subject
    pub high : d.subject ≤ 4
    pub first : 1 ≤ d.index
    pub many : d.index ≤ many_on d.target d.subject
    pub place : place_at d.target d.subject (d.index - 1) ≡ k

  pub due_there : (k : ℕ) → k < length (due_list n) → DueThere k (get_or (due_list n) k no_due)
  due_there k h =
      let s = stands n k h in
      let t = (standing n k).target in
      let o = in_own t (pars_on n.pars t) (standing n k).behind s.within in
      rw (← due-standing n k h)
      (record { known = rw o.target s.known; low = o.low; high = o.high; first = o.first; many = rw o.target o.many; place = rw (o.target, o.at) s.place })

  pub due_once : (k m : ℕ) → k < length (due_list n) → m < length (due_list n) → get_or (due_list n) k no_due ≡ get_or (due_list n) m no_due → k ≡ m
  due_once k m h g e =
      sym (due_there k h).place ∙ ap (λ (d : Due). place_at d.target d.subject (d.index - 1)) e ∙ (due_there m g).place

  -- a factor that is asked for is due
  pub asked_many : (t j i : ℕ) → Asked zones units points n.pars t j i → i < many_on t j
  unfolding how_many
  asked_many zero j i v = v.index
  asked_many (suc t) j i v =
      subjects (λ (j : ℕ). (j ≡ 4 → suc t ≡ 0) → i < how_many zones units points n.pars j → i < many_on (suc t) j)
      (λ p x. x) (λ p x. x) (λ p x. x) (λ p x. absurd (suc-ne-zero t (p refl)))
      j v.low v.high v.par v.index

  pub asked_stands : (t j i : ℕ) → Asked zones units points n.pars t j i → (place_at t j i < length (due_list n)) × (get_or (due_list n) (place_at t j i) no_due ≡ key t j i)
  asked_stands t j i v = key_stands t j i v.known v.low v.high (asked_many t j i v)

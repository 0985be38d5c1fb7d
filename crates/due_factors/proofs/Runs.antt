-- The factors of one target and one subject, which are due one behind the other.
use Prim.Native.Nat.{ℕ, zero, suc, ◌+◌, ◌-◌, ◌≤◌, ◌<◌}
use mathlib.Core.Path.{◌≡◌, refl, ◌∙◌}
use mathlib.Core.Bool.{Bool, true, false, ◌&&◌}
use mathlib.Core.List.{List, [], ◌∷◌}
use native.Mathlib.Omega.{arith}
use lib.Dec.{eqb}
use lib.ListN.{length, get_or, drop, length-drop}
use lib.Seq.{get_or-drop}
use native.Mathlib.Nat.{suc-ne-zero}
use borrow.Author.Tests.{eqb-true, eq-eqb, ne_eqb}
use Rattle.rows.proofs.NotMet.{both}
use Rattle.due_factors.specs.declared.Counts.{Counts}
use Rattle.due_factors.specs.declared.Due.{Due}
use Rattle.due_factors.specs.Due.{key, due_list, no_due, how_many}
use Rattle.due_factors.specs.inner.Places.{Few, pars_on, alike, more_of_run}
use Rattle.due_factors.proofs.Keys.{subjects, many_on, place_at, key_stands, DueThere, due_there}

-- of this one's target and subject
record Alike (d e : Due) : Type 0 where
  target : e.target ≡ d.target
  subject : e.subject ≡ d.subject

alike_is : (d : Due) (l : List Due) (r : ℕ) → r ≤ length l → ((m : ℕ) → m < r → Alike d (get_or l m no_due)) → (r < length l → Alike d (get_or l r no_due) → ⊥) → alike d l ≡ r
unfolding alike
alike_is d [] zero h f g = refl
alike_is d [] (suc r) h f g = absurd (omega arith)
alike_is d (e ∷ l) zero h f g = by-test (eqb e.target d.target && eqb e.subject d.subject) refl
  where
    by-test : (b : Bool) → (eqb e.target d.target && eqb e.subject d.subject) ≡ b → alike d (e ∷ l) ≡ 0
    by-test true q = let a = both (eqb e.target d.target) _ q in absurd (g (omega arith) (record { target = eqb-true _ _ a.0; subject = eqb-true _ _ a.1 }))
    by-test false q = rw q
alike_is d (e ∷ l) (suc r) h f g =
    let a = f 0 (omega arith) in
    rw (eq-eqb _ _ a.target, eq-eqb _ _ a.subject, alike_is d l r (omega arith) (λ m p. f (suc m) (omega arith)) (λ p. g (omega arith)))

-- behind the factor d, which is due behind k others, the rest of its target and subject
pub record RunDue (n : Counts) (k : ℕ) (d : Due) : Type 0 where
  pub below : k + more_of_run n k < length (due_list n)
  pub known : d.target ≤ n.pars
  pub subject : d.subject ≤ 4
  pub few : d.index + more_of_run n k ≤ 256
  pub is : (m : ℕ) → m ≤ more_of_run n k → get_or (due_list n) (k + m) no_due ≡ record { target = d.target; subject = d.subject; index = d.index + m }

module _ (n : Counts) (k : ℕ) (below : k < length (due_list n)) where
  abbrev d : Due
  d = get_or (due_list n) k no_due

  abbrev there : DueThere n k d
  there = due_there n k below

  abbrev many : ℕ
  many = many_on n d.target d.subject

  -- the ones behind it
  next_is : (m : ℕ) → d.index + m ≤ many → (k + m < length (due_list n)) × (get_or (due_list n) (k + m) no_due ≡ key d.target d.subject (d.index - 1 + m))
  next_is m h =
      let e : place_at n d.target d.subject (d.index - 1 + m) ≡ k + m = omega (arith, there.place) in
      rw e at (key_stands n d.target d.subject (d.index - 1 + m) there.known there.low there.high (omega (arith, there.first)))

  -- but none behind the last
  last_is : k + (many - d.index) + 1 < length (due_list n) → Alike d (get_or (due_list n) (k + (many - d.index) + 1) no_due) → ⊥
  last_is h a =
      let w = due_there n (k + (many - d.index) + 1) h in
      let p = rw (a.target, a.subject) at w.place in
      let q = rw (a.target, a.subject) at w.many in
      omega (arith, there.place, there.many, there.first, w.first)

  pub more_is : more_of_run n k ≡ many - d.index
  unfolding more_of_run
  more_is =
      let e : (m : ℕ) → k + 1 + m ≡ k + (m + 1) = λ m. omega arith in
      let f : k + 1 + (many - d.index) ≡ k + (many - d.index) + 1 = omega arith in
      alike_is d (drop (k + 1) (due_list n)) (many - d.index) (rw (length-drop (k + 1) (due_list n)) (omega (arith, (next_is (many - d.index) (omega (arith, there.many))).0)))
      (λ m g.
      let x = (next_is (m + 1) (omega arith)).1 in
      rw (get_or-drop (k + 1) (due_list n) m no_due, e m, x) (record { target = refl; subject = refl }))
      (λ g a. last_is (omega (arith, rw (length-drop (k + 1) (due_list n)) at g)) (rw (get_or-drop (k + 1) (due_list n) (many - d.index) no_due, f) at a))

  -- by its target and subject
  pub more_at : (target subject i : ℕ) → key target subject i ≡ d → more_of_run n k ≡ many_on n target subject - (i + 1)
  more_at target subject i e = more_is ∙ rw (← e)

  many_few : Few n → (j : ℕ) → 1 ≤ j → j ≤ 4 → many_on n d.target j ≤ 256
  unfolding how_many
  many_few f = subjects (λ (j : ℕ). many_on n d.target j ≤ 256) (omega (arith, f.units_most)) (omega (arith, f.zones_most)) (omega (arith, f.points_most)) (by-target d.target)
    where
      by-target : (t : ℕ) → pars_on n.pars t ≤ 256
      by-target zero = omega (arith, f.pars_most)
      by-target (suc t) = rw (ne_eqb (suc t) 0 (suc-ne-zero t)) (omega arith)

  pub run_due : Few n → RunDue n k d
  run_due f =
      let r = more_is in
      record {
        below = rw r (next_is (many - d.index) (omega (arith, there.many))).0;
        known = there.known;
        subject = there.high;
        few = omega (arith, r, there.many, many_few f d.subject there.low there.high);
        is = λ m h.
            let x : d.index - 1 + m + 1 ≡ d.index + m = omega (arith, there.first) in
            rw x at (next_is m (omega (arith, r, there.many))).1;
      }

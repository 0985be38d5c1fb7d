-- The first place of what is due where a factor stands.
use Prim.Native.Nat.{ℕ, zero, suc, ◌+◌, ◌*◌, ◌-◌, ◌<◌}
use mathlib.Core.Path.{◌≡◌, refl, sym, ◌∙◌}
use mathlib.Core.Bool.{Bool, true, false}
use mathlib.Core.List.{List, [], ◌∷◌}
use native.Mathlib.Omega.{arith}
use lib.Dec.{eqb}
use lib.ListN.{length, get_or}
use borrow.Author.Tests.{eqb-true, eq-eqb, ne_eqb}
use Rattle.rows.proofs.NotMet.{both}
use Rattle.due_factors.specs.declared.Counts.{Counts}
use Rattle.due_factors.specs.declared.Due.{Due}
use Rattle.due_factors.specs.Due.{key, due_list, no_due, Asked}
use Rattle.due_factors.specs.inner.Places.{every, offset, start, same, place_in}
use Rattle.due_factors.proofs.ByTarget.{start_flowgate}
use Rattle.due_factors.proofs.Keys.{place_at, asked_stands, due_once}

made : (t s i t' s' i' : ℕ) → t ≡ t' → s ≡ s' → i ≡ i' → ◌≡◌ {A = Due} (record { target = t; subject = s; index = i }) (record { target = t'; subject = s'; index = i' })
made t s i t' s' i' a b c = rw (a, b, c)

same_is : (d e : Due) → same d e ≡ true → d ≡ e
unfolding same
same_is d e q =
    let a = both (eqb d.target e.target) _ q in
    let b = both (eqb d.subject e.subject) (eqb d.index e.index) a.1 in
    made d.target d.subject d.index e.target e.subject e.index (eqb-true _ _ a.0) (eqb-true _ _ b.0) (eqb-true _ _ b.1)

is_same : (d e : Due) → d ≡ e → same d e ≡ true
unfolding same
is_same d e q = rw (q, eq-eqb e.target e.target refl, eq-eqb e.subject e.subject refl, eq-eqb e.index e.index refl)

-- where it stands and nowhere before
place_in_lem : (l : List Due) (d : Due) (at : ℕ) → at < length l → get_or l at no_due ≡ d → ((m : ℕ) → m < at → get_or l m no_due ≡ d → ⊥) → place_in l d ≡ at
unfolding place_in
place_in_lem [] d at h e f = absurd (omega arith)
place_in_lem (x ∷ l) d zero h e f = rw (is_same x d e)
place_in_lem (x ∷ l) d (suc at) h e f = by-same (place_in_lem l d at (omega arith) e (λ m g p. f (suc m) (omega arith) p)) (same x d) refl
  where
    by-same : place_in l d ≡ at → (b : Bool) → same x d ≡ b → place_in (x ∷ l) d ≡ suc at
    by-same i true q = absurd (f 0 (omega arith) (same_is x d q))
    by-same i false q = rw (q, i)

module _ (n : Counts) (t j i : ℕ) (v : Asked n.zones n.units n.points n.pars t j i) where
  pub place_is : place_in (due_list n) (key t j i) ≡ place_at n t j i
  place_is =
      let s = asked_stands n t j i v in
      place_in_lem (due_list n) (key t j i) (place_at n t j i) s.0 s.1
      (λ m g p. let e = due_once n m (place_at n t j i) (omega (arith, s.0)) s.0 (p ∙ sym s.1) in omega arith)

  -- it stands there
  pub place_below : place_in (due_list n) (key t j i) < length (due_list n)
  place_below = rw place_is (asked_stands n t j i v).0

  pub place_holds : get_or (due_list n) (place_in (due_list n) (key t j i)) no_due ≡ key t j i
  place_holds = rw place_is (asked_stands n t j i v).1

  -- by its target
  pub place_flowgate : t ≡ 0 → place_in (due_list n) (key t j i) ≡ offset n j + i
  place_flowgate e = place_is ∙ rw (e, start_flowgate n) (omega arith)

  pub place_par : (t ≡ 0 → ⊥) → place_in (due_list n) (key t j i) ≡ every n + n.pars + (t - 1) * every n + (offset n j + i)
  unfolding start
  place_par e = place_is ∙ rw (ne_eqb t 0 e)

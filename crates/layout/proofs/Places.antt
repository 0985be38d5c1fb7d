-- Laws of the places at which records stand.
use Prim.Native.Nat.{ℕ, zero, suc, ◌+◌, ◌-◌, ◌*◌, ◌≤◌, ◌<◌}
use mathlib.Core.Path.{◌≡◌, refl, ◌∙◌}
use mathlib.Core.Bool.{Bool, true, false, cond}
use native.Mathlib.Numerals.{add-one}
use native.Mathlib.Nat.{mul-le-mul_left}
use native.Mathlib.Omega.{arith}
use lib.Dec.{eqb}
use borrow.Author.Tests.{eq-eqb, ne_eqb}
use Rattle.integers.proofs.Cases.{below_or}
use Rattle.record_table.specs.Table.{last_kind}
use Rattle.record_table.specs.inner.Sizes.{size}
use Rattle.layout.specs.declared.Layout.{Layout}
use Rattle.layout.specs.inner.Places.{one, count, counted, first_of, start_of, extent}
use Rattle.record_table.proofs.ByKind.{kinds}

-- one more of a kind
count_next : (l : Layout) (j kind : ℕ) → kind ≤ last_kind → count (counted l j) kind ≡ count l kind + cond (eqb 0 kind) 0 (one (eqb j kind))
unfolding counted
count_next l j zero g = refl
count_next l j (suc k) g =
    kinds (λ (k : ℕ). count (counted l j) k ≡ count l k + cond (eqb 0 k) 0 (one (eqb j k))) refl refl refl refl refl refl refl refl (suc k) (omega arith) g

pub count_same : (l : Layout) (kind : ℕ) → 1 ≤ kind → kind ≤ last_kind → count (counted l kind) kind ≡ count l kind + 1
count_same l k g h = count_next l k k h ∙ rw (ne_eqb 0 k (λ e. omega arith), eq-eqb k k refl)

pub count_other : (l : Layout) (j kind : ℕ) → kind ≤ last_kind → (j ≡ kind → ⊥) → count (counted l j) kind ≡ count l kind
count_other l j k g h = count_next l j k g ∙ rw (ne_eqb j k h) (nothing (eqb 0 k) (count l k))
  where
    nothing : (b : Bool) (n : ℕ) → n + cond b 0 0 ≡ n
    nothing true n = omega arith
    nothing false n = omega arith

-- where a kind begins depends on the kinds below alone
pub first_agree : (l m : Layout) (kind : ℕ) → ((j : ℕ) → j < kind → count m j ≡ count l j) → first_of m kind ≡ first_of l kind
unfolding first_of
first_agree l m zero h = refl
first_agree l m (suc k) h = rw (first_agree l m k (λ j g. h j (omega arith)), h k (omega arith))

-- and kinds that are empty take no room
pub first_flat : (l : Layout) (kind n : ℕ) → kind < n → ((j : ℕ) → kind < j → j < n → count l j ≡ 0) → first_of l n ≡ start_of l kind (count l kind)
unfolding first_of
first_flat l k zero g h = absurd (omega arith)
first_flat l k (suc n) g h =
    below_or k n
    (λ a. rw (h n a (omega arith)) (omega (arith, first_flat l k n a (λ j p q. h j p (omega arith)))))
    (λ a. let e : n ≡ k = omega arith in rw e)

module _ (l : Layout) where
  pub extent_is : extent l ≡ size 1 * l.heads + size 2 * l.zones + size 3 * l.units + size 4 * l.points + size 5 * l.pars + size 6 * l.factors + size 7 * l.paths + size 8 * l.circulations
  unfolding first_of
  extent_is = omega arith

  pub first_one : first_of l 1 ≡ 0
  unfolding first_of
  first_one = refl

  -- a kind begins where the one below ends
  pub first_next : (kind : ℕ) → first_of l (kind + 1) ≡ start_of l kind (count l kind)
  unfolding first_of
  first_next k = rw add-one

  -- and no kind begins before one below
  first_up : (kind more : ℕ) → first_of l kind ≤ first_of l (kind + more)
  first_up k zero = let e : k + 0 ≡ k = omega arith in rw e (omega arith)
  first_up k (suc n) = let e : k + suc n ≡ k + n + 1 = omega arith in rw e (omega (arith, first_up k n, first_next (k + n)))

  pub first_most : (kind : ℕ) → kind ≤ last_kind → first_of l (kind + 1) ≤ extent l
  first_most k h = let e : k + 1 + (last_kind - k) ≡ last_kind + 1 = omega arith in rw e at (first_up (k + 1) (last_kind - k))

  -- each record ends before the last does
  pub within : (kind i : ℕ) → kind ≤ last_kind → i < count l kind → start_of l kind i + size kind ≤ extent l
  within k i h a = omega (arith, first_most k h, first_next k, mul-le-mul_left {m = i + 1} {n = count l k} (size k) (omega arith))

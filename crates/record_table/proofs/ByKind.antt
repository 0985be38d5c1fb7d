-- Cases by kind.
use Prim.Native.Nat.{ℕ, zero, suc, ◌+◌, ◌≤◌}
use mathlib.Core.Path.{◌≡◌, refl}
use mathlib.Core.Bool.{Bool, true, false, not, ◌&&◌, ◌||◌}
use mathlib.Core.List.{List, [], ◌∷◌}
use native.Mathlib.Omega.{arith}
use lib.Dec.{leb}
use lib.ListN.{length, get_or, get_or-eq_default}
use borrow.Author.Tests.{leb-true}
use Rattle.integers.proofs.Cases.{below_or}
use Rattle.rows.proofs.NotMet.{both}
use Rattle.record_table.specs.Table.{by_kind, total, body_length, KindRow, no_kind, kind_rows, kind_of, last_kind}
use Rattle.record_table.specs.inner.Sizes.{size, most_size}
use Rattle.record_table.specs.inner.Kinds.{code}
use Rattle.record_table.specs.declared.kind.Kind.{Kind}
use Rattle.record_table.specs.declared.kind.Kind.TheVariants as kind

-- a fact of each kind
pub kinds : (P : ℕ → Type 0) → P 1 → P 2 → P 3 → P 4 → P 5 → P 6 → P 7 → P 8 → (kind : ℕ) → 1 ≤ kind → kind ≤ last_kind → P kind
kinds P p1 p2 p3 p4 p5 p6 p7 p8 k g h =
    below_or k 2 (λ a. let e : k ≡ 1 = omega arith in rw e p1)
    (λ a. below_or k 3 (λ b. let e : k ≡ 2 = omega arith in rw e p2)
    (λ a. below_or k 4 (λ b. let e : k ≡ 3 = omega arith in rw e p3)
    (λ a. below_or k 5 (λ b. let e : k ≡ 4 = omega arith in rw e p4)
    (λ a. below_or k 6 (λ b. let e : k ≡ 5 = omega arith in rw e p5)
    (λ a. below_or k 7 (λ b. let e : k ≡ 6 = omega arith in rw e p6)
    (λ a. below_or k 8 (λ b. let e : k ≡ 7 = omega arith in rw e p7)
    (λ a. let e : k ≡ 8 = omega arith in rw e p8)))))))

module _ {A : Type 0} (none : A) where
  -- any other kind
  pub no_entry : (es : List A) (kind : ℕ) → (1 ≤ kind → kind ≤ length es → ⊥) → by_kind kind none es ≡ none
  no_entry es zero h = refl
  no_entry es (suc k) h = below_or k (length es) (λ a. absurd (h (omega arith) (omega arith))) (λ a. get_or-eq_default es none a)

  pub another : (es : List A) → length es ≡ last_kind → (k : ℕ) → (k ≡ 1 → ⊥) → (k ≡ 2 → ⊥) → (k ≡ 3 → ⊥) → (k ≡ 4 → ⊥) → (k ≡ 5 → ⊥) → (k ≡ 6 → ⊥) → (k ≡ 7 → ⊥) → (k ≡ 8 → ⊥) → by_kind k none es ≡ none
  another es e k n1 n2 n3 n4 n5 n6 n7 n8 = no_entry es k (λ g h. kinds (λ (j : ℕ). k ≡ j → ⊥) n1 n2 n3 n4 n5 n6 n7 n8 k g (rw e at h) refl)

  -- a test that each entry passes, by computing
  unfoldable pub passing : (A → Bool) → List A → Bool
  passing f [] = true
  passing f (e ∷ es) = f e && passing f es

  tested : (f : A → Bool) (es : List A) → passing f es ≡ true → f none ≡ true → (k : ℕ) → f (get_or es k none) ≡ true
  unfolding passing
  tested f [] p z k = z
  tested f (e ∷ es) p z zero = (both (f e) _ p).0
  tested f (e ∷ es) p z (suc k) = tested f es (both (f e) (passing f es) p).1 z k

  pub checked : (f : A → Bool) (es : List A) → passing f es ≡ true → f none ≡ true → (kind : ℕ) → f (by_kind kind none es) ≡ true
  checked f es p z zero = z
  checked f es p z (suc k) = tested f es p z k

pub size_most : (kind : ℕ) → size kind ≤ most_size
unfolding passing
size_most k = leb-true _ _ (checked no_kind (λ (r : KindRow). leb (total r.fields + 1) most_size) kind_rows refl refl k)

-- a kind without a name does not have one
pub unnamed : {A : Type 0} → false ≡ true → A
unnamed q = let z : ◌≡◌ {A = ℕ} 0 1 = cc in absurd (omega arith)

implied : (a b : Bool) → (not a || b) ≡ true → a ≡ true → b ≡ true
implied true b p q = p
implied false b p q = unnamed q

-- a name fits into the body of a kind that has one
pub name_room : (kind : ℕ) → (kind_of kind).named ≡ true → 16 ≤ body_length kind
unfolding passing
name_room k n = leb-true _ _ (implied (kind_of k).named _ (checked no_kind (λ (r : KindRow). not r.named || leb 16 (total r.fields)) kind_rows refl refl k) n)

pub named_kind : (kind : ℕ) → 1 ≤ kind → kind ≤ last_kind → (kind ≡ 6 → ⊥) → (kind ≡ 8 → ⊥) → (kind_of kind).named ≡ true
named_kind k g h a b =
    kinds (λ (j : ℕ). k ≡ j → (kind_of j).named ≡ true) (λ e. refl) (λ e. refl) (λ e. refl) (λ e. refl) (λ e. refl) (λ e. absurd (a e)) (λ e. refl) (λ e. absurd (b e)) k g h refl

-- the bytes of the kinds
pub code_least : (k : Kind) → 1 ≤ code k
code_least kind.Head = omega arith
code_least kind.Zone = omega arith
code_least kind.Unit = omega arith
code_least kind.Point = omega arith
code_least kind.Par = omega arith
code_least kind.Factor = omega arith
code_least kind.Path = omega arith
code_least kind.Circulation = omega arith

pub code_most : (k : Kind) → code k ≤ last_kind
code_most kind.Head = omega arith
code_most kind.Zone = omega arith
code_most kind.Unit = omega arith
code_most kind.Point = omega arith
code_most kind.Par = omega arith
code_most kind.Factor = omega arith
code_most kind.Path = omega arith
code_most kind.Circulation = omega arith

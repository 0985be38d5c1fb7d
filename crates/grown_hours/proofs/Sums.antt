-- What an hour grown from an empty one comes to, by the intervals that it took.
use Prim.Native.Nat.{ℕ, zero, suc, ◌≤◌}
use mathlib.Core.Path.{◌≡◌, refl, sym, ap, ◌∙◌}
use mathlib.Core.Bool.{Bool, true, false, cond}
use mathlib.Core.List.{List, [], ◌∷◌, ◌++◌, map}
use lib.Dec.{eqb}
use lib.IntN.{ℤ, pos, neg_ℤ, nat_abs, ◌+ℤ◌, +ℤ_comm}
use lib.ListN.{length, get_or}
use Rattle.integers.specs.Sum.{sum_to}
use Rattle.integers.proofs.Linear.{zarith}
use Rattle.integers.proofs.Tactic.{zi, zo}
use Rattle.records.specs.Codes.{nyiso}
use Rattle.sheet.specs.Sheet.{reading}
use Rattle.figures.specs.Payment.{payment}
use Rattle.accuracy.specs.Fraction.{Near}
use Rattle.accuracy.proofs.FractionLaws.{near_self, near_plus}
use Rattle.statement.specs.declared.Statement.{Statement}
use Rattle.settlement.specs.declared.Interval.{Interval}
use Rattle.settlement.specs.Settled.{Inputs, figures_at, interval_at, interval, settled}
use Rattle.settlement.proofs.Promised.{no_row_met, accepted_of}
use Rattle.settlement.proofs.Bounded.{bounded}
use Rattle.hour_cells.specs.Cells.{cell, cell_at, amount_of}
use Rattle.grown_hours.specs.Grown.{together, exact_at, exact_by, exact_together}
use Rattle.hour_cells.proofs.Cells.{held_all, cell_is}
use Rattle.grown_hours.proofs.Growth.{amount_in, rto_in, padded, Each, Alike}

-- ---- one accepted interval
statement_of : (x : Inputs) → settled x.sheet x.list ≡ (interval x).statement
unfolding settled
statement_of x = refl

module _ (x : Inputs) (z : (interval x).statement.refusal ≡ 0) where
  amount_most : nat_abs (amount_in x) ≤ 2000000000000
  unfolding settled
  amount_most = (bounded x.sheet x.list z).amount

  -- its payments, by its Monitoring RTO
  nyiso_is : (interval x).statement.nyiso ≡ cond (eqb (rto_in x) nyiso) (amount_in x) (neg_ℤ (amount_in x))
  unfolding interval_at figures_at payment
  nyiso_is =
      let is = (no_row_met x z).2.is in
      ap (λ (i : Interval). i.statement.nyiso) is
      ∙ sym (ap (λ (i : Interval). cond (eqb i.monitoring_rto nyiso) i.statement.amount (neg_ℤ i.statement.amount)) is)

  pjm_is : (interval x).statement.pjm ≡ neg_ℤ (interval x).statement.nyiso
  unfolding settled
  pjm_is = (bounded x.sheet x.list z).pjm

-- ---- the amount of an hour laid out
front_step : (a b c : ℤ) → (a +ℤ b) +ℤ c ≡ a +ℤ (b +ℤ c)
front_step a b c = simp zi (simp zo (omega zarith))

sum_front : (f : ℕ → ℤ) (n : ℕ) → sum_to f (suc n) ≡ f 0 +ℤ sum_to (λ i. f (suc i)) n
unfolding sum_to
sum_front f zero = +ℤ_comm (pos 0) (f 0)
sum_front f (suc n) = ap (λ (x : ℤ). x +ℤ f (suc n)) (sum_front f n) ∙ front_step (f 0) (sum_to (λ i. f (suc i)) n) (f (suc n))

abbrev amounts_of : List Inputs → ℤ
amounts_of xs = together (λ (s : Statement). s.amount) xs

module _ (name : List ℕ) (rto : ℕ) where
  cells_first : (xs : List Inputs) (r : List ℤ) → Each (Alike name rto) xs → sum_to (λ k. cell (get_or (map amount_in xs ++ r) k (pos 0))) (length xs) ≡ amounts_of xs
  unfolding sum_to together
  cells_first [] r a = refl
  cells_first (x ∷ xs) r a =
      sum_front (λ k. cell (get_or (map amount_in (x ∷ xs) ++ r) k (pos 0))) (length xs)
      ∙ ap (λ (n : ℤ). n +ℤ sum_to (λ k. cell (get_or (map amount_in xs ++ r) k (pos 0))) (length xs)) (cell_is (amount_in x) (amount_most x a.0.accepted))
      ∙ ap (λ (n : ℤ). amount_in x +ℤ n) (cells_first xs r a.1)
      ∙ ap (λ (s : Statement). s.amount +ℤ amounts_of xs) (sym (statement_of x))

  pub laid_amount : (xs : List Inputs) → length xs ≤ 60 → Each (Alike name rto) xs → amount_of (padded (map amount_in xs) (pos 0)) (length xs) ≡ amounts_of xs
  unfolding amount_of cell_at
  laid_amount xs l a = ap (sum_to (λ k. cell (get_or (padded (map amount_in xs) (pos 0)) k (pos 0)))) (held_all (length xs) l) ∙ cells_first xs _ a

  -- ---- the payments: of one Monitoring RTO, so that each is the amount everywhere, or its negative everywhere
  plus_minus : (a b : ℤ) → neg_ℤ a +ℤ neg_ℤ b ≡ neg_ℤ (a +ℤ b)
  plus_minus a b = simp zi (simp zo (omega zarith))

  signed_plus : (b : Bool) (x y : ℤ) → cond b x (neg_ℤ x) +ℤ cond b y (neg_ℤ y) ≡ cond b (x +ℤ y) (neg_ℤ (x +ℤ y))
  signed_plus true x y = refl
  signed_plus false x y = plus_minus x y

  pub nyiso_sum : (xs : List Inputs) → Each (Alike name rto) xs → together (λ (s : Statement). s.nyiso) xs ≡ cond (eqb rto nyiso) (amounts_of xs) (neg_ℤ (amounts_of xs))
  unfolding together
  nyiso_sum [] a = none (eqb rto nyiso)
    where
      none : (b : Bool) → pos 0 ≡ cond b (pos 0) (neg_ℤ (pos 0))
      none true = refl
      none false = refl
  nyiso_sum (x ∷ xs) a =
      let p = nyiso_is x a.0.accepted ∙ ap (λ (r : ℕ). cond (eqb r nyiso) (amount_in x) (neg_ℤ (amount_in x))) a.0.rto_is in
      ap (λ (s : Statement). s.nyiso +ℤ together (λ (s : Statement). s.nyiso) xs) (statement_of x)
      ∙ ap (λ (n : ℤ). n +ℤ together (λ (s : Statement). s.nyiso) xs) p
      ∙ ap (λ (n : ℤ). cond (eqb rto nyiso) (amount_in x) (neg_ℤ (amount_in x)) +ℤ n) (nyiso_sum xs a.1)
      ∙ signed_plus (eqb rto nyiso) (amount_in x) (amounts_of xs)
      ∙ ap (λ (s : Statement). cond (eqb rto nyiso) (s.amount +ℤ amounts_of xs) (neg_ℤ (s.amount +ℤ amounts_of xs))) (sym (statement_of x))

  pub pjm_sum : (xs : List Inputs) → Each (Alike name rto) xs → together (λ (s : Statement). s.pjm) xs ≡ neg_ℤ (together (λ (s : Statement). s.nyiso) xs)
  unfolding together
  pjm_sum [] a = refl
  pjm_sum (x ∷ xs) a =
      let s = statement_of x in
      ap (λ (s : Statement). s.pjm +ℤ together (λ (s : Statement). s.pjm) xs) s
      ∙ ap (λ (n : ℤ). n +ℤ together (λ (s : Statement). s.pjm) xs) (pjm_is x a.0.accepted)
      ∙ ap (λ (n : ℤ). neg_ℤ (interval x).statement.nyiso +ℤ n) (pjm_sum xs a.1)
      ∙ plus_minus (interval x).statement.nyiso (together (λ (s : Statement). s.nyiso) xs)
      ∙ ap (λ (s : Statement). neg_ℤ (s.nyiso +ℤ together (λ (s : Statement). s.nyiso) xs)) (sym s)

  -- ---- the exact amounts
  near_one : (x : Inputs) → (interval x).statement.refusal ≡ 0 →
      let e = exact_by x (reading x.sheet) in Near (settled x.sheet x.list).amount e.amount e.bound
  unfolding exact_by exact_at figures_at settled
  near_one x z =
      let a = accepted_of x z in
      let m = a.2 in
      rw (ap (λ (s : Statement). s.amount) m.figures, m.read, m.entitled) m.accurate.amount_near

  pub near_sum : (xs : List Inputs) → Each (Alike name rto) xs → Near (amounts_of xs) (exact_together xs).amount (exact_together xs).bound
  unfolding together exact_together
  near_sum [] a = near_self (pos 0)
  near_sum (x ∷ xs) a = near_plus (near_one x a.0.accepted) (near_sum xs a.1)

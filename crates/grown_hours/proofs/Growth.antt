-- An hour grown from an empty one holds the intervals that it took, in order, with zeros behind them.
use Prim.Native.Nat.{ℕ, zero, suc, ◌+◌, ◌-◌, ◌<◌, ◌≤◌}
use native.Mathlib.Omega.{arith}
use mathlib.Core.Path.{◌≡◌, refl, sym, ap, subst, ◌∙◌}
use mathlib.Core.Bool.{Bool, true, false, cond, not, ◌&&◌, ◌||◌, true≢false}
use mathlib.Core.List.{List, [], ◌∷◌, ◌++◌, append-nil, map}
use borrow.Author.Tests.{eqb-true, eqb-false, eq-eqb}
use lib.Dec.{eqb}
use lib.IntN.{ℤ, pos}
use lib.ListN.{length, replicate, set, length-append, length-map}
use lib.Seq.{set-append_seam, append_snoc}
use Rattle.names.specs.Names.{same_list}
use Rattle.names.proofs.SameNames.{same_true}
use Rattle.settlement.specs.declared.Interval.{Interval}
use Rattle.settlement.specs.Settled.{Inputs, interval}
use Rattle.hours.specs.declared.Hour.{Hour}
use Rattle.hour_cells.specs.Cells.{seconds_to, seconds_of}
use Rattle.hour_cells.proofs.Cells.{held_all}
use Rattle.hours.proofs.Room.{Admits, admits}
use Rattle.hours.specs.Hour.{is_other, hour_row, refusal_of, with_interval, added}
use Rattle.grown_hours.specs.Grown.{grown, hour_of, taken_by, taken_of, seconds_together}

-- ---- what an hour keeps of an interval
abbrev pub amount_in : Inputs → ℤ
amount_in x = (interval x).statement.amount

abbrev pub seconds_in : Inputs → ℕ
seconds_in x = (interval x).seconds

abbrev pub name_in : Inputs → List ℕ
name_in x = (interval x).statement.name

abbrev pub rto_in : Inputs → ℕ
rto_in x = (interval x).monitoring_rto

-- ---- the hour of some intervals: their cells, zeros behind them, and the name and Monitoring RTO of the first
abbrev pub padded : {A : Type 0} → List A → A → List A
padded xs z = xs ++ replicate (60 - length xs) z

abbrev pub name_of : List Inputs → List ℕ
name_of [] = replicate 16 0
name_of (x ∷ xs) = name_in x

abbrev pub rto_of : List Inputs → ℕ
rto_of [] = 0
rto_of (x ∷ xs) = rto_in x

abbrev pub laid : List Inputs → Hour
laid xs = record { amounts = padded (map amount_in xs) (pos 0); seconds = padded (map seconds_in xs) 0; count = length xs; name = name_of xs; monitoring_rto = rto_of xs }

-- ---- intervals that stand in one hour
abbrev pub Each : (Inputs → Type 0) → List Inputs → Type 0
Each P [] = Unit
Each P (x ∷ xs) = P x × Each P xs

pub record Alike (name : List ℕ) (rto : ℕ) (x : Inputs) : Type 0 where
  pub name_is : name_in x ≡ name
  pub rto_is : rto_in x ≡ rto
  pub accepted : (interval x).statement.refusal ≡ 0

pub record Fit (xs : List Inputs) : Type 0 where
  pub few : length xs ≤ 60
  pub short : seconds_together xs ≤ 3600
  pub alike : Each (Alike (name_of xs) (rto_of xs)) xs

-- ---- lists with one more at the end
map_snoc : {A B : Type 0} (f : A → B) (xs : List A) (a : A) → map f (xs ++ (a ∷ [])) ≡ map f xs ++ (f a ∷ [])
map_snoc f [] a = refl
map_snoc f (x ∷ xs) a = ap (λ l. f x ∷ l) (map_snoc f xs a)

length_snoc : {A : Type 0} (xs : List A) (a : A) → length (xs ++ (a ∷ [])) ≡ length xs + 1
length_snoc xs a = length-append xs (a ∷ [])

seconds_snoc : (xs : List Inputs) (x : Inputs) → seconds_together (xs ++ (x ∷ [])) ≡ seconds_together xs + seconds_in x
unfolding seconds_together
seconds_snoc [] x = omega arith
seconds_snoc (y ∷ xs) x = let e = seconds_snoc xs x in omega arith

each_snoc : (P : Inputs → Type 0) (xs : List Inputs) (x : Inputs) → Each P xs → P x → Each P (xs ++ (x ∷ []))
each_snoc P [] x e p = (p, e)
each_snoc P (y ∷ xs) x e p = (e.0, each_snoc P xs x e.1 p)

-- one more cell is filled
padded_set : {A : Type 0} (xs : List A) (z a : A) → length xs < 60 → set (padded xs z) (length xs) a ≡ padded (xs ++ (a ∷ [])) z
padded_set xs z a l =
    let e : 60 - length xs ≡ suc (60 - length (xs ++ (a ∷ []))) = omega (arith, length_snoc xs a) in
    ap (λ (n : ℕ). set (xs ++ replicate n z) (length xs) a) e
    ∙ set-append_seam xs z (replicate (60 - length (xs ++ (a ∷ []))) z) a
    ∙ sym (append_snoc xs a (replicate (60 - length (xs ++ (a ∷ []))) z))

-- ---- the seconds of an hour laid out
seconds_front : (n : ℕ) (ns : List ℕ) (k : ℕ) → seconds_to (n ∷ ns) (suc k) ≡ n + seconds_to ns k
unfolding seconds_to
seconds_front n ns zero = omega arith
seconds_front n ns (suc k) = let e = seconds_front n ns k in omega arith

seconds_first : (xs : List Inputs) (r : List ℕ) → seconds_to (map seconds_in xs ++ r) (length xs) ≡ seconds_together xs
unfolding seconds_to seconds_together
seconds_first [] r = refl
seconds_first (x ∷ xs) r = seconds_front (seconds_in x) (map seconds_in xs ++ r) (length xs) ∙ ap (λ n. seconds_in x + n) (seconds_first xs r)

pub laid_seconds : (xs : List Inputs) → length xs ≤ 60 → seconds_of (padded (map seconds_in xs) 0) (length xs) ≡ seconds_together xs
unfolding seconds_of
laid_seconds xs l = ap (seconds_to (padded (map seconds_in xs) 0)) (held_all (length xs) l) ∙ seconds_first xs _

-- ---- what is taken
pub record Passes (h : Hour) (i : Interval) : Type 0 where
  pub own : i.statement.refusal ≡ 0
  pub admitted : Admits h i

pub passes : (h : Hour) (i : Interval) → refusal_of h i ≡ 0 → Passes h i
unfolding refusal_of
passes h i e = by (eqb i.statement.refusal 0) refl e
  where
    by : (a : Bool) → eqb i.statement.refusal 0 ≡ a → cond a (hour_row h i) i.statement.refusal ≡ 0 → Passes h i
    by true p z = record { own = eqb-true _ _ p; admitted = admits h i z }
    by false p z = absurd (eqb-false _ _ p z)

-- of the flowgate and Monitoring RTO of those before it
like : (xs : List Inputs) (x : Inputs) → is_other (laid xs) (interval x) ≡ false → (name_in x ≡ name_of (xs ++ (x ∷ []))) × (rto_in x ≡ rto_of (xs ++ (x ∷ [])))
unfolding is_other
like [] x e = (refl, refl)
like (y ∷ xs) x e = by (eqb (length (y ∷ xs)) 0) (eqb (rto_in y) (rto_in x)) (same_list (name_in y) (name_in x)) refl refl refl e
  where
    by : (a b c : Bool) → eqb (length (y ∷ xs)) 0 ≡ a → eqb (rto_in y) (rto_in x) ≡ b → same_list (name_in y) (name_in x) ≡ c →
        (not a && (not b || not c)) ≡ false → (name_in x ≡ name_in y) × (rto_in x ≡ rto_in y)
    by true b c p q r z = absurd (let k = eqb-true (length (y ∷ xs)) 0 p in omega arith)
    by false true true p q r z = (sym (same_true _ _ r), sym (eqb-true _ _ q))
    by false true false p q r z = absurd (true≢false z)
    by false false c p q r z = absurd (true≢false z)

-- two hours are the same where their fields are
hour_is : {h g : Hour} → h.amounts ≡ g.amounts → h.seconds ≡ g.seconds → h.count ≡ g.count → h.name ≡ g.name → h.monitoring_rto ≡ g.monitoring_rto → h ≡ g
hour_is a b d e f = λ i. record { amounts = a i; seconds = b i; count = d i; name = e i; monitoring_rto = f i }

-- the hour with one more
laid_more : (xs : List Inputs) (x : Inputs) → Passes (laid xs) (interval x) → with_interval (laid xs) (interval x) ≡ laid (xs ++ (x ∷ []))
unfolding with_interval
laid_more xs x p =
    hour_is (cells amount_in (pos 0)) (cells seconds_in 0) (sym (length_snoc xs x)) (like xs x p.admitted.one).0 (like xs x p.admitted.one).1
  where
    cells : {A : Type 0} (f : Inputs → A) (z : A) → set (padded (map f xs) z) (length xs) (f x) ≡ padded (map f (xs ++ (x ∷ []))) z
    cells f z =
        ap (λ (n : ℕ). set (padded (map f xs) z) n (f x)) (sym (length-map xs f))
        ∙ padded_set (map f xs) z (f x) (let e = length-map xs f in omega (arith, p.admitted.room))
        ∙ ap (λ l. padded l z) (sym (map_snoc f xs x))

first_kept : (xs : List Inputs) (x : Inputs) → Each (Alike (name_of xs) (rto_of xs)) xs → Each (Alike (name_of (xs ++ (x ∷ []))) (rto_of (xs ++ (x ∷ [])))) xs
first_kept [] x e = e
first_kept (y ∷ xs) x e = e

fit_more : (xs : List Inputs) (x : Inputs) → Fit xs → Passes (laid xs) (interval x) → Fit (xs ++ (x ∷ []))
fit_more xs x f p =
    record {
      few = let e = length_snoc xs x in omega (arith, p.admitted.room);
      short = let e = seconds_snoc xs x in let g = laid_seconds xs f.few in omega (arith, p.admitted.time);
      alike = let l = like xs x p.admitted.one in each_snoc _ xs x (first_kept xs x f.alike) (record { name_is = l.0; rto_is = l.1; accepted = p.own });
    }

-- ---- growing
-- an hour grown from one laid out is laid out, with those that it took at the end
record Grew (xs ys : List Inputs) : Type 0 where
  pub is_laid : grown (laid xs) ys ≡ laid (xs ++ taken_by (laid xs) ys)
  pub fit : Fit (xs ++ taken_by (laid xs) ys)

-- the hour behind one interval, and what it takes of the later ones
module _ (h : Hour) (y : Inputs) (ys : List Inputs) where
  taken_hour : refusal_of h (interval y) ≡ 0 → (added h (interval y)).hour ≡ with_interval h (interval y)
  unfolding added
  taken_hour e = rw (eq-eqb _ _ e)

  refused_hour : eqb (refusal_of h (interval y)) 0 ≡ false → (added h (interval y)).hour ≡ h
  unfolding added
  refused_hour e = rw e

  grown_step : (k : Hour) → (added h (interval y)).hour ≡ k → grown h (y ∷ ys) ≡ grown k ys
  unfolding grown
  grown_step k e = ap (λ g. grown g ys) e

  taken_step : (b : Bool) → eqb (refusal_of h (interval y)) 0 ≡ b → (k : Hour) → (added h (interval y)).hour ≡ k → taken_by h (y ∷ ys) ≡ cond b (y ∷ taken_by k ys) (taken_by k ys)
  unfolding taken_by
  taken_step b z k e = rw (z, e)

nothing_grown : (h : Hour) → grown h [] ≡ h
unfolding grown
nothing_grown h = refl

nothing_taken : (h : Hour) → taken_by h [] ≡ []
unfolding taken_by
nothing_taken h = refl

from : (xs ys zs : List Inputs) → taken_by (laid xs) ys ≡ zs → grown (laid xs) ys ≡ laid (xs ++ zs) → Fit (xs ++ zs) → Grew xs ys
from xs ys zs t g f = record { is_laid = g ∙ ap (λ l. laid (xs ++ l)) (sym t); fit = subst (λ l. Fit (xs ++ l)) (sym t) f }

grew : (xs ys : List Inputs) → Fit xs → Grew xs ys
grew xs [] f = from xs [] [] (nothing_taken (laid xs)) (nothing_grown (laid xs) ∙ ap laid (sym (append-nil xs))) (subst Fit (sym (append-nil xs)) f)
grew xs (y ∷ ys) f = by (eqb (refusal_of (laid xs) (interval y)) 0) refl (λ g. grew (xs ++ (y ∷ [])) ys g) (grew xs ys f)
  where
    by : (b : Bool) → eqb (refusal_of (laid xs) (interval y)) 0 ≡ b → (Fit (xs ++ (y ∷ [])) → Grew (xs ++ (y ∷ [])) ys) → Grew xs ys → Grew xs (y ∷ ys)
    by true e more same =
        let z = eqb-true _ _ e in
        let p = passes (laid xs) (interval y) z in
        let h = taken_hour (laid xs) y ys z ∙ laid_more xs y p in
        let g = more (fit_more xs y f p) in
        let a = append_snoc xs y (taken_by (laid (xs ++ (y ∷ []))) ys) in
        from xs (y ∷ ys) (y ∷ taken_by (laid (xs ++ (y ∷ []))) ys) (taken_step _ y ys true e _ h) (grown_step _ y ys _ h ∙ g.is_laid ∙ ap laid a) (subst Fit a g.fit)
    by false e more same =
        let h = refused_hour (laid xs) y ys e in
        from xs (y ∷ ys) (taken_by (laid xs) ys) (taken_step _ y ys false e _ h) (grown_step _ y ys _ h ∙ same.is_laid) same.fit

fit_none : Fit []
unfolding seconds_together
fit_none = record { few = omega arith; short = omega arith; alike = tt }

pub hour_laid : (xs : List Inputs) → hour_of xs ≡ laid (taken_of xs)
hour_laid xs = (grew [] xs fit_none).is_laid

pub taken_fit : (xs : List Inputs) → Fit (taken_of xs)
taken_fit xs = (grew [] xs fit_none).fit

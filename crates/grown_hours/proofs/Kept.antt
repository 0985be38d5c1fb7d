-- The totals of an hour keep what they promise.
use mathlib.Core.Path.{◌≡◌, refl, sym, ap, subst, ◌∙◌}
use mathlib.Core.Bool.{Bool, true, false, cond}
use mathlib.Core.List.{List}
use lib.Dec.{eqb}
use native.Mathlib.Omega.{arith}
use lib.IntN.{ℤ, pos, neg_ℤ, ◌+ℤ◌}
use Rattle.integers.proofs.Linear.{zarith}
use Rattle.integers.proofs.Tactic.{zi, zo}
use Rattle.records.specs.Codes.{nyiso}
use Rattle.settlement.specs.Settled.{Inputs}
use Rattle.hours.specs.declared.Hour.{Hour}
use Rattle.hours.specs.declared.Totals.{Totals}
use Rattle.hours.specs.Totals.{hour_amount, totals_of}
use Rattle.grown_hours.specs.Grown.{taken_of}
use Rattle.grown_hours.specs.Promise.{Sums, Promise}
use Rattle.grown_hours.proofs.Growth.{rto_of, laid, laid_seconds, Fit, hour_laid, taken_fit}
use Rattle.grown_hours.proofs.Sums.{laid_amount, nyiso_sum, pjm_sum, near_sum}

cancel : (x : ℤ) → x +ℤ neg_ℤ x ≡ pos 0
cancel x = simp zi (simp zo (omega zarith))

cancel_first : (x : ℤ) → neg_ℤ x +ℤ x ≡ pos 0
cancel_first x = simp zi (simp zo (omega zarith))

adds : (h : Hour) → (totals_of h).nyiso +ℤ (totals_of h).pjm ≡ pos 0
unfolding totals_of
adds h = by (eqb h.monitoring_rto nyiso)
  where
    by : (b : Bool) → cond b (hour_amount h) (neg_ℤ (hour_amount h)) +ℤ cond b (neg_ℤ (hour_amount h)) (hour_amount h) ≡ pos 0
    by true = cancel (hour_amount h)
    by false = cancel_first (hour_amount h)

-- the other's payment is the negative, whichever monitors
flipped : (b : Bool) (a : ℤ) → cond b (neg_ℤ a) a ≡ neg_ℤ (cond b a (neg_ℤ a))
flipped true a = refl
flipped false a = simp zi (simp zo (omega zarith))

laid_sums : (xs : List Inputs) → Fit xs → Sums xs (totals_of (laid xs))
unfolding totals_of
laid_sums xs f =
    let b = eqb (rto_of xs) nyiso in
    let seconds = laid_seconds xs f.few in
    let amount = laid_amount _ _ xs f.few f.alike in
    let paid = ap (λ (a : ℤ). cond b a (neg_ℤ a)) amount ∙ sym (nyiso_sum _ _ xs f.alike) in
    record {
      seconds = seconds;
      seconds_most = omega (arith, f.short);
      amount = amount;
      nyiso = paid;
      pjm = flipped b (hour_amount (laid xs)) ∙ ap neg_ℤ paid ∙ sym (pjm_sum _ _ xs f.alike);
      amount_near = rw amount (near_sum _ _ xs f.alike);
    }

pub kept : (h : Hour) (t : Totals) → t ≡ totals_of h → Promise h t
kept h t e =
    rw e
    (record {
      totals = refl;
      add_to_zero = adds h;
      grown = λ xs g. subst (λ (k : Hour). Sums (taken_of xs) (totals_of k)) (sym (g ∙ hour_laid xs)) (laid_sums (taken_of xs) (taken_fit xs));
    })

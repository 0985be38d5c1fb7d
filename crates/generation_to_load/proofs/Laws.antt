-- The numbers that step 3 passes on are the figures, and each fits.
use Prim.Native.Nat.{ℕ, ◌≤◌}
use native.Mathlib.Omega.{arith}
use mathlib.Core.Path.{◌≡◌, ap, ◌∙◌}
use mathlib.Core.List.{List}
use lib.Dec.{lit<}
use lib.IntN.{ℤ, pos, nat_abs, ◌-ℤ◌, ◌*ℤ◌}
use lib.ListN.{length}
use lib.Signed.{◌<ℤ◌}
use Rattle.integers.proofs.Machine.{Num, rd, num_is}
use Rattle.quotient.specs.declared.Quotient.{Quotient}
use Rattle.quotient.specs.Rounded.{quotient, remainder}
use Rattle.layout.specs.declared.Layout.{Layout}
use Rattle.records.specs.Codes.{unit_subject}
use Rattle.record_rows.specs.inner.Valid.{Valid}
use Rattle.sheet.specs.Sheet.{content_of}
use Rattle.sheet.proofs.Accepted.{valid, counts}
use Rattle.figures.specs.Balance.{net_load, gross_output, net_generation, final_generation}
use Rattle.figures.specs.Flow.{weighted_output, weighted_load, first_dividend, load_share, first_remainder, gross_flow, second_dividend, generation_to_load, second_remainder}
use Rattle.figures.proofs.Bounds.{gross_output_small, net_load_small, net_generation_small, final_generation_small, weighted-output-small, weighted-load-small, load-share-small, first-remainder-small, gross-flow-small, generation-to-load-small, second-remainder-small}
use Rattle.weighted_sums.specs.inner.Weighted.{weighted_sum}
use Rattle.weighted_sums.proofs.Laws.{outputs_are}
use Rattle.generation_to_load.specs.declared.Balance.{Balance}
use Rattle.generation_to_load.specs.Steps.{balance_of, Ready, flow_for}
use Rattle.generation_to_load.specs.inner.Divided.{Divided}

-- a number that is read keeps its bound and its sign
pub read_within : {p z : ℤ} {B : ℕ} → Num p z B → nat_abs p ≤ B
read_within n = rw n.is n.abs

pub read_above : {p z : ℤ} {B : ℕ} → Num p z B → pos 0 <ℤ z → pos 0 <ℤ p
read_above n h = rw n.is h

pub divided : (q : Quotient) {m e n d : ℤ} → (q.quotient ≡ quotient m e) × (q.remainder ≡ remainder m e) → m ≡ n → e ≡ d → Divided q n d
divided q h em ed = record { quotient = h.0 ∙ rw (em, ed); remainder = h.1 ∙ rw (em, ed) }

module _ {s : List ℕ} {l : Layout} {b : Balance} {array : List ℤ} (r : Ready s l b array) where
  pub is_valid : Valid (content_of s)
  is_valid = valid s l r.accepted

  pub known : {target : ℕ} → target ≤ l.pars → target ≤ length (content_of s).pars
  known k = omega (arith, (counts s l r.accepted).pars)

  -- the balance's figures, as they are read
  read : (f : Balance → ℤ) → nat_abs (f (balance_of (content_of s))) ≤ 2000000 → Num (rd (f b)) (f (balance_of (content_of s))) 2000000
  read f h = num_is (f b) (f (balance_of (content_of s))) 2000000 (ap f r.balance) h (lit< tt)

  pub gross : Num (rd b.gross_output) (gross_output (content_of s)) 2000000
  gross = read (λ x. x.gross_output) (gross_output_small is_valid r.passed)

  pub net_load_lem : Num (rd b.net_load) (net_load (content_of s)) 2000000
  net_load_lem = read (λ x. x.net_load) (net_load_small is_valid r.passed)

  pub net_generation_lem : Num (rd b.net_generation) (net_generation (content_of s)) 2000000
  net_generation_lem = read (λ x. x.net_generation) (net_generation_small is_valid r.passed)

  pub final_generation_lem : Num (rd b.final_generation) (final_generation (content_of s)) 2000000
  final_generation_lem = read (λ x. x.final_generation) (final_generation_small is_valid r.passed)

  module _ {target : ℕ} (k : target ≤ l.pars) where
    -- A, from the sum of a subject's records
    pub output : (a : ℤ) → a ≡ weighted_sum (content_of s) unit_subject 0 target → Num (rd a) (weighted_output (content_of s) target) 20000000000
    output a e = num_is a _ 20000000000 (e ∙ outputs_are (content_of s) 0 target) (weighted-output-small is_valid r.passed (known k)) (lit< tt)

    -- N
    pub load : (n : ℤ) → n ≡ weighted_load (content_of s) target → Num (rd n) (weighted_load (content_of s) target) 20000000000
    load n e = num_is n _ 20000000000 e (weighted-load-small is_valid r.passed (known k)) (lit< tt)

    -- B, as its quotient returns it
    module _ {n : ℤ} (en : n ≡ weighted_load (content_of s) target) {q : Quotient} (dq : Divided q (pos 10 *ℤ rd b.gross_output *ℤ rd n) (rd b.net_load)) where
      pub share : Num (rd q.quotient) (load_share (content_of s) target) 200000000000
      unfolding load_share first_dividend
      share =
          num_is q.quotient (load_share (content_of s) target) 200000000000 (dq.quotient ∙ rw (gross.is, (load n en).is, net_load_lem.is))
          (load-share-small is_valid r.passed (known k)) (lit< tt)

      first : Num (rd q.remainder) (first_remainder (content_of s) target) 2000000
      unfolding first_remainder first_dividend
      first =
          num_is q.remainder (first_remainder (content_of s) target) 2000000 (dq.remainder ∙ rw (gross.is, (load n en).is, net_load_lem.is))
          (first-remainder-small is_valid r.passed (known k)) (lit< tt)

      -- H, as the call returns it
      module _ {a : ℤ} (ea : a ≡ weighted_sum (content_of s) unit_subject 0 target) {h : ℤ} (eh : h ≡ pos 10 *ℤ rd a -ℤ rd q.quotient) where
        pub gross-flow : Num (rd h) (gross_flow (content_of s) target) 400000000000
        unfolding gross_flow
        gross-flow =
            num_is h (gross_flow (content_of s) target) 400000000000 (eh ∙ rw ((output a ea).is, share.is))
            (gross-flow-small is_valid r.passed (known k)) (lit< tt)

        -- the flow, as its quotient returns it
        module _ {w : Quotient} (dw : Divided w (rd h *ℤ rd b.final_generation) (rd b.net_generation)) where
          flow : Num (rd w.quotient) (generation_to_load (content_of s) target) 400000000000
          unfolding generation_to_load second_dividend
          flow =
              num_is w.quotient (generation_to_load (content_of s) target) 400000000000 (dw.quotient ∙ rw (gross-flow.is, final_generation_lem.is, net_generation_lem.is))
              (generation-to-load-small is_valid r.passed (known k)) (lit< tt)

          second : Num (rd w.remainder) (second_remainder (content_of s) target) 2000000
          unfolding second_remainder second_dividend
          second =
              num_is w.remainder (second_remainder (content_of s) target) 2000000 (dw.remainder ∙ rw (gross-flow.is, final_generation_lem.is, net_generation_lem.is))
              (second-remainder-small is_valid r.passed (known k)) (lit< tt)

          pub flow-is :
              record {
                weighted_output = rd a;
                weighted_load = rd n;
                load_share = rd q.quotient;
                first_remainder = rd q.remainder;
                gross_flow = rd h;
                flow = rd w.quotient;
                second_remainder = rd w.remainder;
              }
              ≡ flow_for (content_of s) target
          flow-is = rw ((output a ea).is, (load n en).is, share.is, first.is, gross-flow.is, flow.is, second.is)

-- The numbers of several lines, passed on to their writer, are read back from their bits.
use mathlib.Core.Path.{◌≡◌, refl, subst}
use mathlib.Core.List.{List}
use Prim.Native.Nat.{ℕ}
use lib.IntN.{ℤ}
use mir.Syntax.{w64}
use mir.ValLaws.{to_z-of_z}
use mir.Val.{to_z, of_z, SFits}
use Rattle.writers.specs.inner.Prepended.{Prepended}
use Rattle.printout.specs.Lines.{flow_lines, amount_lines, payment_lines}
use Rattle.lines.proofs.Numbers.{three_read_back, three_as_is}

module _ {a b c : ℤ} (ha : SFits w64 a) (hb : SFits w64 b) (hc : SFits w64 c) where
  pub amounts_read_back : amount_lines (to_z w64 (of_z w64 a)) (to_z w64 (of_z w64 b)) (to_z w64 (of_z w64 c)) ≡ amount_lines a b c
  amounts_read_back = three_read_back ha hb hc amount_lines

  module _ {d e : ℤ} (hd : SFits w64 d) (he : SFits w64 e) where
    five_read_back : (f : ℤ → ℤ → ℤ → ℤ → ℤ → List ℕ)
        → f (to_z w64 (of_z w64 a)) (to_z w64 (of_z w64 b)) (to_z w64 (of_z w64 c)) (to_z w64 (of_z w64 d)) (to_z w64 (of_z w64 e)) ≡ f a b c d e
    five_read_back f = rw (to_z-of_z w64 a ha, to_z-of_z w64 b hb, to_z-of_z w64 c hc, to_z-of_z w64 d hd, to_z-of_z w64 e he) refl

    pub flows_read_back : flow_lines (to_z w64 (of_z w64 a)) (to_z w64 (of_z w64 b)) (to_z w64 (of_z w64 c)) (to_z w64 (of_z w64 d)) (to_z w64 (of_z w64 e)) ≡ flow_lines a b c d e
    flows_read_back = five_read_back flow_lines

    pub payment_read_back : payment_lines (to_z w64 (of_z w64 a)) (to_z w64 (of_z w64 b)) (to_z w64 (of_z w64 c)) (to_z w64 (of_z w64 d)) (to_z w64 (of_z w64 e)) ≡ payment_lines a b c d e
    payment_read_back = five_read_back payment_lines

module _ {a b c : ℤ} {xs ys : List ℕ} {m n : ℕ} (ha : SFits w64 a) (hb : SFits w64 b) (hc : SFits w64 c) where
  pub amounts_as_is : Prepended (amount_lines (to_z w64 (of_z w64 a)) (to_z w64 (of_z w64 b)) (to_z w64 (of_z w64 c))) xs m ys n → Prepended (amount_lines a b c) xs m ys n
  amounts_as_is w = three_as_is ha hb hc amount_lines w

  module _ {d e : ℤ} (hd : SFits w64 d) (he : SFits w64 e) where
    pub flows-as-is : Prepended (flow_lines (to_z w64 (of_z w64 a)) (to_z w64 (of_z w64 b)) (to_z w64 (of_z w64 c)) (to_z w64 (of_z w64 d)) (to_z w64 (of_z w64 e))) xs m ys n
        → Prepended (flow_lines a b c d e) xs m ys n
    flows-as-is w = subst (λ (bytes : List ℕ). Prepended bytes xs m ys n) (flows_read_back ha hb hc hd he) w

    pub payment-as-is : Prepended (payment_lines (to_z w64 (of_z w64 a)) (to_z w64 (of_z w64 b)) (to_z w64 (of_z w64 c)) (to_z w64 (of_z w64 d)) (to_z w64 (of_z w64 e))) xs m ys n
        → Prepended (payment_lines a b c d e) xs m ys n
    payment-as-is w = subst (λ (bytes : List ℕ). Prepended bytes xs m ys n) (payment_read_back ha hb hc hd he) w

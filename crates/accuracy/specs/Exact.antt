-- Document 01, 'From balance to flow' and 'The payment', and document 02, request 6, with no rounding anywhere. Only whole sums of the sheet occur here.
use Rattle.std.specs.Prelude.{ℕ, ◌+◌, cond, eqb, ℤ, pos, ◌*ℤ◌, length}
use Rattle.records.specs.declared.Head.{Head}
use Rattle.records.specs.Codes.{common, noncommon}
use Rattle.records.specs.Content.{Content, head, par}
use Rattle.figures.specs.Balance.{net_load, net_generation, final_generation, gross_output}
use Rattle.figures.specs.Flow.{weighted_output, weighted_load, parallel, shadow, par_factor, control, nyiso_monitors}
use Rattle.figures.specs.Lake.{has_paths, path_sum, middle}
use Rattle.figures.specs.Payment.{in_watts, price}
use Rattle.accuracy.specs.Fraction.{Fraction, entire, ◌⊕◌, ◌⊖◌, ◌⊗◌, ◌⊘◌, sum_of, at_most}

-- (10 × A − 10 × G × N / net load) × final generation / net generation
unfoldable pub exact_generation_to_load : Content → ℕ → Fraction
exact_generation_to_load c target =
    (entire (pos 10 *ℤ weighted_output c target) ⊖ entire (pos 10 *ℤ gross_output c *ℤ weighted_load c target) ⊘ net_load c)
    ⊗ final_generation c ⊘ net_generation c

-- PAR factor × (exact generation-to-load flow + parallel flow on that PAR as target), if the PAR is of that class
unfoldable pub exact_carried_term : Content → ℕ → ℕ → Fraction
exact_carried_term c class i =
    cond (eqb (par c i).class class) ((exact_generation_to_load c (i + 1) ⊕ entire (parallel c (i + 1))) ⊗ par_factor c i) (entire (pos 0))

-- one ten-thousandth of their sum, less control
unfoldable pub exact_redirect : Content → ℕ → Fraction
exact_redirect c class = sum_of (exact_carried_term c class) (length c.pars) ⊘ pos 10000 ⊖ entire (control c class)

unfoldable pub exact_non_common_redirect : Content → Fraction
exact_non_common_redirect c = cond (nyiso_monitors c) (entire (pos 0)) (exact_redirect c noncommon)

unfoldable pub exact_market_flow : Content → Fraction
exact_market_flow c = exact_generation_to_load c 0 ⊕ entire (parallel c 0) ⊕ entire (shadow c 0) ⊖ exact_redirect c common ⊖ exact_non_common_redirect c

-- document 02, request 6
unfoldable pub exact_impact : Content → Fraction
exact_impact c = entire (path_sum c) ⊘ pos 4

unfoldable pub exact_adjusted_flow : Content → Fraction
exact_adjusted_flow c = exact_market_flow c ⊕ exact_impact c

unfoldable pub exact_settlement_flow : Content → ℤ → Fraction
exact_settlement_flow c watts = cond (has_paths c) (middle at_most (exact_market_flow c) (exact_adjusted_flow c) (entire watts)) (exact_market_flow c)

unfoldable pub exact_difference : Content → ℤ → Fraction
exact_difference c entitlement = exact_settlement_flow c (in_watts entitlement) ⊖ entire (in_watts entitlement)

-- the exact difference's own sign decides: with a denominator above zero it is the numerator's
unfoldable pub exact_price : Head → Fraction → ℤ
exact_price h d = price h d.numerator

unfoldable pub exact_amount_of : Head → Fraction → Fraction
exact_amount_of h d = d ⊗ exact_price h d ⊗ pos h.seconds ⊘ pos 3600000

unfoldable pub exact_amount : Content → ℤ → Fraction
exact_amount c entitlement = exact_amount_of (head c) (exact_difference c entitlement)

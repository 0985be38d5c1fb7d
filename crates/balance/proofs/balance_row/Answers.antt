-- `balance_row` meets its contract.
use native.Mathlib.Omega.{arith}
use Rattle.std.proofs.lemmas.Grind.{common_steps}
use mathlib.Core.Path.{◌≡◌}
use mathlib.Core.Bool.{true, false, ◌||◌}
use lib.IntN.{pos}
use lib.Signed.{lt_z, le_z}
use Rattle.rows.specs.Refusals.{row_of}
use Rattle.figures.specs.Balance.{balance_row, none_below_zero, zone_load, zone_generation, gross_load, gross_output, final_load}
use Rattle.balance.proofs.Laws.{loads_judged, generation_judged, zero_bits}
use Rattle.balance.proofs.balance_row.Goals as goal

pub returns-in_err-row-2 : goal.returns-in_err-row-2
unfolding balance_row
returns-in_err-row-2 c x el eg ez =
    let gross : (lt_z (pos 2000000) (gross_load x) || lt_z (pos 2000000) (gross_output x)) ≡ false = grind (arith, common_steps) in
    let zones : none_below_zero x (zone_load x) ≡ false = grind (arith, common_steps, loads_judged x c.args.load.now c.args.zones c.requires el ez _ c.none_below_zero.ensures) in
    let is : row_of c.from_residual-in_err-row-2.result ≡ 17 = grind (arith, common_steps) in
    rw (gross, zones) is

pub returns-in_err-row-3 : goal.returns-in_err-row-3
unfolding balance_row
returns-in_err-row-3 c x el eg ez =
    let gross : (lt_z (pos 2000000) (gross_load x) || lt_z (pos 2000000) (gross_output x)) ≡ false = grind (arith, common_steps) in
    let zones : none_below_zero x (zone_load x) ≡ true = grind (arith, common_steps, loads_judged x c.args.load.now c.args.zones c.requires el ez _ c.none_below_zero.ensures) in
    let final : le_z (final_load x) (pos 0) ≡ true = grind (arith, common_steps) in
    let is : row_of c.from_residual-in_err-row-3.result ≡ 18 = grind (arith, common_steps) in
    rw (gross, zones, final) is

pub returns-in_err-row-4 : goal.returns-in_err-row-4
unfolding balance_row
returns-in_err-row-4 c x el eg ez =
    let gross : (lt_z (pos 2000000) (gross_load x) || lt_z (pos 2000000) (gross_output x)) ≡ false = grind (arith, common_steps) in
    let zones : none_below_zero x (zone_load x) ≡ true = grind (arith, common_steps, loads_judged x c.args.load.now c.args.zones c.requires el ez _ c.none_below_zero.ensures) in
    let final : le_z (final_load x) (pos 0) ≡ false = grind (arith, common_steps) in
    let generation : none_below_zero x (zone_generation x) ≡ false = grind (arith, common_steps, generation_judged x c.args.generation.now c.args.zones c.requires eg ez _ c.none_below_zero-2.ensures) in
    let is : row_of c.from_residual-in_err-row-4.result ≡ 19 = grind (arith, common_steps) in
    rw (gross, zones, final, generation) is

pub returns-in_err-row-5 : goal.returns-in_err-row-5
unfolding balance_row
returns-in_err-row-5 c x el eg ez = grind (arith, common_steps, loads_judged x c.args.load.now c.args.zones c.requires el ez _ c.none_below_zero.ensures, generation_judged x c.args.generation.now c.args.zones c.requires eg ez _ c.none_below_zero-2.ensures, zero_bits)

pub returns : goal.returns
unfolding balance_row
returns c x el eg ez = grind (arith, common_steps, loads_judged x c.args.load.now c.args.zones c.requires el ez _ c.none_below_zero.ensures, generation_judged x c.args.generation.now c.args.zones c.requires eg ez _ c.none_below_zero-2.ensures, zero_bits)

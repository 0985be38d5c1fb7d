-- How large the figures of a sheet that meets none of rows 1 to 21 are at most, and those of a payment that row 22 lets be made. Every one fits an i64.
use Rattle.std.specs.Prelude.{ℕ, ◌+◌, ◌*◌}

-- the sums of loads and of generation, and the remainders by them
abbrev pub most_power : ℕ
most_power = 2000000

-- A and N
abbrev pub most_weighted : ℕ
most_weighted = 20000000000

-- B
abbrev pub most_share : ℕ
most_share = 200000000000

abbrev pub most_generation_to_load : ℕ
most_generation_to_load = 400000000000

-- a point's net schedule, tenths of a MW
abbrev pub most_net : ℕ
most_net = 400000

-- parallel and shadow flow: of each of 32 points net schedule × factor × 10
abbrev pub most_schedule : ℕ
most_schedule = 32 * (most_net * 10000 * 10)

-- a PAR's generation-to-load flow and parallel flow together
abbrev pub most_on_par : ℕ
most_on_par = most_generation_to_load + most_schedule

-- that times the PAR's factor
abbrev pub most_over_par : ℕ
most_over_par = 10000 * most_on_par

-- the sum over the eight PARs, and what they carry
abbrev pub most_carried_sum : ℕ
most_carried_sum = 8 * most_over_par

abbrev pub most_carried : ℕ
most_carried = 8 * most_on_par

-- of each of 8 PARs (actual − target) × factor × 10
abbrev pub most_control : ℕ
most_control = 8 * (400000 * 10000 * 10)

abbrev pub most_redirect : ℕ
most_redirect = most_carried + most_control

-- the market flow before row 22: its five parts
abbrev pub most_market : ℕ
most_market = most_generation_to_load + most_schedule + most_schedule + most_redirect + most_redirect

-- of each of 4 paths (4 × path flow − circulation) × factor × 10, and a quarter of that
abbrev pub most_path_sum : ℕ
most_path_sum = 4 * (1000000 * 10000 * 10)

abbrev pub most_impact : ℕ
most_impact = 1000000 * 10000 * 10

abbrev pub most_adjusted : ℕ
most_adjusted = most_market + most_impact

abbrev pub most_difference : ℕ
most_difference = 20000000000

abbrev pub most_amount : ℕ
most_amount = 2000000000000

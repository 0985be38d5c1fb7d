-- How the table of refusals is read (document 01, 'Where each refusal is checked').
use Rattle.std.specs.Prelude.{ℕ, Bool, ◌||◌, cond, ltb, ℤ, nat_abs}

-- the row of this number where its condition is met, else what the rows below it say; 0 where no row fits
abbrev pub row : ℕ → Bool → ℕ → ℕ
row number met below = cond met number below

-- outside low..high
abbrev pub outside : ℕ → ℕ → ℕ → Bool
outside low n high = ltb n low || ltb high n

-- outside ± most
abbrev pub beyond : ℕ → ℤ → Bool
beyond most z = ltb most (nat_abs z)

-- body cut short: fewer bytes are left behind the kind byte than the body has
abbrev pub cut_short : ℕ → ℕ → Bool
cut_short body left = ltb left body

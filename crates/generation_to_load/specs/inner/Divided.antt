-- A rounded quotient with its remainder, as step 3 uses it.
use Rattle.std.specs.Prelude.{◌≡◌, ℤ}
use Rattle.quotient.specs.declared.Quotient.{Quotient}
use Rattle.quotient.specs.Rounded as rounded

pub record Divided (r : Quotient) (n d : ℤ) : Type 0 where
  pub quotient : r.quotient ≡ rounded.quotient n d
  pub remainder : r.remainder ≡ rounded.remainder n d

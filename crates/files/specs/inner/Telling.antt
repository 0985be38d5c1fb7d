-- What failed, as the line on standard error begins; behind it stand a colon and the reason.
use Rattle.std.specs.Prelude.{ℕ, List, ◌++◌}
use Rattle.writers.specs.Text.{ascii}

unfoldable pub told : List ℕ → List ℕ → List ℕ
told program what = program ++ ascii ": " ++ what

-- A text is written from its end: each writer puts its bytes before those that stand there.
use Rattle.std.specs.Prelude.{◌≡◌, List, ◌++◌, ℕ, ◌+◌, length, drop}

-- a writer was lent the buffer `before`, with a text from `at` on; it left `after`, with its bytes and then that text from `from` on
pub record Prepended (bytes before : List ℕ) (at : ℕ) (after : List ℕ) (from : ℕ) : Type 0 where
  pub left : drop from after ≡ bytes ++ drop at before
  pub count : from + length bytes ≡ at

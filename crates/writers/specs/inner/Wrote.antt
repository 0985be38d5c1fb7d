-- A text is written to the front of a buffer.
use Rattle.std.specs.Prelude.{◌≡◌, List, ℕ, length}
use Rattle.writers.specs.Written.{written}

-- a writer that was lent the buffer `before` left it with the bytes at its front, and returned how many these are
pub record Wrote (bytes before after : List ℕ) (n : ℕ) : Type 0 where
  pub left : after ≡ written bytes before
  pub count : n ≡ length bytes

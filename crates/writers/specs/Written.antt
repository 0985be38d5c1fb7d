-- What stands in a buffer after bytes were written to its front.
use Rattle.std.specs.Prelude.{List, ◌++◌, ℕ, length, drop}

-- the bytes, and behind them the buffer as before
unfoldable pub written : List ℕ → List ℕ → List ℕ
written bytes buffer = bytes ++ drop (length bytes) buffer

-- A file read whole or not at all, and whether all bytes were written.
use Rattle.std.specs.Prelude.{ℕ, ◌≡◌, ◌⊎◌, List, length, take, Option, IfSome, Result, Ok, Err, ⊤}
use Rattle.std.specs.Io.KnownBytes.{Appends}
use Rattle.transfers.specs.declared.Errno.{Errno}
use Rattle.transfers.specs.Transfer.{Outcome, bytes_of, Received, Delivered, WroteOn}

-- a file, up to the buffer's length: all bytes or none
pub record Loaded (room n : ℕ) : Type 0 where
  pub outcome : Outcome
  pub received : Received room outcome
  pub counts : n ≡ bytes_of outcome

-- the same of a file whose bytes are known: what counts are none of them, or all that the buffer has room for
abbrev pub Holds : Option (List ℕ) → List ℕ → ℕ → Type 0
Holds file buf n = IfSome file (λ bytes. (n ≡ 0) ⊎ (take n buf ≡ take (length buf) bytes))

-- whether all bytes were written
abbrev pub is_whole : Outcome → Result ⊤ Errno
is_whole (Ok n) = Ok tt
is_whole (Err error) = Err error

pub record Sent (room : ℕ) (r : Result ⊤ Errno) : Type 0 where
  pub outcome : Outcome
  pub delivered : Delivered room outcome
  pub whole : r ≡ is_whole outcome

-- the same of a writer whose bytes are known: it holds all of them now, or a beginning that is not all
abbrev pub Written : Option (List ℕ) → Option (List ℕ) → List ℕ → Result ⊤ Errno → Type 0
Written old new bytes (Ok whole) = Appends old new bytes
Written old new bytes (Err error) = (done : ℕ) × WroteOn old new bytes done

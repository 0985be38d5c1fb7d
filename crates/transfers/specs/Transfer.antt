-- All bytes or none: what reading and writing come to, by the answers of the calls in order, and by the bytes that the
-- reader has left and the writer holds, where their types say which those are. No contract of the kit says which bytes a
-- file of the system gives or takes.
use Rattle.std.specs.Prelude.{ℕ, ◌+◌, ◌-◌, ◌≤◌, ◌<◌, ◌≡◌, cond, List, [], ◌∷◌, eqb, ltb, length, take, Option, Result, Ok, Err}
use Rattle.std.specs.Io.KnownBytes.{Appends, Consumes, IsAtEnd}
use Rattle.std.specs.declared.ops.ControlFlow.{ControlFlow}
use Rattle.std.specs.declared.ops.ControlFlow.TheVariants.{Continue, Break}
use Rattle.transfers.specs.declared.Errno.{Errno}
use Rattle.transfers.specs.declared.CallError.{CallError}
use Rattle.transfers.specs.declared.CallError.TheVariants.{Interrupted, Failed}

-- what one call came to: so many bytes moved, or why none did
abbrev pub Answer : Type 0
Answer = Result ℕ CallError

-- what a transfer came to: so many bytes, and these are all, or none that count
abbrev pub Outcome : Type 0
Outcome = Result ℕ Errno

-- a transfer that failed, by the system's number of the error
abbrev pub failed_by : ℕ → Outcome
failed_by number = Err (record { number = number })

-- what comes after a call: another, with so many bytes moved, or the outcome
abbrev pub Step : Type 0
Step = ControlFlow Outcome ℕ

-- after a call that was handed the bytes behind the first `done` of `room`; one that moves none of them brings the outcome `none`
abbrev pub after : Answer → ℕ → ℕ → Outcome → Step
after (Ok n) done room none = cond (ltb n (room - done)) (cond (eqb n 0) (Break none) (Continue (done + n))) (Break (Ok room))
after (Err Interrupted) done room none = Continue done
after (Err (Failed error)) done room none = Break (Err error)

abbrev pub next : Step → (ℕ → Outcome) → Outcome
next (Continue done) onward = onward done
next (Break outcome) onward = outcome

-- a transfer of room bytes, of which so many are done, by the answers to come; 4, EINTR, where they are all interruptions
unfoldable pub transfer : (ℕ → Outcome) → ℕ → List Answer → ℕ → Outcome
transfer none room [] done = failed_by 4
transfer none room (answer ∷ later) done = next (after answer done room (none done)) (transfer none room later)

-- the bytes that count: none of a transfer that failed
abbrev pub bytes_of : {E : Type 0} → Result ℕ E → ℕ
bytes_of (Ok n) = n
bytes_of (Err error) = 0

-- what a transfer comes to, by the answers of its calls
pub record Transferred (none : ℕ → Outcome) (room : ℕ) (r : Outcome) : Type 0 where
  pub answers : List Answer
  pub outcome : r ≡ transfer none room answers 0
  pub within : bytes_of r ≤ room

-- Reading: a call that moves no byte has met the input's end.
abbrev pub Received : ℕ → Outcome → Type 0
Received room r = Transferred Ok room r

-- Writing: a call that moves no byte is an error, 5, EIO.
abbrev pub Delivered : ℕ → Outcome → Type 0
Delivered room r = Transferred (λ (done : ℕ). failed_by 5) room r

-- what a read of a whole input leaves of it: what counts are the bytes that it gave, up to its end or the buffer's
abbrev pub ReadWhole : Option (List ℕ) → Option (List ℕ) → List ℕ → Outcome → Type 0
ReadWhole old new buf (Ok n) = Consumes old new (take n buf) × (n < length buf → IsAtEnd new)
ReadWhole old new buf (Err error) = Unit {0}

-- the first `done` bytes were written, and not all
abbrev pub WroteOn : Option (List ℕ) → Option (List ℕ) → List ℕ → ℕ → Type 0
WroteOn old new bytes done = Appends old new (take done bytes) × (0 < length bytes → done < length bytes)

-- what a write of all bytes leaves of a writer: all of them, or where it failed a beginning
abbrev pub WroteWhole : Option (List ℕ) → Option (List ℕ) → List ℕ → Outcome → Type 0
WroteWhole old new bytes (Ok n) = Appends old new bytes × (n ≡ length bytes)
WroteWhole old new bytes (Err error) = (done : ℕ) × WroteOn old new bytes done

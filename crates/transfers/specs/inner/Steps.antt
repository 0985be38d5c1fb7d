-- A single call of read or write, and the step of a transfer that it makes.
use Rattle.std.specs.Prelude.{ℕ, ◌-◌, ◌≤◌, ◌≡◌, ◌≢◌, cond, eqb, ℤ, pos, negsuc, List, take, Option, Some, None, IfOk, IfErr}
use Rattle.std.specs.Io.KnownBytes.{Consumes}
use Rattle.std.specs.IoError.{raw_os_error}
use Rattle.std.specs.declared.io.Error.{Error as IoError}
use Rattle.std.specs.declared.io.ErrorKind.{ErrorKind}
use Rattle.std.specs.declared.io.ErrorKind.TheVariants.{Interrupted as InterruptedKind}
use Rattle.std.proofs.Common.{w32, to_z}
use Rattle.transfers.specs.declared.Errno.{Errno}
use Rattle.std.specs.declared.ops.ControlFlow.TheVariants.{Continue, Break}
use Rattle.transfers.specs.declared.CallError.{CallError}
use Rattle.transfers.specs.declared.CallError.TheVariants.{Interrupted, Failed}
use Rattle.transfers.specs.Transfer.{Answer, Outcome, Step, after, bytes_of, ReadWhole, WroteWhole, WroteOn}

-- a call that failed, by errno: 4 is EINTR, and no error's number is below 1
abbrev pub failed : ℤ → CallError
failed (pos n) = cond (eqb n 4) Interrupted (Failed (record { number = n }))
failed (negsuc n) = Failed (record { number = 0 })

-- a call that failed, by errno where it has one; without, by its kind, and 5 is EIO
abbrev pub failed_of : Option ℤ → ErrorKind → CallError
failed_of (Some errno) kind = failed errno
failed_of None InterruptedKind = Interrupted
failed_of None kind = Failed (record { number = 5 })

-- the system's error of this number
abbrev pub Numbered : Errno → IoError → Type 0
Numbered errno error = raw_os_error error ≡ Some (to_z w32 errno.number)

-- an interruption, 4, is no error of a call
abbrev pub NoInterruption : CallError → Type 0
NoInterruption Interrupted = Unit {0}
NoInterruption (Failed error) = error.number ≢ 4

-- a call that is handed so many bytes moves no more
abbrev pub Moves : ℕ → Answer → Type 0
Moves handed answer = IfOk answer (λ n. n ≤ handed)

-- what one step comes to, by the answer of its call
pub record Answered (none : ℕ → Outcome) (done room : ℕ) (r : Step) : Type 0 where
  pub answer : Answer
  pub moves : Moves (room - done) answer
  pub number : IfErr answer NoInterruption
  pub step : r ≡ after answer done room (none done)

-- a step stays within the room
abbrev pub Leads : ℕ → Step → Type 0
Leads room (Continue done) = done ≤ room
Leads room (Break outcome) = bytes_of outcome ≤ room

-- the first `done` bytes of the buffer are those that the reader gave since it had `first` left
abbrev pub ReadOn : Option (List ℕ) → Option (List ℕ) → List ℕ → ℕ → Type 0
ReadOn first now buf done = Consumes first now (take done buf)

abbrev pub ReadLeads : Option (List ℕ) → Option (List ℕ) → List ℕ → Step → Type 0
ReadLeads first now buf (Continue done) = ReadOn first now buf done
ReadLeads first now buf (Break outcome) = ReadWhole first now buf outcome

abbrev pub WriteLeads : Option (List ℕ) → Option (List ℕ) → List ℕ → Step → Type 0
WriteLeads first now bytes (Continue done) = WroteOn first now bytes done
WriteLeads first now bytes (Break outcome) = WroteWhole first now bytes outcome

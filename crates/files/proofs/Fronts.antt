-- A writer that was sent the front of a buffer.
use Rattle.std.proofs.Common.{◌≡◌, List, ℕ, length, take, Option, Result, subst}
use Rattle.std.specs.Prelude.{⊤}
use Rattle.writers.specs.Written.{written}
use Rattle.writers.specs.inner.Wrote.{Wrote}
use Rattle.writers.proofs.Writing.{front}
use Rattle.transfers.specs.declared.Errno.{Errno}
use Rattle.files.specs.Files.{Written}

-- what was sent is what was written to the buffer's front
pub sent_front : (old new : Option (List ℕ)) (whole : Result ⊤ Errno) (bytes before after : List ℕ) (n : ℕ) → n ≡ length bytes → after ≡ written bytes before
    → Written old new (take n after) whole → Written old new bytes whole
sent_front old new whole bytes before after n count left h =
    let wrote : Wrote bytes before after n = record { left = left; count = count } in
    subst (λ l. Written old new l whole) (front wrote) h

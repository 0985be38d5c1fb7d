-- A file that can't be opened.
use Prim.Native.Nat.{ℕ}
use mathlib.Core.Path.{◌≡◌, refl, sym, subst}
use mathlib.Core.List.{[], ◌∷◌}
use native.Mathlib.Omega.{arith}
use Rattle.std.specs.Prelude.{Err}
use Rattle.transfers.specs.declared.CallError.TheVariants.{Failed}
use Rattle.transfers.specs.Transfer.{transfer, failed_by}
use Rattle.files.specs.Files.{Loaded}

pub unopened : (room error : ℕ) → Loaded room 0
unfolding transfer
unopened room error = record { outcome = failed_by error; received = record { answers = Err (Failed (record { number = error })) ∷ []; outcome = refl; within = omega arith }; counts = refl }

-- by EIO, whatever the reason
pub unopened_file : (room n : ℕ) → n ≡ 0 → Loaded room n
unopened_file room n none = subst (Loaded room) (sym none) (unopened room 5)

-- The bytes of a field (document 01, 'Units'): big-endian, and two's complement where it is signed.
use Rattle.std.specs.Prelude.{ℕ, ◌/◌, ◌%◌, List, [], ◌∷◌, ◌++◌, ℤ}
use Rattle.std.specs.Int.{w16, w32}
use Rattle.std.proofs.Common.{of_z}

-- an unsigned number in two bytes, and in four
abbrev pub bytes16 : ℕ → List ℕ
bytes16 n = n / 256 ∷ n % 256 ∷ []

abbrev pub bytes32 : ℕ → List ℕ
bytes32 n = bytes16 (n / 65536) ++ bytes16 (n % 65536)

-- a signed one
unfoldable pub signed16 : ℤ → List ℕ
signed16 z = bytes16 (of_z w16 z)

unfoldable pub signed32 : ℤ → List ℕ
signed32 z = bytes32 (of_z w32 z)

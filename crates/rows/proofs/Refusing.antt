-- What an answer of rows says by its number.
use Prim.Native.Nat.{ℕ, ◌<◌}
use mathlib.Core.Path.{◌≡◌}
use native.Mathlib.Omega.{arith}
use Rattle.rows.specs.declared.Refusal.{Refusal}
use Rattle.rows.specs.declared.Refusal.TheVariants.{NoHead, UnknownKind, CutShort, OutOfOrder, OneTooMany, BadName, RepeatedName, UnknownCode, NumberOutside, NotDue, FactorOutside, NoZoneOrUnit, StillDue, BadList, NoEntitlement, GrossTooLarge, ZoneLoadNegative, FinalLoadNotPositive, ZoneGenerationNegative, NetGenerationZero, FinalGenerationNegative, FlowTooLarge, OutputTooShort, HourFull, HourTooLong, OtherInterval, BufferTooShort, LakeInPart}
use Rattle.rows.specs.Refusals.{number}

-- every refusal has a number
pub number_positive : (r : Refusal) → 0 < number r
number_positive NoHead = omega arith
number_positive UnknownKind = omega arith
number_positive CutShort = omega arith
number_positive OutOfOrder = omega arith
number_positive OneTooMany = omega arith
number_positive BadName = omega arith
number_positive RepeatedName = omega arith
number_positive UnknownCode = omega arith
number_positive NumberOutside = omega arith
number_positive NotDue = omega arith
number_positive FactorOutside = omega arith
number_positive NoZoneOrUnit = omega arith
number_positive StillDue = omega arith
number_positive BadList = omega arith
number_positive NoEntitlement = omega arith
number_positive GrossTooLarge = omega arith
number_positive ZoneLoadNegative = omega arith
number_positive FinalLoadNotPositive = omega arith
number_positive ZoneGenerationNegative = omega arith
number_positive NetGenerationZero = omega arith
number_positive FinalGenerationNegative = omega arith
number_positive FlowTooLarge = omega arith
number_positive OutputTooShort = omega arith
number_positive HourFull = omega arith
number_positive HourTooLong = omega arith
number_positive OtherInterval = omega arith
number_positive BufferTooShort = omega arith
number_positive LakeInPart = omega arith

-- an answer whose number is a refusal's is no pass
pub refuses : {n : ℕ} (r : Refusal) → n ≡ number r → n ≡ 0 → ⊥
refuses r e z = omega (arith, number_positive r, e, z)

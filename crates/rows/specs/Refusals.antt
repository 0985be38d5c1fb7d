-- The refusals' numbers in the table (document 01, 'Where each refusal is checked').
use Rattle.std.specs.Prelude.{ℕ, Result, Ok, Err}
use Rattle.rows.specs.declared.Refusal.{Refusal}
use Rattle.rows.specs.declared.Refusal.TheVariants.{NoHead, UnknownKind, CutShort, OutOfOrder, OneTooMany, BadName, RepeatedName, UnknownCode, NumberOutside, NotDue, FactorOutside, NoZoneOrUnit, StillDue, BadList, NoEntitlement, GrossTooLarge, ZoneLoadNegative, FinalLoadNotPositive, ZoneGenerationNegative, NetGenerationZero, FinalGenerationNegative, FlowTooLarge, OutputTooShort, HourFull, HourTooLong, OtherInterval, BufferTooShort, LakeInPart}

abbrev pub number : Refusal → ℕ
number NoHead = 1
number UnknownKind = 2
number CutShort = 3
number OutOfOrder = 4
number OneTooMany = 5
number BadName = 6
number RepeatedName = 7
number UnknownCode = 8
number NumberOutside = 9
number NotDue = 10
number FactorOutside = 11
number NoZoneOrUnit = 12
number StillDue = 13
number BadList = 14
number NoEntitlement = 15
number GrossTooLarge = 16
number ZoneLoadNegative = 17
number FinalLoadNotPositive = 18
number ZoneGenerationNegative = 19
number NetGenerationZero = 20
number FinalGenerationNegative = 21
number FlowTooLarge = 22
number OutputTooShort = 23
number HourFull = 24
number HourTooLong = 25
number OtherInterval = 26
number BufferTooShort = 27
number LakeInPart = 28

-- what rows say: the number of the one that refuses, or 0
abbrev pub row_of : {A : Type 0} → Result A Refusal → ℕ
row_of (Ok a) = 0
row_of (Err refusal) = number refusal

-- what rows say above others, which say `below`
abbrev pub row_above : {A : Type 0} → Result A Refusal → ℕ → ℕ
row_above (Ok a) below = below
row_above (Err refusal) below = number refusal

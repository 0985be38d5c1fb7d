-- Request 1's rows and totals, computed for some hours: a full one, one that has a second left, an empty one.
use Prim.Native.Nat.{ℕ}
use mathlib.Core.Path.{◌≡◌, refl}
use mathlib.Core.List.{List, [], ◌∷◌, ◌++◌, map}
use lib.IntN.{ℤ, pos, negsuc}
use lib.ListN.{replicate}
use Rattle.integers.specs.Sum.{sum_to}
use Rattle.records.specs.Codes.{nyiso, pjm}
use Rattle.names.specs.Names.{same_list}
use Rattle.statement.specs.Statement.{refused_as}
use Rattle.settlement.specs.declared.Interval.{Interval}
use Rattle.hour_cells.specs.Cells.{held, seconds_to, seconds_of, cell, cell_at, amount_of}
use Rattle.hours.specs.declared.Hour.{Hour}
use Rattle.hours.specs.Hour.{opened, is_other, hour_row, refusal_of}
use Rattle.hours.specs.Totals.{totals_of}

-- an interval by its own row, 0 where it is accepted; its other figures are zeros, and so is its name
abbrev interval : ℕ → ℕ → ℕ → Interval
interval row rto seconds = record { statement = refused_as row; seconds = seconds; monitoring_rto = rto }

abbrev hour : List ℕ → ℕ → List ℤ → List ℕ → ℕ → Hour
hour name rto amounts seconds count = record { amounts = amounts; seconds = seconds; count = count; name = name; monitoring_rto = rto }

-- of the intervals' flowgate, and of another
abbrev same : List ℕ
same = replicate 16 0

abbrev other : List ℕ
other = replicate 15 0 ++ (1 ∷ [])

abbrev full : List ℕ → Hour
full name = hour name pjm (replicate 60 (pos 1)) (replicate 60 60) 60

abbrev brim : List ℕ → ℕ → Hour
brim name rto = hour name rto (pos 5 ∷ negsuc 8 ∷ pos 2 ∷ pos 1 ∷ replicate 56 (pos 7)) (900 ∷ 900 ∷ 900 ∷ 899 ∷ replicate 56 0) 4

-- 24 before 25 before 26, the interval's own refusal before all; exactly 3600 seconds pass; an empty hour takes any
pub rows_computed :
    refusal_of (full same) (interval 0 pjm 1)
    ∷ refusal_of (full other) (interval 0 nyiso 900)
    ∷ refusal_of (full same) (interval 15 pjm 1)
    ∷ refusal_of (brim same pjm) (interval 0 pjm 1)
    ∷ refusal_of (brim same pjm) (interval 0 pjm 2)
    ∷ refusal_of (brim other pjm) (interval 0 nyiso 2)
    ∷ refusal_of (brim other pjm) (interval 0 pjm 1)
    ∷ refusal_of (brim same pjm) (interval 0 nyiso 1)
    ∷ refusal_of opened (interval 0 nyiso 900)
    ∷ []
    ≡ 24 ∷ 24 ∷ 15 ∷ 0 ∷ 25 ∷ 25 ∷ 26 ∷ 26 ∷ 0 ∷ []
unfolding refusal_of hour_row is_other seconds_of seconds_to held same_list
rows_computed = refl

-- the cells behind the count do not count; an empty hour has zeros
pub totals_computed :
    map totals_of (brim same pjm ∷ brim same nyiso ∷ opened ∷ [])
    ≡ record { seconds = 3599; amount = negsuc 0; nyiso = pos 1; pjm = negsuc 0 }
    ∷ record { seconds = 3599; amount = negsuc 0; nyiso = negsuc 0; pjm = pos 1 }
    ∷ record { seconds = 0; amount = pos 0; nyiso = pos 0; pjm = pos 0 }
    ∷ []
unfolding totals_of seconds_of seconds_to amount_of cell_at cell held sum_to
totals_computed = refl

-- Whole hours (02, request 1): what an hour takes, and what it refuses.
use Rattle.std.specs.Prelude.{ℕ, ◌+◌, Bool, not, ◌&&◌, ◌||◌, cond, eqb, ltb, leb, pos, replicate, set}
use Rattle.rows.specs.Rows.{row}
use Rattle.names.specs.Names.{same_list}
use Rattle.settlement.specs.declared.Interval.{Interval}
use Rattle.hour_cells.specs.Cells.{seconds_of}
use Rattle.hours.specs.declared.Hour.{Hour}
use Rattle.hours.specs.declared.Changed.{Changed}

-- an hour opens empty
abbrev pub opened : Hour
opened = record { amounts = replicate 60 (pos 0); seconds = replicate 60 0; count = 0; name = replicate 16 0; monitoring_rto = 0 }

-- another flowgate name or Monitoring RTO than that of the intervals that it has
unfoldable pub is_other : Hour → Interval → Bool
is_other h i = not (eqb h.count 0) && (not (eqb h.monitoring_rto i.monitoring_rto) || not (same_list h.name i.statement.name))

-- 24, the hour has 60 intervals; 25, seconds would pass 3600; 26, another flowgate name or Monitoring RTO
unfoldable pub hour_row : Hour → Interval → ℕ
hour_row h i = row 24 (leb 60 h.count) (row 25 (ltb 3600 (seconds_of h.seconds h.count + i.seconds)) (row 26 (is_other h i) 0))

-- the interval's own refusals go first
unfoldable pub refusal_of : Hour → Interval → ℕ
refusal_of h i = cond (eqb i.statement.refusal 0) (hour_row h i) i.statement.refusal

-- the hour with the interval's seconds and amount
unfoldable pub with_interval : Hour → Interval → Hour
with_interval h i = record {
  amounts = set h.amounts h.count i.statement.amount;
  seconds = set h.seconds h.count i.seconds;
  count = h.count + 1;
  name = i.statement.name;
  monitoring_rto = i.monitoring_rto;
}

-- an accepted interval is added; a refused one changes nothing
unfoldable pub added : Hour → Interval → Changed
added h i = record { refusal = refusal_of h i; hour = cond (eqb (refusal_of h i) 0) (with_interval h i) h }

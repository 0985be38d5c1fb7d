-- What an explanation promises (document 02, request 7).
use Rattle.std.specs.Prelude.{ℕ, ◌+◌, ◌≤◌, ◌<◌, ◌≡◌, List, ◌⊎◌, ℤ, pos, length, drop}
use Rattle.fields.specs.Fields.{byte_at}
use Rattle.record_table.specs.Table.{body_length}
use Rattle.records.specs.declared.Head.{Head}
use Rattle.records.specs.Content.{Content, head}
use Rattle.record_rows.specs.Rows.{first_row, record_row}
use Rattle.sheet.specs.Sheet.{holds, reading}
use Rattle.sheet.specs.Passed.{Passed}
use Rattle.entitlements.specs.Entitlements.{Found}
use Rattle.entitlements.specs.Entitlements.{entitlement}
use Rattle.figures.specs.Lake.{settlement_flow}
use Rattle.figures.specs.Payment.{in_watts}
use Rattle.settlement.specs.Settled.{flowgate, settled}
use Rattle.explanation.specs.Explanation.{Reason}
use Rattle.explanation.specs.Explanation.{None, Above, Below, At}
use Rattle.explanation.specs.Explanation.{Finding}
use Rattle.explanation.specs.Explanation.{side_of, explained}

-- all records before a place pass their rows
pub record Before (sheet : List ℕ) (at : ℕ) : Type 0 where
  pub last : ℕ
  pub content : Content
  pub passed : Passed sheet at last content

-- a record stands at a place behind records that all pass, and meets the row of this number: of rows 2 to 11 the first that fits it
pub record Meets (sheet : List ℕ) (number at : ℕ) : Type 0 where
  pub last : ℕ
  pub content : Content
  pub passed : Passed sheet at last content
  pub there : at < length sheet
  pub row : record_row content last (byte_at sheet at) (drop (at + 1) sheet) ≡ number

-- the first record meets row 1
abbrev pub MeetsFirst : List ℕ → ℕ → ℕ → Type 0
MeetsFirst sheet number at = (at ≡ 0) × (first_row sheet ≡ number)

-- where a refusal's part begins and ends: 1 and 2, the kind byte alone; 3, up to the sheet's end; 4 to 11, the whole record. Of an empty sheet and of refusals behind the last record it is the empty part at the sheet's end
pub record Part (sheet : List ℕ) (number from to : ℕ) : Type 0 where
  pub kind_byte : number ≤ 2 → from < length sheet → to ≡ from + 1
  pub cut_short : number ≡ 3 → to ≡ length sheet
  pub whole : 4 ≤ number → number ≤ 11 → to ≡ from + 1 + body_length (byte_at sheet from)
  pub behind : 12 ≤ number → (from ≡ length sheet) × (to ≡ length sheet)
  pub some : 1 ≤ number → number ≤ 11 → 0 < length sheet → from < to
  pub empty_sheet : length sheet ≡ 0 → (from ≡ 0) × (to ≡ 0)

-- the price that a reason stands for: above the entitlement the Monitoring price, below it the Non-Monitoring price, at it 0
abbrev pub price_for : Head → Reason → ℤ
price_for h Above = pos h.monitoring_price
price_for h Below = pos h.nonmonitoring_price
price_for h At = pos 0
price_for h None = pos 0

-- an accepted interval's part is the empty one at the sheet's end. Its reason is the side of the flow paid on beside the entitlement that the list holds, and gives the statement's price
pub record Reasoned (sheet list : List ℕ) (f : Finding) (c : Content) (e : ℤ) : Type 0 where
  pub end : (f.from ≡ length sheet) × (f.to ≡ length sheet)
  pub read : reading sheet ≡ holds c
  pub entitled : entitlement list (flowgate c) ≡ Found e
  pub side : f.reason ≡ side_of (settlement_flow c (in_watts e)) (in_watts e)
  pub price : (settled sheet list).price ≡ price_for (head c) f.reason

-- The number is the settlement's own; all records before the part pass their rows, and a record in it meets its row
pub record Promise (sheet list : List ℕ) (f : Finding) : Type 0 where
  pub is : f ≡ explained sheet list
  pub number : f.refusal ≡ (settled sheet list).refusal
  pub order : f.from ≤ f.to
  pub within : f.to ≤ length sheet
  pub before : Before sheet f.from
  pub meets : f.from < f.to → MeetsFirst sheet f.refusal f.from ⊎ Meets sheet f.refusal f.from
  pub part : (f.refusal ≡ 0 → ⊥) → Part sheet f.refusal f.from f.to
  pub accepted : f.refusal ≡ 0 → (c : Content) × (e : ℤ) × Reasoned sheet list f c e
  pub refused : (f.refusal ≡ 0 → ⊥) → f.reason ≡ None
  pub never_printed : f.refusal ≡ 23 → ⊥

-- A sheet's amounts, zone by zone: four ledgers, each a list of amounts that are booked at a number.
-- Number 0 is the proxies', number n > 0 the zone's of that number.
use Rattle.std.specs.Prelude.{ℕ, ◌+◌, ◌<◌, ◌≤◌, cond, ◌≡◌, List, eqb, ℤ, pos, nat_abs, ◌-ℤ◌, length, get_or}
use Rattle.integers.specs.Sum.{sum_to}
use Rattle.records.specs.declared.Place.{Place}
use Rattle.records.specs.declared.Place.TheVariants.{Proxy, Line}
use Rattle.records.specs.Content.{Content, zone, unit, point}
use Rattle.zone_sums.specs.declared.Booking.{Booking}

pub data Ledger : Type 0 where
  Loads : Ledger
  Outputs : Ledger
  Imports : Ledger
  Exports : Ledger

unfoldable pub number_of : Place → ℕ
number_of Proxy = 0
number_of (Line n) = n

-- an amount and the number at which it is booked: a zone's load with its losses at the zone, a unit's output at its zone, a point's import or export at its place
unfoldable pub booking_of : Content → Ledger → ℕ → Booking
booking_of c Loads i = record { number = i + 1; amount = (zone c i).load + (zone c i).losses }
booking_of c Outputs i = record { number = (unit c i).zone; amount = (unit c i).output }
booking_of c Imports i = record { number = number_of (point c i).place; amount = (point c i).import }
booking_of c Exports i = record { number = number_of (point c i).place; amount = (point c i).export }

-- how many bookings a ledger has
unfoldable pub bookings : Content → Ledger → ℕ
bookings c Loads = length c.zones
bookings c Outputs = length c.units
bookings c Imports = length c.points
bookings c Exports = length c.points

-- the i-th amount, if it is booked at n
unfoldable pub booked_at : Content → Ledger → ℕ → ℕ → ℤ
booked_at c ledger n i = cond (eqb (booking_of c ledger i).number n) (pos (booking_of c ledger i).amount) (pos 0)

unfoldable pub sum_at : Content → Ledger → ℕ → ℤ
sum_at c ledger n = sum_to (booked_at c ledger n) (bookings c ledger)

-- a booking's number is that of a sum, and its amount is small
pub record BookingFits (b : Booking) : Type 0 where
  pub number : b.number < 33
  pub amount : b.amount ≤ 4000000

-- the sums of a ledger, by number
pub record Sums (c : Content) (ledger : Ledger) (sums : List ℕ) : Type 0 where
  pub sum : (n : ℕ) → n < 33 → pos (get_or sums n 0) ≡ sum_at c ledger n

-- no sum is above 256 amounts of 4,000,000
pub record Small (sums : List ℕ) : Type 0 where
  pub most : (n : ℕ) → n < 33 → get_or sums n 0 ≤ 1024000000

-- what an array has at the zone of index z, and what one has more than another
unfoldable pub amount_at : List ℕ → ℕ → ℤ
amount_at sums z = pos (get_or sums (z + 1) 0)

unfoldable pub net_at : List ℕ → List ℕ → ℕ → ℤ
net_at plus minus z = amount_at plus z -ℤ amount_at minus z

unfoldable pub total : List ℕ → ℕ → ℤ
total sums zones = sum_to (amount_at sums) zones

-- what 32 cells have at the zone of index z
unfoldable pub figure_at : List ℤ → ℕ → ℤ
figure_at array z = get_or array z (pos 0)

-- figures that are no larger than a difference of two such sums
pub record Held (array : List ℤ) : Type 0 where
  pub most : (z : ℕ) → z < 32 → nat_abs (figure_at array z) ≤ 2048000000

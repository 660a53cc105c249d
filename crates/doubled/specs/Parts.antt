-- Inner: whether there is room for a plan of two parts. Definitions only.
use Rattle.std.specs.Prelude.{◌≡◌, ℕ, ◌≤◌, ◌<◌}

-- r tells whether a plan of so many records fits the room, and where it does not, r is how many it has
pub record Needs (room r records : ℕ) : Type 0 where
  pub fits : r ≤ room → records ≤ room
  pub short : room < r → r ≡ records

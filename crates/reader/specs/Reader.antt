-- A reader at a place of its plan. Definitions only.
use Rattle.std.specs.Prelude.{List, ℕ}
use Rattle.std.specs.Borrow.{Bor}
use Rattle.reader.specs.declared.Reader.{Reader}

-- a reader starts at record 0
abbrev pub starting : (n : ℕ) (plan : Bor (List ℕ)) → Reader
starting n plan = record { n = n; plan = plan; at = 0 }

-- the same reader at another record
abbrev pub moved_to : (r : Reader) (at : ℕ) → Reader
moved_to r at = record { n = r.n; plan = r.plan; at = at }

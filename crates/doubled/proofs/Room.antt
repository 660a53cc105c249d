-- A plan has no more records than its total, so room for as many needs no count.
use mathlib.Core.Path.{◌≡◌}
use Prim.Native.Nat.{ℕ, ◌≤◌}
use native.Mathlib.Omega.{arith}
use Rattle.doubled.specs.Parts.{Needs}

pub needs-surely : (room most records : ℕ) → records ≤ most → most ≤ room → Needs room most records
needs-surely room most records a b = record { fits = λ l. omega arith; short = λ l. absurd (omega arith) }

pub needs-counted : (room r records : ℕ) → r ≡ records → Needs room r records
needs-counted room r records e = record { fits = λ l. omega arith; short = λ l. e }

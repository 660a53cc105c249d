-- How many records always suffice, from N and T alone. Definitions only.
use Rattle.std.specs.Prelude.{Err, Ok}
use Rattle.std.specs.Prelude.{ℕ, ◌+◌, ◌*◌, ◌-◌, min, leb}
use Rattle.switch.specs.declared.Edition.{Edition}
use Rattle.switch.specs.Outcome.{Outcome}
use Rattle.switch.specs.declared.Refusal.TheVariants.{Ports, LongestOver, Longest}
use Rattle.switch.specs.Answer.{plan_counts}
use Rattle.switch.specs.Check.{ports_fine}
use Rattle.switch.specs.Result.{unless}
use Rattle.room.specs.declared.Planner.{Planner}
use Rattle.room.specs.declared.Planner.TheVariants.{Exact, Doubled, Quick}

-- the exact plan: T, or N² - 2N + 2 where that is less
unfoldable pub exact_room : (N T : ℕ) → ℕ
exact_room N T = min T (N * N + 2 - 2 * N)

-- the doubled plan, by either rule
abbrev pub doubled_room : (N : ℕ) → ℕ
doubled_room N = 2 * N

-- the quick cover; 0 where T is 0
unfoldable pub quick_room : (T : ℕ) → ℕ
quick_room T = 2 * T - 1

-- records only: no T and no total
abbrev pub sufficing : (records : ℕ) → Outcome
sufficing records = Ok (plan_counts records 0 0)

-- each planner's number; the quick cover takes no T above 1,024
abbrev pub room_of : Planner → (N T : ℕ) → Outcome
room_of Exact N T = sufficing (exact_room N T)
room_of Doubled N T = sufficing (doubled_room N)
room_of Quick N T = unless (leb T 1024) (Err Longest) (sufficing (quick_room T))

-- refusals 1, 3 (no line is known, so no side), then the planner's
unfoldable pub roomed : Edition → Planner → (N T : ℕ) → Outcome
roomed E planner N T = unless (ports_fine E.ports N) (Err Ports) (unless (leb T 65535) (Err LongestOver) (room_of planner N T))

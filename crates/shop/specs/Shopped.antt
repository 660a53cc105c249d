-- What the open-shop call answers, and the lent buffer's bytes afterwards. Definitions only.
use Rattle.std.specs.Prelude.{Ok}
use Rattle.std.specs.Prelude.{List, ℕ, ◌/◌, length, leb}
use Rattle.switch.specs.declared.Refusal.TheVariants.{Room}
use Rattle.switch.specs.Answer.{plan_counts}
use Rattle.switch.specs.Result.{Result, refuses, unless}
use Rattle.demand.specs.Check.{check_demand}
use Rattle.records.specs.Bytes.{laid}
use Rattle.planner.specs.Planned.{after_check}
use Rattle.shop_rule.specs.Task.{Task, latest}
use Rattle.shop_rule.specs.Shop.{shop_plan}
use Rattle.tasks.specs.Bytes.{bytes}

-- the plan at the buffer's start, and nothing else touched; its tasks, and its latest end as total (§21.6)
unfoldable pub writes : (p : List Task) (buf : List ℕ) → Result
writes p buf = record { outcome = Ok (plan_counts (length p) 0 (latest p)); bytes = laid buf 0 (bytes p) }

-- code 5: there is room for fewer whole records than the plan has tasks
unfoldable pub room_for : (p : List Task) (buf : List ℕ) → Result
room_for p buf = unless (leb (length p) (length buf / 12)) (refuses (Room (length p)) buf) (writes p buf)

-- the open-shop plan of demand d with switching time s: codes 1, 2, 3, then 5
unfoldable pub shopped : (N s : ℕ) (d buf : List ℕ) → Result
shopped N s d buf = after_check (check_demand 64 N d) (λ T. room_for (shop_plan N s d) buf) buf

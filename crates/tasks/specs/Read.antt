-- Reading a schedule (§21.7): codes 1 and 9, then 11 for the first record that breaks a field rule or overlaps one before it on a port; else
-- the number of tasks and the latest end. Definitions only.
use Rattle.std.specs.Prelude.{Err, Ok}
use Rattle.std.specs.Prelude.{◌≡◌, Bool, true, false, cond, ◌&&◌, ◌||◌, not, List, ℕ, zero, suc, ◌/◌, ◌%◌, ◌≤◌, ◌<◌, length, get_or, ltb, leb, eqb}
use Rattle.numbers.specs.Word.{word}
use Rattle.std.specs.declared.result.Result.{Result}
use Rattle.switch.specs.declared.Refusal.{Refusal}
use Rattle.switch.specs.declared.Counts.{Counts}
use Rattle.switch.specs.Outcome.{Outcome}
use Rattle.switch.specs.declared.Refusal.TheVariants.{Ports, Torn, Malformed}
use Rattle.switch.specs.Answer.{plan_counts}
use Rattle.switch.specs.Check.{ports_fine}
use Rattle.switch.specs.Result.{unless}
use Rattle.shop_rule.specs.Task.{Task, Each, Ordered, Rises, Apart, latest}
use Rattle.tasks.specs.Bytes.{task_of, record_at, tasks_from, tasks_of}

-- a record's own rules: ports below N, zero bytes, start below end
unfoldable pub alone : (N : ℕ) (b : List ℕ) → Bool
alone N b = ltb (get_or b 0 0) N && (ltb (get_or b 1 0) N && (eqb (get_or b 2 0) 0 && (eqb (get_or b 3 0) 0 && ltb (word b 4) (word b 8))))

-- y, the task of record k, starts after that of the record in front, or with it at a higher output
unfoldable pub after : List ℕ → ℕ → Task → Bool
after tasks zero y = true
after tasks (suc k) y =
    let x = task_of (record_at tasks k) in
    ltb x.start y.start || (eqb x.start y.start && ltb x.output y.output)

-- two tasks share a port and a time: neither is over when the other starts
unfoldable pub overlaps : (x y : Task) → Bool
overlaps x y = (eqb x.input y.input || eqb x.output y.output) && (ltb x.start y.end && ltb y.start x.end)

-- y overlaps one of the first k tasks
unfoldable pub overlaps_any : List ℕ → ℕ → Task → Bool
overlaps_any tasks zero y = false
overlaps_any tasks (suc k) y = overlaps_any tasks k y || overlaps (task_of (record_at tasks k)) y

-- record k breaks no rule
unfoldable pub fine : (N : ℕ) (tasks : List ℕ) (k : ℕ) → Bool
fine N tasks k =
    let b = record_at tasks k in
    alone N b && (after tasks k (task_of b) && not (overlaps_any tasks k (task_of b)))

-- the first of m records from k on that breaks one; k + m where none does
unfoldable pub faulty : ℕ → List ℕ → ℕ → ℕ → ℕ
faulty N tasks zero k = k
faulty N tasks (suc m) k = cond (fine N tasks k) (faulty N tasks m (suc k)) k

-- m records
unfoldable pub reading_in : (m N : ℕ) (tasks : List ℕ) → Outcome
reading_in m N tasks = unless (leb m (faulty N tasks m 0)) (Err (Malformed (faulty N tasks m 0))) (Ok (plan_counts m 0 (latest (tasks_from tasks 0 m))))

-- codes 1, 9 and 11; any number of records is read
unfoldable pub reading : (N : ℕ) (tasks : List ℕ) → Outcome
reading N tasks =
    unless (ports_fine 64 N) (Err Ports)
    (unless (eqb (length tasks % 12) 0) (Err (Torn (length tasks / 12)))
    (reading_in (length tasks / 12) N tasks))

-- ---- what it means to be read

-- a task between ports of the switch that takes some time
pub record Fair (N : ℕ) (y : Task) : Type 0 where
  pub input-in : y.input < N
  pub output-in : y.output < N
  pub forward : y.start < y.end

-- the bytes are a schedule in order, a port in one task at most at any time, and it is counted
pub record Accepts (N : ℕ) (tasks : List ℕ) (c : Counts) : Type 0 where
  pub some : 0 < N
  pub few : N ≤ 64
  pub whole : length tasks % 12 ≡ 0
  pub fair : Each (Fair N) (tasks_of tasks)
  pub rising : Ordered Rises (tasks_of tasks)
  pub apart : Ordered Apart (tasks_of tasks)
  pub counts : c ≡ plan_counts (length (tasks_of tasks)) 0 (latest (tasks_of tasks))

-- ---- the same in one pass

-- inner: the start is after s, or s with an output of o or higher
unfoldable pub follows : (s o start output : ℕ) → Bool
follows s o start output = ltb s start || (eqb s start && leb o output)

-- inner: a record that rises from s and o, and starts no sooner than the times kept for its ports
unfoldable pub fits : (N : ℕ) (b : List ℕ) (s o : ℕ) (ins outs : List ℕ) → Bool
fits N b s o ins outs =
    alone N b && (follows s o (word b 4) (get_or b 1 0) && not (ltb (word b 4) (get_or ins (get_or b 0 0) 0) || ltb (word b 4) (get_or outs (get_or b 1 0) 0)))

-- inner: the latest end where no record breaks a rule, and else the first that does
abbrev pub Judges : ℕ → List ℕ → Result ℕ Refusal → Type 0
Judges N tasks (Ok t) = (faulty N tasks (length tasks / 12) 0 ≡ length tasks / 12) × (t ≡ latest (tasks_from tasks 0 (length tasks / 12)))
Judges N tasks (Err r) = (r ≡ Malformed (faulty N tasks (length tasks / 12) 0)) × (faulty N tasks (length tasks / 12) 0 < length tasks / 12)

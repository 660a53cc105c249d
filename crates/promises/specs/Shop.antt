-- What a caller of the open shop, and of the reader of tasks, gets. Definitions only.
use Rattle.std.specs.Prelude.{Err, Ok}
use Rattle.std.specs.Prelude.{◌≡◌, true, false, List, ℕ, ◌*◌, ◌-◌, ◌/◌, ◌%◌, ◌<◌, ◌≤◌, length, take, drop}
use Rattle.counting.specs.Sum.{sum}
use Rattle.counting.specs.Matrix.{row}
use Rattle.switch.specs.declared.Counts.{Counts}
use Rattle.switch.specs.Outcome.{Outcome}
use Rattle.switch.specs.declared.Refusal.{Refusal}
use Rattle.switch.specs.declared.Refusal.TheVariants.{Ports, Room, Torn, Malformed}
use Rattle.switch.specs.Answer.{code_of, counts_of, no_counts, plan_counts}
use Rattle.switch.specs.Demand.{cell}
use Rattle.switch.specs.Editions.{first_edition}
use Rattle.shop_rule.specs.Task.{Task, Each, Ordered, Rises, Apart, Schedule, times, latest}
use Rattle.shop_rule.specs.Shop.{pairs, timed, Runs}
use Rattle.tasks.specs.Bytes.{tasks_of}
use Rattle.tasks.specs.Read.{Accepts, fine, reading}
use Rattle.promises.specs.Planner.{Fair, Fault}

-- how many pairs have slots
abbrev pub asking : (N : ℕ) (d : List ℕ) → ℕ
asking N d = sum N (row N (λ i j. pairs (cell N d i j)))

-- a demand that is taken, and a buffer with room for a record for each pair with slots
pub record Taken (N : ℕ) (d buf : List ℕ) : Type 0 where
  pub fair : Fair first_edition 65535 N d
  pub room : asking N d ≤ length buf / 12

-- why the planner refuses, each reason only where none before it holds
pub data Why (N : ℕ) (d buf : List ℕ) : Refusal → Type 0 where
  -- codes 1, 2 and 3
  faulty : {f : Refusal} → Fault first_edition N d f → Why N d buf f
  -- code 5
  no_room : Fair first_edition 65535 N d → length buf / 12 < asking N d → Why N d buf (Room (asking N d))

-- what the tasks p are worth, s being the switching time: one for each pair with slots and none for any other; each as long as it takes and over
-- within its ports' task times; a port in one at most; in order; and under twice the latest end of any other schedule for the demand
pub record Shops (N s : ℕ) (d : List ℕ) (p : List Task) : Type 0 where
  pub once : (i j : ℕ) → i < N → j < N → times p i j ≡ pairs (cell N d i j)
  pub runs : Each (Runs N s (cell N d)) p
  pub apart : Ordered Apart p
  pub rising : Ordered Rises p
  pub soon : (q : List Task) → Schedule N (timed s (cell N d)) q → latest p ≤ 2 * latest q - 1

-- the part of the buffer that an answer speaks of, and its tasks
abbrev pub task_part : (r : Outcome) (after : List ℕ) → List ℕ
task_part r after = take ((counts_of r).records * 12) after

abbrev pub tasks_in : (r : Outcome) (after : List ℕ) → List Task
tasks_in r after = tasks_of (task_part r after)

-- what code 0 brings: the tasks written are worth that, the counts are theirs, the reader passes them with the same answer, and no byte behind
-- them is touched
pub record DeliversTasks (N s : ℕ) (d buf : List ℕ) (r : Outcome) (after : List ℕ) : Type 0 where
  pub worth : Shops N s d (tasks_in r after)
  pub counts : counts_of r ≡ plan_counts (length (tasks_in r after)) 0 (latest (tasks_in r after))
  pub passes : reading N (task_part r after) ≡ r
  pub behind : drop ((counts_of r).records * 12) after ≡ drop ((counts_of r).records * 12) buf

-- code 0 exactly when the demand and the buffer are taken, and then it delivers; a refusal has its reason, counts nothing and changes no byte
pub record PlansTasks (N s : ℕ) (d buf : List ℕ) (r : Outcome) (after : List ℕ) : Type 0 where
  pub taken : code_of r ≡ 0 → Taken N d buf
  pub takes : Taken N d buf → code_of r ≡ 0
  pub delivers : code_of r ≡ 0 → DeliversTasks N s d buf r after
  pub refuses : (f : Refusal) → r ≡ Err f → Why N d buf f × (counts_of r ≡ no_counts) × (after ≡ buf)

-- why the reader refuses
pub data WhyUnread (N : ℕ) (tasks : List ℕ) : Refusal → Type 0 where
  -- code 1: N is 0 or over 64
  bad-ports : (0 < N → N ≤ 64 → ⊥) → WhyUnread N tasks Ports
  -- code 9: bytes are left over behind the whole records
  torn : (length tasks % 12 ≡ 0 → ⊥) → WhyUnread N tasks (Torn (length tasks / 12))
  -- code 11: record k is the first that breaks a rule
  bad-record : (k : ℕ) → k < length tasks / 12 → ((j : ℕ) → j < k → fine N tasks j ≡ true) → fine N tasks k ≡ false → WhyUnread N tasks (Malformed k)

-- what the reader promises: what it accepts is a schedule, in order and apart; and a refusal has its reason
pub record ReadsTasks (N : ℕ) (tasks : List ℕ) (r : Outcome) : Type 0 where
  pub accepts : (c : Counts) → r ≡ Ok c → Accepts N tasks c
  pub refuses : (f : Refusal) → r ≡ Err f → WhyUnread N tasks f

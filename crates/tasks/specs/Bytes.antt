-- Tasks as bytes (§21.3): one after the other, 12 bytes each, no header: input, output, two zero bytes, start and end. Definitions only.
use Rattle.std.specs.Prelude.{List, [], ◌∷◌, ◌++◌, ℕ, zero, suc, ◌*◌, ◌/◌, ◌%◌, length, take, drop, get_or}
use Rattle.numbers.specs.Word.{word}
use Rattle.shop_rule.specs.Task.{Task}

abbrev pub task : (input output start end : ℕ) → Task
task input output start end = record { input = input; output = output; start = start; end = end }

-- the task of a record
abbrev pub task_of : (b : List ℕ) → Task
task_of b = record { input = get_or b 0 0; output = get_or b 1 0; start = word b 4; end = word b 8 }

-- a number below 2^32 in four bytes, low first
abbrev pub four_bytes : (x : ℕ) → List ℕ
four_bytes x = x % 256 ∷ x / 256 % 256 ∷ x / 65536 % 256 ∷ x / 16777216 ∷ []

-- a task's record
abbrev pub encode : (y : Task) → List ℕ
encode y = y.input ∷ y.output ∷ 0 ∷ 0 ∷ (four_bytes y.start ++ four_bytes y.end)

-- the records of a schedule, in its order
unfoldable pub bytes : List Task → List ℕ
bytes [] = []
bytes (y ∷ p) = encode y ++ bytes p

-- record k; records are counted from 0
abbrev pub record_at : (tasks : List ℕ) (k : ℕ) → List ℕ
record_at tasks k = take 12 (drop (k * 12) tasks)

-- m tasks from record k on
unfoldable pub tasks_from : List ℕ → ℕ → ℕ → List Task
tasks_from tasks k zero = []
tasks_from tasks k (suc m) = task_of (record_at tasks k) ∷ tasks_from tasks (suc k) m

-- the tasks of all whole records
abbrev pub tasks_of : (tasks : List ℕ) → List Task
tasks_of tasks = tasks_from tasks 0 (length tasks / 12)

-- The open-shop plan (§21.2): at the start and whenever tasks finish, the outputs have their turns from the lowest up, and one that is idle
-- starts a task with the lowest input that can. Definitions only.
use Rattle.std.specs.Prelude.{◌≡◌, Bool, cond, ◌&&◌, List, [], ◌∷◌, ◌++◌, ℕ, zero, suc, ◌+◌, ◌*◌, ◌≤◌, ◌<◌, ltb, leb}
use Rattle.counting.specs.Count.{ind}
use Rattle.counting.specs.Matrix.{row, col}
use Rattle.switch.specs.Demand.{cell}
use Rattle.rules.specs.Search.{put}
use Rattle.rules.specs.Quick.{lowest}
use Rattle.shop_rule.specs.Task.{Task}

-- a pair of c slots is one task, or none where c is 0
unfoldable pub pairs : (c : ℕ) → ℕ
pairs c = ind (ltb 0 c)

-- how long it lasts, s being the switching time
unfoldable pub lasting : (s c : ℕ) → ℕ
lasting s c = cond (ltb 0 c) (s + c) 0

-- the task times of the pairs of M; a port's load is their sum over its line
abbrev pub timed : (s : ℕ) (M : ℕ → ℕ → ℕ) (i j : ℕ) → ℕ
timed s M i j = lasting s (M i j)

-- a task of a pair of M with slots, as long as they take with one switching, over within the task times of its ports, its own counted once
pub record Runs (N s : ℕ) (M : ℕ → ℕ → ℕ) (y : Task) : Type 0 where
  pub input-in : y.input < N
  pub output-in : y.output < N
  pub slots : 0 < M y.input y.output
  pub lasts : y.end ≡ y.start + (s + M y.input y.output)
  pub soon : y.end + (s + M y.input y.output) ≤ row N (timed s M) y.input + col N (timed s M) y.output

-- the slots of the pairs not started yet, the time at which each input and each output is idle again, and the tasks started, in order
pub record Shop : Type 0 where
  pub left : ℕ → ℕ → ℕ
  pub ins : ℕ → ℕ
  pub outs : ℕ → ℕ
  pub begun : List Task

-- at time t input i is idle, with an unstarted task for output j
unfoldable pub ready : (t : ℕ) (x : Shop) (j i : ℕ) → Bool
ready t x j i = ltb 0 (x.left i j) && leb (x.ins i) t

-- input i and output j start their task at time t
unfoldable pub begin : (s t : ℕ) (x : Shop) (i j : ℕ) → Shop
begin s t x i j = record {
  left = put x.left i (put (x.left i) j 0);
  ins = put x.ins i (t + (s + x.left i j));
  outs = put x.outs j (t + (s + x.left i j));
  begun = x.begun ++ (record { input = i; output = j; start = t; end = t + (s + x.left i j) } ∷ []);
}

-- output j takes input i, or none where i is no port
unfoldable pub take : (N s t : ℕ) (x : Shop) (j i : ℕ) → Shop
take N s t x j i = cond (ltb i N) (begin s t x i j) x

-- output j's turn at time t: if it is idle, it takes the lowest input that is ready for it
unfoldable pub turn : (N s t : ℕ) (x : Shop) (j : ℕ) → Shop
turn N s t x j = cond (leb (x.outs j) t) (take N s t x j (lowest N 0 (ready t x j))) x

-- the turns of outputs 0 .. v - 1
unfoldable pub turns : ℕ → ℕ → ℕ → Shop → ℕ → Shop
turns N s t x zero = x
turns N s t x (suc v) = turn N s t (turns N s t x v) v

-- the sooner of two finishes m and e of which only those after t count; t stands for none
unfoldable pub sooner : (t m e : ℕ) → ℕ
sooner t m e = cond (ltb t e) (cond (ltb t m) (cond (ltb e m) e m) e) m

-- the first of f 0 .. f (n - 1) that is after t, or t
unfoldable pub next : ℕ → ℕ → (ℕ → ℕ) → ℕ
next zero t f = t
next (suc n) t f = sooner t (next n t f) (f n)

-- the moments from time t on, k at most: all outputs have their turn; then the same at the next finish, if there is one
unfoldable pub moments : ℕ → ℕ → ℕ → ℕ → Shop → Shop
moments zero N s t x = x
moments (suc k) N s t x =
    let y = turns N s t x N in
    cond (ltb t (next N t y.outs)) (moments k N s (next N t y.outs) y) y

-- nothing is started, and every port is idle
unfoldable pub closed : (M : ℕ → ℕ → ℕ) → Shop
closed M = record { left = M; ins = λ _. 0; outs = λ _. 0; begun = [] }

-- the plan of demand d: time 0 and a finish for each of N² pairs are enough moments
unfoldable pub shop_plan : (N s : ℕ) (d : List ℕ) → List Task
shop_plan N s d = (moments (suc (N * N)) N s 0 (closed (cell N d))).begun

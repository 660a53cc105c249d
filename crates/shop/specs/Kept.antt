-- Inner: what is kept of the shop while it is planned, and what a turn leaves of it. Definitions only.
use Rattle.std.specs.Prelude.{◌≡◌, List, ℕ, ◌+◌, ◌*◌, ◌<◌, ◌≤◌, length, get_or}
use Rattle.switch.specs.Demand.{cell, longest}
use Rattle.sets.specs.Label.{In}
use Rattle.records.specs.Bytes.{laid}
use Rattle.shop_rule.specs.Task.{latest}
use Rattle.shop_rule.specs.Shop.{Shop, turn, turns, closed, shop_plan}
use Rattle.tasks.specs.Bytes.{bytes}
use Rattle.shop.specs.declared.Begun.{Begun}
use Rattle.shop.specs.declared.Turned.{Turned}
use Rattle.shop.specs.Sets.{numbers_of}

-- the inputs below n that are idle at time t
pub record Idle (n t : ℕ) (ins : List ℕ) (idle : ℕ) : Type 0 where
  pub small : (i : ℕ) → In idle i → i < n
  pub free : (i : ℕ) → In idle i → get_or ins i 0 ≤ t
  pub all : (i : ℕ) → i < n → get_or ins i 0 ≤ t → In idle i

-- the inputs below m with slots for output j
pub record Column (m n : ℕ) (cells : List ℕ) (j inputs : ℕ) : Type 0 where
  pub small : (i : ℕ) → In inputs i → i < m
  pub asks : (i : ℕ) → In inputs i → 0 < cell n cells i j
  pub all : (i : ℕ) → i < m → 0 < cell n cells i j → In inputs i

-- the shop x as it is kept: for each output the inputs with unstarted tasks for it, and for each port when it is idle again
pub record Held (n : ℕ) (cells : List ℕ) (x : Shop) (waiting ins outs : List ℕ) : Type 0 where
  pub small : (i j : ℕ) → j < n → In (get_or waiting j 0) i → i < n
  pub asks : (i j : ℕ) → j < n → In (get_or waiting j 0) i → (x.left i j ≡ cell n cells i j) × (0 < x.left i j)
  pub done : (i j : ℕ) → i < n → j < n → (In (get_or waiting j 0) i → ⊥) → x.left i j ≡ 0
  pub ins-is : (i : ℕ) → x.ins i ≡ get_or ins i 0
  pub outs-is : (j : ℕ) → x.outs j ≡ get_or outs j 0

-- the tasks started, laid over the start of what stood in the buffer
pub record Wrote (x : Shop) (before : List ℕ) (begun : Begun) (tasks : List ℕ) : Type 0 where
  pub laid-is : tasks ≡ laid before 0 (bytes x.begun)
  pub records : begun.records ≡ length x.begun
  pub latest-is : begun.latest ≡ latest x.begun
  pub room : length (bytes x.begun) ≤ length before

-- places for 64 ports, and for each task that output j may start time and room
pub record TurnPre (n : ℕ) (cells : List ℕ) (d t j records : ℕ) (waiting ins outs tasks : List ℕ) : Type 0 where
  pub few : n ≤ 64
  pub place : j < n
  pub sized : n * n ≤ length cells
  pub started : records ≤ 4096
  pub waiting-size : length waiting ≡ 64
  pub ins-size : length ins ≡ 64
  pub outs-size : length outs ≡ 64
  pub small : (i : ℕ) → In (get_or waiting j 0) i → i < n
  pub time : (i : ℕ) → In (get_or waiting j 0) i → t + (d + cell n cells i j) < 4294967296
  pub room : (i : ℕ) → In (get_or waiting j 0) i → records * 12 + 12 ≤ length tasks

-- whatever shop is kept, its turn is kept afterwards, and what it started is written; no buffer changes its length
pub record TurnPost (n : ℕ) (cells : List ℕ) (d t j : ℕ) (so : Turned) (waiting ins outs tasks : List ℕ) (r : Turned) (waiting' ins' outs' tasks' : List ℕ) : Type 0 where
  pub waiting-size : length waiting' ≡ length waiting
  pub ins-size : length ins' ≡ length ins
  pub outs-size : length outs' ≡ length outs
  pub kept : (x : Shop) (before : List ℕ) → Held n cells x waiting ins outs → Idle n t ins (numbers_of so.idle) → Wrote x before so.begun tasks
      → Held n cells (turn n d t x j) waiting' ins' outs' × Idle n t ins' (numbers_of r.idle) × Wrote (turn n d t x j) before r.begun tasks'

-- at each turn of the moment t, whatever is not started has time and room
pub record Safe (n : ℕ) (cells : List ℕ) (d t room : ℕ) (x : Shop) : Type 0 where
  pub time : (v : ℕ) → v < n → (i : ℕ) → i < n → 0 < (turns n d t x v).left i v → t + (d + cell n cells i v) < 4294967296
  pub space : (v : ℕ) → v < n → (i : ℕ) → i < n → 0 < (turns n d t x v).left i v → length (turns n d t x v).begun * 12 + 12 ≤ room
  pub few : (v : ℕ) → v < n → length (turns n d t x v).begun ≤ 4096

-- a shop is kept for which all turns of the moment t have time and room
pub record MomentPre (n : ℕ) (cells : List ℕ) (d t : ℕ) (begun : Begun) (waiting ins outs tasks : List ℕ) : Type 0 where
  pub few : n ≤ 64
  pub sized : n * n ≤ length cells
  pub waiting-size : length waiting ≡ 64
  pub ins-size : length ins ≡ 64
  pub outs-size : length outs ≡ 64
  pub shop : Shop
  pub before : List ℕ
  pub held : Held n cells shop waiting ins outs
  pub wrote : Wrote shop before begun tasks
  pub safe : Safe n cells d t (length before) shop

-- all turns of the moment are kept
pub record MomentPost (n : ℕ) (cells : List ℕ) (d t : ℕ) (begun : Begun) (waiting ins outs tasks : List ℕ) (r : Begun) (waiting' ins' outs' tasks' : List ℕ) : Type 0 where
  pub waiting-size : length waiting' ≡ length waiting
  pub ins-size : length ins' ≡ length ins
  pub outs-size : length outs' ≡ length outs
  pub kept : (x : Shop) (before : List ℕ) → Held n cells x waiting ins outs → Wrote x before begun tasks
      → Held n cells (turns n d t x n) waiting' ins' outs' × Wrote (turns n d t x n) before r tasks'

-- a demand that no check refuses, nothing of it started yet, and room for its plan
pub record RunPre (n : ℕ) (cells : List ℕ) (d : ℕ) (waiting ins outs tasks : List ℕ) : Type 0 where
  pub few : n ≤ 64
  pub sized : n * n ≤ length cells
  pub lines : longest n (cell n cells) ≤ 65535
  pub switching : d ≤ 65535
  pub waiting-size : length waiting ≡ 64
  pub ins-size : length ins ≡ 64
  pub outs-size : length outs ≡ 64
  pub held : Held n cells (closed (cell n cells)) waiting ins outs
  pub room : length (shop_plan n d cells) * 12 ≤ length tasks

-- the plan is laid over the start of the buffer, and counted
pub record RunPost (n : ℕ) (cells : List ℕ) (d : ℕ) (tasks : List ℕ) (r : Begun) (tasks' : List ℕ) : Type 0 where
  pub laid-is : tasks' ≡ laid tasks 0 (bytes (shop_plan n d cells))
  pub records : r.records ≡ length (shop_plan n d cells)
  pub latest-is : r.latest ≡ latest (shop_plan n d cells)

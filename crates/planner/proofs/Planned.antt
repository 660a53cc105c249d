-- A planner's answer case by case: each refusal is given exactly where its test is the first that fails, and else the plan is written.
use Rattle.std.specs.Prelude.{Err, Ok}
use mathlib.Core.Path.{◌≡◌, refl, sym}
use mathlib.Core.List.{List}
use Prim.Native.Nat.{ℕ, ◌<◌, ◌≤◌}
use native.Mathlib.Decide.{dec_lt}
use native.Mathlib.Omega.{arith}
use lib.ListN.{length}
use borrow.Author.Tests.{lt-ltb, le-ltb, lt-leb, le-leb}
use Rattle.switch.specs.declared.Refusal.{Refusal}
use Rattle.switch.specs.declared.Refusal.TheVariants.{Longest, Room}
use Rattle.switch.specs.declared.Edition.{Edition}
use Rattle.switch.specs.Answer.{demand_counts}
use Rattle.switch.specs.Demand.{cell}
use Rattle.switch.specs.Plan.{Record, total}
use Rattle.switch.specs.Empty.{empty_slots}
use Rattle.demand.specs.Check.{check_demand}
use Rattle.records.specs.Bytes.{whole, bytes, laid}
use Rattle.switch.specs.Result.{refuses}
use Rattle.planner.specs.Planned.{writes, room_for, planned, planned_up_to, shortage}

module _ (E : Edition) (N T empty : ℕ) (p : List Record) (buf : List ℕ) where
  pub no_room : whole E.width buf < length p → room_for E N T empty p buf ≡ refuses (Room (length p)) buf
  unfolding room_for
  no_room l = rw (lt-leb _ _ l)

  pub room : length p ≤ whole E.width buf → room_for E N T empty p buf ≡ writes E N T empty p buf
  unfolding room_for
  room l = rw (le-leb _ _ l)

module _ (E : Edition) (N : ℕ) (d : List ℕ) (p : List Record) (buf : List ℕ) where
  -- codes 1, 2 and 3
  pub planned-faulty : (r : Refusal) → check_demand E.ports N d ≡ Err r → planned E N d p buf ≡ refuses r buf
  unfolding planned
  planned-faulty r c = rw c

  module _ (T : ℕ) (fine : check_demand E.ports N d ≡ Ok T) where
    -- code 5
    pub planned-short : whole E.width buf < length p → planned E N d p buf ≡ refuses (Room (length p)) buf
    unfolding planned
    planned-short l = rw fine (no_room E N T (empty_slots N (cell N d) p) p buf l)

    pub planned-done : length p ≤ whole E.width buf → planned E N d p buf ≡ writes E N T (empty_slots N (cell N d) p) p buf
    unfolding planned
    planned-done l = rw fine (room E N T (empty_slots N (cell N d) p) p buf l)

module _ (limit : ℕ) (E : Edition) (N : ℕ) (d : List ℕ) (p : List Record) (buf : List ℕ) where
  pub limited-faulty : (r : Refusal) → check_demand E.ports N d ≡ Err r → planned_up_to limit E N d p buf ≡ refuses r buf
  unfolding planned_up_to
  limited-faulty r c = rw c

  module _ (T : ℕ) (fine : check_demand E.ports N d ≡ Ok T) where
    -- code 4
    pub limited-long : limit < T → planned_up_to limit E N d p buf ≡ refuses Longest buf
    unfolding planned_up_to
    limited-long l = rw (fine, lt-leb _ _ l)

    pub limited-short : T ≤ limit → whole E.width buf < length p → planned_up_to limit E N d p buf ≡ refuses (Room (length p)) buf
    unfolding planned_up_to
    limited-short h l = rw (fine, le-leb _ _ h) (no_room E N T (empty_slots N (cell N d) p) p buf l)

    pub limited-done : T ≤ limit → length p ≤ whole E.width buf → planned_up_to limit E N d p buf ≡ writes E N T (empty_slots N (cell N d) p) p buf
    unfolding planned_up_to
    limited-done h l = rw (fine, le-leb _ _ h) (room E N T (empty_slots N (cell N d) p) p buf l)

-- what is written: the counts and the bytes
pub written-outcome : (E : Edition) (N T empty r t x : ℕ) (p : List Record) (buf : List ℕ) → r ≡ length p → t ≡ total p → x ≡ empty → Ok (demand_counts r T t x) ≡ (writes E N T empty p buf).outcome
unfolding writes
written-outcome E N T empty r t x p buf a b c = λ i. Ok (demand_counts (a i) T (b i) (c i))

pub written-bytes : (E : Edition) (N T empty : ℕ) (p : List Record) (buf : List ℕ) → laid buf 0 (bytes E.byte N p) ≡ (writes E N T empty p buf).bytes
unfolding writes
written-bytes E N T empty p buf = refl

-- ---- whether a plan fits

pub fits-room : (room need : ℕ) → need ≤ room → 0 ≡ shortage room need
unfolding shortage
fits-room room need l = rw (le-ltb _ _ l)

pub lacks-room : (room need : ℕ) → room < need → need ≡ shortage room need
unfolding shortage
lacks-room room need l = rw (lt-ltb _ _ l)

pub shortage-none : (room need : ℕ) → shortage room need ≡ 0 → need ≤ room
shortage-none room need e = go (dec_lt room need)
  where
    go : Dec (room < need) → need ≤ room
    go (yes l) = omega (arith, lacks-room room need l)
    go (no l) = omega arith

pub shortage-some : (room need : ℕ) → (shortage room need ≡ 0 → ⊥) → (room < need) × (shortage room need ≡ need)
shortage-some room need h = go (dec_lt room need)
  where
    go : Dec (room < need) → (room < need) × (shortage room need ≡ need)
    go (yes l) = (l, sym (lacks-room room need l))
    go (no l) = absurd (h (sym (fits-room room need (omega arith))))

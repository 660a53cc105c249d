-- What a wish, and a list of wishes, comes to. Definitions only.
use Rattle.std.specs.Prelude.{Err, Ok}
use Rattle.std.specs.Prelude.{◌≡◌, List, ℕ, ◌*◌, ◌/◌, ◌%◌, ◌<◌, ◌≤◌, length}
use Rattle.std.specs.Float.Ieee.{of_bits}
use Rattle.std.specs.Float.{binary32}
use Rattle.switch.specs.declared.Edition.{Edition}
use Rattle.switch.specs.Outcome.{Outcome}
use Rattle.switch.specs.declared.Refusal.{Refusal}
use Rattle.switch.specs.declared.Refusal.TheVariants.{Ports, Cells, Torn}
use Rattle.switch.specs.Answer.{plan_counts}
use Rattle.switch.specs.Answer as answer
use Rattle.wish.specs.Wish.{Wish, wish_bits, code_of, slots_of, InRange}
use Rattle.wish.specs.Meaning.{Answers, AboveZero}
use Rattle.wishes.specs.Record.{record_at}
use Rattle.wishes.specs.Fault.{NamedBy, FirstAt}
use Rattle.wishes.specs.Wishes.{Demanded}

-- the answer w for the wish of 32 bits
pub record Wished (bits : ℕ) (w : Wish) : Type 0 where
  -- it is the one that the rules ask for: what is no number or an infinity, below zero or above 65,535 is refused, else it is rounded up
  pub answers : Answers (of_bits binary32 bits) w
  -- code 0 exactly when the wish is a number from 0 to 65,535
  pub taken : InRange (of_bits binary32 bits) → code_of w ≡ 0
  pub only_then : code_of w ≡ 0 → InRange (of_bits binary32 bits)
  -- a wish above zero never gives fewer than 2 slots, and none gives more than 65,535
  pub two : AboveZero (of_bits binary32 bits) → code_of w ≡ 0 → 2 ≤ slots_of w
  pub most : slots_of w ≤ 65535

-- record k of a wish list as it should be: ports below N, spare bytes zero, a pair that no earlier record names, and a wish that is not refused
pub record GoodWish (N : ℕ) (list : List ℕ) (k : ℕ) : Type 0 where
  pub input : (record_at list k).input.0 < N
  pub output : (record_at list k).output.0 < N
  pub spare0 : (record_at list k).spare0 ≡ 0
  pub spare1 : (record_at list k).spare1 ≡ 0
  pub fresh : NamedBy list k (record_at list k).input.0 (record_at list k).output.0 → ⊥
  pub wish : code_of (wish_bits (record_at list k).bits) ≡ 0

-- a wish list for N ports and a number of cells that nothing is wrong with
pub record GoodList (E : Edition) (N : ℕ) (list : List ℕ) (cells : ℕ) : Type 0 where
  pub some : 0 < N
  pub few : N ≤ E.ports
  pub square : cells ≡ N * N
  pub even : length list % 8 ≡ 0
  pub each : (k : ℕ) → k < length list / 8 → GoodWish N list k

-- why a wish list is not taken, each reason only where none before it holds
pub data Untaken (E : Edition) (N : ℕ) (list : List ℕ) (cells : ℕ) : Refusal → Type 0 where
  -- code 1: N is 0 or more than the edition's ports
  no-ports : (0 < N → N ≤ E.ports → ⊥) → Untaken E N list cells Ports
  -- code 2: the cells are not N²
  no-square : 0 < N → N ≤ E.ports → (cells ≡ N * N → ⊥) → Untaken E N list cells (Cells (N * N))
  -- code 9: the bytes are not whole records
  torn : 0 < N → N ≤ E.ports → cells ≡ N * N → (length list % 8 ≡ 0 → ⊥) → Untaken E N list cells (Torn (length list / 8))
  -- the first faulty record's code, 11, 12, 6, 7 or 8 in this order
  faulty : {f : Refusal} → 0 < N → N ≤ E.ports → cells ≡ N * N → length list % 8 ≡ 0 → FirstAt N list (length list / 8) f → Untaken E N list cells f

-- the answer r, and the cells afterwards
pub record WishedAll (E : Edition) (N : ℕ) (list cells : List ℕ) (r : Outcome) (after : List ℕ) : Type 0 where
  -- code 0 exactly when nothing is wrong, with the number of wish records
  pub taken : GoodList E N list (length cells) → r ≡ Ok (plan_counts (length list / 8) 0 0)
  pub only_then : answer.code_of r ≡ 0 → GoodList E N list (length cells)
  -- then each named pair has its wish's slots, and every other pair 0
  pub demand : answer.code_of r ≡ 0 → Demanded N list (length list / 8) after
  -- and else it has its reason, and no cell is changed
  pub refuses : (f : Refusal) → r ≡ Err f → Untaken E N list (length cells) f
  pub unchanged : (answer.code_of r ≡ 0 → ⊥) → after ≡ cells

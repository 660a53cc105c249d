-- The filled cells are level, so that what is left to plan is the exact plan by its definition; at first nobody holds an output.
use Rattle.labels.specs.Ports.{Outputs}
use mathlib.Core.Path.{◌≡◌, sym, ap, ◌∙◌}
use mathlib.Core.List.{List}
use Prim.Native.Nat.{ℕ, ◌≤◌, ◌<◌}
use native.Mathlib.Omega.{arith}
use native.Mathlib.Decide.{dec_lt}
use lib.Seq.{length-take-le}
use lib.ListN.{length, take, replicate, length-replicate, get_or-replicate, get_or-eq_default}
use Rattle.switch.specs.Demand.{cell}
use Rattle.switch.proofs.Demand.{row-le-longest, col-le-longest}
use Rattle.rules.specs.Fill.{fill}
use Rattle.rules.specs.Exact.{exact_from, exact_plan}
use Rattle.search.specs.Tables.{Allowed, joined}
use Rattle.search.proofs.Tables.{held-not-free}
use Rattle.matching.proofs.Kept.{fresh, nobody-holds}
use Rattle.board.specs.Level.{Sized, Within, Level}
use Rattle.board.specs.Labelled.{Labelled}
use Rattle.board.proofs.Filling.{level-fill}
use Rattle.sets.specs.Label.{Upto}
use Rattle.labels.specs.Ports.{inputs_of}
use Rattle.matching.specs.declared.Seats.{Seats}
use Rattle.peel.specs.Standing.{Cells, left, rest, Started, Standing}

module _ (N T : ℕ) (w : List ℕ) (c : Cells N T w) where
  pub within : Within N T w
  within = record {
    sized = record { some = c.some; few = c.few; room = c.room };
    rows = λ i l. omega (arith, c.longest-is, row-le-longest N (cell N w) i l);
    cols = λ j l. omega (arith, c.longest-is, col-le-longest N (cell N w) j l);
    small = c.small;
  }

  filled : Level N T (fill N T w)
  filled = level-fill N T w within

  pub sized-filled : (w' : List ℕ) → w' ≡ fill N T w → Sized N w'
  sized-filled w' e = rw e filled.sized

  rest-exact : (W : ℕ) → rest W N (fill N T w) ≡ exact_plan W N w
  unfolding exact_plan
  rest-exact W = ap (λ t. exact_from W N (cell N (fill N t w))) c.longest-is

  pub started : (w' : List ℕ) (rows' : List Outputs) → w' ≡ fill N T w → Labelled N w' rows' → Started N T w w' rows'
  started w' rows' e l = record {
    level = rw e filled;
    labels = l;
    plan = λ W. ap (rest W N) e ∙ rest-exact W;
  }

-- every input is idle
idle-all : (m : ℕ) → joined (replicate 128 255) m ≡ 255
idle-all m = go (dec_lt m 128)
  where
    go : Dec (m < 128) → joined (replicate 128 255) m ≡ 255
    go (yes l) = get_or-replicate 128 m 255 255 l
    go (no l) = get_or-eq_default (replicate 128 255) 255 {n = m} (omega (arith, length-replicate {A = ℕ} 128 255))

-- a table with a place for each of N inputs
pub table-part : {A : Type 0} (N : ℕ) (v : A) → N ≤ 128 → length (take N (replicate 128 v)) ≡ N
table-part {A} N v l = length-take-le N (replicate 128 v) (omega (arith, length-replicate {A = A} 128 v))

pub standing : (N T : ℕ) (w w' : List ℕ) (rows' : List Outputs) (by out : List ℕ) (seats : Seats) → Started N T w w' rows' → by ≡ replicate 128 0 → out ≡ replicate 128 255 → Upto N (inputs_of seats.waiting)
    → (T ≡ left N w') × Standing N w' rows' by out seats
standing N T w w' rows' by out seats s free idle all = (
  sym e,
  rw (free, idle) (record {
    level = rw e s.level;
    labels = s.labels;
    seating = record {
      good = fresh 128 N (Allowed rows') (replicate 128 255) (length-replicate {A = ℕ} 128 255);
      free = λ k _ _. nobody-holds 128 k;
      begun = λ m l f. absurd (f (all.all m l));
      idle = λ m x. (all.only m x, λ h. held-not-free (replicate 128 0) h.0 m h.1 (nobody-holds 128 h.0));
    };
    former = λ m l f. absurd (f (all.all m l));
    idle = λ m l. idle-all m;
  }),
)
  where
    e : left N w' ≡ T
    e = s.level.rows 0 s.level.sized.some

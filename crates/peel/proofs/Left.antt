-- What is left to plan: a full setting exists while a line has something left, and taking the first off leaves the rest of the plan.
use Rattle.labels.specs.Ports.{Outputs}
use mathlib.Core.Path.{◌≡◌, sym, ap, ◌∙◌, subst, fun_ext}
use mathlib.Core.List.{List, ◌∷◌}
use Prim.Native.Nat.{ℕ, ◌+◌, ◌-◌, ◌≤◌, ◌<◌}
use native.Mathlib.Omega.{arith}
use native.Mathlib.Decide.{dec_lt}
use lib.ListN.{length, get_or, take, get_or-eq_default}
use lib.Seq.{get_or-take, length-take-le}
use Rattle.counting.specs.Matrix.{row, col}
use Rattle.counting.proofs.Matrix.{row-cong, col-cong}
use Rattle.switch.specs.Demand.{cell}
use Rattle.switch.specs.Plan.{output}
use Rattle.rules.specs.First.{NonZero, Fits, First}
use Rattle.rules.specs.Peel.{peel, Least, Tidy}
use Rattle.rules.specs.Exact.{least}
use Rattle.rules.proofs.First.{fits-cong, first_cong}
use Rattle.rules.proofs.Exists.{fits-exists}
use Rattle.rules.proofs.Peel.{peel_to-done, peel-full-row, peel-full-col}
use Rattle.rules.proofs.Peels.{least-is}
use Rattle.rules.proofs.ExactFrom.{exact-step}
use Rattle.search.specs.Tables.{Allowed, Rows, joined}
use Rattle.matching.specs.Chosen.{Ready, Chosen}
use Rattle.matching.proofs.Kept.{first-former}
use Rattle.board.specs.Level.{Level, Uses}
use Rattle.board.specs.Labelled.{Labelled, SubtractPost, Emptied}
use Rattle.board.proofs.Cells.{peeled-sized}
use Rattle.labels.specs.Ports.{outputs_of, inputs_of}
use Rattle.matching.specs.declared.Seats.{Seats}
use Rattle.peel.specs.Standing.{left, rest, Standing, Giving, Released, Taken}
use Rattle.peel.proofs.Release.{released}

-- ---- what is allowed by the labels is what has a cell that is not zero

module _ (N : ℕ) (w : List ℕ) (rows : List Outputs) (l : Labelled N w rows) where
  to-allowed : (i j : ℕ) → i < N → j < N → NonZero (cell N w) i j → Allowed rows i j
  to-allowed i j li lj = (l.row i li).all j lj

  from-allowed : (i j : ℕ) → i < N → j < N → Allowed rows i j → NonZero (cell N w) i j
  from-allowed i j li lj h = ((l.row i li).only j h).1

  pub first-cells : (o : ℕ → ℕ) → First N (Allowed rows) o → First N (NonZero (cell N w)) o
  first-cells = first_cong N (Allowed rows) (NonZero (cell N w)) from-allowed to-allowed

-- ---- the next setting may be asked for

module _ (N : ℕ) (w : List ℕ) (rows : List Outputs) (by out : List ℕ) (seats : Seats) (s : Standing N w rows by out seats) (pos : 0 < left N w) where
  pub few : Rows 128 rows
  few = record { few = omega (arith, s.labels.each, s.level.sized.few) }

  there-is : (o : ℕ → ℕ) × Fits N (Allowed rows) o
  there-is =
      let f = fits-exists N (left N w) (cell N w) pos s.level.rows s.level.cols in
      (f.0, fits-cong N (NonZero (cell N w)) (Allowed rows) (to-allowed N w rows s.labels) f.0 f.1)

  pub ready : Ready 128 (length rows) (Allowed rows) by out (outputs_of seats.held) (inputs_of seats.waiting)
  ready = rw s.labels.each (record { seating = s.seating; inside = λ i j li h. ((s.labels.row i li).only j h).0; some = there-is; former = s.former })

-- the table has outputs enough for a record
pub record-long : {N : ℕ} {w : List ℕ} {rows : List Outputs} {by out : List ℕ} {seats : Seats} (W : ℕ) → W ≤ 128 → Standing N w rows by out seats → length (take W out) ≡ W
record-long {out = out} W l s = length-take-le W out (omega (arith, s.seating.good.outputs))

-- ---- a setting is chosen, and its hold

module _ (N : ℕ) (w : List ℕ) (rows : List Outputs) (by out : List ℕ) (seats : Seats) (s : Standing N w rows by out seats) (by' out' : List ℕ)
    (chosen : Chosen 128 (length rows) (Allowed rows) out by' out') where
  c : Chosen 128 N (Allowed rows) out by' out'
  c = rw s.labels.each at chosen

  first : First N (NonZero (cell N w)) (joined out')
  first = first-cells N w rows s.labels (joined out') c.first

  pub uses : Uses N w out'
  uses = record {
    sized = s.level.sized;
    long = omega (arith, s.level.sized.few, c.good.outputs);
    inside = first.fits.full.inside;
  }

  idle : (m : ℕ) → N ≤ m → joined out' m ≡ 255
  idle m l = c.beyond m l ∙ s.idle m l

  -- the record's outputs are the tables' first W
  module _ (W : ℕ) (wide : N ≤ W) (narrow : W ≤ 128) (h : ℕ) where
    taken-output : output (record { hold = h; outputs = take W out' }) ≡ joined out'
    unfolding output
    taken-output = fun_ext (λ i. go i (dec_lt i W))
      where
        go : (i : ℕ) → Dec (i < W) → get_or (take W out') i 255 ≡ joined out' i
        go i (yes l) = get_or-take W out' i 255 l
        go i (no l) = get_or-eq_default (take W out') 255 (omega (arith, length-take-le W out' (omega (arith, c.good.outputs)))) ∙ sym (idle i (omega arith))

    taken-tidy : Tidy W N (take W out')
    unfolding output
    taken-tidy = record {
      size = length-take-le W out' (omega (arith, c.good.outputs));
      rest = λ i l. ap (λ (f : ℕ → ℕ). f i) taken-output ∙ idle i l;
    }

  module _ (h : ℕ) (e : h ≡ least (N - 1) (λ i. cell N w i (joined out' i))) where
    smallest : Least N (cell N w) (joined out') h
    smallest = rw e (least-is N (cell N w) (joined out') s.level.sized.some)

    pub hold-below : (i : ℕ) → i < N → h ≤ cell N w i (joined out' i)
    hold-below = smallest.below

    hold-some : 0 < h
    hold-some = omega (arith, first.fits.used smallest.place smallest.inside, smallest.met)

    -- and it is taken off
    module _ (w' : List ℕ) (rows' : List Outputs) (p : SubtractPost N w out' h w' rows') where
      cells : (i j : ℕ) → i < N → j < N → cell N w' i j ≡ peel h (joined out') (cell N w) i j
      cells i j li lj = ap (λ (v : List ℕ). cell N v i j) p.taken ∙ peel_to-done N h (joined out') w s.level.sized.room N (omega arith) i j li lj

      row_next : (i : ℕ) → i < N → row N (cell N w') i + h ≡ row N (cell N w) i
      row_next i li = omega (arith, row-cong N (cell N w') (peel h (joined out') (cell N w)) cells i li, peel-full-row N h (joined out') (cell N w) (λ i l _. hold-below i l) first.fits.full i li)

      col-next : (j : ℕ) → j < N → col N (cell N w') j + h ≡ col N (cell N w) j
      col-next j lj = omega (arith, col-cong N (cell N w') (peel h (joined out') (cell N w)) cells j lj, peel-full-col N h (joined out') (cell N w) (λ i l _. hold-below i l) first.fits.full j lj)

      falls : left N w' + h ≡ left N w
      falls = row_next 0 s.level.sized.some

      level-next : Level N (left N w') w'
      level-next = record {
        sized = peeled-sized N h w out' uses w' N p.taken;
        rows = λ i li. omega (arith, row_next i li, s.level.rows i li, falls);
        cols = λ j lj. omega (arith, col-next j lj, s.level.cols j lj, falls);
        small = omega (arith, falls, s.level.small);
      }

      more : (W : ℕ) → N ≤ W → W ≤ 128 → rest W N w ≡ record { hold = h; outputs = take W out' } ∷ rest W N w'
      more W wide narrow =
          let q : joined out' ≡ output (record { hold = h; outputs = take W out' }) = sym (taken-output W wide narrow h) in
          exact-step W N s.level.sized.some wide (left N w) (cell N w) (cell N w') (record { hold = h; outputs = take W out' }) s.level.rows s.level.cols
          (subst (First N (NonZero (cell N w))) q first) (taken-tidy W wide narrow h) (subst (λ o. Least N (cell N w) o h) q smallest)
          (subst (λ o. (i j : ℕ) → i < N → j < N → cell N w' i j ≡ peel h o (cell N w) i j) q cells)

      -- the emptied pairs are to be released
      pub giving : (emptied : ℕ) → Emptied N w' out' emptied N → Giving emptied out' by'
      giving emptied e = record {
        holders = c.good.holders;
        outputs = c.good.outputs;
        small = λ m x. omega (arith, e.few m x, s.level.sized.few);
        held = λ m x. c.held m (e.few m x);
      }

      fewer : (i j : ℕ) → i < N → j < N → Allowed rows' i j → Allowed rows i j
      fewer i j li lj a = to-allowed N w rows s.labels i j li lj
          (was (from-allowed N w' rows' p.labels i j li lj a))
        where
          was : 0 < cell N w' i j → 0 < cell N w i j
          was q = unfold peel in omega (arith, q, cells i j li lj)

      pub taken : (seats' : Seats) (by'' : List ℕ) → Emptied N w' out' (inputs_of seats'.waiting) N → Released (inputs_of seats'.waiting) out' by' by'' (outputs_of seats'.held)
          → Taken N w w' rows' by'' out' h seats'
      taken seats' by'' e r = record {
        standing = record {
          level = level-next;
          labels = p.labels;
          seating = released N (Allowed rows) (Allowed rows') (inputs_of seats'.waiting) out' by' by'' (outputs_of seats'.held) c.good c.held e.few
              (λ m l f. to-allowed N w' rows' p.labels m (joined out' m) l (uses.inside m l) (e.some m l f)) r;
          former = λ m l f. first-former N (Allowed rows) (Allowed rows') out' fewer c.first;
          idle = idle;
        };
        some = hold-some;
        falls = falls;
        more = more;
      }

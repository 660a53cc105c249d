-- An input's label has the outputs with slots left for it, so the lowest that it has in common with the free ones is what the rule gives the input.
use mathlib.Core.Path.{◌≡◌, sym, ap, ◌∙◌, subst}
use mathlib.Core.Logic.{◌≢◌}
use mathlib.Core.Bool.{true, false, not}
use mathlib.Core.List.{List}
use Prim.Native.Nat.{ℕ, ◌+◌, ◌*◌, ◌-◌, ◌≤◌, ◌<◌}
use native.Mathlib.Decide.{ℕ_discrete}
use native.Mathlib.Omega.{arith}
use lib.ListN.{length, get_or, set, length-set}
use lib.Seq.{set-get_or}
use lib.Dec.{T}
use borrow.Author.Tests.{eq-eqb, ne_eqb}
use Rattle.counting.specs.Matrix.{row}
use Rattle.counting.proofs.Sum.{sum-at}
use Rattle.counting.proofs.Matrix.{Raised, raised_all}
use Rattle.switch.specs.Demand.{cell}
use Rattle.switch.proofs.Demand.{set-lowered}
use Rattle.sets.specs.Label.{digit, In, Cleared, Common, LowestAt}
use Rattle.labels.specs.Ports.{Inputs, Outputs, inputs_of, outputs_of}
use Rattle.rules.specs.Search.{put}
use Rattle.rules.specs.Peel.{peel}
use Rattle.rules.specs.Quick.{may}
use Rattle.rules.proofs.Ports.{put_same, put_other}
use Rattle.rules.proofs.Peel.{peel-at, peel-off}
use Rattle.rules.proofs.Slot.{lowest-at, lowest-none, may-yes, may-is}
use Rattle.slot.specs.declared.Turn.{Turn}
use Rattle.board.specs.Labelled.{RowOf, TakePost}
use Rattle.slot.specs.Filled.{left_in, Copy, taken_of, turn_of, Turned, StillAsking}

-- ---- sets and tests

in-free : (l j : ℕ) → In l j → T (taken_of l j) → ⊥
in-free l j e = rw (eq-eqb (digit l j) 1 e) (λ t. t)

free_in : (l j : ℕ) → (T (taken_of l j) → ⊥) → In l j
free_in l j f = go (ℕ_discrete (digit l j) 1)
  where
    go : Dec (In l j) → In l j
    go (yes e) = e
    go (no e) = absurd (f (rw (ne_eqb (digit l j) 1 e) tt))

pub every-free : (l j : ℕ) → In l j → taken_of l j ≡ false
every-free l j e = ap not (eq-eqb (digit l j) 1 e)

-- where j is no longer free, it is taken besides
pub cleared-taken : (l j r : ℕ) → Cleared l j r → (b : ℕ) → taken_of r b ≡ put (taken_of l) j true b
cleared-taken l j r m b = go (ℕ_discrete b j) (ℕ_discrete (digit l b) 1)
  where
    go : Dec (b ≡ j) → Dec (In l b) → taken_of r b ≡ put (taken_of l) j true b
    go (yes e) d = rw (e, put_same (taken_of l) j true) (ap not (ne_eqb (digit r j) 1 m.gone))
    go (no e) (yes d) = rw (put_other (taken_of l) j true b e) (ap not (eq-eqb (digit r b) 1 (m.kept b d e) ∙ sym (eq-eqb (digit l b) 1 d)))
    go (no e) (no d) = rw (put_other (taken_of l) j true b e) (ap not (ne_eqb (digit r b) 1 (λ h. d (m.less b h)) ∙ sym (ne_eqb (digit l b) 1 d)))

-- ---- the inputs that are asked

-- an input whose label is empty leaves
pub asking-less : (row i l r : ℕ) → ((j : ℕ) → In row j → ⊥) → Cleared l i r → StillAsking row i l r
asking-less row i l r e c = record { less = c.less; gone = λ k h n. (same k h n, e) }
  where
    same : (k : ℕ) → In l k → (In r k → ⊥) → k ≡ i
    same k h n = go (ℕ_discrete k i)
      where
        go : Dec (k ≡ i) → k ≡ i
        go (yes z) = z
        go (no z) = absurd (n (c.kept k h z))

pub asking-same : (row i l : ℕ) → StillAsking row i l l
asking-same row i l = record { less = λ k h. h; gone = λ k h n. absurd (n h) }

-- ---- what the rule gives

module _ (N : ℕ) (w : List ℕ) (i label free both : ℕ) (r : RowOf N w i label) (c : Common label free both) where
  pub turn-none : ((k : ℕ) → In both k → ⊥) → turn_of N w free i ≡ 255
  unfolding turn_of
  turn-none n = lowest-none N 0 (may (cell N w) (taken_of free) i)
      (λ y _ l t. let p = may-is (cell N w) (taken_of free) i y t in n y (c.all y (r.all y (omega arith) p.0) (free_in free y p.1)))

  pub turn_at : (j : ℕ) → LowestAt 128 both j → turn_of N w free i ≡ j
  unfolding turn_of
  turn_at j m =
      let o = r.only j (c.left j m.here) in
      lowest-at N 0 (may (cell N w) (taken_of free) i) j (omega arith) (omega (arith, o.0))
      (may-yes (cell N w) (taken_of free) i j o.1 (in-free free j (c.right j m.here)))
      (λ y _ l t. let p = may-is (cell N w) (taken_of free) i y t in m.past y l (c.all y (r.all y (below y l o.0) p.0) (free_in free y p.1)))
    where
      below : (y : ℕ) → y < j → j < N → y < N
      below y l k = omega arith

-- ---- one slot of a pair less

-- a pair with slots left has some of all that are left
pub some_left : (N : ℕ) (w : List ℕ) (i j : ℕ) → i < N → j < N → 0 < cell N w i j → 0 < left_in N w
unfolding left_in row
some_left N w i j li lj p = omega (arith, sum-at N (row N (cell N w)) i li, sum-at N (cell N w i) j lj)

pub lowered-peel : (N i j : ℕ) (M M' : ℕ → ℕ → ℕ) → Raised N M M' i j 1 → (a b : ℕ) → a < N → b < N → b ≢ 255 → M a b ≡ peel 1 (put (λ _. 255) i j) M' a b
lowered-peel N i j M M' r a b la lb idle = go (ℕ_discrete a i) (ℕ_discrete b j)
  where
    o : ℕ → ℕ
    o = put (λ _. 255) i j

    joined : o i ≡ j
    joined = put_same (λ _. 255) i j

    go : Dec (a ≡ i) → Dec (b ≡ j) → M a b ≡ peel 1 o M' a b
    go (yes x) (yes y) = rw (x, y) (sym (subst (λ (z : ℕ). peel 1 o M' i z ≡ M i j) joined (peel-at 1 o M' i ∙ (subst (λ (z : ℕ). M' i z - 1 ≡ M i j) (sym joined) (omega (arith, r.at))))))
    go (yes x) (no y) = sym (peel-off 1 o M' a b (λ e. y (sym e ∙ ap o x ∙ joined)) ∙ r.off-col a b la lb y)
    go (no x) y = sym (peel-off 1 o M' a b (λ e. idle (sym e ∙ put_other (λ _. 255) i j a x)) ∙ r.off-row a b la lb x)

pub nothing-peel : (i : ℕ) (M : ℕ → ℕ → ℕ) (a b : ℕ) → b ≢ 255 → M a b ≡ peel 1 (put (λ _. 255) i 255) M a b
nothing-peel i M a b idle = sym (peel-off 1 (put (λ _. 255) i 255) M a b (λ e. idle (sym e ∙ all)))
  where
    all : put {A = ℕ} (λ _. 255) i 255 a ≡ 255
    all = go (ℕ_discrete a i)
      where
        go : Dec (a ≡ i) → put {A = ℕ} (λ _. 255) i 255 a ≡ 255
        go (yes x) = ap (put {A = ℕ} (λ _. 255) i 255) x ∙ put_same {A = ℕ} (λ _. 255) i 255
        go (no x) = put_other {A = ℕ} (λ _. 255) i 255 a x

-- ---- the turn

-- no slot is left for the input: it is idle
pub turn-idle : (N : ℕ) (w : List ℕ) (free i : ℕ) → ((j : ℕ) → j < N → cell N w i j ≡ 0) → turn_of N w free i ≡ 255
unfolding turn_of
turn-idle N w free i h = lowest-none N 0 (may (cell N w) (taken_of free) i) (λ y _ l t. omega (arith, h y (omega arith), (may-is (cell N w) (taken_of free) i y t).0))

module _ (N i : ℕ) (w : List ℕ) (rows : List Outputs) (out : List ℕ) (turn : Turn) (c : Copy N turn.rest w rows) where
  -- nothing is free: the input stays idle, and need not be asked again where its label is empty
  pub turned_none : turn_of N w (outputs_of turn.free) i ≡ 255 → get_or out i 255 ≡ 255
      → (turn' : Turn) → turn'.free ≡ turn.free → turn'.rest.left ≡ turn.rest.left
      → (label : ℕ) → RowOf N w i label → StillAsking label i (inputs_of turn.rest.inputs) (inputs_of turn'.rest.inputs)
      → Turned N i w out turn w rows out turn'
  turned_none e o turn' t l label r a = record {
    copy = record { sized = c.sized; labels = c.labels; all = l ∙ c.all; inside = λ k h. c.inside k (a.less k h); others = others };
    seated = sym (ap (set out i) (e ∙ sym o) ∙ set-get_or out i 255);
    cells = λ a b la lb. rw e (nothing-peel i (cell N w) a b (omega (arith, c.sized.few)));
    taken = λ b lb. rw e (ap (λ (x : Outputs). taken_of (outputs_of x) b) t ∙ sym (put_other (taken_of (outputs_of turn.free)) 255 true b (omega (arith, c.sized.few))));
  }
    where
      others : (k : ℕ) → k < N → (In (inputs_of turn'.rest.inputs) k → ⊥) → (j : ℕ) → j < N → cell N w k j ≡ 0
      others k lk n j lj = go (ℕ_discrete (digit (inputs_of turn.rest.inputs) k) 1)
        where
          go : Dec (In (inputs_of turn.rest.inputs) k) → cell N w k j ≡ 0
          go (no z) = c.others k lk z j lj
          go (yes z) =
              let g = a.gone k z n in
              none_of (cell N w k j) (λ p. g.1 j (r.all j lj (subst (λ (x : ℕ). 0 < cell N w x j) g.0 p)))
            where
              none_of : (x : ℕ) → (0 < x → ⊥) → x ≡ 0
              none_of x f = omega (arith, f)

  -- output j: one slot of the pair less, and one in all
  pub turned-at : (j : ℕ) → i < N → j < N → 0 < cell N w i j → turn_of N w (outputs_of turn.free) i ≡ j → (w' : List ℕ) (rows' : List Outputs) (turn' : Turn)
      → TakePost N w i j 1 w' rows' → Cleared (outputs_of turn.free) j (outputs_of turn'.free) → turn'.rest.left ≡ turn.rest.left - 1 → turn'.rest.inputs ≡ turn.rest.inputs
      → Turned N i w out turn w' rows' (set out i j) turn'
  turned-at j li lj p e w' rows' turn' s m f g = record {
    copy = record {
      sized = record { some = c.sized.some; few = c.sized.few; room = omega (arith, c.sized.room, ap length s.taken, length-set w (i * N + j) (cell N w i j - 1)) };
      labels = s.labels;
      all = unfold left_in in omega (arith, f, c.all, raised_all N (cell N w') (cell N w) i j 1 li lj low);
      inside = λ k h. c.inside k (subst (λ (x : Inputs). In (inputs_of x) k) g h);
      others = λ k lk n b lb. omega (arith, lowered-le k b lk lb, c.others k lk (λ h. n (subst (λ (x : Inputs). In (inputs_of x) k) (sym g) h)) b lb);
    };
    seated = ap (set out i) (sym e);
    cells = peeled;
    taken = λ b lb. rw e (cleared-taken (outputs_of turn.free) j (outputs_of turn'.free) m b);
  }
    where
      low : Raised N (cell N w') (cell N w) i j 1
      low = subst (λ (x : List ℕ). Raised N (cell N x) (cell N w) i j 1) (sym s.taken) (set-lowered N w c.sized.room i j 1 li lj p)

      peeled : (a b : ℕ) → a < N → b < N → cell N w' a b ≡ peel 1 (put (λ _. 255) i (turn_of N w (outputs_of turn.free) i)) (cell N w) a b
      peeled a b la lb = rw e (lowered-peel N i j (cell N w') (cell N w) low a b la lb (omega (arith, c.sized.few)))

      lowered-le : (a b : ℕ) → a < N → b < N → cell N w' a b ≤ cell N w a b
      lowered-le a b la lb = unfold peel in omega (arith, peeled a b la lb)

-- The labels of the rows: marked cell by cell, and after a cell falls only its own row's label can change.
use Rattle.labels.specs.Ports.{Outputs}
use mathlib.Core.Path.{◌≡◌, refl, sym, ap, subst, ◌∙◌}
use mathlib.Core.Bool.{true, false}
use mathlib.Core.Logic.{◌≢◌, ◌⊎◌, inl, inr}
use mathlib.Core.List.{List}
use Prim.Native.Nat.{ℕ, ◌+◌, ◌-◌, ◌*◌, ◌<◌, ◌≤◌}
use native.Mathlib.Decide.{ℕ_discrete}
use native.Mathlib.Omega.{arith}
use lib.Dec.{eqb}
use lib.ListN.{length, get_or, set}
use borrow.Author.Tests.{eq-eqb, ne_eqb, eqb-true, eqb-false}
use lib.Seq.{get_or-set_same, get_or-set_other}
use Rattle.switch.specs.Demand.{cell}
use Rattle.switch.proofs.Demand.{index-inj}
use Rattle.sets.specs.Label.{In, Marked, Cleared, ClearedIf}
use Rattle.labels.specs.Rows.{row_of, RowPut}
use Rattle.board.specs.Level.{Sized, Uses, out_of}
use Rattle.board.specs.Labelled.{RowOf, Labelled, TakePre, TakePost, Emptied}
use Rattle.board.proofs.Cells.{index_in}

-- ---- one label, marked cell by cell

-- l has the outputs below j whose cells, counted from `row` on, are not zero
pub record Part (w : List ℕ) (row l j : ℕ) : Type 0 where
  pub all : (k : ℕ) → k < j → get_or w (row + k) 0 ≢ 0 → In l k
  pub only : (k : ℕ) → In l k → (k < j) × (get_or w (row + k) 0 ≢ 0)

module _ (w : List ℕ) (row l : ℕ) where
  pub part_none : ((k : ℕ) → In l k → ⊥) → Part w row l 0
  part_none e = record { all = λ k h _. absurd (omega arith); only = λ k h. absurd (e k h) }

  part-mark : (j r : ℕ) → get_or w (row + j) 0 ≢ 0 → Marked l j r → Part w row l j → Part w row r (j + 1)
  part-mark j r e m p = record { all = all; only = only }
    where
      all : (k : ℕ) → k < j + 1 → get_or w (row + k) 0 ≢ 0 → In r k
      all k h q = go (ℕ_discrete k j)
        where
          go : Dec (k ≡ j) → In r k
          go (yes z) = subst (In r) (sym z) m.put
          go (no z) = m.more k (p.all k (omega arith) q)

      only : (k : ℕ) → In r k → (k < j + 1) × (get_or w (row + k) 0 ≢ 0)
      only k h = elim (m.only k h) [ inl z ↦ (omega (arith, (p.only k z).0), (p.only k z).1) | inr z ↦ (omega arith, subst (λ x. get_or w (row + x) 0 ≢ 0) (sym z) e) ]

  part-skip : (j : ℕ) → get_or w (row + j) 0 ≡ 0 → Part w row l j → Part w row l (j + 1)
  part-skip j e p = record { all = all; only = λ k h. (omega (arith, (p.only k h).0), (p.only k h).1) }
    where
      all : (k : ℕ) → k < j + 1 → get_or w (row + k) 0 ≢ 0 → In l k
      all k h q = go (ℕ_discrete k j)
        where
          go : Dec (k ≡ j) → In l k
          go (yes z) = absurd (q (ap (λ x. get_or w (row + x) 0) z ∙ e))
          go (no z) = p.all k (omega arith) q

  -- marked, and cleared again where the cell is zero
  pub part-next : (j m r : ℕ) → Marked l j m → ClearedIf (eqb (get_or w (row + j) 0) 0) m j r → Part w row l j → Part w row r (j + 1)
  part-next j m r mk c p = by (ℕ_discrete (get_or w (row + j) 0) 0)
    where
      zero : get_or w (row + j) 0 ≡ 0 → Cleared m j r → Part w row r (j + 1)
      zero e g =
          let s = part-skip j e p in
          record { all = λ k h q. g.kept k (mk.more k (s.all k h q)) (λ z. q (ap (λ x. get_or w (row + x) 0) z ∙ e)); only = λ k h. only k h (mk.only k (g.less k h)) }
        where
          only : (k : ℕ) → In r k → In l k ⊎ (k ≡ j) → (k < j + 1) × (get_or w (row + k) 0 ≢ 0)
          only k h (inl z) = (part-skip j e p).only k z
          only k h (inr z) = absurd (g.gone (subst (In r) z h))

      by : Dec (get_or w (row + j) 0 ≡ 0) → Part w row r (j + 1)
      by (yes e) = zero e (c.cleared (eq-eqb _ _ e))
      by (no n) = subst (λ (x : ℕ). Part w row x (j + 1)) (sym (c.same (ne_eqb _ _ n))) (part-mark j m n mk p)

  pub part-row : (N i : ℕ) → row ≡ i * N → Part w row l N → RowOf N w i l
  unfolding cell
  part-row N i e p = record {
    all = λ j h q. p.all j h (λ z. omega (arith, q, ap (λ x. get_or w (x + j) 0) e));
    only = λ j h. ((p.only j h).0, above j (p.only j h).1);
  }
    where
      above : (j : ℕ) → get_or w (row + j) 0 ≢ 0 → 0 < get_or w (i * N + j) 0
      above j q = omega (arith, ap (λ x. get_or w (x + j) 0) e, q)

-- ---- a label for each input

-- the inputs below i have their labels
pub record Begun (N : ℕ) (w : List ℕ) (rows : List Outputs) (i : ℕ) : Type 0 where
  pub each : length rows ≡ N
  pub row : (k : ℕ) → k < i → RowOf N w k (row_of rows k)

pub begun-next : (N : ℕ) (w : List ℕ) (rows rows' : List Outputs) (i l : ℕ) → Begun N w rows i → RowOf N w i l → RowPut i l rows rows' → Begun N w rows' (i + 1)
begun-next N w rows rows' i l b q p = record { each = p.size ∙ b.each; row = λ k h. go k h (ℕ_discrete k i) }
  where
    go : (k : ℕ) → k < i + 1 → Dec (k ≡ i) → RowOf N w k (row_of rows' k)
    go k h (yes z) = rw (z, p.here) q
    go k h (no z) = rw (p.other k z) (b.row k (omega arith))

-- ---- the cell of a pair falls to v

module _ (N : ℕ) (w : List ℕ) (rows : List Outputs) (i j v : ℕ) (s : Sized N w) (li : i < N) (lj : j < N) (was : v ≤ cell N w i j) (ls : Labelled N w rows) where
  abbrev after : List ℕ
  after = set w (i * N + j) v

  same : cell N after i j ≡ v
  unfolding cell
  same = get_or-set_same w (i * N + j) v 0 (index_in N i j w s li lj).0

  other : (k m : ℕ) → m < N → ((k ≡ i) × (m ≡ j) → ⊥) → cell N after k m ≡ cell N w k m
  unfolding cell
  other k m hm d = get_or-set_other w (i * N + j) (k * N + m) v 0 (λ e. d (index-inj N k m i j hm lj e))

  -- another row's label is right still
  row_same : (k l : ℕ) → k ≢ i → RowOf N w k l → RowOf N after k l
  row_same k l d q = record {
    all = λ m h e. q.all m h (rw (← other k m h (λ x. d x.0)) e);
    only = λ m e. ((q.only m e).0, rw (other k m (q.only m e).0 (λ x. d x.0)) (q.only m e).1);
  }

  -- the cell is zero now, and its output has left the label
  row_zero : (l r : ℕ) → v ≡ 0 → Cleared l j r → RowOf N w i l → RowOf N after i r
  row_zero l r z c q = record {
    all = λ m h e.
        let d : m ≢ j = λ x. omega (arith, e, ap (cell N after i) x, same) in
        c.kept m (q.all m h (rw (← other i m h (λ x. d x.1)) e)) d;
    only = λ m e.
        let p = q.only m (c.less m e) in
        (p.0, rw (other i m p.0 (λ x. c.gone (subst (In r) x.1 e))) p.1);
  }

  -- something is left
  row-some : (l : ℕ) → v ≢ 0 → RowOf N w i l → RowOf N after i l
  row-some l ne q = record { all = λ m h e. all m h e (ℕ_discrete m j); only = λ m e. ((q.only m e).0, only m e (ℕ_discrete m j)) }
    where
      all : (m : ℕ) → m < N → 0 < cell N after i m → Dec (m ≡ j) → In l m
      all m h e (yes x) = q.all m h (rw x (omega arith))
      all m h e (no x) = q.all m h (rw (← other i m h (λ y. x y.1)) e)

      only : (m : ℕ) → In l m → Dec (m ≡ j) → 0 < cell N after i m
      only m e (yes x) = rw (x, same) (omega arith)
      only m e (no x) = rw (other i m (q.only m e).0 (λ y. x y.1)) (q.only m e).1

  -- the output leaves the label just where nothing is left
  row-taken : (l r : ℕ) → ClearedIf (eqb v 0) l j r → RowOf N w i l → RowOf N after i r
  row-taken l r c q = go (ℕ_discrete v 0)
    where
      go : Dec (v ≡ 0) → RowOf N after i r
      go (yes z) = row_zero l r z (c.cleared (eq-eqb v 0 z)) q
      go (no z) = rw (c.same (ne_eqb v 0 z)) (row-some l z q)

  pub labels-taken : (l r : ℕ) (rows' : List Outputs) → l ≡ row_of rows i → ClearedIf (eqb v 0) l j r → RowPut i r rows rows'
      → Labelled N (set w (i * N + j) v) rows'
  labels-taken l r rows' e c p = record { each = p.size ∙ ls.each; row = λ k h. go k h (ℕ_discrete k i) }
    where
      go : (k : ℕ) → k < N → Dec (k ≡ i) → RowOf N after k (row_of rows' k)
      go k h (yes x) = rw (x, p.here) (row-taken l r c (rw e (ls.row i li)))
      go k h (no x) = rw (p.other k x) (row_same k (row_of rows k) x (ls.row k h))

-- the hold is taken off the pair's cell, which stands at q
pub taken : (N : ℕ) (w : List ℕ) (rows : List Outputs) (i j hold : ℕ) → TakePre N w rows i j hold → (q : ℕ) → q ≡ i * N + j → (l r : ℕ) (rows' : List Outputs) → l ≡ row_of rows i
    → ClearedIf (eqb (get_or w q 0 - hold) 0) l j r → RowPut i r rows rows' → TakePost N w i j hold (set w q (get_or w q 0 - hold)) rows'
unfolding cell
taken N w rows i j hold p q e l r rows' f c put = record {
  taken = ap (λ (x : ℕ). set w x (get_or w x 0 - hold)) e;
  labels = rw e (labels-taken N w rows i j (get_or w (i * N + j) 0 - hold) p.sized p.input p.output (omega arith) p.labels l r rows' f (rw e at c) put);
}

-- the same where the label is looked at only if nothing is left
module _ (N : ℕ) (w : List ℕ) (rows : List Outputs) (i j hold : ℕ) (p : TakePre N w rows i j hold) (q : ℕ) (e : q ≡ i * N + j) where
  left_is : get_or w q 0 - hold ≡ cell N w i j - hold
  unfolding cell
  left_is = ap (λ (x : ℕ). get_or w x 0 - hold) e

  pub taken-some : get_or w q 0 - hold ≢ 0 → TakePost N w i j hold (set w q (get_or w q 0 - hold)) rows × (false ≡ eqb (cell N w i j - hold) 0)
  taken-some f = (
    taken N w rows i j hold p q e (row_of rows i) (row_of rows i) rows refl (record { cleared = λ b. absurd (f (eqb-true _ _ b)); same = λ _. refl })
        (record { size = refl; here = refl; other = λ k _. refl }),
    sym (ne_eqb _ _ (λ z. f (left_is ∙ z))),
  )

  pub taken-all : get_or w q 0 - hold ≡ 0 → (l r : ℕ) (rows' : List Outputs) → l ≡ row_of rows i → Cleared l j r → RowPut i r rows rows'
      → TakePost N w i j hold (set w q (get_or w q 0 - hold)) rows' × (true ≡ eqb (cell N w i j - hold) 0)
  taken-all z l r rows' f c put = (
    taken N w rows i j hold p q e l r rows' f (record { cleared = λ _. c; same = λ b. absurd (eqb-false _ _ b z) }) put,
    sym (eq-eqb _ _ (sym left_is ∙ z)),
  )

-- ---- the inputs whose own cell is empty, as the setting is taken off input by input

pub emptied-start : (N : ℕ) (w out : List ℕ) (l : ℕ) → ((k : ℕ) → In l k → ⊥) → Emptied N w out l 0
emptied-start N w out l e = record { few = λ i x. absurd (e i x); none = λ i x. absurd (e i x); some = λ i h _. absurd (omega arith) }

module _ (N : ℕ) (w out : List ℕ) (i v l : ℕ) (u : Uses N w out) (li : i < N) (p : Emptied N w out l i) where
  abbrev less : List ℕ
  less = set w (i * N + out_of out i) v

  own : cell N less i (out_of out i) ≡ v
  unfolding cell
  own = get_or-set_same w (i * N + out_of out i) v 0 (index_in N i (out_of out i) w u.sized li (u.inside i li)).0

  before : (k : ℕ) → k < i → cell N less k (out_of out k) ≡ cell N w k (out_of out k)
  unfolding cell
  before k h = get_or-set_other w (i * N + out_of out i) (k * N + out_of out k) v 0 (λ e. let z = (index-inj N k (out_of out k) i (out_of out i) (u.inside k (omega arith)) (u.inside i li) e).0 in omega arith)

  pub emptied-not : 0 < v → Emptied N less out l (i + 1)
  emptied-not s = record { few = λ k x. omega (arith, p.few k x); none = λ k x. before k (p.few k x) ∙ p.none k x; some = λ k h f. go k h f (ℕ_discrete k i) }
    where
      go : (k : ℕ) → k < i + 1 → (In l k → ⊥) → Dec (k ≡ i) → 0 < cell N less k (out_of out k)
      go k h f (yes e) = rw (e, own) s
      go k h f (no e) = rw (before k (omega arith)) (p.some k (omega arith) f)

  pub emptied-more : (r : ℕ) → v ≡ 0 → Marked l i r → Emptied N less out r (i + 1)
  emptied-more r z m = record { few = λ k x. few k (m.only k x); none = λ k x. none k (m.only k x); some = λ k h f. go k h f (ℕ_discrete k i) }
    where
      few : (k : ℕ) → In l k ⊎ (k ≡ i) → k < i + 1
      few k (inl x) = omega (arith, p.few k x)
      few k (inr e) = omega arith

      none : (k : ℕ) → In l k ⊎ (k ≡ i) → cell N less k (out_of out k) ≡ 0
      none k (inl x) = before k (p.few k x) ∙ p.none k x
      none k (inr e) = rw e (own ∙ z)

      go : (k : ℕ) → k < i + 1 → (In r k → ⊥) → Dec (k ≡ i) → 0 < cell N less k (out_of out k)
      go k h f (yes e) = absurd (f (subst (In r) (sym e) m.put))
      go k h f (no e) = rw (before k (omega arith)) (p.some k (omega arith) (λ x. f (m.more k x)))

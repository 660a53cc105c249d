-- What each line lacks is kept beside the cells: a filled cell raises its row and its column by what both lack, and no other line.
use mathlib.Core.Path.{◌≡◌, refl, sym, ap, ap₂, ◌∙◌, subst}
use mathlib.Core.Logic.{◌≢◌}
use mathlib.Core.List.{List}
use Prim.Native.Nat.{ℕ, ◌+◌, ◌*◌, ◌-◌, ◌/◌, ◌%◌, ◌≤◌, ◌<◌, min}
use native.Mathlib.Omega.{arith}
use native.Mathlib.Decide.{ℕ_discrete, dec_lt}
use native.Mathlib.Nat.{add-mul}
use native.Mathlib.Numerals.{add-one}
use lib.ListN.{length, get_or, set, length-set}
use lib.Seq.{get_or-set_same, get_or-set_other}
use lib.Arith.{digits_div, digits_mod}
use Rattle.counting.specs.Matrix.{row, col}
use Rattle.counting.proofs.Sum.{sum-at}
use Rattle.counting.proofs.Matrix.{Raised, raised-row, raised-col, raised-other-row, raised-other-col}
use Rattle.switch.specs.Demand.{cell, line}
use Rattle.switch.proofs.Demand.{set-raised, line_row, line-col}
use Rattle.rules.specs.Fill.{lack, fill_cell, fill_to, fill}
use Rattle.rules.proofs.Fill.{length-fill_to, length-fill, fill_to-filled, fill-row, fill-col}
use Rattle.board.specs.Level.{Within, Level, Lacking, both, less_both}
use Rattle.board.proofs.Cells.{sized-as}

-- ---- what is known as the cells are filled in order

within-fill_to : (N T : ℕ) (d : List ℕ) (k : ℕ) → Within N T d → k ≤ N * N → Within N T (fill_to N T d k)
within-fill_to N T d k h l =
    let f = fill_to-filled N T d h.sized.room h.rows h.cols k l in
    record { sized = sized-as N d (fill_to N T d k) (length-fill_to N T d k) h.sized; rows = f.rows; cols = f.cols; small = h.small }

pub within-so-far : {N T : ℕ} {d e : List ℕ} → Within N T d → (k : ℕ) → k ≤ N * N → e ≡ fill_to N T d k → Within N T e
within-so-far {N} {T} {d} h k l e = subst (Within N T) (sym e) (within-fill_to N T d k h l)

-- afterwards every line sums to T
pub level-fill : (N T : ℕ) (d : List ℕ) → Within N T d → Level N T (fill N T d)
level-fill N T d h = record {
  sized = sized-as N d (fill N T d) (length-fill N T d) h.sized;
  rows = fill-row N T d h.sized.room h.rows h.cols;
  cols = fill-col N T d h.sized.room h.rows h.cols;
  small = h.small;
}

pub fill_to-zero : (N T : ℕ) (d : List ℕ) → d ≡ fill_to N T d 0
unfolding fill_to
fill_to-zero N T d = refl

fill_to-next : (N T : ℕ) (d : List ℕ) (k : ℕ) → fill_cell N T (fill_to N T d k) (k / N) (k % N) ≡ fill_to N T d (k + 1)
unfolding fill_to
fill_to-next N T d k = rw (add-one k)

-- the pair (i, j) has cell i × N + j; behind the last of a row comes the first of the next
fill_to-pair : (N T : ℕ) (d : List ℕ) (i j : ℕ) → j < N → fill_cell N T (fill_to N T d (i * N + j)) i j ≡ fill_to N T d (i * N + j + 1)
fill_to-pair N T d i j l = ap₂ (fill_cell N T (fill_to N T d (i * N + j))) (sym (digits_div i l)) (sym (digits_mod i l)) ∙ fill_to-next N T d (i * N + j)

pub row_end : (N i j : ℕ) → j ≡ N → i * N + j ≡ (i + 1) * N
row_end N i j e = omega (arith, add-mul i 1 N)

-- ---- a line's lack is noted

pub lacking-next : (N T : ℕ) (w l : List ℕ) (k v : ℕ) → k < length l → v ≡ T - line N w k → ((a : ℕ) → a < k → get_or l a 0 ≡ T - line N w a)
    → (a : ℕ) → a < k + 1 → get_or (set l k v) a 0 ≡ T - line N w a
lacking-next N T w l k v h e p a q = go (ℕ_discrete a k)
  where
    go : Dec (a ≡ k) → get_or (set l k v) a 0 ≡ T - line N w a
    go (yes z) = rw z (get_or-set_same l k v 0 h ∙ e)
    go (no z) = get_or-set_other l k a v 0 z ∙ p a (omega arith)

pub line-within : (N T : ℕ) (w : List ℕ) → Within N T w → (k : ℕ) → k < N + N → line N w k ≤ T
line-within N T w h k l = go (dec_lt k N)
  where
    go : Dec (k < N) → line N w k ≤ T
    go (yes p) = omega (arith, line_row N w k p, h.rows k p)
    go (no p) =
        let e : N + (k - N) ≡ k = omega arith in
        omega (arith, ap (line N w) e, line-col N w (k - N), h.cols (k - N) (omega arith))

-- ---- one cell is filled

module _ (N T : ℕ) (w l : List ℕ) (h : Within N T w) (p : Lacking N T w l) (i j : ℕ) (li : i < N) (lj : j < N) where
  at_row : get_or l i 0 ≡ T - row N (cell N w) i
  at_row = p.is i (omega arith) ∙ ap (λ x. T - x) (line_row N w i li)

  at-col : get_or l (N + j) 0 ≡ T - col N (cell N w) j
  at-col = p.is (N + j) (omega arith) ∙ ap (λ x. T - x) (line-col N w j)

  both-lack : both N l i j ≡ lack N T (cell N w) i j
  unfolding lack
  both-lack = ap₂ min at_row at-col

  pub fill-fits : cell N w i j + both N l i j ≤ 65535
  unfolding lack row
  fill-fits = omega (arith, both-lack, sum-at N (λ b. cell N w i b) j lj, h.rows i li, h.small)

  filled-cell : set w (i * N + j) (cell N w i j + both N l i j) ≡ fill_cell N T w i j
  unfolding fill_cell
  filled-cell = ap (λ v. set w (i * N + j) (cell N w i j + v)) both-lack

  raised : Raised N (cell N w) (cell N (fill_cell N T w i j)) i j (lack N T (cell N w) i j)
  unfolding fill_cell
  raised = set-raised N w h.sized.room i j (lack N T (cell N w) i j) li lj

  w' : List ℕ
  w' = fill_cell N T w i j

  line-i : line N w' i ≡ line N w i + both N l i j
  unfolding w'
  line-i = line_row N (fill_cell N T w i j) i li ∙ raised-row N (cell N w) (cell N (fill_cell N T w i j)) i j _ li lj raised ∙ ap₂ ◌+◌ (sym (line_row N w i li)) (sym both-lack)

  line-j : line N w' (N + j) ≡ line N w (N + j) + both N l i j
  unfolding w'
  line-j = line-col N (fill_cell N T w i j) j ∙ raised-col N (cell N w) (cell N (fill_cell N T w i j)) i j _ li lj raised ∙ ap₂ ◌+◌ (sym (line-col N w j)) (sym both-lack)

  line_other : (k : ℕ) → k < N + N → k ≢ i → k ≢ N + j → line N w' k ≡ line N w k
  unfolding w'
  line_other k lk ni nj = go (dec_lt k N)
    where
      go : Dec (k < N) → line N (fill_cell N T w i j) k ≡ line N w k
      go (yes q) = line_row N (fill_cell N T w i j) k q ∙ raised-other-row N (cell N w) (cell N (fill_cell N T w i j)) i j _ li lj raised k q ni ∙ sym (line_row N w k q)
      go (no q) =
          let e : k ≡ N + (k - N) = omega arith in
          ap (line N (fill_cell N T w i j)) e ∙ line-col N (fill_cell N T w i j) (k - N)
          ∙ raised-other-col N (cell N w) (cell N (fill_cell N T w i j)) i j _ li lj raised (k - N) (omega arith) (λ z. nj (omega arith))
          ∙ sym (line-col N w (k - N)) ∙ ap (line N w) (sym e)

  -- so the lines lack that much less, and the others as much as before
  lacking-filled : Lacking N T (fill_cell N T w i j) (less_both N l i j)
  lacking-filled = record { size = omega (arith, long, length-set first (N + j) (get_or l (N + j) 0 - both N l i j)); is = λ k lk. unfold w' in go k lk (ℕ_discrete k i) (ℕ_discrete k (N + j)) }
    where
      first : List ℕ
      first = set l i (get_or l i 0 - both N l i j)

      long : N + N ≤ length first
      long = omega (arith, p.size, length-set l i (get_or l i 0 - both N l i j))

      go : (k : ℕ) → k < N + N → Dec (k ≡ i) → Dec (k ≡ N + j) → get_or (less_both N l i j) k 0 ≡ T - line N w' k
      go k lk (yes a) b = rw a (get_or-set_other first (N + j) i (get_or l (N + j) 0 - both N l i j) 0 (omega arith)
          ∙ get_or-set_same l i (get_or l i 0 - both N l i j) 0 (omega (arith, p.size))
          ∙ omega (arith, p.is i (omega arith), line-i))
      go k lk (no a) (yes b) = rw b (get_or-set_same first (N + j) (get_or l (N + j) 0 - both N l i j) 0 (omega (arith, long))
          ∙ omega (arith, p.is (N + j) (omega arith), line-j))
      go k lk (no a) (no b) = get_or-set_other first (N + j) k (get_or l (N + j) 0 - both N l i j) 0 b
          ∙ get_or-set_other l i k (get_or l i 0 - both N l i j) 0 a
          ∙ p.is k lk ∙ ap (λ x. T - x) (sym (line_other k lk a b))

-- the pair's cell is filled, behind all those before it
pub fill_step : (N T : ℕ) (d w l : List ℕ) (i j : ℕ) → Within N T d → i < N → j < N → i * N + j ≤ N * N → w ≡ fill_to N T d (i * N + j) → Lacking N T w l
    → (w' l' : List ℕ) → w' ≡ set w (i * N + j) (cell N w i j + both N l i j) → l' ≡ less_both N l i j
    → (w' ≡ fill_to N T d (i * N + j + 1)) × Lacking N T w' l'
fill_step N T d w l i j h li lj k e p w' l' f g =
    let x = within-so-far h (i * N + j) k e in
    let c : w' ≡ fill_cell N T w i j = f ∙ filled-cell N T w l x p i j li lj in
    (c ∙ ap (λ (y : List ℕ). fill_cell N T y i j) e ∙ fill_to-pair N T d i j lj, rw (c, g) (lacking-filled N T w l x p i j li lj))

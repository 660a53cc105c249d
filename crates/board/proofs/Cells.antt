-- Cells of the working copy: an index is small and inside, the hold is the least so far, and a peeled list is one store more.
use mathlib.Core.Path.{◌≡◌, refl, sym, ap, ◌∙◌}
use mathlib.Core.List.{List, [], ◌∷◌}
use Prim.Native.Nat.{ℕ, zero, suc, ◌+◌, ◌*◌, ◌-◌, ◌≤◌, ◌<◌, min}
use native.Mathlib.Omega.{arith}
use native.Mathlib.Nat.{mul-le-mul}
use lib.ListN.{length, get_or, set}
use lib.Arith.{digits_lt}
use Rattle.switch.specs.Demand.{cell}
use Rattle.rules.specs.Exact.{least}
use Rattle.rules.specs.Peel.{peel_to}
use Rattle.rules.proofs.Peel.{length-peel_to, peel_to-joined, peel_to-after}
use Rattle.board.specs.Level.{Sized, Uses, out_of}

pub index_in : (N i j : ℕ) (w : List ℕ) → Sized N w → i < N → j < N → (i * N + j < length w) × (i * N + j < 16384)
index_in N i j w s li lj = omega (arith, s.room, digits_lt {q = i} {m = N} {r = j} {c = N} li lj, mul-le-mul s.few s.few)

pub square-small : (N : ℕ) (w : List ℕ) → Sized N w → N * N ≤ 16384
square-small N w s = mul-le-mul s.few s.few

-- inside a list the default does not matter
pub get_d_any : (l : List ℕ) (i a b : ℕ) → i < length l → get_or l i a ≡ get_or l i b
get_d_any [] i a b h = absurd (omega arith)
get_d_any (x ∷ l) zero a b h = refl
get_d_any (x ∷ l) (suc i) a b h = get_d_any l i a b (omega arith)

-- ---- the smallest so far

pub least-one : (f : ℕ → ℕ) → f 0 ≡ least (1 - 1) f
unfolding least
least-one f = refl

least-suc : (k : ℕ) (f : ℕ → ℕ) → least (suc k) f ≡ min (least k f) (f (suc k))
unfolding least
least-suc k f = refl

pub least-next : (f : ℕ → ℕ) (i : ℕ) → 0 < i → least (i + 1 - 1) f ≡ min (least (i - 1) f) (f i)
least-next f i l = go (i - 1) (omega arith)
  where
    go : (k : ℕ) → i ≡ suc k → least (i + 1 - 1) f ≡ min (least k f) (f i)
    go k e =
        let q : i + 1 - 1 ≡ suc k = omega arith in
        ap (λ (m : ℕ). least m f) q ∙ least-suc k f ∙ ap (λ (m : ℕ). min (least k f) (f m)) (sym e)

-- ---- a setting taken off, input by input

pub peel_to-next : (N h : ℕ) (o : ℕ → ℕ) (d e : List ℕ) (k : ℕ) → o k < N → e ≡ peel_to N h o d k → set e (k * N + o k) (cell N e k (o k) - h) ≡ peel_to N h o d (k + 1)
peel_to-next N h o d e k l q = ap (λ (v : List ℕ). set v (k * N + o k) (cell N v k (o k) - h)) q ∙ peel_to-joined N h o d k l

pub sized-as : (N : ℕ) (w w' : List ℕ) → length w' ≡ length w → Sized N w → Sized N w'
sized-as N w w' e s = record { some = s.some; few = s.few; room = omega (arith, s.room) }

-- k inputs have given up the hold: the list is as long, and the cell that input k uses is whole
module _ (N h : ℕ) (w out : List ℕ) (u : Uses N w out) (e : List ℕ) (k : ℕ) (q : e ≡ peel_to N h (out_of out) w k) where
  pub peeled-length : length e ≡ length w
  peeled-length = ap length q ∙ length-peel_to N h (out_of out) w k

  pub peeled-sized : Sized N e
  peeled-sized = sized-as N w e peeled-length u.sized

  pub still-whole : k < N → cell N e k (out_of out k) ≡ cell N w k (out_of out k)
  still-whole l = ap (λ (v : List ℕ). cell N v k (out_of out k)) q
      ∙ peel_to-after N h (out_of out) w u.sized.room k k (out_of out k) (omega arith) (u.inside k l)

-- the place of the cell that input i uses: inside, and its cell
module _ (N : ℕ) (w out : List ℕ) (u : Uses N w out) (i : ℕ) (l : i < N) (r : ℕ) (e : r ≡ i * N + out_of out i) where
  pub at_in : (r < length w) × (r < 16384)
  at_in = omega (arith, index_in N i (out_of out i) w u.sized l (u.inside i l))

  pub at-cell : get_or w r 0 ≡ cell N w i (out_of out i)
  unfolding cell
  at-cell = ap (λ (k : ℕ). get_or w k 0) e

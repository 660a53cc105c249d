-- What peeling asks of a plan (§6.3): which setting, how long it is held, and what is left. Definitions only.
use Rattle.std.specs.Prelude.{◌≡◌, cond, List, [], ◌∷◌, ℕ, zero, suc, ◌+◌, ◌*◌, ◌-◌, ◌≤◌, ◌<◌, get_or, length, set, ltb}
use Rattle.counting.specs.Count.{δ}
use Rattle.switch.specs.Demand.{cell}
use Rattle.switch.specs.Plan.{Record, output}
use Rattle.rules.specs.First.{NonZero, First}

-- setting o, held for h, subtracted
unfoldable pub peel : (h : ℕ) (o : ℕ → ℕ) (M : ℕ → ℕ → ℕ) (i j : ℕ) → ℕ
peel h o M i j = M i j - h * δ (o i) j

-- inner: the same on a list of cells, input by input: those below k that are joined have given up h each
unfoldable pub peel_to : ℕ → ℕ → (ℕ → ℕ) → List ℕ → ℕ → List ℕ
peel_to N h o d zero = d
peel_to N h o d (suc k) = let e = peel_to N h o d k in cond (ltb (o k) N) (set e (k * N + o k) (cell N e k (o k) - h)) e

-- all is zero
abbrev pub Clear : (N : ℕ) (M : ℕ → ℕ → ℕ) → Type 0
Clear N M = (i j : ℕ) → i < N → j < N → M i j ≡ 0

-- h is the smallest cell that o uses
pub record Least (N : ℕ) (M : ℕ → ℕ → ℕ) (o : ℕ → ℕ) (h : ℕ) : Type 0 where
  pub below : (i : ℕ) → i < N → h ≤ M i (o i)
  pub place : ℕ
  pub inside : place < N
  pub met : M place (o place) ≡ h

-- a list of W outputs, as many as a record has room for, of which those past N are idle
pub record Tidy (W N : ℕ) (l : List ℕ) : Type 0 where
  pub size : length l ≡ W
  pub rest : (i : ℕ) → N ≤ i → get_or l i 255 ≡ 255

-- each record is the first full setting over the non-zero cells that are left, held for the smallest cell it uses, until all is zero
pub data Peels (W N : ℕ) : (ℕ → ℕ → ℕ) → List Record → Type 0 where
  none : {M : ℕ → ℕ → ℕ} → Clear N M → Peels W N M []
  more : {M : ℕ → ℕ → ℕ} {r : Record} {p : List Record} → First N (NonZero M) (output r) → Tidy W N r.outputs → Least N M (output r) r.hold
      → Peels W N (peel r.hold (output r) M) p → Peels W N M (r ∷ p)

-- A plan record (§5.1) over its width W, the number of its outputs, and its edition byte e, and when it is well formed. Definitions only.
use Rattle.std.specs.Prelude.{◌≡◌, Bool, true, false, not, ◌&&◌, ◌||◌, List, ℕ, zero, suc, ◌+◌, ◌*◌, get_or, drop, ltb, eqb}
use Rattle.switch.specs.Plan.{Record}
use Rattle.switch.specs.Sound.{Sound}

-- p holds of every number below n
unfoldable pub all : ℕ → (ℕ → Bool) → Bool
all zero p = true
all (suc n) p = all n p && p n

-- p holds of some number below n
unfoldable pub any : ℕ → (ℕ → Bool) → Bool
any zero p = false
any (suc n) p = any n p || p n

-- hold in two bytes, low first
abbrev pub hold : (b : List ℕ) → ℕ
hold b = get_or b 0 0 + 256 * get_or b 1 0

-- the output of input i stands i bytes behind the head of four
abbrev pub outputs : (b : List ℕ) → List ℕ
outputs b = drop 4 b

-- 255 for idle
abbrev pub idle : (o : List ℕ) (i : ℕ) → Bool
idle o i = eqb (get_or o i 0) 255

-- the outputs of the N inputs are ports or idle
unfoldable pub inside : (N : ℕ) (o : List ℕ) (i : ℕ) → Bool
inside N o i = ltb (get_or o i 0) N || idle o i

-- no output twice, but for 255
unfoldable pub new : (o : List ℕ) (i : ℕ) → Bool
new o i = idle o i || not (any i (λ j. eqb (get_or o j 0) (get_or o i 0)))

-- what stands behind them is idle
unfoldable pub later : (N : ℕ) (o : List ℕ) (i : ℕ) → Bool
later N o i = ltb i N || idle o i

-- the outputs are fine where these three are so
unfoldable pub outputs_fine : (W N : ℕ) (o : List ℕ) → Bool
outputs_fine W N o = all N (inside N o) && all N (new o) && all W (later N o)

-- well formed (§5.2): held at all, for this N, with the edition's byte in its place, and the outputs fine
unfoldable pub well_formed : (W e N : ℕ) (b : List ℕ) → Bool
well_formed W e N b = ltb 0 (hold b) && eqb (get_or b 2 0) N && eqb (get_or b 3 0) e && outputs_fine W N (outputs b)

-- a record's hold and outputs
abbrev pub decoded : (b : List ℕ) → Record
decoded b = record { hold = hold b; outputs = outputs b }

-- the same in plain statements: the record's N and edition byte, and its hold and outputs sound
pub record WellFormed (W e N : ℕ) (b : List ℕ) : Type 0 where
  pub ports : get_or b 2 0 ≡ N
  pub edition : get_or b 3 0 ≡ e
  pub sound : Sound W N (decoded b)

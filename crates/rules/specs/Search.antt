-- The first full setting over the cells that are not 0, found by trying the outputs of each input in order. Definitions only.
use Rattle.std.specs.Prelude.{Bool, true, cond, ◌&&◌, not, ℕ, zero, suc, eqb, ltb}
use Rattle.std.proofs.Math.Option.{Option, none, some}

-- m, but v at i
unfoldable pub put {ℓ} : {A : Type ℓ} → (ℕ → A) → ℕ → A → ℕ → A
put m i v k = cond (eqb k i) v (m k)

-- the first of f j, f (j + 1), .. that is something, r of them
unfoldable pub pick : ℕ → ℕ → (ℕ → Option (ℕ → ℕ)) → Option (ℕ → ℕ)
pick zero j f = none
pick (suc r) j f = elim (f j) [ none ↦ pick r (suc j) f | some p ↦ some p ]

-- j is none of o 0 .. o (i - 1)
unfoldable pub free : ℕ → (ℕ → ℕ) → ℕ → Bool
free zero o j = true
free (suc i) o j = free i o j && not (eqb (o i) j)

-- the k inputs from i on joined too, each to its lowest output with which the rest can be joined; o has joined the inputs below i
unfoldable pub complete : ℕ → (ℕ → ℕ → ℕ) → ℕ → ℕ → (ℕ → ℕ) → Option (ℕ → ℕ)
complete N M zero i o = some o
complete N M (suc k) i o = pick N 0 (λ j. cond (ltb 0 (M i j) && free i o j) (complete N M k (suc i) (put o i j)) none)

-- of the full settings over cells that are not 0 the first in dictionary order, input 0 counting most (§6.3); idle past N
unfoldable pub first_setting : (N : ℕ) (M : ℕ → ℕ → ℕ) → Option (ℕ → ℕ)
first_setting N M = complete N M N 0 (λ _. 255)

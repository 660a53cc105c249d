-- Why a record of a damaged plan is dropped: the first reason that applies, over the width W of records and their edition byte e. Definitions only.
use Rattle.std.specs.Prelude.{◌≡◌, cond, ◌⊎◌, List, ℕ, ◌<◌, ◌≤◌, get_or, ltb, eqb}
use Rattle.records.specs.Record.{all, hold, outputs, inside, new, later, WellFormed}

-- of the outputs: 4 out of range, 5 twice, 6 non-idle past N; 0 where they are fine
unfoldable pub outputs_reason : (W N : ℕ) (o : List ℕ) → ℕ
outputs_reason W N o = cond (all N (inside N o)) (cond (all N (new o)) (cond (all W (later N o)) 0 6) 5) 4

-- 1 hold, 2 ports, 3 spare byte, then those of the outputs; 0 where none applies (§19.2)
unfoldable pub reason_of : (W e N : ℕ) (b : List ℕ) → ℕ
reason_of W e N b = cond (ltb 0 (hold b)) (cond (eqb (get_or b 2 0) N) (cond (eqb (get_or b 3 0) e) (outputs_reason W N (outputs b)) 3) 2) 1

-- ---- the same in plain statements

-- the output of input i in a record's bytes
abbrev pub output_at : (b : List ℕ) (i : ℕ) → ℕ
output_at b i = get_or (outputs b) i 0

-- none of the reasons 1, 2 and 3
pub record Headed (e N : ℕ) (b : List ℕ) : Type 0 where
  pub held : 0 < hold b
  pub ports : get_or b 2 0 ≡ N
  pub edition : get_or b 3 0 ≡ e

-- not reason 4
abbrev pub Ranged : (N : ℕ) (b : List ℕ) → Type 0
Ranged N b = (i : ℕ) → i < N → (output_at b i < N) ⊎ (output_at b i ≡ 255)

-- not reason 5; 255 may stand twice
abbrev pub Once : (N : ℕ) (b : List ℕ) → Type 0
Once N b = (i k : ℕ) → k < i → i < N → output_at b i < N → output_at b k ≡ output_at b i → ⊥

-- reason k is what its name says, and none before it applies
pub data Because (W e N : ℕ) (b : List ℕ) : ℕ → Type 0 where
  none : WellFormed W e N b → Because W e N b 0
  no-hold : hold b ≡ 0 → Because W e N b 1
  bad-ports : 0 < hold b → (get_or b 2 0 ≡ N → ⊥) → Because W e N b 2
  bad-spare : 0 < hold b → get_or b 2 0 ≡ N → (get_or b 3 0 ≡ e → ⊥) → Because W e N b 3
  out_of_range : Headed e N b → (i : ℕ) → i < N → N ≤ output_at b i → (output_at b i ≡ 255 → ⊥) → Because W e N b 4
  twice : Headed e N b → Ranged N b → (i k : ℕ) → k < i → i < N → output_at b i < N → output_at b k ≡ output_at b i → Because W e N b 5
  past : Headed e N b → Ranged N b → Once N b → (i : ℕ) → N ≤ i → i < W → (output_at b i ≡ 255 → ⊥) → Because W e N b 6

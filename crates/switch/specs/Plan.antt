-- Settings, plans, what they grant, and cover. Definitions only.
use Rattle.std.specs.Prelude.{◌≡◌, List, [], ◌∷◌, ℕ, ◌+◌, ◌*◌, ◌≤◌, ◌<◌, get_or}
use Rattle.counting.specs.Count.{δ}

-- A setting (§3.5) is a function o of inputs: i is joined to output o i, or idle where that is not below N. No output serves two inputs.
pub record Setting (N : ℕ) (o : ℕ → ℕ) : Type 0 where
  pub once : (i k : ℕ) → i < N → k < N → o i < N → o i ≡ o k → i ≡ k

-- a setting that joins every input
pub record Full (N : ℕ) (o : ℕ → ℕ) : Type 0 where
  pub inside : (i : ℕ) → i < N → o i < N
  pub once : (i k : ℕ) → i < N → k < N → o i ≡ o k → i ≡ k

-- a setting, as its list of outputs by input, and its hold
pub record Record : Type 0 where
  pub hold : ℕ
  pub outputs : List ℕ

-- the output of input i, 255 for idle
unfoldable pub output : (r : Record) (i : ℕ) → ℕ
output r i = get_or r.outputs i 255

-- A plan (§3.6): settings, and none is held for 0 slots.
pub data Plan (N : ℕ) : List Record → Type 0 where
  none : Plan N []
  more : {r : Record} {p : List Record} → 0 < r.hold → Setting N (output r) → Plan N p → Plan N (r ∷ p)

-- what a plan grants the pair (i, j): the holds of the settings that join it, summed (§3.7)
unfoldable pub grant : List Record → ℕ → ℕ → ℕ
grant [] i j = 0
grant (r ∷ p) i j = r.hold * δ (output r i) j + grant p i j

-- total hold: all holds, summed (§3.8)
unfoldable pub total : List Record → ℕ
total [] = 0
total (r ∷ p) = r.hold + total p

-- A plan covers a demand where no pair is granted less than its cell (§3.7).
abbrev pub Covers : (N : ℕ) (M : ℕ → ℕ → ℕ) (p : List Record) → Type 0
Covers N M p = (i j : ℕ) → i < N → j < N → M i j ≤ grant p i j

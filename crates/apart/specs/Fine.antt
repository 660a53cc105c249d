-- What the outputs of a setting are to be. Definitions only.
use Rattle.std.specs.Prelude.{◌≡◌, List, ℕ, ◌<◌, get_or}

-- the first k outputs are below N or idle
abbrev pub Ports : (N : ℕ) (o : List ℕ) (k : ℕ) → Type 0
Ports N o k = (i : ℕ) → i < k → (get_or o i 0 ≡ 255 → ⊥) → get_or o i 0 < N

-- so are the outputs of N inputs, and no two are the same port
pub record Fine (N : ℕ) (o : List ℕ) : Type 0 where
  pub ports : Ports N o N
  pub apart : (i j : ℕ) → i < N → j < i → (get_or o i 0 ≡ 255 → ⊥) → get_or o j 0 ≡ get_or o i 0 → ⊥

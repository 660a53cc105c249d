-- Inner: a set of numbers is itself a number: j is in the set where binary digit j is 1. Definitions only.
use Rattle.std.specs.Prelude.{None, Some}
use Rattle.std.specs.Prelude.{◌≡◌, Bool, true, false, ◌⊎◌, ℕ, zero, suc, ◌+◌, ◌-◌, ◌/◌, ◌%◌, ◌^◌, ◌≤◌, ◌<◌, eqb}
use Rattle.std.specs.declared.option.Option.{Option}

-- binary digit j of l
unfoldable pub digit : (l j : ℕ) → ℕ
digit l j = l / 2 ^ j % 2

-- j is in the set l
abbrev pub In : (l j : ℕ) → Type 0
In l j = digit l j ≡ 1

-- the same as a test
abbrev pub is_in : (l j : ℕ) → Bool
is_in l j = eqb (digit l j) 1

-- every number of l is in m
abbrev pub Sub : (l m : ℕ) → Type 0
Sub l m = (k : ℕ) → In l k → In m k

-- r is l and j besides
pub record Marked (l j r : ℕ) : Type 0 where
  pub put : In r j
  pub more : Sub l r
  pub only : (k : ℕ) → In r k → In l k ⊎ (k ≡ j)

-- r is l without j
pub record Cleared (l j r : ℕ) : Type 0 where
  pub gone : In r j → ⊥
  pub less : Sub r l
  pub kept : (k : ℕ) → In l k → (k ≡ j → ⊥) → In r k

-- r is l without j where that is gone, and else l
pub record ClearedIf (gone : Bool) (l j r : ℕ) : Type 0 where
  pub cleared : gone ≡ true → Cleared l j r
  pub same : gone ≡ false → r ≡ l

-- r is l without its lowest number; where l has none, it is l
pub record Lowered (l r : ℕ) : Type 0 where
  pub cleared : (j : ℕ) → In l j → ((k : ℕ) → k < j → In l k → ⊥) → Cleared l j r
  pub same : ((k : ℕ) → In l k → ⊥) → r ≡ l

-- r is l and m together
pub record Union (l m r : ℕ) : Type 0 where
  pub left : Sub l r
  pub right : Sub m r
  pub only : (k : ℕ) → In r k → In l k ⊎ In m k

-- r is l without the numbers of m
pub record But (l m r : ℕ) : Type 0 where
  pub less : Sub r l
  pub gone : (k : ℕ) → In r k → In m k → ⊥
  pub kept : (k : ℕ) → In l k → (In m k → ⊥) → In r k

-- r is what l and m have both
pub record Common (l m r : ℕ) : Type 0 where
  pub left : Sub r l
  pub right : Sub r m
  pub all : (k : ℕ) → In l k → In m k → In r k

-- r is what l has below j
pub record Below (l j r : ℕ) : Type 0 where
  pub less : Sub r l
  pub small : (k : ℕ) → In r k → k < j
  pub all : (k : ℕ) → k < j → In l k → In r k

-- r is what l has from j on
pub record From (l j r : ℕ) : Type 0 where
  pub less : Sub r l
  pub large : (k : ℕ) → In r k → j ≤ k
  pub all : (k : ℕ) → j ≤ k → In l k → In r k

-- l is the numbers below n
pub record Upto (n l : ℕ) : Type 0 where
  pub only : (k : ℕ) → In l k → k < n
  pub all : (k : ℕ) → k < n → In l k

-- j is the lowest number of l, and below w
pub record LowestAt (w l j : ℕ) : Type 0 where
  pub small : j < w
  pub here : In l j
  pub past : (k : ℕ) → k < j → In l k → ⊥

-- the lowest number of l; nothing where it has none
abbrev pub Lowest : ℕ → ℕ → Option ℕ → Type 0
Lowest w l (Some j) = LowestAt w l j
Lowest w l None = (k : ℕ) → In l k → ⊥

-- how many numbers below d are not in l
unfoldable pub absent : ℕ → ℕ → ℕ
absent zero l = 0
absent (suc d) l = absent d l + (1 - digit l d)

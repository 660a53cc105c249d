-- Inner: what the two functions of the search promise, over any relation E of inputs and outputs: `by` and `out` are the tables
-- before, `by'` and `out'` after, t the outputs tried before. Definitions only.
use Rattle.std.specs.Prelude.{None, Some}
use Rattle.std.specs.Prelude.{◌≡◌, ◌⊎◌, List, ℕ, ◌+◌, ◌<◌, ◌≤◌, length, get_or, set}
use Rattle.sets.specs.Label.{In, Sub}
use Rattle.std.specs.declared.option.Option.{Option}
use Rattle.switch.specs.declared.OutputPort.{OutputPort}
use Rattle.search.specs.declared.Asked.{Asked}
use Rattle.search.specs.declared.Asked.TheVariants.{Freed, Stuck}
use Rattle.search.specs.Tables.{tried_of, Held, Holds, joined, Matching}

-- every output that input i may take is in u
abbrev pub Shut : (E : ℕ → ℕ → Type 0) (u i : ℕ) → Type 0
Shut E u i = (k : ℕ) → E i k → In u k

-- output j is held by an input that has nowhere to go but u
abbrev pub Stays : (E : ℕ → ℕ → Type 0) (by : List ℕ) (u j : ℕ) → Type 0
Stays E by u j = (i : ℕ) × Held by j i × Shut E u i

-- every output of u was tried before, or its holder has nowhere to go but u
abbrev pub Closed : (E : ℕ → ℕ → Type 0) (by : List ℕ) (t u : ℕ) → Type 0
Closed E by t u = (j : ℕ) → In u j → In t j ⊎ Stays E by u j

-- the holders of w outputs are among n inputs
pub record Ports (w n : ℕ) (by : List ℕ) : Type 0 where
  pub holders : length by ≡ w
  pub port : (j i : ℕ) → Held by j i → i < n

-- ---- what a wave of outputs leads to

-- r is what was led to before and all that the holders of a word's outputs may take; output k of the word is output base + k
pub record Grown (E : ℕ → ℕ → Type 0) (by : List ℕ) (word base before r : ℕ) : Type 0 where
  pub more : Sub before r
  pub all : (k : ℕ) → In word k → Stays E by r (base + k)
  pub from : (k : ℕ) → In r k → In before k ⊎ ((j i : ℕ) × In word j × Held by (base + j) i × E i k)

-- an output of the word is free, or none is
abbrev pub Reaches : (ℕ → ℕ → Type 0) → List ℕ → ℕ → ℕ → ℕ → (Option OutputPort) → ℕ → Type 0
Reaches E by word base before (Some j) r = (k : ℕ) × In word k × (j.0 ≡ base + k) × (j.0 < base + 64) × (get_or by j.0 0 ≡ 0)
Reaches E by word base before None r = Grown E by word base before r

-- r is all that the holders of the wave may take
pub record Further (E : ℕ → ℕ → Type 0) (by : List ℕ) (wave r : ℕ) : Type 0 where
  pub all : (k : ℕ) → In wave k → Stays E by r k
  pub from : (k : ℕ) → In r k → (j i : ℕ) × In wave j × Held by j i × E i k

-- an output of the wave is free, or none is
abbrev pub Leads : (ℕ → ℕ → Type 0) → List ℕ → ℕ → (Option OutputPort) → ℕ → Type 0
Leads E by wave (Some j) r = In wave j.0 × (j.0 < 128) × (get_or by j.0 0 ≡ 0)
Leads E by wave None r = Further E by wave r

-- ---- handing on

-- the holder of an output of the wave may take the wanted one
abbrev pub Mover : (E : ℕ → ℕ → Type 0) (by : List ℕ) (wave wanted j : ℕ) → Type 0
Mover E by wave wanted j = In wave j × ((i : ℕ) × Held by j i × E i wanted)

-- the outputs of the wave are held, and one of them has such a holder
pub record Movable (w n : ℕ) (E : ℕ → ℕ → Type 0) (by : List ℕ) (wave wanted : ℕ) : Type 0 where
  pub ports : Ports w n by
  pub held : (k : ℕ) → In wave k → (i : ℕ) × Held by k i
  pub some : (j : ℕ) × Mover E by wave wanted j

-- it took the wanted one and gave output j up
pub record Handed (E : ℕ → ℕ → Type 0) (by out : List ℕ) (wave wanted j : ℕ) (by' out' : List ℕ) : Type 0 where
  pub asked : In wave j
  pub input : ℕ
  pub held : Held by j input
  pub edge : E input wanted
  pub holders : by' ≡ set (set by j 0) wanted (input + 1)
  pub outputs : out' ≡ set out input wanted

-- ---- asking

-- an output that is not among `held` is free
abbrev pub Free : (w : ℕ) (by : List ℕ) (held : ℕ) → Type 0
Free w by held = (k : ℕ) → k < w → (In held k → ⊥) → get_or by k 0 ≡ 0

-- and not tried, so that it can be taken at once
abbrev pub Spare : (w : ℕ) (by : List ℕ) (t held : ℕ) → Type 0
Spare w by t held = (k : ℕ) → k < w → (In held k → ⊥) → (get_or by k 0 ≡ 0) × (In t k → ⊥)

-- what inputs may ask with
pub record AskPre (w n : ℕ) (E : ℕ → ℕ → Type 0) (by out : List ℕ) (held t : ℕ) : Type 0 where
  pub good : Matching w n E by out
  pub spare : Spare w by t held

-- a wave of outputs may be asked: there is one, none of them is tried yet, and none can be had at once
pub record Wave (w held t wave : ℕ) : Type 0 where
  pub some : (k : ℕ) × (k < w) × In wave k
  pub new : (k : ℕ) → In wave k → In t k → ⊥
  pub known : Sub wave held

-- what a move leaves alone: who held still holds, what was tried keeps its holder, ports past n are as they were
pub record Around (n : ℕ) (by out : List ℕ) (t : ℕ) (by' out' : List ℕ) : Type 0 where
  pub kept : (m : ℕ) → Holds by m → Holds by' m
  pub still : (k : ℕ) → In t k → get_or by' k 0 ≡ get_or by k 0
  pub beyond : (m : ℕ) → n ≤ m → joined out' m ≡ joined out m

-- the matching gained exactly input i
pub record Gained (n : ℕ) (by out : List ℕ) (t i : ℕ) (by' out' : List ℕ) : Type 0 where
  pub around : Around n by out t by' out'
  pub holds : Held by' (joined out' i) i
  pub only : (m : ℕ) → Holds by' m → Holds by m ⊎ (m ≡ i)

-- output j is free now, and the same inputs hold an output
pub record OutMoved (n : ℕ) (by out : List ℕ) (t j : ℕ) (by' out' : List ℕ) : Type 0 where
  pub around : Around n by out t by' out'
  pub free : get_or by' j 0 ≡ 0
  pub only : (m : ℕ) → Holds by' m → Holds by m

-- one of the outputs that were asked for is free now, and of those that nobody held only one is spent on it
pub record Moved (w n : ℕ) (E : ℕ → ℕ → Type 0) (by out : List ℕ) (t outputs j spent : ℕ) (by' out' : List ℕ) : Type 0 where
  pub good : Matching w n E by' out'
  pub moved : OutMoved n by out t j by' out'
  pub asked : In outputs j
  pub here : j < w
  pub new : In t j → ⊥
  pub last : spent < w
  pub same : get_or by j 0 ≡ 0 → j ≡ spent
  pub others : (k : ℕ) → get_or by k 0 ≡ 0 → (k ≡ spent → ⊥) → get_or by' k 0 ≡ 0

-- nothing has moved, and what was asked for is in a closed set
pub record Unmoved (E : ℕ → ℕ → Type 0) (by out : List ℕ) (t outputs : ℕ) (by' out' : List ℕ) (u : ℕ) : Type 0 where
  pub holders : by' ≡ by
  pub outs : out' ≡ out
  pub more : Sub t u
  pub all : Sub outputs u
  pub closed : Closed E by t u

-- either
abbrev pub AskPost : ℕ → ℕ → (ℕ → ℕ → Type 0) → List ℕ → List ℕ → ℕ → ℕ → List ℕ → List ℕ → Asked → Type 0
AskPost w n E by out t outputs by' out' (Freed g u) = Moved w n E by out t outputs g.output.0 g.spent.0 by' out'
AskPost w n E by out t outputs by' out' (Stuck u) = Unmoved E by out t outputs by' out' (tried_of u)

-- what is tried once it has been asked
abbrev pub seen_in : Asked → ℕ
seen_in (Freed g u) = tried_of u
seen_in (Stuck u) = tried_of u

-- what was tried grows by asking, and stays only where everything asked for was tried before
pub record Tries (w t outputs u : ℕ) : Type 0 where
  pub more : Sub t u
  pub larger : (k : ℕ) → k < w → In outputs k → (In t k → ⊥) → (j : ℕ) × In u j × (In t j → ⊥)
  pub same : Sub outputs t → Sub u t

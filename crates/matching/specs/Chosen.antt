-- Inner: from a matching to the full setting that is first in dictionary order: what each step promises. Definitions only.
use Rattle.std.specs.Prelude.{Err, Ok}
use Rattle.std.specs.Prelude.{◌≡◌, ⊤, ◌⊎◌, List, ℕ, ◌<◌, ◌≤◌, length, get_or, set}
use Rattle.sets.specs.Label.{In, Sub}
use Rattle.labels.specs.Ports.{Outputs, outputs_of}
use Rattle.switch.specs.Plan.{Full}
use Rattle.rules.specs.First.{Fits, Agree, First}
use Rattle.search.specs.Tables.{tried_of, Held, Holds, joined, Matching}
use Rattle.search.specs.declared.Asked.{Asked}
use Rattle.search.specs.declared.Asked.TheVariants.{Freed, Stuck}
use Rattle.search.specs.Search.{Around, Closed, Free, Gained, Unmoved}
use Rattle.std.specs.declared.result.Result.{Result}

-- the outputs of the inputs below i, and no others, are fixed
pub record Fixed (out : List ℕ) (i fixed : ℕ) : Type 0 where
  pub from : (k : ℕ) → In fixed k → (m : ℕ) × (m < i) × (joined out m ≡ k)
  pub got : (m : ℕ) → m < i → In fixed (joined out m)

-- every fixed output is held
abbrev pub AllHeld : (by : List ℕ) (fixed : ℕ) → Type 0
AllHeld by fixed = (k : ℕ) → In fixed k → (m : ℕ) × Held by k m

-- o joins the holders of the fixed outputs to them
abbrev pub Keeps : (by : List ℕ) (fixed : ℕ) (o : ℕ → ℕ) → Type 0
Keeps by fixed o = (k m : ℕ) → In fixed k → Held by k m → o m ≡ k

-- no setting that fits and agrees below input m has a lower output there
abbrev pub Best : (n : ℕ) (E : ℕ → ℕ → Type 0) (out : List ℕ) (m : ℕ) → Type 0
Best n E out m = (o : ℕ → ℕ) → Fits n E o → Agree m o (joined out) → joined out m ≤ o m

-- the inputs of `waiting` hold nothing and every other holds an output; an output that is not among `known` is free
pub record Seating (w n : ℕ) (E : ℕ → ℕ → Type 0) (by out : List ℕ) (known waiting : ℕ) : Type 0 where
  pub good : Matching w n E by out
  pub free : Free w by known
  pub begun : (m : ℕ) → m < n → (In waiting m → ⊥) → Holds by m
  pub idle : (m : ℕ) → In waiting m → (m < n) × (Holds by m → ⊥)

-- what input i may be seated from: it holds nothing, and the fixed outputs are held
pub record SeatPre (w n : ℕ) (E : ℕ → ℕ → Type 0) (by out : List ℕ) (known fixed i : ℕ) : Type 0 where
  pub good : Matching w n E by out
  pub free : Free w by known
  pub held : AllHeld by fixed
  pub here : i < n
  pub idle : Holds by i → ⊥

-- no full setting keeps the fixed outputs
abbrev pub NoneKeeps : (n : ℕ) (E : ℕ → ℕ → Type 0) (by : List ℕ) (fixed : ℕ) → Type 0
NoneKeeps n E by fixed = (o : ℕ → ℕ) → Fits n E o → Keeps by fixed o → ⊥

-- it holds an output now; or nothing has moved, and no full setting keeps what is fixed
abbrev pub SeatPost : ℕ → ℕ → (ℕ → ℕ → Type 0) → List ℕ → List ℕ → ℕ → ℕ → List ℕ → List ℕ → (Result Outputs Outputs) → Type 0
SeatPost w n E by out fixed i by' out' (Ok known) = Matching w n E by' out' × Free w by' (outputs_of known) × Gained n by out fixed i by' out'
SeatPost w n E by out fixed i by' out' (Err met) = (by' ≡ by) × (out' ≡ out) × NoneKeeps n E by fixed

-- nobody waits any more; or no full setting keeps what is fixed. What was fixed is left alone
pub record CompletePost (w n : ℕ) (E : ℕ → ℕ → Type 0) (by out : List ℕ) (fixed waiting : ℕ) (by' out' : List ℕ) (known' waiting' : ℕ) (r : Result ⊤ Outputs) : Type 0 where
  pub seating : Seating w n E by' out' known' waiting'
  pub fewer : Sub waiting' waiting
  pub around : Around n by out fixed by' out'
  pub all : r ≡ Ok tt → (m : ℕ) → In waiting' m → ⊥
  pub none : (met : Outputs) → r ≡ Err met → NoneKeeps n E by fixed

-- ---- who keeps its output

-- what an input that may take `first` comes to while the inputs below `kept` keep theirs: these outputs, and each that the holder of
-- one that is come to may take in its place
pub data Reached (E : ℕ → ℕ → Type 0) (by : List ℕ) (kept first : ℕ) : ℕ → Type 0 where
  its_own : (k : ℕ) → In first k → Reached E by kept first k
  handed : (j m k : ℕ) → Reached E by kept first j → Held by j m → kept ≤ m → E m k → Reached E by kept first k

-- it comes to an output that nobody holds
abbrev pub Way : (E : ℕ → ℕ → Type 0) (by : List ℕ) (kept first : ℕ) → Type 0
Way E by kept first = (k : ℕ) × Reached E by kept first k × (get_or by k 0 ≡ 0)

-- what giving way may start from: the inputs below `from` hold the outputs that are fixed, and an output that is not among `known` is free
pub record GivePre (w n : ℕ) (E : ℕ → ℕ → Type 0) (by out : List ℕ) (known fixed from : ℕ) : Type 0 where
  pub good : Matching w n E by out
  pub free : Free w by known
  pub some : 0 < from
  pub short : from ≤ w
  pub prefix : Fixed out from fixed
  pub held : (m : ℕ) → m < from → Held by (joined out m) m

-- fewer keep their outputs: none, or no more than leave the refused input a way
pub record GivesWay (E : ℕ → ℕ → Type 0) (by : List ℕ) (first from r : ℕ) : Type 0 where
  pub less : r < from
  pub way : (r ≡ 0) ⊎ Way E by r first

-- every input holds an output; those of the inputs below i are fixed, and each is the best
pub record Settled (w n : ℕ) (E : ℕ → ℕ → Type 0) (by out : List ℕ) (fixed i : ℕ) : Type 0 where
  pub good : Matching w n E by out
  pub all : (m : ℕ) → m < n → Holds by m
  pub prefix : Fixed out i fixed
  pub best : (m : ℕ) → m < i → Best n E out m

-- these outputs lead nowhere but to each other while the fixed ones are kept
pub record Dead (E : ℕ → ℕ → Type 0) (by : List ℕ) (fixed dead : ℕ) : Type 0 where
  pub more : Sub fixed dead
  pub closed : Closed E by fixed dead

-- input i may ask for these lower outputs: it holds `own`, none of them is dead, and what is dead is closed without it
pub record Lowering (w n : ℕ) (E : ℕ → ℕ → Type 0) (by out : List ℕ) (dead lower own i : ℕ) : Type 0 where
  pub good : Matching w n E by out
  pub here : i < n
  pub held : Held by own i
  pub edge : (k : ℕ) → In lower k → E i k
  pub below : (k : ℕ) → In lower k → k < own
  pub some : (k : ℕ) × In lower k
  pub new : (k : ℕ) → In lower k → In dead k → ⊥
  pub loose : In dead own → ⊥
  pub all : (k : ℕ) → In dead k → (m : ℕ) × Held by k m

-- it has one of these outputs now; or it has its own, and these are in a closed set
abbrev pub Lowered : ℕ → ℕ → (ℕ → ℕ → Type 0) → List ℕ → List ℕ → ℕ → ℕ → ℕ → ℕ → List ℕ → List ℕ → Asked → Type 0
Lowered w n E by out dead lower own i by' out' (Freed g u) = Matching w n E by' out' × Gained n (set by own 0) out dead i by' out' × (joined out' i ≡ g.output.0) × In lower g.output.0
Lowered w n E by out dead lower own i by' out' (Stuck u) = (by' ≡ by) × (out' ≡ out) × Unmoved E (set by own 0) out dead lower (set by own 0) out (tried_of u)

-- the tables are settled, and ports past n are as they were
pub record SettledPost (w n : ℕ) (E : ℕ → ℕ → Type 0) (out by' out' : List ℕ) (fixed i : ℕ) : Type 0 where
  pub settled : Settled w n E by' out' fixed i
  pub beyond : (m : ℕ) → n ≤ m → joined out' m ≡ joined out m

-- every input is settled
pub record SettledAll (w n : ℕ) (E : ℕ → ℕ → Type 0) (out by' out' : List ℕ) : Type 0 where
  pub good : Matching w n E by' out'
  pub all : (m : ℕ) → m < n → Holds by' m
  pub best : (m : ℕ) → m < n → Best n E out' m
  pub beyond : (m : ℕ) → n ≤ m → joined out' m ≡ joined out m

-- the setting of before was full, and no full setting of pairs that are allowed now or that it had comes before it
pub record Former (n : ℕ) (E : ℕ → ℕ → Type 0) (out : List ℕ) : Type 0 where
  pub full : Full n (joined out)
  pub best : (o : ℕ → ℕ) → Full n o → ((k : ℕ) → k < n → E k (o k) ⊎ (o k ≡ joined out k)) → (m : ℕ) → m < n → Agree m o (joined out) → joined out m ≤ o m

-- what the inputs from `last` on may go back to: they had these outputs in the setting of before, and may have them still
pub record Behind (w n : ℕ) (E : ℕ → ℕ → Type 0) (before : List ℕ) (last : ℕ) : Type 0 where
  pub size : length before ≡ w
  pub inside : (i j : ℕ) → i < n → E i j → j < n
  pub former : (m : ℕ) → last ≤ m → m < n → Former n E before
  pub used : (m : ℕ) → last ≤ m → m < n → E m (joined before m)

-- the inputs from `from` on and below k have their outputs of before again, and nothing else has changed
pub record Restored (before by out : List ℕ) (from : ℕ) (by' out' : List ℕ) (k : ℕ) : Type 0 where
  pub holders : length by' ≡ length by
  pub outputs : length out' ≡ length out
  pub told : (m : ℕ) → from ≤ m → m < k → joined out' m ≡ joined before m
  pub kept : (m : ℕ) → (m < from) ⊎ (k ≤ m) → joined out' m ≡ joined out m
  pub taken : (m : ℕ) → from ≤ m → m < k → Held by' (joined before m) m
  pub left : (j : ℕ) → ((m : ℕ) → from ≤ m → m < k → joined before m ≡ j → ⊥) → get_or by' j 0 ≡ get_or by j 0

-- what the next setting may start from: who does not wait holds what it had in the setting of before, and there is a full setting
pub record Ready (w n : ℕ) (E : ℕ → ℕ → Type 0) (by out : List ℕ) (known waiting : ℕ) : Type 0 where
  pub seating : Seating w n E by out known waiting
  pub inside : (i j : ℕ) → i < n → E i j → j < n
  pub some : (o : ℕ → ℕ) × Fits n E o
  pub former : (m : ℕ) → m < n → (In waiting m → ⊥) → Former n E out

-- every input holds an output, by the setting that is first in dictionary order; ports past n are as they were
pub record Chosen (w n : ℕ) (E : ℕ → ℕ → Type 0) (out by' out' : List ℕ) : Type 0 where
  pub good : Matching w n E by' out'
  pub held : (m : ℕ) → m < n → Held by' (joined out' m) m
  pub first : First n E (joined out')
  pub beyond : (m : ℕ) → n ≤ m → joined out' m ≡ joined out m

-- The first faulty record of a wish list, tried in the order 11, 12, 6, 7, 8 (§4.7, §9.9). Definitions only.
use Rattle.std.specs.Prelude.{⊤, Ok, Err, ℕ, zero, suc, ◌<◌, Bool, false, ◌||◌, cond, List, ◌≡◌}
use Rattle.switch.specs.declared.Refusal.{Refusal}
use Rattle.switch.specs.declared.Refusal.TheVariants.{NotFinite, BelowZero, AboveMost, Malformed, Named}
use Rattle.wish.specs.declared.Unfit.TheVariants as unfit
use Rattle.wish.specs.Wish.{Wish, wish_bits}
use Rattle.wishes.specs.declared.WishRecord.{WishRecord}
use Rattle.std.specs.declared.result.Result.{Result}
use Rattle.wishes.specs.Record.{record_at, well_formed, names}

-- what is wrong with a record, if anything is
abbrev pub Fault : Type 0
Fault = Result ⊤ Refusal

-- one of the first m records names input i and output j
unfoldable pub named : List ℕ → ℕ → ℕ → ℕ → Bool
named s zero i j = false
named s (suc m) i j = names (record_at s m) i j || named s m i j

-- what that means
pub record NamedBy (s : List ℕ) (m i j : ℕ) : Type 0 where
  pub which : ℕ
  pub earlier : which < m
  pub input : (record_at s which).input.0 ≡ i
  pub output : (record_at s which).output.0 ≡ j

-- codes 6, 7 and 8, at record k
abbrev pub wish_fault : ℕ → Wish → Fault
wish_fault k (Ok w) = Ok tt
wish_fault k (Err unfit.NotFinite) = Err (NotFinite k)
wish_fault k (Err unfit.BelowZero) = Err (BelowZero k)
wish_fault k (Err unfit.AboveMost) = Err (AboveMost k)

-- the fault of record k, which is r, where `before` says whether an earlier record names its pair
unfoldable pub fault_of : (N k : ℕ) (before : Bool) (r : WishRecord) → Fault
fault_of N k before r = cond (well_formed N r) (cond before (Err (Named k)) (wish_fault k (wish_bits r.bits))) (Err (Malformed k))

-- the fault of record k of the list s
unfoldable pub fault_at : (N : ℕ) (s : List ℕ) (k : ℕ) → Fault
fault_at N s k = let r = record_at s k in fault_of N k (named s k r.input.0 r.output.0) r

abbrev pub or_else : Fault → Fault → Fault
or_else (Err r) f = Err r
or_else (Ok u) f = f

-- the first fault of the first m records
unfoldable pub first_fault : ℕ → List ℕ → ℕ → Fault
first_fault N s zero = Ok tt
first_fault N s (suc m) = or_else (first_fault N s m) (fault_at N s m)

-- what that means: record `which` has the fault r, and no record before it has any
pub record FirstAt (N : ℕ) (s : List ℕ) (m : ℕ) (r : Refusal) : Type 0 where
  pub which : ℕ
  pub inside : which < m
  pub here : fault_at N s which ≡ Err r
  pub before : (k : ℕ) → k < which → fault_at N s k ≡ Ok tt

-- What a carry-over answers, and the cells afterwards (§23.4 to §23.7). Definitions only.
use Rattle.std.specs.Prelude.{Err, Ok}
use Rattle.std.specs.Prelude.{◌≡◌, ⊤, List, ℕ, ◌*◌, ◌≤◌, length, leb, eqb}
use Rattle.switch.specs.declared.About.{About}
use Rattle.switch.specs.declared.About.TheVariants as about
use Rattle.switch.specs.declared.Blamed.{Blamed}
use Rattle.switch.specs.declared.Counts.{Counts}
use Rattle.switch.specs.declared.Edition.{Edition}
use Rattle.switch.specs.Outcome.{Outcome}
use Rattle.switch.specs.declared.Refusal.{Refusal}
use Rattle.switch.specs.declared.Refusal.TheVariants.{Ports, Cells, FirstOver}
use Rattle.switch.specs.Answer.{blamed}
use Rattle.switch.specs.Check.{ports_fine}
use Rattle.switch.specs.Result.{unless}
use Rattle.demand.specs.Checked.{Checked}
use Rattle.demand.specs.Check.{check_lines}
use Rattle.records.specs.Bytes.{whole, plan_from}
use Rattle.plans.specs.Read.{checking}
use Rattle.std.specs.declared.result.Result.{Result}
use Rattle.carry.specs.Rest.{new_demand}

-- nothing is counted, and a refusal comes with what it is about
abbrev pub Carried : Type 0
Carried = Result ⊤ Blamed

abbrev pub done : Carried
done = Ok tt

abbrev pub refused : About → Refusal → Carried
refused a r = Err (blamed a r)

-- the first of two answers that refuses
abbrev pub and_then : Carried → Carried → Carried
and_then (Ok u) next = next
and_then (Err b) next = Err b

-- a refusal that is about nothing by name
abbrev pub plain : (r : Refusal) → Carried
plain r = refused about.Nothing r

-- code 3 names the cells that it is about
abbrev pub of_lines : About → Checked → Carried
of_lines a (Ok T) = done
of_lines a (Err r) = refused a r

unfoldable pub lines_of : About → (N : ℕ) (d : List ℕ) → Carried
lines_of a N d = of_lines a (check_lines N d)

-- of a plan of m records: code 15, then 3 for the demand and the new wishes
unfoldable pub after_records : (N : ℕ) (asked : List ℕ) (m first : ℕ) (wished : List ℕ) → Carried
after_records N asked m first wished = unless (leb first m) (plain (FirstOver m)) (and_then (lines_of about.Demand N asked) (lines_of about.Wished N wished))

-- the whole plan is judged, also from the record on where the batch was stopped: codes 9, 10 and 11
abbrev pub after_plan : Outcome → Carried → Carried
after_plan (Ok c) next = next
after_plan (Err r) next = refused about.Plan r

-- what is refused before the sum is known; code 2 where asked, wished or new cells are not N²
unfoldable pub fault_of : (E : Edition) (N : ℕ) (asked plan : List ℕ) (first : ℕ) (wished : List ℕ) (room : ℕ) → Carried
fault_of E N asked plan first wished room =
    unless (ports_fine E.ports N) (plain Ports)
    (unless (eqb (length asked) (N * N)) (plain (Cells (N * N)))
    (unless (eqb (length wished) (N * N)) (plain (Cells (N * N)))
    (unless (eqb room (N * N)) (plain (Cells (N * N)))
    (after_plan (checking E N plan) (after_records N asked (whole E.width plan) first wished)))))

-- the new cells after the first `first` records of a plan
abbrev pub new_cells : (E : Edition) (N : ℕ) (asked plan : List ℕ) (first : ℕ) (wished : List ℕ) → List ℕ
new_cells E N asked plan first wished = new_demand N asked wished (plan_from E.width plan 0 first)

-- 1, 2, 9, 10, 11, 15, and 3 for the demand, the new wishes and last their sum
unfoldable pub carry_over : (E : Edition) (N : ℕ) (asked plan : List ℕ) (first : ℕ) (wished cells : List ℕ) → Carried
carry_over E N asked plan first wished cells =
    and_then (fault_of E N asked plan first wished (length cells)) (lines_of about.Sum N (new_cells E N asked plan first wished))

-- a refusal changes no lent cell
abbrev pub cells_after : Carried → (new old : List ℕ) → List ℕ
cells_after (Ok u) new old = new
cells_after (Err b) new old = old

-- the answer and the lent cells
pub record Carries (E : Edition) (N : ℕ) (asked plan : List ℕ) (first : ℕ) (wished before : List ℕ) (r : Carried) (after : List ℕ) : Type 0 where
  pub answer : r ≡ carry_over E N asked plan first wished before
  pub cells : after ≡ cells_after r (new_cells E N asked plan first wished) before

-- ---- what the code is told where nothing is refused before the sum

pub record Fit (E : Edition) (N : ℕ) (asked plan : List ℕ) (first : ℕ) (wished : List ℕ) (room : ℕ) : Type 0 where
  pub few : N ≤ E.ports
  pub asked-size : length asked ≡ N * N
  pub wished-size : length wished ≡ N * N
  pub room-size : room ≡ N * N
  pub counts : Counts
  pub judged : Ok counts ≡ checking E N plan
  pub inside : first ≤ whole E.width plan
  pub asked-fine : lines_of about.Demand N asked ≡ done
  pub wished-fine : lines_of about.Wished N wished ≡ done

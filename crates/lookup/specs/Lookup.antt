-- The setting in force: out of tonight's plan and, once that is over, out of the standby plan, which starts there and repeats (§23.2, §23.3). Definitions only.
use Rattle.std.specs.Prelude.{Err, Ok}
use Rattle.std.specs.Prelude.{◌≡◌, cond, List, [], ℕ, zero, suc, ◌+◌, ◌*◌, ◌-◌, ◌%◌, ◌<◌, length, ltb, eqb}
use Rattle.switch.specs.declared.About.{About}
use Rattle.switch.specs.declared.About.TheVariants as about
use Rattle.switch.specs.declared.Counts.{Counts}
use Rattle.switch.specs.Outcome.{Outcome}
use Rattle.switch.specs.declared.Refusal.{Refusal}
use Rattle.switch.specs.declared.Refusal.TheVariants.{Ports, NotInForce}
use Rattle.switch.specs.declared.Blamed.{Blamed}
use Rattle.switch.specs.Answer.{no_counts, blamed}
use Rattle.switch.specs.Check.{ports_fine}
use Rattle.switch.specs.Result.{unless}
use Rattle.switch.specs.Plan.{Record, total}
use Rattle.records.specs.Bytes.{record_at, whole, plan_of}
use Rattle.switch.specs.declared.Edition.{Edition}
use Rattle.plans.specs.Read.{checking}
use Rattle.lookup.specs.declared.Spot.{Spot}
use Rattle.lookup.specs.declared.Spot.TheVariants as spot
use Rattle.lookup.specs.declared.Found.{Found}
use Rattle.std.specs.declared.result.Result.{Result}
use Rattle.lookup.specs.Force.{in_force}

-- where the record in force stands; or why there is none, and what that is about
abbrev pub Answered : Type 0
Answered = Result Spot Blamed

-- record k of tonight's plan
abbrev pub in_tonight : (k : ℕ) → Answered
in_tonight k = Ok (spot.Tonight k)

-- record k of the standby plan
abbrev pub in_standby : (k : ℕ) → Answered
in_standby k = Ok (spot.Standby k)

abbrev pub refused : About → Refusal → Answered
refused a r = Err (blamed a r)

-- slot t of a standby plan that repeats; code 14 where it has no records
unfoldable pub repeating : (standby : List Record) (t : ℕ) → Answered
repeating s t = cond (eqb (length s) 0) (refused about.Nothing NotInForce) (in_standby (in_force s (t % total s)))

-- tonight's plan p, and from its total on the standby plan s
unfoldable pub spot_in : (tonight standby : List Record) (t : ℕ) → Answered
spot_in p s t = cond (ltb t (total p)) (in_tonight (in_force p t)) (repeating s (t - total p))

-- a plan that is refused by itself, with its name, and else what is found
abbrev pub after_plan : About → Outcome → Answered → Answered
after_plan a (Ok c) s = s
after_plan a (Err r) s = refused a r

-- 1, then 9, 10 and 11 for tonight's plan, the same for the standby plan whatever the slot is, then 14
unfoldable pub spot_of : (E : Edition) (N : ℕ) (tonight standby : List ℕ) (t : ℕ) → Answered
spot_of E N tonight standby t =
    unless (ports_fine E.ports N) (refused about.Nothing Ports)
    (after_plan about.Tonight (checking E N tonight)
    (after_plan about.Standby (checking E N standby)
    (spot_in (plan_of E.width tonight) (plan_of E.width standby) t)))

-- the record's own bytes; an empty part where the lookup is refused
abbrev pub part_of : (E : Edition) → Answered → (tonight standby : List ℕ) → List ℕ
part_of E (Ok (spot.Tonight k)) tonight standby = record_at E.width tonight k
part_of E (Ok (spot.Standby k)) tonight standby = record_at E.width standby k
part_of E (Err b) tonight standby = []

-- record k of a plan, 1 tonight's and 2 standby's, of records of a size
abbrev pub part_found : (plan k size : ℕ) → Found
part_found plan k size = record { outcome = Ok no_counts; about = about.Nothing; plan = plan; start = k * size; size = size }

-- an empty part of no plan
abbrev pub none_found : (a : About) (r : Refusal) → Found
none_found a r = record { outcome = Err r; about = a; plan = 0; start = 0; size = 0 }

-- a lookup in numbers; all counts are 0, also where nothing is refused
abbrev pub found_of : (E : Edition) → Answered → Found
found_of E (Ok (spot.Tonight k)) = part_found 1 k (E.width + 4)
found_of E (Ok (spot.Standby k)) = part_found 2 k (E.width + 4)
found_of E (Err b) = none_found b.about b.refusal

-- the plan that a part stands in
abbrev pub plan_named : (plan : ℕ) (tonight standby : List ℕ) → List ℕ
plan_named zero tonight standby = []
plan_named (suc zero) tonight standby = tonight
plan_named (suc (suc n)) tonight standby = standby

-- ---- what the code is told of a plan that no check refuses

pub record Judged (W : ℕ) (plan : List ℕ) (c : Counts) : Type 0 where
  pub records : c.records ≡ whole W plan
  pub slots : c.total ≡ total (plan_of W plan)
  pub held : 0 < whole W plan → 0 < total (plan_of W plan)

-- inner: a record of tonight's plan is below x, one of the standby plan below y
abbrev pub Inside : (x y : ℕ) → Answered → Type 0
Inside x y (Ok (spot.Tonight k)) = k < x
Inside x y (Ok (spot.Standby k)) = k < y
Inside x y (Err b) = Unit {0}

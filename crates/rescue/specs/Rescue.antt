-- What a rescue answers, and the bytes of its two lent buffers afterwards (§19). Definitions only.
use Rattle.std.specs.declared.result.Result.{Result}
use Rattle.std.specs.Prelude.{Err, Ok, ◌≡◌, List, ◌++◌, ℕ, ◌+◌, ◌/◌, length, leb}
use Rattle.switch.specs.declared.Edition.{Edition}
use Rattle.switch.specs.declared.Refusal.{Refusal}
use Rattle.switch.specs.declared.Refusal.TheVariants.{Records, Room, ListRoom}
use Rattle.switch.specs.Answer.{demand_counts}
use Rattle.switch.specs.Demand.{cell}
use Rattle.switch.specs.Plan.{Record, total}
use Rattle.switch.specs.Empty.{empty_slots}
use Rattle.switch.specs.Result.{unless}
use Rattle.demand.specs.Checked.{Checked}
use Rattle.demand.specs.Check.{check_demand}
use Rattle.records.specs.Bytes.{whole, bytes, laid}
use Rattle.rescue_rule.specs.Rescue.{Entry, kept, added, dropped, torn_tail, rescued, entry_bytes}
use Rattle.rescue.specs.declared.Answer.{Answer}

-- an answer, and what is left in the two lent buffers
pub record Saved : Type 0 where
  pub answer : Answer
  pub plan : List ℕ
  pub list : List ℕ

-- what a call answers and leaves is what is given
pub record Saves (given : Saved) (r : Answer) (after listed : List ℕ) : Type 0 where
  pub answer : r ≡ given.answer
  pub plan : after ≡ given.plan
  pub list : listed ≡ given.list

-- a refusal counts nothing
abbrev pub refusal : (r : Refusal) → Answer
refusal r = record { outcome = Err r; added = 0; dropped = 0 }

-- what is answered where a refusal is passed on
abbrev pub answer_of : Result Answer Refusal → Answer
answer_of (Ok a) = a
answer_of (Err r) = refusal r

-- and changes no byte of either buffer
abbrev pub refuses : Refusal → (plan list : List ℕ) → Saved
refuses r plan list = record { answer = refusal r; plan = plan; list = list }

-- K is kept, A is added and D is dropped: the plan and the list at their buffers' starts, and nothing else touched
unfoldable pub writes : Edition → (N T empty : ℕ) (K A : List Record) (D : List Entry) (plan list : List ℕ) → Saved
writes E N T empty K A D plan list =
    record {
      answer = record { outcome = Ok (demand_counts (length (K ++ A)) T (total (K ++ A)) empty); added = length A; dropped = length D };
      plan = laid plan 0 (bytes E.byte N (K ++ A));
      list = laid list 0 (entry_bytes D);
    }

-- code 10: more records go out than a plan may have
abbrev pub few_out : Edition → (p : List Record) (plan list : List ℕ) → Saved → Saved
few_out E p plan list = unless (leb (length p) E.records) (refuses (Records E.records) plan list)

-- code 5: the plan's buffer has room for fewer whole records
abbrev pub plan_fits : Edition → (p : List Record) (plan list : List ℕ) → Saved → Saved
plan_fits E p plan list = unless (leb (length p) (whole E.width plan)) (refuses (Room (length p)) plan list)

-- code 16: the list's buffer has room for fewer whole entries
abbrev pub list_fits : (D : List Entry) (plan list : List ℕ) → Saved → Saved
list_fits D plan list = unless (leb (length D) (length list / 4)) (refuses (ListRoom (length D)) plan list)

-- in this order
unfoldable pub fitting : Edition → (N T empty : ℕ) (K A : List Record) (D : List Entry) (plan list : List ℕ) → Saved
fitting E N T empty K A D plan list =
    few_out E (K ++ A) plan list (plan_fits E (K ++ A) plan list (list_fits D plan list (writes E N T empty K A D plan list)))

-- a torn tail counts as a record that comes in
unfoldable pub records_in : (W : ℕ) (damaged : List ℕ) → ℕ
records_in W damaged = whole W damaged + length (torn_tail W damaged)

-- of a demand that nothing refuses: code 10 for the records that come in
abbrev pub few_in : Edition → (damaged : List ℕ) → Checked → Checked
few_in E damaged (Ok T) = unless (leb (records_in E.width damaged) E.records) (Err (Records E.records)) (Ok T)
few_in E damaged (Err r) = Err r

-- codes 1, 2 and 3 of the demand, and then 10; else T
unfoldable pub check_in : Edition → (N : ℕ) (d damaged : List ℕ) → Checked
check_in E N d damaged = few_in E damaged (check_demand E.ports N d)

-- what is checked is refused, and else what is done with T
abbrev pub after_check : Checked → (ℕ → Saved) → (plan list : List ℕ) → Saved
after_check (Ok T) go plan list = go T
after_check (Err r) go plan list = refuses r plan list

-- the rescue of a plan for the demand d: T is d's, the empty slots are those of all that is written
unfoldable pub rescuing : Edition → (N : ℕ) (d damaged plan list : List ℕ) → Saved
rescuing E N d damaged plan list =
    after_check (check_in E N d damaged)
    (λ T. fitting E N T (empty_slots N (cell N d) (rescued E.width E.byte N d damaged))
    (kept E.width E.byte N damaged)
    (added E.width N d (kept E.width E.byte N damaged))
    (dropped E.width E.byte N damaged)
    plan list)
    plan list

-- What a rescue comes to: what stands in the two buffers afterwards, and what it is worth. Definitions only.
use Rattle.std.specs.Prelude.{Err, Ok}
use Rattle.std.specs.Prelude.{◌≡◌, false, List, ◌++◌, ℕ, ◌+◌, ◌*◌, ◌-◌, ◌%◌, ◌<◌, ◌≤◌, length, get_or, take, drop}
use Rattle.switch.specs.declared.Counts.{Counts}
use Rattle.switch.specs.declared.Edition.{Edition}
use Rattle.switch.specs.declared.Refusal.{Refusal}
use Rattle.switch.specs.Demand.{cell, longest}
use Rattle.switch.specs.Plan.{grant, Covers}
use Rattle.records.specs.Bytes.{record_at, whole, plan_of, bytes}
use Rattle.checker.specs.Check.{check_plan}
use Rattle.rules.specs.Exact.{exact_plan}
use Rattle.rescue_rule.specs.Reason.{reason_of, Because}
use Rattle.rescue_rule.specs.Rescue.{fine, kept, kept_bytes, Entry, entry_of, dropped_to, entry_bytes, rest_of, Undamaged}
use Rattle.rescue.specs.declared.Answer.{Answer}
use Rattle.rescue.specs.Rescue.{rescuing, Saves}

-- what is lent as bytes holds bytes
abbrev pub Octets : (s : List ℕ) → Type 0
Octets s = (i : ℕ) → get_or s i 0 < 256

-- the list `all` tells of the records of a plan that are not well formed, in order, and of no others; a torn tail comes last
pub record Tells (E : Edition) (N : ℕ) (plan : List ℕ) (all : List Entry) : Type 0 where
  -- a record that is not well formed stands behind those before it, with the first reason that applies
  pub each : (k : ℕ) → k < whole E.width plan → fine E.width E.byte N plan k ≡ false → (z : Entry)
      → (get_or all (length (dropped_to E.width E.byte N plan k)) z ≡ entry_of E.width E.byte N plan k)
      × Because E.width E.byte N (record_at E.width plan k) (reason_of E.width E.byte N (record_at E.width plan k))
  -- whatever stands before the tail is such a record
  pub only : (j : ℕ) → j < length (dropped_to E.width E.byte N plan (whole E.width plan)) → (z : Entry)
      → (k : ℕ) × (k < whole E.width plan) × (fine E.width E.byte N plan k ≡ false) × (length (dropped_to E.width E.byte N plan k) ≡ j) × (get_or all j z ≡ entry_of E.width E.byte N plan k)
  -- without a tail that is all
  pub even : length plan % (E.width + 4) ≡ 0 → length all ≡ length (dropped_to E.width E.byte N plan (whole E.width plan))
  -- with one there is one entry more: the number of whole records, reason 7
  pub torn : (length plan % (E.width + 4) ≡ 0 → ⊥) → (length all ≡ length (dropped_to E.width E.byte N plan (whole E.width plan)) + 1)
      × ((z : Entry) → get_or all (length (dropped_to E.width E.byte N plan (whole E.width plan))) z ≡ record { number = whole E.width plan; reason = 7 })

-- where nothing is refused
pub record Succeeds (E : Edition) (N : ℕ) (d damaged list : List ℕ) (r : Answer) (c : Counts) (plan listed : List ℕ) : Type 0 where
  -- the checker takes the plan, with the same counts
  pub passes : check_plan E N d plan ≡ Ok c
  pub demanded : c.longest ≡ longest N (cell N d)
  -- every kept record's bytes stand as they stood, and behind them is the exact plan of what those leave uncovered
  pub keeps : Octets damaged → plan ≡ kept_bytes E.width E.byte N damaged (whole E.width damaged) ++ bytes E.byte N (exact_plan E.width N (rest_of N d (kept E.width E.byte N damaged)))
  pub rest : (i j : ℕ) → i < N → j < N → cell N (rest_of N d (kept E.width E.byte N damaged)) i j ≡ cell N d i j - grant (kept E.width E.byte N damaged) i j
  pub added : r.added ≡ length (exact_plan E.width N (rest_of N d (kept E.width E.byte N damaged)))
  -- the list names what was dropped
  pub entries : List Entry
  pub tells : Tells E N damaged entries
  pub counted : r.dropped ≡ length entries
  pub lists : take (4 * r.dropped) listed ≡ entry_bytes entries
  pub untouched : drop (4 * r.dropped) listed ≡ drop (4 * r.dropped) list
  -- a plan without damage that covers comes back as it was, and nothing is listed or added
  pub identical : Octets damaged → Undamaged E.width E.byte N damaged → Covers N (cell N d) (plan_of E.width damaged) → (plan ≡ damaged) × (r.added ≡ 0) × (r.dropped ≡ 0)
  -- rescuing what was rescued changes nothing
  pub again : (buf list' : List ℕ) → c.records ≤ whole E.width buf → (s : Answer) (after' listed' : List ℕ) → Saves (rescuing E N d plan buf list') s after' listed'
      → (s ≡ record { outcome = Ok c; added = 0; dropped = 0 }) × (take (length plan) after' ≡ plan) × (listed' ≡ list')

-- the answer r, and both lent buffers before and after
pub record Rescued (E : Edition) (N : ℕ) (d damaged plan list : List ℕ) (r : Answer) (after listed : List ℕ) : Type 0 where
  pub succeeds : (c : Counts) → r.outcome ≡ Ok c → Succeeds E N d damaged list r c (take (c.records * (E.width + 4)) after) listed
  pub behind : (c : Counts) → r.outcome ≡ Ok c → drop (c.records * (E.width + 4)) after ≡ drop (c.records * (E.width + 4)) plan
  pub refuses : (f : Refusal) → r.outcome ≡ Err f → (after ≡ plan) × (listed ≡ list) × (r.added ≡ 0) × (r.dropped ≡ 0)

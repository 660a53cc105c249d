-- A rescue case by case: each refusal is given exactly where its test is the first that fails, and else plan and list are written.
use Rattle.std.specs.declared.result.Result.{Result}
use Rattle.std.specs.Prelude.{Err, Ok, MatchResult}
use mathlib.Core.Path.{◌≡◌, refl, sym, ap, ◌∙◌}
use mathlib.Core.Bool.{Bool, true, false}
use mathlib.Core.Logic.{⊎_elim, dite, inl, inr}
use mathlib.Core.List.{List, ◌++◌}
use Prim.Native.Nat.{ℕ, ◌+◌, ◌-◌, ◌/◌, ◌<◌, ◌≤◌}
use native.Mathlib.Decide.{ℕ_discrete, dec_lt}
use native.Mathlib.Omega.{arith}
use lib.ListN.{length}
use lib.Dec.{leb}
use borrow.Author.Tests.{lt-leb, le-leb, leb-true}
use Rattle.switch.specs.declared.Edition.{Edition}
use Rattle.switch.specs.declared.Refusal.{Refusal}
use Rattle.switch.specs.declared.Refusal.TheVariants.{Records, Room, ListRoom}
use Rattle.switch.specs.Plan.{Record}
use Rattle.demand.specs.Checked.{Checked}
use Rattle.demand.specs.Check.{check_demand, Asked}
use Rattle.demand.proofs.Check.{fine-asked}
use Rattle.records.specs.Bytes.{whole}
use Rattle.planner.specs.Planned.{shortage}
use Rattle.planner.proofs.Planned.{fits-room, lacks-room}
use Rattle.rescue_rule.specs.Rescue.{Entry, torn_tail}
use Rattle.rescue.specs.declared.Answer.{Answer}
use Rattle.rescue.specs.Keeping.{Known}
use Rattle.rescue.specs.Rescue.{Saved, Saves, refusal, answer_of, refuses, writes, fitting, records_in, few_in, check_in, rescuing}

-- what is given is told another way
pub saves-as : {given x : Saved} → given ≡ x → {r : Answer} {p l : List ℕ} → Saves x r p l → Saves given r p l
saves-as e s = record {
  answer = s.answer ∙ ap (λ (y : Saved). y.answer) (sym e);
  plan = s.plan ∙ ap (λ (y : Saved). y.plan) (sym e);
  list = s.list ∙ ap (λ (y : Saved). y.list) (sym e);
}

-- a refusal leaves both buffers
pub saves-refusal : {given : Saved} {r : Refusal} {p l : List ℕ} → given ≡ refuses r p l → {a : Answer} → a ≡ refusal r → Saves given a p l
saves-refusal e q = saves-as e (record { answer = q; plan = refl; list = refl })

-- a refusal that was passed on is told as an answer
pub saves-told : {given : Saved} {p l : List ℕ} (r : Result Answer Refusal) {a : Answer} → MatchResult r (λ x. a ≡ x) (λ e. a ≡ refusal e) → Saves given (answer_of r) p l → Saves given a p l
saves-told (Ok x) e s = record { answer = e ∙ s.answer; plan = s.plan; list = s.list }
saves-told (Err x) e s = record { answer = e ∙ s.answer; plan = s.plan; list = s.list }

-- ---- what comes in

module _ (E : Edition) (N : ℕ) (d damaged : List ℕ) where
  after : {o : Checked} → o ≡ check_demand E.ports N d → few_in E damaged o ≡ check_in E N d damaged
  unfolding check_in
  after e = ap (few_in E damaged) e

  pub in-faulty : {r : Refusal} → Err r ≡ check_demand E.ports N d → Err r ≡ check_in E N d damaged
  in-faulty e = after e

  module _ {T : ℕ} (e : Ok T ≡ check_demand E.ports N d) where
    pub in-many : E.records < whole E.width damaged + length (torn_tail E.width damaged) → Err (Records E.records) ≡ check_in E N d damaged
    in-many l = many ∙ after e
      where
        many : Err (Records E.records) ≡ few_in E damaged (Ok T)
        many = unfold records_in in rw (lt-leb _ _ l)

    pub in-fine : whole E.width damaged + length (torn_tail E.width damaged) ≤ E.records → Ok T ≡ check_in E N d damaged
    in-fine l = few ∙ after e
      where
        few : Ok T ≡ few_in E damaged (Ok T)
        few = unfold records_in in rw (le-leb _ _ l)

-- a demand that nothing refuses, and no more records than a plan may have
pub record Entering (E : Edition) (N T : ℕ) (d damaged : List ℕ) : Type 0 where
  pub asked : Asked E.ports N T d
  pub few : whole E.width damaged + length (torn_tail E.width damaged) ≤ E.records

pub entering : (E : Edition) (N T : ℕ) (d damaged : List ℕ) → check_in E N d damaged ≡ Ok T → Entering E N T d damaged
unfolding check_in records_in
entering E N T d damaged q = go (check_demand E.ports N d) refl q
  where
    fine : (T' : ℕ) → check_demand E.ports N d ≡ Ok T' → (b : Bool) → leb (records_in E.width damaged) E.records ≡ b → few_in E damaged (Ok T') ≡ Ok T → Entering E N T d damaged
    fine T' e true t f =
        let same : Ok T' ≡ Ok T = rw t at f in
        record { asked = fine-asked E.ports N T d (e ∙ same); few = leb-true _ _ t }
    fine T' e false t f =
        let no : Err (Records E.records) ≡ Ok T = rw t at f in
        let z : ◌≡◌ {A = ℕ} 0 1 = cc in absurd (let y : ⊥ = omega arith in y)

    go : (o : Checked) → check_demand E.ports N d ≡ o → few_in E damaged o ≡ Ok T → Entering E N T d damaged
    go (Ok T') e f = fine T' e (leb (records_in E.width damaged) E.records) refl f
    go (Err r) e f = let z : ◌≡◌ {A = ℕ} 0 1 = cc in absurd (let y : ⊥ = omega arith in y)

-- ---- what goes out

module _ (E : Edition) (N T empty : ℕ) (K A : List Record) (D : List Entry) (plan list : List ℕ) where
  pub fitting-many : E.records < length (K ++ A) → fitting E N T empty K A D plan list ≡ refuses (Records E.records) plan list
  unfolding fitting
  fitting-many l = rw (lt-leb _ _ l)

  module _ (few : length (K ++ A) ≤ E.records) where
    pub fitting-room : whole E.width plan < length (K ++ A) → fitting E N T empty K A D plan list ≡ refuses (Room (length (K ++ A))) plan list
    unfolding fitting
    fitting-room l = rw (le-leb _ _ few, lt-leb _ _ l)

    module _ (room : length (K ++ A) ≤ whole E.width plan) where
      pub fitting-list : length list / 4 < length D → fitting E N T empty K A D plan list ≡ refuses (ListRoom (length D)) plan list
      unfolding fitting
      fitting-list l = rw (le-leb _ _ few, le-leb _ _ room, lt-leb _ _ l)

      pub fitting-done : length D ≤ length list / 4 → fitting E N T empty K A D plan list ≡ writes E N T empty K A D plan list
      unfolding fitting
      fitting-done l = rw (le-leb _ _ few, le-leb _ _ room, le-leb _ _ l)

-- ---- how many records are known

-- those kept, and those added that do not fit behind them
pub known : (most k a need : ℕ) → need ≡ shortage (most - k) a → Known most (k + a) (k + need)
known most k a need e =
    dite (dec_lt (most - k) a) (λ l. inl (omega (arith, e, lacks-room (most - k) a l)))
    (λ g. dite (ℕ_discrete a 0)
    (λ z. inl (omega (arith, e, fits-room (most - k) a (omega (arith, g)))))
    (λ nz. inr (omega (arith, e, g, nz, fits-room (most - k) a (omega (arith, g))), omega (arith, g, nz))))

module _ (most all r : ℕ) (k : Known most all r) (limit : ℕ) (least : most ≤ limit) where
  -- what is more than a limit is known exactly
  pub known_over : limit < r → r ≡ all
  known_over l = ⊎_elim (λ e. e) (λ b. absurd (let y : ⊥ = omega (arith, b.0) in y)) k

  -- and else all is within it
  pub known-within : r ≤ limit → all ≤ limit
  known-within l = ⊎_elim (λ e. omega (arith, e)) (λ b. omega (arith, b.1)) k

-- ---- the whole call

module _ (E : Edition) (N : ℕ) (d damaged plan list : List ℕ) where
  pub rescuing-faulty : {r : Refusal} → Err r ≡ check_in E N d damaged → rescuing E N d damaged plan list ≡ refuses r plan list
  unfolding rescuing
  rescuing-faulty e = rw (sym e)

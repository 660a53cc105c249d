-- Reading a whole plan case by case: each refusal is given exactly where its test is the first that fails.
use Rattle.std.specs.Prelude.{Result, Err, Ok}
use mathlib.Core.Path.{◌≡◌, refl, ap, ◌∙◌}
use mathlib.Core.Logic.{dite}
use mathlib.Core.List.{List}
use Prim.Native.Nat.{ℕ, zero, suc, ◌+◌, ◌<◌, ◌≤◌}
use mathlib.Core.Bool.{Bool, true, false, cond}
use Rattle.records.specs.Record.{well_formed}
use Rattle.switch.specs.declared.Counts.{Counts}
use Rattle.switch.specs.Outcome.{Outcome}
use Rattle.switch.specs.declared.Refusal.{Refusal}
use Rattle.switch.specs.declared.Refusal.TheVariants.{Malformed}
use Rattle.switch.specs.Answer.{plan_counts}
use Rattle.switch.specs.Plan.{Record, total}
use Rattle.switch.specs.Result.{by_outcome}
use Rattle.switch.specs.declared.Edition.{Edition}
use Rattle.records.specs.Bytes.{record_at, whole, plan_from, plan_of}
use Rattle.switch.specs.Editions.{Bounded}
use native.Mathlib.Decide.{dec_lt}
use borrow.Author.Tests.{lt-ltb, le-ltb}
use Rattle.plans.specs.Read.{opening, malformed, checking}
use Rattle.plans.proofs.Read.{opened, check-refused, check-opened, check-malformed, check_done}
use Rattle.plans.specs.Reading.{reading, Readable, passing}
use native.Mathlib.Omega.{arith}

-- the first record of m from k on that is not well formed is none behind them
malformed-within : (W e N : ℕ) (plan : List ℕ) (m k : ℕ) → malformed W e N plan m k ≤ k + m
unfolding malformed
malformed-within W e N plan zero k = omega arith
malformed-within W e N plan (suc m) k = by (malformed-within W e N plan m (suc k)) (well_formed W e N (record_at W plan k))
  where
    by : malformed W e N plan m (suc k) ≤ suc k + m → (b : Bool) → cond b (malformed W e N plan m (suc k)) k ≤ k + suc m
    by l true = omega arith
    by l false = omega arith

-- what a pass answers
module _ {A : Type 0} (E : Edition) (N : ℕ) (plan : List ℕ) (m : ℕ) (told : List Record → A) where
  pub passing-stopped : (k : ℕ) → k < m → malformed E.width E.byte N plan m 0 ≡ k → ◌≡◌ {A = Result A Refusal} (Err (Malformed k)) (passing E N plan m told)
  unfolding passing
  passing-stopped k l e = rw (e, lt-ltb _ _ l)

  pub passing-whole : (x : A) → x ≡ told (plan_from E.width plan 0 m) → m ≤ malformed E.width E.byte N plan m 0 → ◌≡◌ {A = Result A Refusal} (Ok x) (passing E N plan m told)
  unfolding passing
  passing-whole x e l = rw (e, le-ltb _ _ l)

-- a pass over the records of a plan that is opened: where it is refused, or it tells of all
module _ (E : Edition) (N : ℕ) (plan : List ℕ) {A : Type 0} (told : List Record → A) {c : Counts} (start : Ok c ≡ opening E N plan) where
  abbrev damaged : ℕ
  damaged = malformed E.width E.byte N plan c.records 0

  -- where it is refused, its refusal is that of the check; and else the check refuses nothing
  pub checking-stopped : {r : Refusal} → ◌≡◌ {A = Result A Refusal} (Err r) (passing E N plan c.records told) → Err r ≡ checking E N plan
  unfolding passing
  checking-stopped {r} e = dite (dec_lt damaged c.records)
      (λ l. let q : ◌≡◌ {A = Result A Refusal} (Err r) (Err (Malformed damaged)) = rw (lt-ltb damaged c.records l) at e in
      let same : r ≡ Malformed damaged = cc in
      ap {B = Outcome} (λ (x : Refusal). Err x) same ∙ check-malformed E N plan c.records damaged refl l ∙ check-opened E N plan start)
      (λ g. let q : ◌≡◌ {A = Result A Refusal} (Err r) (Ok (told (plan_from E.width plan 0 c.records))) = rw (le-ltb damaged c.records (omega (arith, g))) at e in cc)

  pub passed-all : {x : A} → ◌≡◌ {A = Result A Refusal} (Ok x) (passing E N plan c.records told) → (x ≡ told (plan_from E.width plan 0 c.records)) × (c.records ≤ damaged)
  unfolding passing
  passed-all {x} e = dite (dec_lt damaged c.records)
      (λ l. let q : ◌≡◌ {A = Result A Refusal} (Ok x) (Err (Malformed damaged)) = rw (lt-ltb damaged c.records l) at e in cc)
      (λ g. let q : ◌≡◌ {A = Result A Refusal} (Ok x) (Ok (told (plan_from E.width plan 0 c.records))) = rw (le-ltb damaged c.records (omega (arith, g))) at e in
      let same : x ≡ told (plan_from E.width plan 0 c.records) = cc in (same, omega (arith, g)))

  pub passed-none : {x : A} → ◌≡◌ {A = Result A Refusal} (Ok x) (passing E N plan c.records told) → damaged ≡ c.records
  passed-none e = omega (arith, (passed-all e).1, malformed-within E.width E.byte N plan c.records 0)

  pub checking-whole : {x : A} → ◌≡◌ {A = Result A Refusal} (Ok x) (passing E N plan c.records told) → Ok (plan_counts c.records 0 (total (plan_from E.width plan 0 c.records))) ≡ checking E N plan
  checking-whole e = check_done E N plan c.records damaged refl (total (plan_from E.width plan 0 c.records)) (passed-all e).1 refl ∙ check-opened E N plan start

module _ (E : Edition) (N : ℕ) (plan : List ℕ) (go : List Record → Outcome) where
  pub after-checking : {o : Outcome} → o ≡ checking E N plan → by_outcome o Err (λ c. go (plan_of E.width plan)) ≡ reading E N plan go
  unfolding reading
  after-checking e = ap (λ (o : Outcome). by_outcome o Err (λ c. go (plan_of E.width plan))) e

  -- codes 1, 9 and 10
  pub reading-refused : {r : Refusal} → Err r ≡ opening E N plan → Err r ≡ reading E N plan go
  reading-refused e = after-checking (check-refused E N plan e)

  module _ {A : Type 0} (told : List Record → A) {c : Counts} (start : Ok c ≡ opening E N plan) where
    -- code 11
    pub reading-malformed : {r : Refusal} → ◌≡◌ {A = Result A Refusal} (Err r) (passing E N plan c.records told) → Err r ≡ reading E N plan go
    reading-malformed e = after-checking (checking-stopped E N plan told start e)

    pub reading-whole : {x : A} → ◌≡◌ {A = Result A Refusal} (Ok x) (passing E N plan c.records told) → go (plan_of E.width plan) ≡ reading E N plan go
    reading-whole e = after-checking (checking-whole E N plan told start e)

-- a plan that opening does not refuse
pub readable : (E : Edition) (N : ℕ) (plan : List ℕ) (c : Counts) → Bounded E → Ok c ≡ opening E N plan → Readable E N plan c.records
readable E N plan c b e =
    let o = opened E N plan c e in
    let r : c.records ≡ whole E.width plan = ap (λ (x : Counts). x.records) o.counts in
    record { bounded = b; few = o.few; inside = omega (arith, r); most = omega (arith, r, o.most, b.records) }

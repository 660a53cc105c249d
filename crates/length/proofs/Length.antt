-- A record is charged d or nothing, so no length is above total hold + d × number of records.
use Rattle.std.specs.Prelude.{Ok, Err}
use mathlib.Core.Path.{◌≡◌, refl, sym, ap, ◌∙◌}
use mathlib.Core.Bool.{Bool, true, false, cond}
use mathlib.Core.List.{List, []}
use Prim.Native.Nat.{ℕ, zero, suc, ◌+◌, ◌-◌, ◌*◌, ◌≤◌, ◌<◌}
use native.Mathlib.Omega.{arith}
use lib.ListN.{length}
use Rattle.counting.specs.Sum.{sum}
use Rattle.counting.proofs.Sum.{sum-zero, sum-const, sum_mono}
use Rattle.switch.specs.declared.Counts.{Counts}
use Rattle.switch.specs.Outcome.{Outcome}
use Rattle.switch.specs.Plan.{Record, total}
use Rattle.switch.specs.declared.Edition.{Edition}
use Rattle.plans.specs.Read.{opening}
use Rattle.records.specs.Record.{outputs}
use Rattle.records.specs.Bytes.{record_at, whole, plan_from, plan_of}
use Rattle.tally.specs.Sums.{same_outputs, setting_at}
use Rattle.tally.proofs.Same.{same-yes, same-no, told_same, told-other}
use Rattle.plans.specs.Reading.{passing}
use Rattle.length.specs.Length.{moves, charge, length_of, length_counts, plan_length}
use Rattle.plans.proofs.Reading.{reading-malformed, reading-whole, passed-all}
use Rattle.plans.proofs.Read.{opened-records}
use Rattle.plans.proofs.Plans.{length-plan}

-- what a record is charged: the first d, a later one d where its setting is another than the one before, and else nothing
pub charge-first : (d : ℕ) (p : List Record) → charge d p 0 ≡ d
unfolding charge moves
charge-first d p = refl

pub charge-moved : (d : ℕ) (p : List Record) (k : ℕ) → (setting_at p k ≡ setting_at p (suc k) → ⊥) → charge d p (suc k) ≡ d
unfolding charge moves
charge-moved d p k n = rw (same-no (setting_at p k) (setting_at p (suc k)) n)

pub charge-kept : (d : ℕ) (p : List Record) (k : ℕ) → setting_at p k ≡ setting_at p (suc k) → charge d p (suc k) ≡ 0
unfolding charge moves
charge-kept d p k e = rw (same-yes (setting_at p k) (setting_at p (suc k)) e)

pub charge-le : (d : ℕ) (p : List Record) (k : ℕ) → charge d p k ≤ d
unfolding charge
charge-le d p k = by (moves p k)
  where
    by : (b : Bool) → cond b d 0 ≤ d
    by true = omega arith
    by false = omega arith

-- no length is longer than it was when every record was charged: total hold and d × records (§11.4)
pub length-le : (d : ℕ) (p : List Record) → length_of d p ≤ total p + d * length p
unfolding length_of
length-le d p = omega (arith, sum_mono (length p) (charge d p) (λ _. d) (λ k _. charge-le d p k), sum-const (length p) d)

-- a plan without records has no length (§11.3)
pub length_none : (d : ℕ) → length_of d [] ≡ 0
unfolding length_of total
length_none d = omega (arith, sum-zero (charge d []))

-- the setting of a record that is read
setting-from : (W : ℕ) (plan : List ℕ) (m a k : ℕ) → k < m → setting_at (plan_from W plan a m) k ≡ outputs (record_at W plan (a + k))
unfolding plan_from
setting-from W plan zero a k l = absurd (omega arith)
setting-from W plan (suc m) a zero l = ap (λ (x : ℕ). outputs (record_at W plan x)) (omega arith)
setting-from W plan (suc m) a (suc k) l = setting-from W plan m (suc a) k (omega arith) ∙ ap (λ (x : ℕ). outputs (record_at W plan x)) (omega arith)

pub setting-read : (W : ℕ) (plan : List ℕ) (k : ℕ) → k < whole W plan → setting_at (plan_of W plan) k ≡ outputs (record_at W plan k)
setting-read W plan k l = setting-from W plan (whole W plan) 0 k l ∙ ap (λ (x : ℕ). outputs (record_at W plan x)) (omega arith)

-- what record k is charged, told by comparing its setting b with the setting a of the record before
pub charged-first : (d : ℕ) (p : List Record) (k : ℕ) → k ≡ 0 → d ≡ charge d p k
charged-first d p k e = sym (ap (charge d p) e ∙ charge-first d p)

module _ (d W : ℕ) (plan : List ℕ) where
  abbrev read : List Record
  read = plan_of W plan

  less : (k : ℕ) → outputs (record_at W plan (suc k - 1)) ≡ outputs (record_at W plan k)
  less k = ap (λ (x : ℕ). outputs (record_at W plan x)) (omega arith)

  pub charged-kept : (k : ℕ) → (k ≡ 0 → ⊥) → k < whole W plan → (a b : List ℕ) → a ≡ outputs (record_at W plan (k - 1)) → b ≡ outputs (record_at W plan k)
      → (t : Bool) → t ≡ same_outputs a b → t ≡ true → 0 ≡ charge d read k
  charged-kept zero n l a b ea eb t e q = absurd (n refl)
  charged-kept (suc k) n l a b ea eb t e q =
      sym (charge-kept d read k (setting-read W plan k (omega arith) ∙ sym (ea ∙ less k) ∙ told_same a b t e q ∙ eb ∙ sym (setting-read W plan (suc k) l)))

  pub charged-moved : (k : ℕ) → (k ≡ 0 → ⊥) → k < whole W plan → (a b : List ℕ) → a ≡ outputs (record_at W plan (k - 1)) → b ≡ outputs (record_at W plan k)
      → (t : Bool) → t ≡ same_outputs a b → t ≡ false → d ≡ charge d read k
  charged-moved zero n l a b ea eb t e q = absurd (n refl)
  charged-moved (suc k) n l a b ea eb t e q =
      sym (charge-moved d read k (λ s. told-other a b t e q ((ea ∙ less k) ∙ sym (setting-read W plan k (omega arith)) ∙ s ∙ setting-read W plan (suc k) l ∙ sym eb)))

-- a pass over all records of a plan, whose holds and charges are summed
pub counts-told : (E : Edition) (d : ℕ) (plan : List ℕ) (m t l : ℕ) → m ≡ whole E.width plan → t ≡ total (plan_from E.width plan 0 m)
    → l ≡ t + sum m (charge d (plan_of E.width plan)) → record { records = m; longest = 0; total = t; length = l; empty = 0 } ≡ length_counts d (plan_from E.width plan 0 m)
counts-told E d plan m t l all holds long = λ i. record { records = records i; longest = 0; total = holds i; length = whole-long i; empty = 0 }
  where
    records : m ≡ length (plan_from E.width plan 0 m)
    records = sym (length-plan E.width plan 0 m)

    whole-long : l ≡ length_of d (plan_from E.width plan 0 m)
    whole-long = unfold length_of in omega (
      arith,
      long,
      holds,
      ap (λ (p : List Record). sum m (charge d p)) (ap (plan_from E.width plan 0) all),
      ap (λ (i : ℕ). sum i (charge d (plan_from E.width plan 0 m))) records,
    )

-- what the pass answers is what is asked
pub length-done : (E : Edition) (N d : ℕ) (plan : List ℕ) {c : Counts} → Ok c ≡ opening E N plan → (o : Outcome) → o ≡ passing E N plan c.records (length_counts d) → o ≡ plan_length E d N plan
unfolding plan_length
length-done E N d plan {c} start (Err r) e = reading-malformed E N plan (λ p. Ok (length_counts d p)) (length_counts d) start e
length-done E N d plan {c} start (Ok x) e =
    ap {B = Outcome} (λ (y : Counts). Ok y) ((passed-all E N plan (length_counts d) start e).0 ∙ ap (λ (m : ℕ). length_counts d (plan_from E.width plan 0 m)) (opened-records E N plan c start))
    ∙ reading-whole E N plan (λ p. Ok (length_counts d p)) (length_counts d) start e

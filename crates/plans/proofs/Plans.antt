-- Whole plans: the scan stops at the first record that is not well formed; what passes is a plan of sound records, and every such plan's bytes pass.
use Rattle.std.specs.Prelude.{Err, Ok}
use mathlib.Core.Path.{◌≡◌, refl, sym, ap, ap₂, ◌∙◌, subst}
use mathlib.Core.Bool.{Bool, true, false}
use mathlib.Core.Logic.{dite}
use mathlib.Core.List.{List, [], ◌∷◌, ◌++◌}
use Prim.Native.Nat.{ℕ, zero, suc, ◌+◌, ◌*◌, ◌%◌, ◌<◌, ◌≤◌}
use native.Mathlib.Nat.{add-zero, suc-add, add-suc, mul-mod_left}
use native.Mathlib.Numerals.{add-one}
use native.Mathlib.Decide.{dec_lt}
use native.Mathlib.Omega.{arith}
use lib.ListN.{length}
use Rattle.switch.specs.declared.Counts.{Counts}
use Rattle.switch.specs.Outcome.{Outcome}
use Rattle.switch.specs.declared.Refusal.{Refusal}
use Rattle.switch.specs.Answer.{plan_counts}
use Rattle.switch.specs.Plan.{Record, total}
use Rattle.switch.specs.declared.Edition.{Edition}
use Rattle.switch.specs.Sound.{Sound, Each}
use Rattle.records.specs.Record.{decoded}
use Rattle.records.specs.Bytes.{record_at, whole, plan_from, plan_of, bytes}
use Rattle.switch.specs.Editions.{Bounded}
use Rattle.plans.specs.Read.{opening, malformed, checking_in, checking}
use Rattle.records.proofs.Bytes.{bytes-size}
use Rattle.records.proofs.Part.{whole-fits}
use Rattle.records.proofs.Round.{whole-bytes, plan_of-bytes}
use Rattle.switch.proofs.Sound.{each_width}
use Rattle.records.proofs.Sound.{fine, plan-sound, bytes-fine}
use Rattle.plans.proofs.Read.{opened, opened-records, opening-done, check-refused, check-opened, check-malformed, check_done}

-- a plan read one record further, and how many records are read
module _ (W : ℕ) (plan : List ℕ) where
  plan-append : (a m : ℕ) → plan_from W plan a (suc m) ≡ plan_from W plan a m ++ decoded (record_at W plan (a + m)) ∷ []
  unfolding plan_from
  plan-append a zero = ap (λ (k : ℕ). decoded (record_at W plan k) ∷ []) (sym (add-zero a))
  plan-append a (suc m) =
      ap (λ (p : List Record). decoded (record_at W plan a) ∷ p) (plan-append (suc a) m
      ∙ ap (λ (k : ℕ). plan_from W plan (suc a) m ++ decoded (record_at W plan k) ∷ []) (suc-add a m ∙ sym (add-suc a m)))

  pub plan-next : (k : ℕ) → plan_from W plan 0 (k + 1) ≡ plan_from W plan 0 k ++ decoded (record_at W plan k) ∷ []
  plan-next k = rw add-one (plan-append 0 k ∙ ap (λ (i : ℕ). plan_from W plan 0 k ++ decoded (record_at W plan i) ∷ []) (let e : 0 + k ≡ k = omega arith in e))

  pub length-plan : (k m : ℕ) → length (plan_from W plan k m) ≡ m
  unfolding plan_from
  length-plan k zero = refl
  length-plan k (suc m) = ap suc (length-plan (suc k) m)

-- f is the first of k, .. (m of them) at which p is false; k + m where there is none
pub record First (p : ℕ → Bool) (m k f : ℕ) : Type 0 where
  pub from : k ≤ f
  pub to : f ≤ k + m
  pub before : (j : ℕ) → k ≤ j → j < f → p j ≡ true
  pub here : f < k + m → p f ≡ false

first-none : (p : ℕ → Bool) (k : ℕ) → First p 0 k k
first-none p k = record { from = omega arith; to = omega arith; before = λ j a b. absurd (omega arith); here = λ l. absurd (omega arith) }

first-here : (p : ℕ → Bool) (m k : ℕ) → p k ≡ false → First p (suc m) k k
first-here p m k q = record { from = omega arith; to = omega arith; before = λ j a b. absurd (omega arith); here = λ l. q }

first-later : (p : ℕ → Bool) (m k f : ℕ) → p k ≡ true → First p m (suc k) f → First p (suc m) k f
first-later p m k f q s = record {
  from = omega (arith, s.from);
  to = omega (arith, s.to);
  before = λ j a b. dite (dec_lt k j) (λ l. s.before j l b) (λ g. let e : j ≡ k = omega (arith, g) in rw e q);
  here = λ l. s.here (omega arith);
}

module _ (W e N : ℕ) (plan : List ℕ) where
  pub malformed-first : (m k : ℕ) → First (fine W e N plan) m k (malformed W e N plan m k)
  unfolding malformed
  malformed-first zero k = first-none (fine W e N plan) k
  malformed-first (suc m) k = by (fine W e N plan k) refl (malformed-first m (suc k))
    where
      by : (t : Bool) → fine W e N plan k ≡ t → First (fine W e N plan) m (suc k) (malformed W e N plan m (suc k)) → First (fine W e N plan) (suc m) k (malformed W e N plan (suc m) k)
      by true q s = rw q (first-later (fine W e N plan) m k _ q s)
      by false q s = rw q (first-here (fine W e N plan) m k q)

  pub malformed-none : (m k : ℕ) → ((j : ℕ) → k ≤ j → j < k + m → fine W e N plan j ≡ true) → malformed W e N plan m k ≡ k + m
  malformed-none m k h =
      let s = malformed-first m k in
      dite (dec_lt (malformed W e N plan m k) (k + m))
      (λ l. let z : true ≡ false = sym (h _ s.from l) ∙ s.here l in let n : ◌≡◌ {A = ℕ} 0 1 = cc in absurd (let f : ⊥ = omega arith in f))
      (λ g. omega (arith, g, s.to))

-- what is known of a plan that no check refuses
pub record Checked (E : Edition) (N : ℕ) (plan : List ℕ) (c : Counts) : Type 0 where
  pub some : 0 < N
  pub few : N ≤ E.ports
  pub even : length plan % (E.width + 4) ≡ 0
  pub most : whole E.width plan ≤ E.records
  pub formed : (k : ℕ) → k < whole E.width plan → fine E.width E.byte N plan k ≡ true
  pub sound : Each (Sound E.width N) (plan_of E.width plan)
  pub counts : c ≡ plan_counts (whole E.width plan) 0 (total (plan_of E.width plan))

module _ (E : Edition) (N : ℕ) (plan : List ℕ) where
  -- the number of records, and the first that is not well formed
  abbrev count : ℕ
  count = whole E.width plan

  abbrev fault : ℕ
  fault = malformed E.width E.byte N plan count 0

  abbrev counted : Counts
  counted = plan_counts count 0 (total (plan_of E.width plan))

  refused-not-done : {r : Refusal} {c : Counts} {A : Type 0} → Err r ≡ checking E N plan → Ok c ≡ checking E N plan → A
  refused-not-done {r} {c} a b = let q : Ok c ≡ Err r = b ∙ sym a in let z : ◌≡◌ {A = ℕ} 0 1 = cc in absurd (let f : ⊥ = omega arith in f)

  module _ {o : Counts} (opens : Ok o ≡ opening E N plan) where
    in_count : checking_in count E N plan ≡ checking E N plan
    in_count = ap (λ (m : ℕ). checking_in m E N plan) (sym (opened-records E N plan o opens)) ∙ check-opened E N plan opens

    all-fine : count ≤ fault → Ok counted ≡ checking E N plan
    all-fine l = check_done E N plan count fault refl (total (plan_of E.width plan)) l refl ∙ in_count

    -- a plan passes where each of its records is well formed
    pub passes : ((k : ℕ) → k < count → fine E.width E.byte N plan k ≡ true) → Ok counted ≡ checking E N plan
    passes h = all-fine (omega (arith, malformed-none E.width E.byte N plan count 0 (λ j a b. h j (omega arith))))

    module _ (bounds : Bounded E) where
      formed-where : count ≤ fault → (k : ℕ) → k < count → fine E.width E.byte N plan k ≡ true
      formed-where l k h = (malformed-first E.width E.byte N plan count 0).before k (omega arith) (omega (arith, l))

      sound-where : count ≤ fault → Each (Sound E.width N) (plan_of E.width plan)
      sound-where l =
          let h = opened E N plan o opens in
          plan-sound E.width E.byte N plan (omega (arith, h.few, bounds.ports)) (omega (arith, h.few, bounds.ports, bounds.width)) count 0
          (subst (λ (n : ℕ). n * (E.width + 4) ≤ length plan) (let q : count ≡ 0 + count = omega arith in q) (whole-fits E.width plan))
          (λ j a b. formed-where l j (omega arith))

      checked-opened : (c : Counts) → Ok c ≡ checking E N plan → Checked E N plan c
      checked-opened c d =
          let h = opened E N plan o opens in
          dite (dec_lt fault count)
          (λ l. refused-not-done (check-malformed E N plan count fault refl l ∙ in_count) d)
          (λ g. let l : count ≤ fault = omega (arith, g) in
          record {
            some = h.some;
            few = h.few;
            even = h.even;
            most = h.most;
            formed = formed-where l;
            sound = sound-where l;
            counts = same (d ∙ sym (all-fine l));
          })
        where
          same : {x y : Counts} → ◌≡◌ {A = Outcome} (Ok x) (Ok y) → x ≡ y
          same e = cc

  -- a plan that no check refuses
  pub checked : Bounded E → (c : Counts) → Ok c ≡ checking E N plan → Checked E N plan c
  checked bounds c d = by (opening E N plan) refl
    where
      by : (o : Outcome) → o ≡ opening E N plan → Checked E N plan c
      by (Ok x) q = checked-opened q bounds c d
      by (Err r) q = refused-not-done (check-refused E N plan q) d

-- every sound plan's bytes pass
module _ (E : Edition) (bounds : Bounded E) (N : ℕ) (some : 0 < N) (few : N ≤ E.ports) where
  pub bytes-pass : {p : List Record} → length p ≤ E.records → Each (Sound E.width N) p → checking E N (bytes E.byte N p) ≡ Ok (plan_counts (length p) 0 (total p))
  bytes-pass {p} most s =
      let W = E.width in
      let w = each_width W N s in
      let count-is = whole-bytes E.byte N W w in
      let even : length (bytes E.byte N p) % (W + 4) ≡ 0 = ap (λ (l : ℕ). l % (W + 4)) (bytes-size E.byte N W w) ∙ mul-mod_left (length p) (W + 4) in
      sym (passes E N (bytes E.byte N p) (opening-done E N (bytes E.byte N p) some few even (omega (arith, count-is)))
      (λ k l. bytes-fine W E.byte N (omega (arith, bounds.ports)) (omega (arith, bounds.ports, bounds.width)) s k (omega (arith, count-is))))
      ∙ ap₂ {C = Outcome} (λ (m : ℕ) (q : List Record). Ok (plan_counts m 0 (total q))) count-is (plan_of-bytes E.byte N W w)

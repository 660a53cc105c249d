-- The easy wrong planners are shut out: a plan that covers a demand of something is held at least T, and no longer than twice that.
use Rattle.std.specs.Prelude.{Err, Ok}
use mathlib.Core.Path.{◌≡◌, refl, sym, ap, ◌∙◌, subst}
use mathlib.Core.Logic.{dite}
use mathlib.Core.List.{List, ◌∷◌}
use Prim.Native.Nat.{ℕ, zero, suc, ◌+◌, ◌*◌, ◌<◌, ◌≤◌}
use native.Mathlib.Nat.{mul-le-mul_right}
use native.Mathlib.Decide.{dec_lt, ℕ_discrete}
use native.Mathlib.Omega.{arith}
use lib.ListN.{get_or, take, drop, length-take, replicate, length-replicate, get_or-eq_default}
use lib.Seq.{get_or-take, get_or-drop}
use Rattle.counting.specs.Sum.{sum, most}
use Rattle.counting.specs.Matrix.{row, col}
use Rattle.counting.proofs.Sum.{sum-at}
use Rattle.counting.proofs.Count.{δ-other}
use Rattle.switch.specs.declared.Counts.{Counts}
use Rattle.switch.specs.Outcome.{Outcome}
use Rattle.switch.specs.declared.Refusal.{Refusal}
use Rattle.switch.specs.Answer.{code_of, counts_of}
use Rattle.switch.specs.Check.{ports_fine}
use Rattle.switch.specs.Demand.{cell, longest}
use Rattle.switch.specs.Plan.{Record, output, grant, total, Covers}
use Rattle.switch.specs.Sound.{Each, more, Sound}
use Rattle.switch.proofs.Answer.{code-done}
use Rattle.switch.proofs.Append.{total-append}
use Rattle.switch.proofs.Demand.{row-le-longest, blank-zeros}
use Rattle.switch.proofs.Plan.{least-total}
use Rattle.demand.specs.Check.{check_demand}
use Rattle.demand.proofs.Check.{fine-asked}
use Rattle.rules.specs.Exact.{exact_plan, Exact}
use Rattle.rules.specs.Doubled.{rotate, held, turns, Doubled}
use Rattle.rules.specs.Quick.{quick_plan, Quick}
use Rattle.rules.proofs.Room.{length-le-total}
use Rattle.rules.proofs.Exact.{exact}
use Rattle.rules.proofs.Doubled.{total-held}
use Rattle.rules.proofs.Quick.{quick}
use Rattle.records.specs.Bytes.{whole, record_at, plan_from}
use Rattle.switch.specs.declared.Edition.{Edition}
use Rattle.switch.specs.Editions.{first_edition}
use Rattle.promises.specs.Papers.{d1}
use Rattle.promises.specs.Calls.{ExactPlan, DoubledPlan, EveryRotation, QuickPlan}
use Rattle.promises.specs.Doubled.{Rule, tight, every, plan_by, PlansDoubled}
use Rattle.promises.specs.Planner.{Taken, counted, part_of, plan_in, Plans}
use Rattle.promises.specs.Wrong.{Modest, all_rotations, FirstCarriesAll, Telling, Right}
use Rattle.promises.proofs.Fair.{fine-fair}
use Rattle.promises.proofs.Exact.{exact-plan-promise}
use Rattle.promises.proofs.Doubled.{both-doubled, doubled-plan-promise, every-rotation-promise}
use Rattle.promises.proofs.Quick.{quick-plan-promise}

-- ---- every planner's plan is modest

pub exact-modest : {N : ℕ} {d : List ℕ} {p : List Record} → Exact N d p → Modest N d p
exact-modest w = record { plan = w.plan; covers = w.covers; short = omega (arith, w.held) }

pub doubled-modest : {N : ℕ} {d : List ℕ} {p : List Record} → Doubled N d p → Modest N d p
doubled-modest w = record { plan = w.plan; covers = w.covers; short = w.short }

pub quick-modest : {N : ℕ} {d : List ℕ} {p : List Record} → Quick N d p → Modest N d p
quick-modest w = record { plan = w.plan; covers = w.covers; short = omega (arith, w.held, w.most) }

-- ---- all rotations at hold T are held for N × T

total-same : (W : ℕ) (τ : ℕ → ℕ → ℕ) (T n k : ℕ) → total (turns W τ (λ _. T) n k) ≡ n * T
unfolding turns
total-same W τ T zero k = unfold total in omega arith
total-same W τ T (suc n) k =
    let H : ℕ → ℕ = λ _. T in
    omega (arith, total-append (held W T (τ k)) (turns W τ H n (suc k)), total-held W τ H T (τ k), total-same W τ T n (suc k))

-- ---- zeros are no record

zeros-take : (n : ℕ) (l : List ℕ) → ((k : ℕ) → get_or l k 0 ≡ 0) → (k : ℕ) → get_or (take n l) k 0 ≡ 0
zeros-take n l z k = dite (dec_lt k n) (λ h. get_or-take n l k 0 h ∙ z k) (λ g. get_or-eq_default (take n l) 0 (omega (arith, g, length-take n l)))

zeros-drop : (n : ℕ) (l : List ℕ) → ((k : ℕ) → get_or l k 0 ≡ 0) → (k : ℕ) → get_or (drop n l) k 0 ≡ 0
zeros-drop n l z k = get_or-drop n l k 0 ∙ z (n + k)

zeros-none : (W N : ℕ) (l : List ℕ) → ((k : ℕ) → get_or l k 0 ≡ 0) → (m : ℕ) → Each (Sound W N) (plan_from W l 0 m) → total (plan_from W l 0 m) ≡ 0
unfolding plan_from total
zeros-none W N l z zero s = refl
zeros-none W N l z (suc m) (more s t) =
    absurd (omega (arith, s.held, zeros 0, zeros 1))
  where
    zeros : (k : ℕ) → get_or (record_at W l 0) k 0 ≡ 0
    zeros = zeros-take (W + 4) (drop (0 * (W + 4)) l) (zeros-drop (0 * (W + 4)) l z)

-- ---- a record joins an input to one output

joins-one : (N : ℕ) (d : List ℕ) (r : Record) (q : List Record) → Covers N (cell N d) (r ∷ q)
    → (i j : ℕ) → i < N → j < N → 0 < cell N d i j → grant q i j ≡ 0 → output r i ≡ j
unfolding grant
joins-one N d r q c i j li lj a f = by (ℕ_discrete (output r i) j)
  where
    by : Dec (output r i ≡ j) → output r i ≡ j
    by (yes e) = e
    by (no n) = absurd (omega (arith, c i j li lj, a, f, ap (λ (x : ℕ). r.hold * x) (δ-other (output r i) j n)))

-- ---- the wrong planners

module _ (E : Edition) (most N : ℕ) (d : List ℕ) (p : List Record) (Worth : List Record → Type 0) (buf : List ℕ)
    (modest : (q : List Record) → Worth q → Modest N d q) (t : Telling N d buf) (taken : Taken E most N d p buf)
    (r : Outcome) (after : List ℕ) (plans : Plans E most N d p Worth buf r after) where
  abbrev plan : List Record
  plan = plan_in E r after

  done : code_of r ≡ 0
  done = plans.takes taken

  worth : Modest N d plan
  worth = modest plan (plans.delivers done).worth

  -- something is asked
  some : 0 < longest N (cell N d)
  unfolding row
  some = omega (
    arith,
    row-le-longest N (cell N d) t.input t.inside.0,
    sum-at N (λ j. cell N d t.input j) t.one t.inside.1,
    t.asked.0,
  )

  long : longest N (cell N d) ≤ total plan
  long = least-total N (cell N d) plan worth.plan worth.covers

  refused : (f : Refusal) → r ≡ Err f → ⊥
  refused f e = let q : Err f ≡ Ok (counts_of r) = sym e ∙ code-done r done in let z : ◌≡◌ {A = ℕ} 0 1 = cc in omega arith

  same : (e : List ℕ) → longest N (cell N e) ≡ 0 → Modest N e plan → ⊥
  same e z m = omega (arith, m.short, z, some, long)

  rotations : plan ≡ all_rotations E.width N (longest N (cell N d)) → ⊥
  rotations e =
      let T = longest N (cell N d) in
      omega (arith, worth.short, some, ap total e, total-same E.width (rotate N) T N 0, mul-le-mul_right T t.ports)

  untouched : after ≡ buf → ⊥
  untouched e =
      let part = part_of E r after in
      omega (arith, some, long, zeros-none E.width N part zeros (whole E.width part) (plans.delivers done).sound)
    where
      zeros : (k : ℕ) → get_or (part_of E r after) k 0 ≡ 0
      zeros = zeros-take (counted E r) after (λ k. ap (λ (l : List ℕ). get_or l k 0) e ∙ t.zeros k)

  carried : FirstCarriesAll N d plan → ⊥
  carried f = t.apart (sym (at t.one t.inside.1 t.asked.0) ∙ at t.other t.inside.2 t.asked.1)
    where
      at : (j : ℕ) → j < N → 0 < cell N d t.input j → output f.first t.input ≡ j
      at j l a =
          joins-one N d f.first f.rest (subst (Covers N (cell N d)) f.is worth.covers) t.input j t.inside.0 l a
          (f.filler t.input j t.inside.0 l a)

  pub right : Right E N d buf r after
  right = record {
    not-refused = refused;
    not-the-same = same;
    not-all-rotations = rotations;
    not-nothing = untouched;
    not-the-first = carried;
    records = ap (λ (c : Counts). c.records) (plans.delivers done).counts;
    total = ap (λ (c : Counts). c.total) (plans.delivers done).counts;
  }

-- ---- P1's demand and a buffer of five blank records tell every planner

-- its T is 3, and a plan of a total of at most 5 has at most five records
abbrev pub blank : List ℕ
blank = replicate 340 0

p1-fine : Ok 3 ≡ check_demand 64 2 d1
unfolding check_demand ports_fine longest most row col cell sum
p1-fine = refl

p1-taken : (limit : ℕ) → 3 ≤ limit → {p : List Record} → Modest 2 d1 p → Taken first_edition limit 2 d1 p blank
p1-taken limit l m = record {
  fair = fine-fair first_edition 2 d1 3 limit p1-fine l;
  room = omega (arith, m.short, length-le-total m.plan, (fine-asked 64 2 3 d1 (sym p1-fine)).longest-is, length-replicate {A = ℕ} 340 0);
}

p1-telling : Telling 2 d1 blank
unfolding cell
p1-telling = record {
  ports = omega arith;
  input = 0;
  one = 0;
  other = 1;
  inside = (omega arith, omega arith, omega arith);
  apart = λ e. omega (arith, e);
  asked = (omega arith, omega arith);
  zeros = (blank-zeros 340).clear;
}

module _ (r : Outcome) (after : List ℕ) where
  pub exact-right : ExactPlan 2 d1 blank r after → Right first_edition 2 d1 blank r after
  exact-right c =
      right first_edition 65535 2 d1 (exact_plan 64 2 d1) (Exact 2 d1) blank (λ q w. exact-modest w) p1-telling
      (p1-taken 65535 (omega arith) (exact-modest (exact 64 2 (omega arith) (omega arith) d1 (omega arith)))) r after
      (exact-plan-promise 2 d1 blank r after c)

  -- by either rule
  doubled-by-right : (rule : Rule) → PlansDoubled rule first_edition 2 d1 blank r after → Right first_edition 2 d1 blank r after
  doubled-by-right rule =
      right first_edition 65535 2 d1 (plan_by rule 64 2 d1) (Doubled 2 d1) blank (λ q w. doubled-modest w) p1-telling
      (p1-taken 65535 (omega arith) (doubled-modest (both-doubled rule 64 2 (omega arith) (omega arith) d1 (omega arith)))) r after

  pub doubled-right : DoubledPlan 2 d1 blank r after → Right first_edition 2 d1 blank r after
  doubled-right c = doubled-by-right tight (doubled-plan-promise 2 d1 blank r after c)

  pub every-rotation-right : EveryRotation 2 d1 blank r after → Right first_edition 2 d1 blank r after
  every-rotation-right c = doubled-by-right every (every-rotation-promise 2 d1 blank r after c)

  pub quick-right : QuickPlan 2 d1 blank r after → Right first_edition 2 d1 blank r after
  quick-right c =
      right first_edition 1024 2 d1 (quick_plan 64 2 d1) (Quick 2 d1) blank (λ q w. quick-modest w) p1-telling
      (p1-taken 1024 (omega arith) (quick-modest (quick 64 2 (omega arith) (omega arith) (omega arith) d1))) r after
      (quick-plan-promise 2 d1 blank r after c)

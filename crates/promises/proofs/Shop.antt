-- The open shop's contract is a refusal, where the demand or the buffer is not taken, or the plan's records at the buffer's start, which read back as
-- the plan on paper; and the reader's is what its tests came to.
use Rattle.std.specs.Prelude.{Err, Ok}
use mathlib.Core.Path.{◌≡◌, refl, sym, ap, ◌∙◌, subst}
use mathlib.Core.Bool.{Bool, true, false, cond}
use mathlib.Core.List.{List}
use Prim.Native.Nat.{ℕ, zero, suc, ◌+◌, ◌*◌, ◌/◌, ◌%◌, ◌<◌, ◌≤◌}
use native.Mathlib.Decide.{ℕ_discrete, dec_lt}
use native.Mathlib.Nat.{mul-le-mul}
use native.Mathlib.Omega.{arith}
use lib.ListN.{length, take, drop}
use lib.Dec.{leb, eqb}
use borrow.Author.Tests.{lt-leb, le-leb, leb-false, eq-eqb}
use Rattle.switch.specs.Outcome.{Outcome}
use Rattle.switch.specs.declared.Refusal.{Refusal}
use Rattle.switch.specs.declared.Refusal.TheVariants.{Room, Torn, Malformed}
use Rattle.switch.specs.Answer.{code_of, counts_of, plan_counts}
use Rattle.switch.specs.Check.{ports_fine}
use Rattle.switch.specs.Editions.{first_edition}
use Rattle.switch.proofs.Answer.{code-done}
use Rattle.switch.proofs.Check.{some-ports}
use Rattle.demand.specs.Checked.{Checked}
use Rattle.demand.specs.Check.{check_demand}
use Rattle.demand.proofs.Check.{fine-asked}
use Rattle.records.specs.Bytes.{laid}
use Rattle.shop_rule.specs.Task.{Task, Each, latest}
use Rattle.shop_rule.specs.Shop.{shop_plan}
use Rattle.shop_rule.proofs.Shop.{shop-once, shop-runs, shop-apart, shop-rising}
use Rattle.shop_rule.proofs.Task.{each_map, each_both}
use Rattle.shop_rule.proofs.Count.{shop-length, shop-end}
use Rattle.shop_rule.proofs.Least.{shop-twice}
use Rattle.tasks.specs.Bytes.{bytes, tasks_from, tasks_of}
use Rattle.tasks.specs.Read.{fine, faulty, reading_in, reading}
use Rattle.tasks.proofs.Trips.{Small, bytes-size, tasks-back}
use Rattle.tasks.proofs.Accepted.{accepted}
use Rattle.shop.specs.Shopped.{writes, room_for, shopped}
use Rattle.shop.proofs.Passes.{shop-reads}
use Rattle.promises.specs.Calls as call
use Rattle.promises.specs.Planner.{Fair}
use Rattle.promises.specs.Shop as shop
use Rattle.promises.proofs.Fair.{fair-longest, fair-fine, fine-fair, not-fine, faulty-fault}
use Rattle.promises.proofs.Laid.{laid-front, laid-behind}
use Rattle.promises.proofs.Outcomes.{never, same-refusal}

-- ---- the planner

module _ (N s : ℕ) (switching : s ≤ 65535) (d buf : List ℕ) (r : Outcome) (after : List ℕ) where
  abbrev p : List Task
  p = shop_plan N s d

  -- a refusal with its reason, where something is not taken
  refused : (f : Refusal) → (shop.Taken N d buf → ⊥) → shop.Why N d buf f → r ≡ Err f → after ≡ buf → shop.PlansTasks N s d buf r after
  refused f not_taken why e b = record {
    taken = λ z. never (sym e ∙ code-done r z);
    takes = λ t. absurd (not_taken t);
    delivers = λ z. never (sym e ∙ code-done r z);
    refuses = λ g q. (subst (shop.Why N d buf) (same-refusal (sym e ∙ q)) why, ap counts_of e, b);
  }

  module _ (t : shop.Taken N d buf) (e : r ≡ Ok (plan_counts (length p) 0 (latest p))) (b : after ≡ laid buf 0 (bytes p)) where
    top : N ≤ 255
    top = omega (arith, t.fair.few)

    size : length (bytes p) ≡ (counts_of r).records * 12
    size = omega (arith, bytes-size p, ap (λ (o : Outcome). (counts_of o).records) e)

    part : shop.task_part r after ≡ bytes p
    part = ap (take ((counts_of r).records * 12)) b ∙ laid-front buf (bytes p) ((counts_of r).records * 12) size

    -- every start and every end fits four bytes
    small : Each Small p
    small =
        let lines = fair-longest first_edition N d t.fair in
        let most = mul-le-mul t.fair.few switching in
        each_map (λ y q. record { start = omega (arith, q.0.lasts, q.1); end = omega (arith, q.1) }) (each_both (shop-runs N s top d) (shop-end N s top d))

    reads-back : shop.tasks_in r after ≡ p
    reads-back =
        ap tasks_of part
        ∙ ap (tasks_from (bytes p) 0) (let q : length (bytes p) / 12 ≡ length p = omega (arith, bytes-size p) in q)
        ∙ tasks-back small

    worth : shop.Shops N s d p
    worth = record {
      once = shop-once N s top d;
      runs = shop-runs N s top d;
      apart = shop-apart N s top d;
      rising = shop-rising N s top d;
      soon = shop-twice N s top d;
    }

    written : shop.PlansTasks N s d buf r after
    written = record {
      taken = λ _. t;
      takes = λ _. ap code_of e;
      delivers = λ _. record {
        worth = subst (shop.Shops N s d) (sym reads-back) worth;
        counts = ap counts_of e ∙ ap (λ (q : List Task). plan_counts (length q) 0 (latest q)) (sym reads-back);
        passes = ap (reading N) part ∙ shop-reads N s d t.fair.some t.fair.few switching (fair-longest first_edition N d t.fair) ∙ sym e;
        behind = ap (drop ((counts_of r).records * 12)) b ∙ laid-behind buf (bytes p) ((counts_of r).records * 12) size;
      };
      refuses = λ f q. never (sym q ∙ e);
    }

  -- ---- which of the two it is

  checked : (o : Checked) → check_demand 64 N d ≡ o → r ≡ (shopped N s d buf).outcome → after ≡ (shopped N s d buf).bytes → shop.PlansTasks N s d buf r after
  unfolding shopped room_for writes
  checked (Err f) q e b = refused f
      (λ t. not-fine first_edition N d (sym q ∙ sym (fair-fine first_edition N d (omega arith) t.fair)))
      (shop.faulty (faulty-fault first_edition N d f (sym q))) (rw q at e) (rw q at b)
  checked (Ok T) q e b = go (dec_lt (length buf / 12) (length p))
    where
      asked : (0 < N) × (N ≤ 64) × (T ≤ 65535)
      asked = let a = fine-asked 64 N T d q in (a.some, a.few, a.small)

      fair : Fair first_edition 65535 N d
      fair = fine-fair first_edition N d T 65535 (sym q) asked.2

      many : length p ≡ shop.asking N d
      many = shop-length N s (omega (arith, asked.1)) d

      go : Dec (length buf / 12 < length p) → shop.PlansTasks N s d buf r after
      go (yes l) = refused (Room (shop.asking N d)) (λ t. omega (arith, t.room, many)) (shop.no_room fair (omega (arith, many)))
          (rw (q, lt-leb (length p) (length buf / 12) l) at e ∙ ap (λ (k : ℕ). Err (Room k)) many) (rw (q, lt-leb (length p) (length buf / 12) l) at b)
      go (no l) =
          let h : length p ≤ length buf / 12 = omega arith in
          written (record { fair = fair; room = omega (arith, many) }) (rw (q, le-leb (length p) (length buf / 12) h) at e) (rw (q, le-leb (length p) (length buf / 12) h) at b)

-- any outcome and any buffer afterwards that satisfy the contract of shop::shop_plan
pub shop-plan-promise : (N s : ℕ) (d buf : List ℕ) (r : Outcome) (after : List ℕ) → s ≤ 65535 → call.ShopPlan N d s buf r after → shop.PlansTasks N s d buf r after
shop-plan-promise N s d buf r after switching g = checked N s switching d buf r after (check_demand 64 N d) refl g.outcome g.bytes

-- ---- the reader

module _ (N : ℕ) (tasks : List ℕ) where
  -- the scan stops at the first record that breaks a rule
  first : (m k : ℕ) → faulty N tasks m k < k + m → ((j : ℕ) → k ≤ j → j < faulty N tasks m k → fine N tasks j ≡ true) × (fine N tasks (faulty N tasks m k) ≡ false)
  unfolding faulty
  first zero k l = absurd (omega arith)
  first (suc m) k l = go (fine N tasks k) refl (first m (suc k))
    where
      go : (b : Bool) → fine N tasks k ≡ b
          → (faulty N tasks m (suc k) < suc k + m → ((j : ℕ) → suc k ≤ j → j < faulty N tasks m (suc k) → fine N tasks j ≡ true) × (fine N tasks (faulty N tasks m (suc k)) ≡ false))
          → ((j : ℕ) → k ≤ j → j < cond (fine N tasks k) (faulty N tasks m (suc k)) k → fine N tasks j ≡ true)
          × (fine N tasks (cond (fine N tasks k) (faulty N tasks m (suc k)) k) ≡ false)
      go false q deeper = rw q ((λ j a c. absurd (omega arith)), q)
      go true q deeper = rw q ((λ j a c. here j a c (ℕ_discrete j k)), below.1)
        where
          below : ((j : ℕ) → suc k ≤ j → j < faulty N tasks m (suc k) → fine N tasks j ≡ true) × (fine N tasks (faulty N tasks m (suc k)) ≡ false)
          below = deeper (let f : cond true (faulty N tasks m (suc k)) k < k + suc m = rw q at l in omega arith)

          here : (j : ℕ) → k ≤ j → j < faulty N tasks m (suc k) → Dec (j ≡ k) → fine N tasks j ≡ true
          here j a c (yes e) = rw e q
          here j a c (no e) = below.0 j (omega arith) c

  not-both : true ≡ false → ⊥
  not-both q = let z : ◌≡◌ {A = ℕ} 0 1 = cc in omega arith

  why : (f : Refusal) → reading N tasks ≡ Err f → shop.WhyUnread N tasks f
  unfolding reading reading_in
  why f e = by-ports (ports_fine 64 N) refl
    where
      m : ℕ
      m = length tasks / 12

      by-records : (b : Bool) → leb m (faulty N tasks m 0) ≡ b → cond b (Ok (plan_counts m 0 (latest (tasks_from tasks 0 m)))) (Err (Malformed (faulty N tasks m 0))) ≡ Err f → shop.WhyUnread N tasks f
      by-records true q g = never (sym g)
      by-records false q g =
          let l : faulty N tasks m 0 < m = leb-false m (faulty N tasks m 0) q in
          let w = first m 0 (omega arith) in
          subst (shop.WhyUnread N tasks) (same-refusal g) (shop.bad-record (faulty N tasks m 0) l (λ j u. w.0 j (omega arith) u) w.1)

      by_size : (b : Bool) → eqb (length tasks % 12) 0 ≡ b → cond b (reading_in m N tasks) (Err (Torn m)) ≡ Err f → shop.WhyUnread N tasks f
      by_size true q g = by-records (leb m (faulty N tasks m 0)) refl g
      by_size false q g = subst (shop.WhyUnread N tasks) (same-refusal g) (shop.torn (λ z. not-both (sym (eq-eqb (length tasks % 12) 0 z) ∙ q)))

      by-ports : (b : Bool) → ports_fine 64 N ≡ b → shop.WhyUnread N tasks f
      by-ports true q = by_size (eqb (length tasks % 12) 0) refl (rw q at e)
      by-ports false q = subst (shop.WhyUnread N tasks) (same-refusal (rw q at e)) (shop.bad-ports (λ some few. not-both (sym (some-ports 64 N some few) ∙ q)))

-- any outcome that satisfies the contract of tasks::read_tasks
pub read-tasks-promise : (N : ℕ) (tasks : List ℕ) (r : Outcome) → call.ReadTasks N tasks r → shop.ReadsTasks N tasks r
read-tasks-promise N tasks r e = record { accepts = λ c q. accepted N tasks c (sym e ∙ q); refuses = λ f q. why N tasks f (sym e ∙ q) }

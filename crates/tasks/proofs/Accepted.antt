-- What the reader accepts is a schedule: every record passed its tests, so each task rises from the one in front, hence from all before it, and
-- one that shares a port with it is over when it starts.
use Rattle.std.specs.Prelude.{Err, Ok}
use mathlib.Core.Path.{◌≡◌, refl, sym, ap, ◌∙◌}
use mathlib.Core.Logic.{inl, inr}
use mathlib.Core.Bool.{Bool, true, false, cond, ◌&&◌, ◌||◌, not}
use mathlib.Core.List.{List}
use Prim.Native.Nat.{ℕ, zero, suc, ◌+◌, ◌/◌, ◌%◌, ◌<◌, ◌≤◌}
use native.Mathlib.Decide.{ℕ_discrete, dec_lt}
use native.Mathlib.Omega.{arith}
use lib.ListN.{length}
use lib.Dec.{ltb, leb, eqb}
use borrow.Author.Tests.{ltb-true, ltb-false, leb-true, eqb-true, lt-ltb, le-ltb, eq-eqb, ne_eqb}
use Rattle.switch.specs.Outcome.{Outcome}
use Rattle.switch.specs.declared.Refusal.{Refusal}
use Rattle.switch.specs.declared.Counts.{Counts}
use Rattle.switch.specs.Answer.{plan_counts}
use Rattle.switch.specs.Check.{ports_fine}
use Rattle.shop_rule.specs.Task.{Task, Each, none, more, Ordered, nothing, before, Rises, Apart, latest}
use Rattle.tasks.specs.Bytes.{task_of, record_at, tasks_from, tasks_of}
use Rattle.tasks.specs.Read.{Fair, Accepts, alone, after, overlaps, overlaps_any, fine, faulty, reading_in, reading}
use Rattle.tasks.proofs.Pass.{false-true, alone-is}
use Rattle.tasks.proofs.Trips.{rising}

-- ---- tests that passed

three : (a b c : Bool) → (a && (b && not c)) ≡ true → (a ≡ true) × (b ≡ true) × (c ≡ false)
three true true false q = (refl, refl, refl)
three true true true q = absurd (false-true q)
three true false c q = absurd (false-true q)
three false b c q = absurd (false-true q)

neither : (a b : Bool) → (a || b) ≡ false → (a ≡ false) × (b ≡ false)
neither false b q = (refl, q)
neither true b q = absurd (let z : ◌≡◌ {A = ℕ} 0 1 = cc in omega arith)

after-rises : (x z : Task) → rising x z ≡ true → Rises x z
after-rises x z e = go (dec_lt x.start z.start) (ℕ_discrete x.start z.start)
  where
    go : Dec (x.start < z.start) → Dec (x.start ≡ z.start) → Rises x z
    go (yes l) q = inl l
    go (no l) (yes q) = inr (q, ltb-true x.output z.output (rw (le-ltb x.start z.start (omega arith), eq-eqb x.start z.start q) at e))
    go (no l) (no q) = absurd (false-true (rw (le-ltb x.start z.start (omega arith), ne_eqb x.start z.start q) at e))

rises-trans : (x y z : Task) → Rises x y → Rises y z → Rises x z
rises-trans x y z (inl l) (inl m) = inl (omega arith)
rises-trans x y z (inl l) (inr m) = inl (omega (arith, m.0))
rises-trans x y z (inr l) (inl m) = inl (omega (arith, l.0))
rises-trans x y z (inr l) (inr m) = inr (l.0 ∙ m.0, omega (arith, l.1, m.1))

rises-start : (x y : Task) → Rises x y → x.start ≤ y.start
rises-start x y (inl l) = omega arith
rises-start x y (inr l) = omega (arith, l.0)

-- two tasks that overlap nowhere, the first of which starts before the other ends
overlap-apart : (x y : Task) → overlaps x y ≡ false → x.start < y.end → Apart x y
unfolding overlaps
overlap-apart x y e l = record { input = λ q. ltb-false y.start x.end (by-input q); output = λ q. ltb-false y.start x.end (by-output q) }
  where
    by-input : x.input ≡ y.input → ltb y.start x.end ≡ false
    by-input q = rw (eq-eqb x.input y.input q, lt-ltb x.start y.end l) at e

    either : (a b : Bool) → ((a || true) && b) ≡ false → b ≡ false
    either true b h = h
    either false b h = h

    by-output : x.output ≡ y.output → ltb y.start x.end ≡ false
    by-output q = either (eqb x.input y.input) (ltb y.start x.end) (rw (eq-eqb x.output y.output q, lt-ltb x.start y.end l) at e)

-- ---- all records

module _ (tasks : List ℕ) where
  abbrev at : ℕ → Task
  at k = task_of (record_at tasks k)

  -- what holds of each record, and of any two, holds of the tasks read
  each_from : (P : Task → Type 0) (m k : ℕ) → ((a : ℕ) → k ≤ a → a < k + m → P (at a)) → Each P (tasks_from tasks k m)
  unfolding tasks_from
  each_from P zero k h = none
  each_from P (suc m) k h = more (h k (omega arith) (omega arith)) (each_from P m (suc k) (λ a l u. h a (omega arith) (omega arith)))

  ordered-from : (R : Task → Task → Type 0) (m k : ℕ) → ((a b : ℕ) → k ≤ a → a < b → b < k + m → R (at a) (at b)) → Ordered R (tasks_from tasks k m)
  unfolding tasks_from
  ordered-from R zero k h = nothing
  ordered-from R (suc m) k h = before
      (each_from (R (at k)) m (suc k) (λ a l u. h k a (omega arith) (omega arith) (omega arith)))
      (ordered-from R m (suc k) (λ a b l u w. h a b (omega arith) u (omega arith)))

  clear_of : (k : ℕ) (y : Task) → overlaps_any tasks k y ≡ false → (a : ℕ) → a < k → overlaps (at a) y ≡ false
  unfolding overlaps_any
  clear_of zero y e a l = absurd (omega arith)
  clear_of (suc k) y e a l = go (ℕ_discrete a k) (clear_of k y both.0 a)
    where
      both : (overlaps_any tasks k y ≡ false) × (overlaps (at k) y ≡ false)
      both = neither (overlaps_any tasks k y) (overlaps (at k) y) e

      go : Dec (a ≡ k) → (a < k → overlaps (at a) y ≡ false) → overlaps (at a) y ≡ false
      go (yes q) deeper = rw q both.1
      go (no q) deeper = deeper (omega arith)

  module _ (N m : ℕ) (all : (k : ℕ) → k < m → fine N tasks k ≡ true) where
    tests : (k : ℕ) → k < m → (alone N (record_at tasks k) ≡ true) × (after tasks k (at k) ≡ true) × (overlaps_any tasks k (at k) ≡ false)
    unfolding fine
    tests k l = three (alone N (record_at tasks k)) (after tasks k (at k)) (overlaps_any tasks k (at k)) (all k l)

    fair : (k : ℕ) → k < m → Fair N (at k)
    fair k l = let r = alone-is N (record_at tasks k) (tests k l).0 in record { input-in = r.0; output-in = r.1; forward = r.2 }

    rise : (a b : ℕ) → a < b → b < m → Rises (at a) (at b)
    unfolding after
    rise a zero l u = absurd (omega arith)
    rise a (suc b) l u = go (ℕ_discrete a b) (after-rises (at b) (at (suc b)) (tests (suc b) u).1) (rise a b)
      where
        go : Dec (a ≡ b) → Rises (at b) (at (suc b)) → (a < b → b < m → Rises (at a) (at b)) → Rises (at a) (at (suc b))
        go (yes q) r deeper = rw q r
        go (no q) r deeper = rises-trans (at a) (at b) (at (suc b)) (deeper (omega arith) (omega arith)) r

    apart : (a b : ℕ) → a < b → b < m → Apart (at a) (at b)
    apart a b l u = overlap-apart (at a) (at b) (clear_of b (at b) (tests b u).2 a l) (omega (arith, rises-start (at a) (at b) (rise a b l u), (fair b u).forward))

-- ---- the call

module _ (N : ℕ) (tasks : List ℕ) where
  tasks-length : (m k : ℕ) → length (tasks_from tasks k m) ≡ m
  unfolding tasks_from
  tasks-length zero k = refl
  tasks-length (suc m) k = ap suc (tasks-length m (suc k))

  -- the scan passed every record
  scanned : (m k : ℕ) → k + m ≤ faulty N tasks m k → (a : ℕ) → k ≤ a → a < k + m → fine N tasks a ≡ true
  unfolding faulty
  scanned zero k e a l u = absurd (omega arith)
  scanned (suc m) k e a l u = go (fine N tasks k) refl (scanned m (suc k))
    where
      go : (b : Bool) → fine N tasks k ≡ b → (suc k + m ≤ faulty N tasks m (suc k) → (a : ℕ) → suc k ≤ a → a < suc k + m → fine N tasks a ≡ true) → fine N tasks a ≡ true
      go false q deeper = absurd (let f : k + suc m ≤ cond false (faulty N tasks m (suc k)) k = rw q at e in let g : ⊥ = omega arith in g)
      go true q deeper = here (ℕ_discrete a k)
        where
          here : Dec (a ≡ k) → fine N tasks a ≡ true
          here (yes r) = rw r q
          here (no r) = deeper (let f : k + suc m ≤ cond true (faulty N tasks m (suc k)) k = rw q at e in omega arith) a (omega arith) (omega arith)

  -- a call that is done was refused by no test
  done : (b : Bool) (r : Refusal) (o : Outcome) (c : Counts) → cond b o (Err r) ≡ Ok c → (b ≡ true) × (o ≡ Ok c)
  done true r o c e = (refl, e)
  done false r o c e = absurd (let z : ◌≡◌ {A = ℕ} 0 1 = cc in omega arith)

  ports : ports_fine 64 N ≡ true → (0 < N) × (N ≤ 64)
  unfolding ports_fine
  ports e = let r = both (ltb 0 N) (leb N 64) e in (ltb-true 0 N r.0, leb-true N 64 r.1)
    where
      both : (a b : Bool) → (a && b) ≡ true → (a ≡ true) × (b ≡ true)
      both true b q = (refl, q)
      both false b q = absurd (false-true q)

  pub accepted : (c : Counts) → reading N tasks ≡ Ok c → Accepts N tasks c
  unfolding reading reading_in
  accepted c e =
      let m = length tasks / 12 in
      let p = done (ports_fine 64 N) _ _ c e in
      let w = done (eqb (length tasks % 12) 0) _ _ c p.1 in
      let j = done (leb m (faulty N tasks m 0)) _ _ c w.1 in
      let all : (k : ℕ) → k < m → fine N tasks k ≡ true = λ k l. scanned m 0 (omega (arith, leb-true m (faulty N tasks m 0) j.0)) k (omega arith) (omega arith) in
      record {
        some = (ports p.0).0;
        few = (ports p.0).1;
        whole = eqb-true (length tasks % 12) 0 w.0;
        fair = each_from tasks (Fair N) m 0 (λ a _ u. fair tasks N m all a (omega arith));
        rising = ordered-from tasks Rises m 0 (λ a b _ l u. rise tasks N m all a b l (omega arith));
        apart = ordered-from tasks Apart m 0 (λ a b _ l u. apart tasks N m all a b l (omega arith));
        counts = same (sym j.1) ∙ ap (λ (k : ℕ). plan_counts k 0 (latest (tasks_of tasks))) (sym (tasks-length m 0));
      }
    where
      same : {x y : Counts} → ◌≡◌ {A = Outcome} (Ok x) (Ok y) → x ≡ y
      same q = cc

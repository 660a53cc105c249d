-- A schedule written and read again is the same; one that rises, no port with two tasks at a time, passes the reader with its own counts.
use Rattle.std.specs.Prelude.{Ok}
use mathlib.Core.Path.{◌≡◌, refl, sym, ap, ap₂, ◌∙◌, subst}
use mathlib.Core.Logic.{inl, inr}
use mathlib.Core.Bool.{Bool, true, false, ◌&&◌, ◌||◌, and-false}
use mathlib.Core.List.{List, [], ◌∷◌, ◌++◌}
use Prim.Native.Nat.{ℕ, zero, suc, ◌+◌, ◌*◌, ◌/◌, ◌%◌, ◌<◌, ◌≤◌}
use native.Mathlib.Decide.{ℕ_discrete, dec_lt}
use native.Mathlib.Omega.{arith}
use lib.ListN.{length, take, drop}
use lib.Seq.{drop-drop}
use lib.Dec.{ltb, eqb}
use borrow.Author.Tests.{lt-ltb, le-ltb, eq-eqb, ne_eqb}
use Rattle.numbers.specs.Word.{word}
use Rattle.switch.specs.Answer.{plan_counts}
use Rattle.shop_rule.specs.Task.{Task, Each, none, more, Ordered, nothing, before, Rises, Apart, latest}
use Rattle.tasks.specs.Bytes.{task_of, encode, bytes, record_at, tasks_from}
use Rattle.tasks.specs.Read.{Fair, alone, after, overlaps, overlaps_any, fine, faulty, reading}
use Rattle.tasks.proofs.Read.{reading-done}

or-false : (a : Bool) → (a || false) ≡ a
or-false true = refl
or-false false = refl

or_assoc : (a b c : Bool) → ((a || b) || c) ≡ (a || (b || c))
or_assoc true b c = refl
or_assoc false b c = refl

-- ---- one record

four-back : (x : ℕ) → x < 4294967296 → x % 256 + 256 * (x / 256 % 256) + 65536 * (x / 65536 % 256) + 16777216 * (x / 16777216) ≡ x
four-back x l = omega arith

-- z starts after x, or with it at a higher output
abbrev pub rising : Task → Task → Bool
rising x z = ltb x.start z.start || (eqb x.start z.start && ltb x.output z.output)

-- a task whose times fit four bytes
pub record Small (y : Task) : Type 0 where
  pub start : y.start < 4294967296
  pub end : y.end < 4294967296

task-back : (y : Task) → Small y → task_of (encode y) ≡ y
unfolding word
task-back y s = ap₂ (λ (a b : ℕ). record { input = y.input; output = y.output; start = a; end = b }) (four-back y.start s.start) (four-back y.end s.end)

-- ---- one after the other

pub bytes-size : (p : List Task) → length (bytes p) ≡ 12 * length p
unfolding bytes
bytes-size [] = refl
bytes-size (y ∷ p) = omega (arith, bytes-size p)

pub bytes-last : (p : List Task) (y : Task) → bytes (p ++ (y ∷ [])) ≡ bytes p ++ encode y
unfolding bytes
bytes-last [] y = refl
bytes-last (x ∷ p) y = ap (λ (s : List ℕ). encode x ++ s) (bytes-last p y)

module _ (y : Task) (p : List Task) where
  first-record : record_at (bytes (y ∷ p)) 0 ≡ encode y
  unfolding bytes
  first-record = refl

  next-record : (k : ℕ) → record_at (bytes (y ∷ p)) (suc k) ≡ record_at (bytes p) k
  unfolding bytes
  next-record k =
      let e : suc k * 12 ≡ 12 + k * 12 = omega arith in
      ap (λ (n : ℕ). take 12 (drop n (encode y ++ bytes p))) e ∙ ap (take 12) (sym (drop-drop (k * 12) 12 (encode y ++ bytes p)))

  next-tasks : (m k : ℕ) → tasks_from (bytes (y ∷ p)) (suc k) m ≡ tasks_from (bytes p) k m
  unfolding tasks_from
  next-tasks zero k = refl
  next-tasks (suc m) k = ap₂ ◌∷◌ (ap task_of (next-record k)) (next-tasks m (suc k))

  -- the first task is one more that a later one may overlap, or rise from
  next-overlaps : (z : Task) (k : ℕ) → Small y → overlaps_any (bytes (y ∷ p)) (suc k) z ≡ (overlaps y z || overlaps_any (bytes p) k z)
  unfolding overlaps_any
  next-overlaps z zero s = ap (λ (x : Task). overlaps x z) (ap task_of first-record ∙ task-back y s) ∙ sym (or-false (overlaps y z))
  next-overlaps z (suc k) s =
      ap₂ ◌||◌ (next-overlaps z k s) (ap (λ (r : List ℕ). overlaps (task_of r) z) (next-record k))
      ∙ or_assoc (overlaps y z) (overlaps_any (bytes p) k z) (overlaps (task_of (record_at (bytes p) k)) z)

  next-after : (z : Task) (k : ℕ) → after (bytes (y ∷ p)) (suc (suc k)) z ≡ after (bytes p) (suc k) z
  unfolding after
  next-after z k = ap (λ (r : List ℕ). rising (task_of r) z) (next-record k)

-- written and read again
pub tasks-back : {p : List Task} → Each Small p → tasks_from (bytes p) 0 (length p) ≡ p
unfolding tasks_from
tasks-back none = refl
tasks-back (more {x = y} {p = p} s e) = ap₂ ◌∷◌ (ap task_of (first-record y p) ∙ task-back y s) (next-tasks y p (length p) 0 ∙ tasks-back e)

-- what holds of each task holds of that of record k
each_at : {P : Task → Type 0} {p : List Task} → Each Small p → Each P p → (k : ℕ) → k < length p → P (task_of (record_at (bytes p) k))
each_at none none k l = absurd (omega arith)
each_at {P} (more {x = y} {p = p} s ss) (more a es) zero l = subst P (sym (ap task_of (first-record y p) ∙ task-back y s)) a
each_at {P} (more {x = y} {p = p} s ss) (more a es) (suc k) l = subst P (sym (ap task_of (next-record y p k))) (each_at ss es k (omega arith))

-- ---- the rules

alone-fair : (N : ℕ) (y : Task) → Fair N y → Small y → alone N (encode y) ≡ true
unfolding alone word
alone-fair N y f s =
    rw (lt-ltb _ _ f.input-in, lt-ltb _ _ f.output-in, four-back y.start s.start, four-back y.end s.end, lt-ltb _ _ f.forward)

apart-overlaps : (x y : Task) → Apart x y → overlaps x y ≡ false
unfolding overlaps
apart-overlaps x y a = go (dec_lt y.start x.end) (ℕ_discrete x.input y.input) (ℕ_discrete x.output y.output)
  where
    go : Dec (y.start < x.end) → Dec (x.input ≡ y.input) → Dec (x.output ≡ y.output)
        → ((eqb x.input y.input || eqb x.output y.output) && (ltb x.start y.end && ltb y.start x.end)) ≡ false
    go (yes l) (yes e) f = absurd (omega (arith, a.input e))
    go (yes l) (no e) (yes f) = absurd (omega (arith, a.output f))
    go (yes l) (no e) (no f) = rw (ne_eqb _ _ e, ne_eqb _ _ f)
    go (no l) e f = rw (le-ltb y.start x.end (omega arith), and-false, and-false)

rises-after : (x z : Task) → Rises x z → rising x z ≡ true
rises-after x z (inl l) = rw (lt-ltb _ _ l)
rises-after x z (inr q) = rw (le-ltb x.start z.start (omega (arith, q.0)), eq-eqb _ _ q.0, lt-ltb _ _ q.1)

-- what the three rules say of the task z of record k
record Kept (N : ℕ) (tasks : List ℕ) (k : ℕ) : Type 0 where
  own : alone N (record_at tasks k) ≡ true
  rises : after tasks k (task_of (record_at tasks k)) ≡ true
  clear : overlaps_any tasks k (task_of (record_at tasks k)) ≡ false

kept_fine : (N : ℕ) (tasks : List ℕ) (k : ℕ) → Kept N tasks k → fine N tasks k ≡ true
unfolding fine
kept_fine N tasks k h = rw (h.own, h.rises, h.clear)

module _ (N : ℕ) where
  -- a task behind the others, y the first of all
  next-kept : (y : Task) (p : List Task) (k : ℕ) → Small y → Rises y (task_of (record_at (bytes p) k)) → Apart y (task_of (record_at (bytes p) k))
      → Kept N (bytes p) k → Kept N (bytes (y ∷ p)) (suc k)
  unfolding after
  next-kept y p k s r a h = record {
    own = ap (alone N) (next-record y p k) ∙ h.own;
    rises = ap (λ (b : List ℕ). after (bytes (y ∷ p)) (suc k) (task_of b)) (next-record y p k) ∙ rises k (task_of (record_at (bytes p) k)) r h.rises;
    clear =
        ap (λ (b : List ℕ). overlaps_any (bytes (y ∷ p)) (suc k) (task_of b)) (next-record y p k)
        ∙ next-overlaps y p (task_of (record_at (bytes p) k)) k s
        ∙ ap₂ ◌||◌ (apart-overlaps y (task_of (record_at (bytes p) k)) a) h.clear;
  }
    where
      rises : (k : ℕ) (z : Task) → Rises y z → after (bytes p) k z ≡ true → after (bytes (y ∷ p)) (suc k) z ≡ true
      rises zero z u v = ap (λ (x : Task). rising x z) (ap task_of (first-record y p) ∙ task-back y s) ∙ rises-after y z u
      rises (suc k) z u v = next-after y p z k ∙ v

  all-kept : (p : List Task) → Each Small p → Each (Fair N) p → Ordered Rises p → Ordered Apart p → (k : ℕ) → k < length p → Kept N (bytes p) k
  unfolding after overlaps_any
  all-kept [] none none nothing nothing k l = absurd (omega arith)
  all-kept (y ∷ p) (more s ss) (more f fs) (before r rs) (before a os) zero l =
      record { own = ap (alone N) (first-record y p) ∙ alone-fair N y f s; rises = refl; clear = refl }
  all-kept (y ∷ p) (more s ss) (more f fs) (before r rs) (before a os) (suc k) l =
      next-kept y p k s (each_at ss r k (omega arith)) (each_at ss a k (omega arith)) (all-kept p ss fs rs os k (omega arith))

  none-faulty : (tasks : List ℕ) (m k : ℕ) → ((j : ℕ) → j < m → fine N tasks (k + j) ≡ true) → faulty N tasks m k ≡ k + m
  unfolding faulty
  none-faulty tasks zero k h = omega arith
  none-faulty tasks (suc m) k h =
      let e : k + 0 ≡ k = omega arith in
      rw (rw e at (h 0 (omega arith))) (none-faulty tasks m (suc k) (λ j l. let w : suc k + j ≡ k + suc j = omega arith in rw w (h (suc j) (omega arith))) ∙ (let w : suc k + m ≡ k + suc m = omega arith in w))

  -- what is written is read with the counts that it was written with
  pub written-reads : (p : List Task) → 0 < N → N ≤ 64 → Each Small p → Each (Fair N) p → Ordered Rises p → Ordered Apart p
      → reading N (bytes p) ≡ Ok (plan_counts (length p) 0 (latest p))
  written-reads p some few ss fs rs os =
      let size : length (bytes p) / 12 ≡ length p = omega (arith, bytes-size p) in
      let scan : faulty N (bytes p) (length p) 0 ≡ length p = none-faulty (bytes p) (length p) 0 (λ j l. let w : 0 + j ≡ j = omega arith in rw w (kept_fine N (bytes p) j (all-kept p ss fs rs os j l))) ∙ (let w : 0 + length p ≡ length p = omega arith in w) in
      sym (subst (λ (m : ℕ). Ok (plan_counts m 0 (latest p)) ≡ reading N (bytes p)) size
      (reading-done N (bytes p) some few (omega (arith, bytes-size p)) (latest p) (rw size (scan, sym (ap latest (tasks-back ss))))))

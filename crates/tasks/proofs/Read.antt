-- Reading case by case: record k is the part of the bytes from 12 × k on, and a record that breaks no rule leaves the scan to the later ones.
use Rattle.std.specs.Prelude.{Err, Ok}
use mathlib.Core.Path.{◌≡◌, refl, sym, ap, ◌∙◌}
use mathlib.Core.Bool.{Bool, true, false}
use mathlib.Core.List.{List, []}
use Prim.Native.Nat.{ℕ, zero, suc, ◌+◌, ◌*◌, ◌-◌, ◌/◌, ◌%◌, ◌<◌, ◌≤◌, max}
use native.Mathlib.Nat.{not-suc-le-zero, le_of_suc-le-suc}
use native.Mathlib.Numerals.{add-one}
use native.Mathlib.Omega.{arith}
use lib.ListN.{length, get_or, take, drop}
use lib.Seq.{drop-drop}
use Rattle.std.specs.Simd.{first_chunks}
use borrow.Author.Tests.{lt-leb, le-leb, eq-eqb, ne_eqb}
use Rattle.numbers.specs.Word.{word}
use Rattle.switch.specs.declared.Refusal.{Refusal}
use Rattle.switch.specs.declared.Refusal.TheVariants.{Ports, Torn}
use Rattle.switch.specs.Answer.{plan_counts}
use Rattle.switch.specs.Check.{ports_fine}
use Rattle.switch.proofs.Check.{some-ports}
use Rattle.shop_rule.specs.Task.{latest}
use Rattle.tasks.specs.Bytes.{record_at, tasks_from}
use Rattle.tasks.specs.Read.{fits, fine, faulty, reading_in, reading, Judges}

-- ---- a record's bytes

-- record k as the library cuts it
part-record : (m : ℕ) (tasks : List ℕ) (k : ℕ) → k < m → get_or (first_chunks 12 m tasks) k [] ≡ record_at tasks k
part-record zero tasks k l = absurd (not-suc-le-zero l)
part-record (suc m) tasks zero l = refl
part-record (suc m) tasks (suc k) l =
    part-record m (drop 12 tasks) k (le_of_suc-le-suc l)
    ∙ ap (λ (d : List ℕ). take 12 d) (drop-drop (k * 12) 12 tasks ∙ ap (λ (i : ℕ). drop i tasks) (let e : 12 + k * 12 ≡ suc k * 12 = omega arith in e))

module _ (tasks : List ℕ) (k : ℕ) (records : List (List ℕ)) (e : records ≡ first_chunks 12 (length tasks / 12) tasks) (l : k < length tasks / 12) where
  pub cut : get_or records k [] ≡ record_at tasks k
  cut = rw e (part-record (length tasks / 12) tasks k l)

  -- so its bytes are the record's
  pub byte : (i : ℕ) → get_or (get_or records k []) i 0 ≡ get_or (record_at tasks k) i 0
  byte i = ap (λ (r : List ℕ). get_or r i 0) cut

  pub four : (i : ℕ) → word (get_or records k []) i ≡ word (record_at tasks k) i
  four i = ap (λ (r : List ℕ). word r i) cut

  pub fits_cut : (N s o : ℕ) (ins outs : List ℕ) (r : Bool) → r ≡ fits N (get_or records k []) s o ins outs → fits N (record_at tasks k) s o ins outs ≡ r
  fits_cut N s o ins outs r f = sym (f ∙ ap (λ (b : List ℕ). fits N b s o ins outs) cut)

-- ---- the scan for the first record that breaks a rule

module _ (N : ℕ) (tasks : List ℕ) where
  pub scan-stop : (m k : ℕ) → k < m → fine N tasks k ≡ false → faulty N tasks (m - k) k ≡ k
  unfolding faulty
  scan-stop m k l w = let s : m - k ≡ suc (m - suc k) = omega arith in rw (s, w)

  pub scan-more : (m k : ℕ) → k < m → fine N tasks k ≡ true → faulty N tasks (m - k) k ≡ faulty N tasks (m - (k + 1)) (k + 1)
  unfolding faulty
  scan-more m k l w = let s : m - k ≡ suc (m - suc k) = omega arith in rw (add-one, s, w)

  pub scan-end : (m k : ℕ) → m ≤ k → faulty N tasks (m - k) k ≡ k
  unfolding faulty
  scan-end m k l = let s : m - k ≡ 0 = omega arith in rw s

-- ---- the latest end

module _ (tasks : List ℕ) where
  pub latest-more : (m k : ℕ) → k < m → latest (tasks_from tasks k (m - k)) ≡ max (word (record_at tasks k) 8) (latest (tasks_from tasks (k + 1) (m - (k + 1))))
  unfolding latest tasks_from
  latest-more m k l = let s : m - k ≡ suc (m - suc k) = omega arith in rw (add-one, s)

  pub latest-none : (m k : ℕ) → m ≤ k → latest (tasks_from tasks k (m - k)) ≡ 0
  unfolding latest tasks_from
  latest-none m k l = let s : m - k ≡ 0 = omega arith in rw s

-- ---- the whole call

module _ (N : ℕ) (tasks : List ℕ) where
  pub reading-ports : ports_fine 64 N ≡ false → Err Ports ≡ reading N tasks
  unfolding reading
  reading-ports e = rw e

  module _ (some : 0 < N) (few : N ≤ 64) where
    pub reading-torn : (length tasks % 12 ≡ 0 → ⊥) → Err (Torn (length tasks / 12)) ≡ reading N tasks
    unfolding reading
    reading-torn t = rw (some-ports _ _ some few, ne_eqb _ _ t)

    module _ (even : length tasks % 12 ≡ 0) where
      pub reading-faulty : (r : Refusal) → Judges N tasks (Err r) → Err r ≡ reading N tasks
      unfolding reading reading_in
      reading-faulty r (e, l) = rw (e, some-ports _ _ some few, eq-eqb _ _ even, lt-leb _ _ l)

      pub reading-done : (t : ℕ) → Judges N tasks (Ok t) → Ok (plan_counts (length tasks / 12) 0 t) ≡ reading N tasks
      unfolding reading reading_in
      reading-done t (e, s) = rw (some-ports _ _ some few, eq-eqb _ _ even, e, le-leb (length tasks / 12) (length tasks / 12) (omega arith), ← s)

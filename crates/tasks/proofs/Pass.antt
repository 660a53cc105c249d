-- One latest end for each port decides what overlaps: starts rise, so an earlier task that shares a port with a later one overlaps it just
-- where it ends after that one starts; and each task that passed ends after all before it on its ports.
use mathlib.Core.Path.{◌≡◌, refl, sym, ap, ◌∙◌}
use mathlib.Core.Bool.{Bool, true, false, ◌&&◌, ◌||◌, not}
use mathlib.Core.List.{List}
use Prim.Native.Nat.{ℕ, zero, suc, ◌+◌, ◌≤◌, ◌<◌}
use native.Mathlib.Decide.{ℕ_discrete, dec_lt}
use native.Mathlib.Numerals.{add-one}
use native.Mathlib.Omega.{arith}
use lib.ListN.{length, get_or, set, replicate}
use lib.Seq.{get_or-set_same, get_or-set_other}
use lib.Dec.{ltb, leb, eqb}
use borrow.Author.Tests.{ltb-true, ltb-false, lt-ltb, le-ltb, le-leb, eq-eqb, ne_eqb}
use Rattle.numbers.specs.Word.{word}
use Rattle.shop_rule.specs.Task.{Task}
use Rattle.tasks.specs.Bytes.{task_of, record_at}
use Rattle.tasks.specs.Read.{alone, after, overlaps, overlaps_any, fine, follows, fits}

-- ---- tests of tests

pub false-true : false ≡ true → ⊥
false-true q = let z : ◌≡◌ {A = ℕ} 0 1 = cc in omega arith

-- a record's own tests, of which the spare bytes' are left out
five : (a b c d e : Bool) → (a && (b && (c && (d && e)))) ≡ true → (a ≡ true) × (b ≡ true) × (e ≡ true)
five true true true true e q = (refl, refl, q)
five true true true false e q = absurd (false-true q)
five true true false d e q = absurd (false-true q)
five true false c d e q = absurd (false-true q)
five false b c d e q = absurd (false-true q)

-- all tests, of which the last two must fail
four : (a b c d : Bool) → (a && (b && not (c || d))) ≡ true → (a ≡ true) × (b ≡ true) × (c ≡ false) × (d ≡ false)
four true true false false q = (refl, refl, refl, refl)
four true true false true q = absurd (false-true q)
four true true true d q = absurd (false-true q)
four true false c d q = absurd (false-true q)
four false b c d q = absurd (false-true q)

-- what stands behind a test matters only where it passes
and-cong : (a : Bool) {b c : Bool} → (a ≡ true → b ≡ c) → (a && b) ≡ (a && c)
and-cong true h = h refl
and-cong false h = refl

-- an earlier task's end z counts for its input (a) and its output (b), where p and q are what stood there and p' and q' what stands there now
module _ (b z : Bool) {p q a p' q' : Bool} where
  shared : p ≡ false → q ≡ false → a ≡ true → p' ≡ z → q' ≡ z → ((p || q) || ((a || b) && z)) ≡ (p' || q')
  shared hp hq ha e f = rw (hp, hq, ha, e, f) (both z)
    where
      both : (z : Bool) → z ≡ (z || z)
      both true = refl
      both false = refl

  first : p ≡ false → a ≡ true → p' ≡ z → q' ≡ q → ((p || q) || ((a || b) && z)) ≡ (p' || q')
  first hp ha e f = rw (hp, ha, e, f) (swap q z)
    where
      swap : (q z : Bool) → (q || z) ≡ (z || q)
      swap true true = refl
      swap true false = refl
      swap false true = refl
      swap false false = refl

  second : q ≡ false → a ≡ false → b ≡ true → p' ≡ p → q' ≡ z → ((p || q) || ((a || b) && z)) ≡ (p' || q')
  second hq ha hb e f = rw (hq, ha, hb, e, f) (go p z)
    where
      go : (p z : Bool) → ((p || false) || z) ≡ (p || z)
      go true z = refl
      go false z = refl

  neither : a ≡ false → b ≡ false → p' ≡ p → q' ≡ q → ((p || q) || ((a || b) && z)) ≡ (p' || q')
  neither ha hb e f = rw (ha, hb, e, f) (go p q)
    where
      go : (p q : Bool) → ((p || q) || false) ≡ (p || q)
      go true q = refl
      go false true = refl
      go false false = refl

follows-le : (s o start output : ℕ) → follows s o start output ≡ true → s ≤ start
unfolding follows
follows-le s o start output e = go (dec_lt s start) (ℕ_discrete s start)
  where
    go : Dec (s < start) → Dec (s ≡ start) → s ≤ start
    go (yes l) q = omega arith
    go (no l) (yes q) = omega arith
    go (no l) (no q) =
        let f : (ltb s start || (eqb s start && leb o output)) ≡ false = rw (le-ltb s start (omega arith), ne_eqb s start q) in
        absurd (false-true (sym f ∙ e))

-- ---- a record that fits

-- what is known of one
pub record Fit (N : ℕ) (b : List ℕ) (s : ℕ) (ins outs : List ℕ) : Type 0 where
  pub input-in : get_or b 0 0 < N
  pub output-in : get_or b 1 0 < N
  pub forward : word b 4 < word b 8
  pub rises : s ≤ word b 4
  pub input-free : get_or ins (get_or b 0 0) 0 ≤ word b 4
  pub output-free : get_or outs (get_or b 1 0) 0 ≤ word b 4

pub alone-is : (N : ℕ) (b : List ℕ) → alone N b ≡ true → (get_or b 0 0 < N) × (get_or b 1 0 < N) × (word b 4 < word b 8)
unfolding alone
alone-is N b e =
    let r = five (ltb (get_or b 0 0) N) (ltb (get_or b 1 0) N) (eqb (get_or b 2 0) 0) (eqb (get_or b 3 0) 0) (ltb (word b 4) (word b 8)) e in
    (ltb-true (get_or b 0 0) N r.0, ltb-true (get_or b 1 0) N r.1, ltb-true (word b 4) (word b 8) r.2)

pub fit_is : (N : ℕ) (b : List ℕ) (s o : ℕ) (ins outs : List ℕ) → fits N b s o ins outs ≡ true → Fit N b s ins outs
unfolding fits
fit_is N b s o ins outs e =
    let r = four (alone N b) (follows s o (word b 4) (get_or b 1 0)) (ltb (word b 4) (get_or ins (get_or b 0 0) 0)) (ltb (word b 4) (get_or outs (get_or b 1 0) 0)) e in
    let a = alone-is N b r.0 in
    record {
      input-in = a.0;
      output-in = a.1;
      forward = a.2;
      rises = follows-le s o (word b 4) (get_or b 1 0) r.1;
      input-free = ltb-false (word b 4) (get_or ins (get_or b 0 0) 0) r.2;
      output-free = ltb-false (word b 4) (get_or outs (get_or b 1 0) 0) r.3;
    }

-- ---- what is kept decides

-- k records passed, the last at start s with an output below o; ins and outs are the latest ends
pub record Passed (tasks : List ℕ) (k s o : ℕ) (ins outs : List ℕ) : Type 0 where
  pub rises : (y : Task) → after tasks k y ≡ follows s o y.start y.output
  pub clear : (y : Task) → s ≤ y.start → y.start < y.end → overlaps_any tasks k y ≡ (ltb y.start (get_or ins y.input 0) || ltb y.start (get_or outs y.output 0))

pub get_or-zeros : (n i : ℕ) → ◌≡◌ {A = ℕ} (get_or (replicate n 0) i 0) 0
get_or-zeros zero i = refl
get_or-zeros (suc n) zero = refl
get_or-zeros (suc n) (suc i) = get_or-zeros n i

pub passed_none : (tasks : List ℕ) (n : ℕ) → Passed tasks 0 0 0 (replicate n 0) (replicate n 0)
unfolding after follows overlaps_any
passed_none tasks n = record {
  rises = λ y. rises y.start y.output;
  clear = λ y _ _. rw (get_or-zeros n y.input, get_or-zeros n y.output, le-ltb y.start 0 (omega arith));
}
  where
    rises : (a b : ℕ) → true ≡ (ltb 0 a || (eqb 0 a && leb 0 b))
    rises zero b = rw (le-leb 0 b (omega arith)) refl
    rises (suc a) b = rw (lt-ltb 0 (suc a) (omega arith)) refl

module _ (N : ℕ) (tasks : List ℕ) (k s o : ℕ) (ins outs : List ℕ) (p : Passed tasks k s o ins outs) where
  abbrev b : List ℕ
  b = record_at tasks k

  -- the record breaks a rule just where it does not fit
  pub passed-fine : fine N tasks k ≡ fits N b s o ins outs
  unfolding fine fits
  passed-fine = and-cong (alone N b) (λ a.
      ap (λ (t : Bool). t && not (overlaps_any tasks k (task_of b))) (p.rises (task_of b))
      ∙ and-cong (follows s o (word b 4) (get_or b 1 0)) (λ f. ap not (p.clear (task_of b) (follows-le s o (word b 4) (get_or b 1 0) f) (alone-is N b a).2)))

  -- and where it fits, its ends are the latest on its ports
  module _ (f : Fit N b s ins outs) (li : get_or b 0 0 < length ins) (lj : get_or b 1 0 < length outs) where
    abbrev i : ℕ
    i = get_or b 0 0

    abbrev j : ℕ
    j = get_or b 1 0

    abbrev e : ℕ
    e = word b 8

    clear : (y : Task) → word b 4 ≤ y.start → y.start < y.end
        → overlaps_any tasks (suc k) y ≡ (ltb y.start (get_or (set ins i e) y.input 0) || ltb y.start (get_or (set outs j e) y.output 0))
    unfolding overlaps_any overlaps
    clear y l m =
        ap (λ (t : Bool). t || overlaps (task_of b) y) (p.clear y (omega (arith, f.rises)) m)
        ∙ rw (lt-ltb (word b 4) y.end (omega arith)) (go (ℕ_discrete y.input i) (ℕ_discrete y.output j))
      where
        in-free : y.input ≡ i → ltb y.start (get_or ins y.input 0) ≡ false
        in-free u = le-ltb y.start (get_or ins y.input 0) (omega (arith, f.input-free, ap (λ x. get_or ins x 0) u))

        out-free : y.output ≡ j → ltb y.start (get_or outs y.output 0) ≡ false
        out-free w = le-ltb y.start (get_or outs y.output 0) (omega (arith, f.output-free, ap (λ x. get_or outs x 0) w))

        in-new : y.input ≡ i → ltb y.start (get_or (set ins i e) y.input 0) ≡ ltb y.start e
        in-new u = ap (λ x. ltb y.start x) (ap (λ x. get_or (set ins i e) x 0) u ∙ get_or-set_same ins i e 0 li)

        out-new : y.output ≡ j → ltb y.start (get_or (set outs j e) y.output 0) ≡ ltb y.start e
        out-new w = ap (λ x. ltb y.start x) (ap (λ x. get_or (set outs j e) x 0) w ∙ get_or-set_same outs j e 0 lj)

        in-old : (y.input ≡ i → ⊥) → ltb y.start (get_or (set ins i e) y.input 0) ≡ ltb y.start (get_or ins y.input 0)
        in-old u = ap (λ x. ltb y.start x) (get_or-set_other ins i y.input e 0 u)

        out-old : (y.output ≡ j → ⊥) → ltb y.start (get_or (set outs j e) y.output 0) ≡ ltb y.start (get_or outs y.output 0)
        out-old w = ap (λ x. ltb y.start x) (get_or-set_other outs j y.output e 0 w)

        go : Dec (y.input ≡ i) → Dec (y.output ≡ j)
            → ((ltb y.start (get_or ins y.input 0) || ltb y.start (get_or outs y.output 0)) || ((eqb i y.input || eqb j y.output) && (true && ltb y.start e)))
            ≡ (ltb y.start (get_or (set ins i e) y.input 0) || ltb y.start (get_or (set outs j e) y.output 0))
        go (yes u) (yes w) = shared (eqb j y.output) (ltb y.start e) (in-free u) (out-free w) (eq-eqb i y.input (sym u)) (in-new u) (out-new w)
        go (yes u) (no w) = first (eqb j y.output) (ltb y.start e) (in-free u) (eq-eqb i y.input (sym u)) (in-new u) (out-old w)
        go (no u) (yes w) = second (eqb j y.output) (ltb y.start e) (out-free w) (ne_eqb i y.input (λ z. u (sym z))) (eq-eqb j y.output (sym w)) (in-old u) (out-new w)
        go (no u) (no w) = neither (eqb j y.output) (ltb y.start e) (ne_eqb i y.input (λ z. u (sym z))) (ne_eqb j y.output (λ z. w (sym z))) (in-old u) (out-old w)

    next : Passed tasks (k + 1) (word b 4) (j + 1) (set ins i e) (set outs j e)
    unfolding after follows
    next = rw (add-one k) (record { rises = λ y. rw (add-one j) refl; clear = clear })

    -- as the code has them
    pub passed-next : (u v w t : ℕ) → u ≡ i → v ≡ j → w ≡ e → t ≡ word b 4 → Passed tasks (k + 1) t (v + 1) (set ins u w) (set outs v w)
    passed-next u v w t p q r m = rw (p, q, r, m) next

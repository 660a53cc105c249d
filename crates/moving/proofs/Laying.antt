-- Moving record by record: the records moved and those that are left together are always the whole plan.
use mathlib.Core.Path.{◌≡◌, refl, sym, ap, ap₂, ◌∙◌, subst}
use mathlib.Core.List.{List, ◌∷◌, ◌++◌}
use Prim.Native.Nat.{ℕ, zero, suc, ◌+◌, ◌*◌, ◌-◌, ◌<◌, ◌≤◌}
use native.Mathlib.Omega.{arith}
use native.Mathlib.Numerals.{add-one}
use lib.ListN.{length, take, drop, replicate, length-take, length-drop}
use lib.Seq.{take-append-add}
use Rattle.switch.specs.declared.Edition.{Edition}
use Rattle.switch.specs.Editions.{Bounded}
use Rattle.switch.specs.Plan.{Record}
use Rattle.switch.specs.Sound.{Each, none, more, OfWidth}
use Rattle.records.specs.Record.{decoded, hold, outputs}
use Rattle.records.specs.Bytes.{encode, record_at, whole, plan_from, bytes, laid}
use Rattle.records.proofs.Bytes.{bytes-size}
use Rattle.records.proofs.Part.{whole-fits, record-fits, record-size}
use Rattle.records.proofs.Written.{Written, written_none, written_all, written-room, written_next}
use Rattle.plans.proofs.Plans.{length-plan}
use Rattle.moving.specs.Move.{moved_record, moved_plan, Moving}
use Rattle.moving.proofs.Moved.{moved-hold, moved-width, length_moved}

-- the outputs of the N inputs laid over idle ones, as many as a record has
drop-idle : (m n : ℕ) → drop {A = ℕ} n (replicate m 255) ≡ replicate (m - n) 255
drop-idle m zero = ap (λ (k : ℕ). replicate k 255) (let e : m ≡ m - 0 = omega arith in e)
drop-idle zero (suc n) = ap (λ (k : ℕ). replicate k 255) (let e : 0 ≡ 0 - suc n = omega arith in e)
drop-idle (suc m) (suc n) = drop-idle m n ∙ ap (λ (k : ℕ). replicate k 255) (let e : m - n ≡ suc m - suc n = omega arith in e)

take-idle : (m n : ℕ) → n ≤ m → take {A = ℕ} n (replicate m 255) ≡ replicate n 255
take-idle m zero l = refl
take-idle zero (suc n) l = absurd (let f : ⊥ = omega arith in f)
take-idle (suc m) (suc n) l = ap (λ (x : List ℕ). 255 ∷ x) (take-idle m n (omega arith))

pub setting-moved : (M W N : ℕ) (o : List ℕ) → N ≤ W → W ≤ M → length (take N o) ≡ N → take W (laid (replicate M 255) 0 (take N o)) ≡ take N o ++ replicate (W - N) 255
unfolding laid
setting-moved M W N o few wide size =
    ap (λ (x : List ℕ). take W (take N o ++ x)) (ap (λ (k : ℕ). drop k (replicate M 255)) (let e : 0 + length (take N o) ≡ N = omega (arith, size) in e) ∙ drop-idle M N)
    ∙ ap (λ (k : ℕ). take k (take N o ++ replicate (M - N) 255)) (let e : W ≡ length (take N o) + (W - N) = omega (arith, size) in e)
    ∙ take-append-add (take N o) (replicate (M - N) 255) (W - N)
    ∙ ap (λ (x : List ℕ). take N o ++ x) (take-idle (M - N) (W - N) (omega arith))

-- the first outputs of a record b, copied over others
pub first-laid : (d : List ℕ) (N : ℕ) (b : List ℕ) → N + 4 ≤ length b → (x : List ℕ) → x ≡ take (4 + N - 4) (drop 4 b) → x ++ drop N d ≡ laid d 0 (take N (outputs b))
unfolding laid
first-laid d N b long x is =
    ap₂ (λ (y : List ℕ) (k : ℕ). y ++ drop k d) (is ∙ ap (λ (k : ℕ). take k (drop 4 b)) (let e : 4 + N - 4 ≡ N = omega arith in e))
    (let e : N ≡ 0 + length (take N (drop 4 b)) = simp (length-take, length-drop) (omega arith) in e)

-- a record b whose first outputs were copied over idle ones
module _ (T : Edition) (bounds : Bounded T) (N : ℕ) (b : List ℕ) (few : N ≤ T.width) (long : N + 4 ≤ length b)
    (s : List ℕ) (is : s ≡ laid (replicate 128 255) 0 (take N (outputs b))) where
  first-size : length (take N (outputs b)) ≡ N
  first-size = simp (length-take, length-drop) (omega arith)

  part : take T.width s ≡ (moved_record T.width N (decoded b)).outputs
  unfolding moved_record
  part = ap (take T.width) is ∙ setting-moved 128 T.width N (outputs b) few bounds.width first-size

  pub part-size : T.width ≡ length (take T.width s)
  part-size = sym (ap length part ∙ moved-width T.width N (decoded b) (rw length-drop (omega arith)) few)

  pub laid-moved : (d : List ℕ) (at h : ℕ) → h ≡ hold b
      → laid d at (encode T.byte h N (take T.width s)) ≡ laid d at (encode T.byte (moved_record T.width N (decoded b)).hold N (moved_record T.width N (decoded b)).outputs)
  laid-moved d at h e = ap₂ (λ (x : ℕ) (o : List ℕ). laid d at (encode T.byte x N o)) (e ∙ sym (moved-hold T.width N (decoded b))) part

-- so many records of a plan, moved over a buffer
module _ (N : ℕ) (plan : List ℕ) (W : ℕ) (T : Edition) (m : ℕ) (buf : List ℕ) (can : Moving N plan W T m buf) where
  abbrev moved : ℕ → Record
  moved k = moved_record T.width N (decoded (record_at W plan k))

  -- those from record k on
  abbrev pub left : ℕ → List Record
  left k = moved_plan T.width N (plan_from W plan k (m - k))

  abbrev pub all : List Record
  all = moved_plan T.width N (plan_from W plan 0 m)

  pub here-long : (k : ℕ) → k < m → N + 4 ≤ length (record_at W plan k)
  here-long k l = omega (arith, can.ports, record-size W plan k (record-fits W plan k (whole W plan) (omega (arith, can.inside)) (whole-fits W plan)))

  here-wide : (k : ℕ) → k < m → length (moved k).outputs ≡ T.width
  here-wide k l = moved-width T.width N (decoded (record_at W plan k)) (rw length-drop (omega (arith, here-long k l))) can.few

  each-wide : (j k : ℕ) → k + j ≤ m → Each (OfWidth T.width) (moved_plan T.width N (plan_from W plan k j))
  unfolding moved_plan plan_from
  each-wide zero k l = none
  each-wide (suc j) k l = more (here-wide k (omega arith)) (each-wide j (suc k) (omega arith))

  all-size : length (bytes T.byte N all) ≡ m * (T.width + 4)
  all-size =
      bytes-size T.byte N T.width (each-wide m 0 (omega arith))
      ∙ ap (λ (n : ℕ). n * (T.width + 4)) (length_moved T.width N (plan_from W plan 0 m) ∙ length-plan W plan 0 m)

  pub laying-none : Written T.byte N all buf 0 (left 0) buf 0 0
  laying-none =
      subst (λ (n : ℕ). Written T.byte N all buf 0 (moved_plan T.width N (plan_from W plan 0 n)) buf 0 0) (let e : m ≡ m - 0 = omega arith in e)
      (written_none T.byte N all buf 0 (omega (arith, all-size, can.room)))

  left-more : (k : ℕ) → k < m → left k ≡ moved k ∷ left (k + 1)
  unfolding moved_plan plan_from
  left-more k l = let e : m - k ≡ suc (m - suc k) = omega arith in rw (add-one, e)

  -- record k
  module _ (k at : ℕ) (l : k < m) (d : List ℕ) (w : Written T.byte N all buf 0 (left k) d k at) where
    pub laying-room : at + (T.width + 4) ≤ length d
    laying-room = omega (arith, written-room T.byte N all buf 0 (left k) d k at w (moved k) (left (k + 1)) (left-more k l), here-wide k l)

    pub laying-next : (d' : List ℕ) → d' ≡ laid d at (encode T.byte (moved k).hold N (moved k).outputs)
        → Written T.byte N all buf 0 (left (k + 1)) d' (k + 1) (at + (T.width + 4))
    laying-next d' q =
        subst (λ (n : ℕ). Written T.byte N all buf 0 (left (k + 1)) d' (k + 1) (at + (n + 4))) (here-wide k l)
        (written_next T.byte N all buf 0 (left k) d k at w (moved k) (left (k + 1)) (left-more k l) d' q)

  pub laying-all : (k at : ℕ) → m ≤ k → (d : List ℕ) → Written T.byte N all buf 0 (left k) d k at → d ≡ laid buf 0 (bytes T.byte N all)
  unfolding moved_plan plan_from
  laying-all k at l d w = (written_all T.byte N all buf 0 (left k) d k at w (let e : m - k ≡ 0 = omega arith in rw e)).1

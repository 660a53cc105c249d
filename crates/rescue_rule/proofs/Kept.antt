-- The kept records are sound, their bytes stand as they stood, and where every record is well formed they are the plan.
use mathlib.Core.Path.{◌≡◌, refl, sym, ap, ap₂, ◌∙◌, subst}
use mathlib.Core.Bool.{true, not}
use mathlib.Core.Logic.{⊎_elim}
use mathlib.Core.List.{List, [], ◌∷◌, ◌++◌, append-nil, append_assoc}
use Prim.Native.Nat.{ℕ, zero, suc, ◌+◌, ◌*◌, ◌%◌, ◌<◌, ◌≤◌}
use native.Mathlib.Nat.{suc-mul, zero-mul, div-add-mod'}
use native.Mathlib.Omega.{arith}
use lib.ListN.{length, get_or, take, drop, take-append-drop}
use lib.Seq.{take_all, get_or-take, get_or-drop, length-take-le, take-append-add}
use borrow.Author.Tests.{eq-eqb}
use Rattle.switch.specs.Plan.{Record}
use Rattle.switch.specs.Sound.{Sound, Each, none, more}
use Rattle.switch.proofs.Sound.{each_append}
use Rattle.records.specs.Record.{decoded, WellFormed}
use Rattle.records.specs.Bytes.{record_at, whole, plan_from, plan_of, bytes}
use Rattle.records.proofs.Bytes.{bytes-none, bytes-more, bytes-append}
use Rattle.records.proofs.Part.{record-fits, record-size, whole-fits}
use Rattle.records.proofs.Round.{encode-decoded}
use Rattle.records.proofs.Meaning.{means}
use Rattle.plans.proofs.Plans.{plan-next}
use Rattle.rescue_rule.specs.Rescue.{those, fine, kept_to, kept, chained, kept_bytes, entry_of, dropped_to, torn_tail, dropped, Undamaged}
use Rattle.rescue_rule.proofs.Those.{test, pass, skip, those-none, those-empty, those-both}

chained_append : (l m : List (List ℕ)) → chained (l ++ m) ≡ chained l ++ chained m
unfolding chained
chained_append [] m = refl
chained_append (b ∷ l) m = ap (λ (t : List ℕ). b ++ t) (chained_append l m) ∙ sym (append_assoc b (chained l) (chained m))

chained-one : (b : List ℕ) → chained (b ∷ []) ≡ b
unfolding chained
chained-one b = append-nil b

-- n bytes more
take_more : (l : List ℕ) (k n : ℕ) → k ≤ length l → take (k + n) l ≡ take k l ++ take n (drop k l)
take_more l k n h =
    ap (take (k + n)) (sym (take-append-drop k l))
    ∙ ap (λ (x : ℕ). take (x + n) (take k l ++ drop k l)) (sym (length-take-le k l h))
    ∙ take-append-add (take k l) (drop k l) n

module _ (W e N : ℕ) (plan : List ℕ) where
  -- record k is inside
  size : (k : ℕ) → k < whole W plan → length (record_at W plan k) ≡ W + 4
  size k l = record-size W plan k (record-fits W plan k (whole W plan) l (whole-fits W plan))

  -- kept and dropped are all whole records
  pub kept-dropped : (m : ℕ) → length (kept_to W e N plan m) + length (dropped_to W e N plan m) ≡ m
  kept-dropped m = those-both (fine W e N plan) (λ k. decoded (record_at W plan k)) (entry_of W e N plan) m

  module _ (few : N ≤ W) (small : N ≤ 255) where
    well : (k : ℕ) → k < whole W plan → fine W e N plan k ≡ true → WellFormed W e N (record_at W plan k)
    well k l f = means W e N (record_at W plan k) (size k l) few small f

    -- every kept record is sound
    pub kept-sound : (m : ℕ) → m ≤ whole W plan → Each (Sound W N) (kept_to W e N plan m)
    kept-sound zero l = subst (Each (Sound W N)) (sym (those-none (fine W e N plan) (λ k. decoded (record_at W plan k)))) none
    kept-sound (suc m) l = ⊎_elim
        (λ f. subst (Each (Sound W N)) (sym (pass (fine W e N plan) (λ k. decoded (record_at W plan k)) m f)) (each_append (kept-sound m (omega arith)) (more (well m (omega arith) f).sound none)))
        (λ f. subst (Each (Sound W N)) (sym (skip (fine W e N plan) (λ k. decoded (record_at W plan k)) m f)) (kept-sound m (omega arith)))
        (test (fine W e N plan m))

    module _ (byte : (i : ℕ) → get_or plan i 0 < 256) where
      first_byte : (k : ℕ) → get_or (record_at W plan k) 0 0 < 256
      first_byte k = rw (get_or-take (W + 4) (drop (k * (W + 4)) plan) 0 0 (omega arith), get_or-drop (k * (W + 4)) plan 0 0) (byte (k * (W + 4) + 0))

      -- a well-formed record is written as it stands
      same_bytes : (k : ℕ) → k < whole W plan → fine W e N plan k ≡ true → bytes e N (decoded (record_at W plan k) ∷ []) ≡ record_at W plan k
      same_bytes k l f =
          let w = well k l f in
          bytes-more e N (decoded (record_at W plan k)) []
          ∙ ap₂ ◌++◌ (encode-decoded e N (record_at W plan k) (omega (arith, size k l)) (first_byte k) w.ports w.edition) (bytes-none e N)
          ∙ append-nil (record_at W plan k)

      -- every kept record's bytes stand as they stood
      pub kept-bytes : (m : ℕ) → m ≤ whole W plan → bytes e N (kept_to W e N plan m) ≡ kept_bytes W e N plan m
      kept-bytes zero l =
          ap (bytes e N) (those-none (fine W e N plan) (λ k. decoded (record_at W plan k))) ∙ bytes-none e N
          ∙ sym (ap chained (those-none (fine W e N plan) (record_at W plan)) ∙ nil)
        where
          nil : chained [] ≡ []
          nil = unfold chained in refl
      kept-bytes (suc m) l = ⊎_elim
          (λ f.
          ap (bytes e N) (pass (fine W e N plan) (λ k. decoded (record_at W plan k)) m f)
          ∙ bytes-append e N (kept_to W e N plan m) (decoded (record_at W plan m) ∷ [])
          ∙ ap₂ ◌++◌ (kept-bytes m (omega arith)) (same_bytes m (omega arith) f ∙ sym (chained-one (record_at W plan m)))
          ∙ sym (chained_append (those (fine W e N plan) (record_at W plan) m) (record_at W plan m ∷ []))
          ∙ sym (ap chained (pass (fine W e N plan) (record_at W plan) m f)))
          (λ f.
          ap (bytes e N) (skip (fine W e N plan) (λ k. decoded (record_at W plan k)) m f)
          ∙ kept-bytes m (omega arith)
          ∙ sym (ap chained (skip (fine W e N plan) (record_at W plan) m f)))
          (test (fine W e N plan m))

      -- and where every record is well formed, all bytes do
      pub all-bytes : (m : ℕ) → m ≤ whole W plan → ((k : ℕ) → k < m → fine W e N plan k ≡ true) → kept_bytes W e N plan m ≡ take (m * (W + 4)) plan
      all-bytes zero l h = ap chained (those-none (fine W e N plan) (record_at W plan)) ∙ nil ∙ ap (λ (x : ℕ). take x plan) (sym (zero-mul (W + 4)))
        where
          nil : chained [] ≡ []
          nil = unfold chained in refl
      all-bytes (suc m) l h =
          ap chained (pass (fine W e N plan) (record_at W plan) m (h m (omega arith)))
          ∙ chained_append (those (fine W e N plan) (record_at W plan) m) (record_at W plan m ∷ [])
          ∙ ap₂ ◌++◌ (all-bytes m (omega arith) (λ k b. h k (omega arith))) (chained-one (record_at W plan m))
          ∙ sym (take_more plan (m * (W + 4)) (W + 4) (omega (arith, record-fits W plan m (whole W plan) (omega arith) (whole-fits W plan))))
          ∙ ap (λ (x : ℕ). take x plan) (let q : m * (W + 4) + (W + 4) ≡ suc m * (W + 4) = omega (arith, suc-mul m (W + 4)) in q)

  -- ---- a plan without damage

  plan-suc : (m : ℕ) → plan_from W plan 0 (suc m) ≡ plan_from W plan 0 m ++ decoded (record_at W plan m) ∷ []
  plan-suc m = ap (plan_from W plan 0) (let q : suc m ≡ m + 1 = omega arith in q) ∙ plan-next W plan m

  kept_from : (m : ℕ) → ((k : ℕ) → k < m → fine W e N plan k ≡ true) → kept_to W e N plan m ≡ plan_from W plan 0 m
  kept_from zero h = those-none (fine W e N plan) (λ k. decoded (record_at W plan k)) ∙ nothing
    where
      nothing : [] ≡ plan_from W plan 0 0
      nothing = unfold plan_from in refl
  kept_from (suc m) h =
      pass (fine W e N plan) (λ k. decoded (record_at W plan k)) m (h m (omega arith))
      ∙ ap (λ (p : List Record). p ++ decoded (record_at W plan m) ∷ []) (kept_from m (λ k l. h k (omega arith)))
      ∙ sym (plan-suc m)

  module _ (u : Undamaged W e N plan) where
    -- all is kept
    pub kept-all : kept W e N plan ≡ plan_of W plan
    kept-all = kept_from (whole W plan) u.fine

    -- nothing is dropped
    pub dropped-none : dropped W e N plan ≡ []
    unfolding dropped torn_tail
    dropped-none = rw (those-empty (λ k. not (fine W e N plan k)) (entry_of W e N plan) (whole W plan) (λ k l. ap not (u.fine k l)), eq-eqb (length plan % (W + 4)) 0 u.even)

    -- and written again it has the same bytes
    pub kept_same : N ≤ W → N ≤ 255 → ((i : ℕ) → get_or plan i 0 < 256) → bytes e N (kept W e N plan) ≡ plan
    kept_same few small byte =
        kept-bytes few small byte (whole W plan) (omega arith)
        ∙ all-bytes few small byte (whole W plan) (omega arith) u.fine
        ∙ take_all (whole W plan * (W + 4)) plan (omega (arith, div-add-mod' (length plan) (W + 4), u.even))

-- What joining wrote, read back, is the joined plan, whose equal settings are joined: joined once more into any buffer it answers and leaves
-- just what joining the plan itself does.
use Rattle.std.specs.Prelude.{Err, Ok}
use mathlib.Core.Path.{◌≡◌, refl, sym, ap, ◌∙◌}
use mathlib.Core.List.{List}
use Prim.Native.Nat.{ℕ, zero, suc, ◌+◌, ◌*◌, ◌<◌, ◌≤◌}
use native.Mathlib.Decide.{dec_lt}
use native.Mathlib.Omega.{arith}
use lib.ListN.{length, get_or, take, drop}
use lib.Seq.{take_at, get_or-take, get_or-drop}
use Rattle.switch.specs.declared.Counts.{Counts}
use Rattle.switch.specs.Outcome.{Outcome}
use Rattle.switch.specs.declared.Refusal.{Refusal}
use Rattle.switch.specs.Answer.{plan_counts}
use Rattle.switch.specs.Plan.{Record, total}
use Rattle.switch.specs.Sound.{Sound, Each, none, more}
use Rattle.records.specs.Record.{decoded}
use Rattle.records.specs.Bytes.{record_at, whole, plan_from, plan_of, bytes, laid}
use Rattle.records.proofs.Bytes.{bytes-size}
use Rattle.switch.proofs.Sound.{each_width}
use Rattle.records.proofs.Round.{plan_of-bytes}
use Rattle.switch.specs.declared.Edition.{Edition}
use Rattle.switch.specs.Editions.{Bounded}
use Rattle.plans.specs.Read.{checking}
use Rattle.plans.proofs.Plans.{Checked, checked, bytes-pass, length-plan}
use Rattle.switch.specs.Result.{Result, refuses}
use Rattle.planner.specs.Planned.{writes, room_for}
use Rattle.joining.specs.Join.{join_plan, joining}
use Rattle.joining.proofs.Joined.{join-sound, join-records, join-twice}
use Rattle.joining.proofs.Answer.{joining-refused, joining-room, joining-short, joining-done}

-- two bytes hold at most 65,535
holds-small : (W : ℕ) (plan : List ℕ) → ((i : ℕ) → get_or plan i 0 < 256) → (m k : ℕ) → Each (λ r. r.hold ≤ 65535) (plan_from W plan k m)
unfolding plan_from
holds-small W plan byte zero k = none
holds-small W plan byte (suc m) k = more {r = decoded (record_at W plan k)} (omega (arith, at 0 (omega arith), at 1 (omega arith))) (holds-small W plan byte m (suc k))
  where
    at : (i : ℕ) → i < W + 4 → get_or (record_at W plan k) i 0 < 256
    at i l = rw (get_or-take (W + 4) (drop (k * (W + 4)) plan) i 0 l, get_or-drop (k * (W + 4)) plan i 0) (byte (k * (W + 4) + i))

positive : {W N : ℕ} {p : List Record} → Each (Sound W N) p → Each (λ r. 0 < r.hold) p
positive none = none
positive (more s t) = more s.held (positive t)

module _ (E : Edition) (bounds : Bounded E) (N : ℕ) (plan : List ℕ) (byte : (i : ℕ) → get_or plan i 0 < 256) where
  abbrev W : ℕ
  W = E.width

  abbrev again : List Record
  again = join_plan (plan_of W plan)

  module _ {c : Counts} (fine : Ok c ≡ checking E N plan) where
    known : Checked E N plan c
    known = checked E N plan bounds c fine

    sound : Each (Sound W N) again
    sound = join-sound W N known.sound

    -- the joined plan is no longer than the one read
    pub no_longer : length again ≤ whole W plan
    no_longer = omega (arith, join-records (holds-small W plan byte (whole W plan) 0), length-plan W plan 0 (whole W plan))

    -- it is well formed
    pub joined-passes : checking E N (bytes E.byte N again) ≡ Ok (plan_counts (length again) 0 (total again))
    joined-passes = bytes-pass E bounds N known.some known.few (omega (arith, no_longer, known.most)) sound

    -- joined once more, it gives the same
    pub joined-again : (buf : List ℕ) → joining E N (bytes E.byte N again) buf ≡ joining E N plan buf
    joined-again buf =
        sym (joining-room E N (bytes E.byte N again) buf (sym joined-passes))
        ∙ ap (λ (p : List Record). room_for E N 0 0 p buf) (ap join_plan (plan_of-bytes E.byte N W (each_width W N sound)) ∙ join-twice (positive known.sound))
        ∙ joining-room E N plan buf fine

  -- the records that a call wrote
  module _ (buf : List ℕ) (c : Counts) (done : Ok c ≡ (joining E N plan buf).outcome) where
    abbrev wrote : List ℕ
    wrote = take (c.records * (W + 4)) (joining E N plan buf).bytes

    refused : {r : Refusal} {A : Type 0} → refuses r buf ≡ joining E N plan buf → A
    refused {r} e =
        let q : Ok c ≡ Err r = done ∙ ap (λ (x : Result). x.outcome) (sym e) in
        let z : ◌≡◌ {A = ℕ} 0 1 = cc in
        absurd (let f : ⊥ = omega arith in f)

    module _ {o : Counts} (fine : Ok o ≡ checking E N plan) where
      front : length again ≤ whole W buf → wrote ≡ bytes E.byte N again
      front l =
          let w = joining-done E N plan buf fine l in
          let size : length (bytes E.byte N again) ≡ c.records * (W + 4) = bytes-size E.byte N W (each_width W N (sound fine))
          ∙ ap (λ (x : Counts). x.records * (W + 4)) (sym (same (done ∙ ap (λ (x : Result). x.outcome) (sym w) ∙ counts))) in
          ap (λ (x : Result). take (c.records * (W + 4)) x.bytes) (sym w) ∙ ap (take (c.records * (W + 4))) written ∙ laid-first (bytes E.byte N again) _ size
        where
          same : {x y : Counts} → ◌≡◌ {A = Outcome} (Ok x) (Ok y) → x ≡ y
          same z = cc

          counts : (writes E N 0 0 again buf).outcome ≡ Ok (plan_counts (length again) 0 (total again))
          counts = unfold writes in refl

          written : (writes E N 0 0 again buf).bytes ≡ laid buf 0 (bytes E.byte N again)
          written = unfold writes in refl

          laid-first : (s : List ℕ) (k : ℕ) → length s ≡ k → take k (laid buf 0 s) ≡ s
          laid-first s k q = unfold laid in take_at s (drop (0 + length s) buf) k q

      by-room : Dec (whole W buf < length again) → (next : List ℕ) → joining E N wrote next ≡ joining E N plan next
      by-room (yes l) next = refused (joining-short E N plan buf fine l)
      by-room (no l) next = ap (λ (s : List ℕ). joining E N s next) (front (omega (arith, l))) ∙ joined-again fine next

    -- joining twice changes nothing further: the records that a call wrote, joined into any buffer, give what joining the plan gives there
    pub twice : (next : List ℕ) → joining E N wrote next ≡ joining E N plan next
    twice next = by (checking E N plan) refl
      where
        by : (o : Outcome) → o ≡ checking E N plan → joining E N wrote next ≡ joining E N plan next
        by (Ok x) q = by-room q (dec_lt (whole W buf) (length again)) next
        by (Err r) q = refused (joining-refused E N plan buf q)

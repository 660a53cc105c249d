-- Joining case by case: a plan that is refused by itself changes nothing, and else the joined plan is laid where there is room for it.
use Rattle.std.specs.Prelude.{Err, Ok}
use mathlib.Core.Path.{◌≡◌, refl, sym, ap, ◌∙◌}
use mathlib.Core.List.{List}
use Prim.Native.Nat.{ℕ, ◌+◌, ◌*◌, ◌<◌, ◌≤◌}
use native.Mathlib.Nat.{mul-le-mul_right}
use native.Mathlib.Omega.{arith}
use lib.ListN.{length, take}
use lib.Seq.{length-take-le}
use Rattle.std.proofs.lemmas.List.{get_or-take}
use Rattle.switch.specs.declared.Counts.{Counts}
use Rattle.switch.specs.Outcome.{Outcome}
use Rattle.switch.specs.declared.Refusal.{Refusal}
use Rattle.switch.specs.declared.Refusal.TheVariants.{Room}
use Rattle.switch.specs.Answer.{plan_counts}
use Rattle.switch.specs.Plan.{Record, total}
use Rattle.records.specs.Bytes.{whole, plan_from, plan_of, bytes, laid}
use Rattle.records.proofs.Bytes.{bytes-size}
use Rattle.records.proofs.Part.{whole-fits}
use Rattle.switch.proofs.Sound.{each_width}
use Rattle.switch.specs.declared.Edition.{Edition}
use Rattle.switch.specs.Editions.{Bounded}
use Rattle.plans.specs.Read.{checking}
use Rattle.plans.proofs.Plans.{Checked, checked}
use Rattle.switch.specs.Result.{refuses, after_reading, Gives}
use Rattle.switch.proofs.Result.{gives}
use Rattle.planner.specs.Planned.{writes, room_for}
use Rattle.planner.proofs.Planned.{no_room, room, written-outcome, written-bytes}
use Rattle.tally.specs.Sums.{sums}
use Rattle.tally.specs.declared.Entry.{Entry}
use Rattle.tally.specs.Table.{entry_at, entry_sums, Listed}
use Rattle.joining.specs.Join.{cut, join_plan, joining}
use Rattle.joining.proofs.Joined.{join-total, join-sound}

module _ (E : Edition) (N : ℕ) (plan buf : List ℕ) where
  abbrev result : List Record
  result = join_plan (plan_of E.width plan)

  after : {o : Outcome} → o ≡ checking E N plan → after_reading o buf (λ c. room_for E N 0 0 result buf) ≡ joining E N plan buf
  unfolding joining
  after e = ap (λ (o : Outcome). after_reading o buf (λ c. room_for E N 0 0 result buf)) e

  -- codes 1, 9, 10 and 11
  pub joining-refused : {r : Refusal} → Err r ≡ checking E N plan → refuses r buf ≡ joining E N plan buf
  joining-refused e = after e

  module _ {c : Counts} (fine : Ok c ≡ checking E N plan) where
    pub joining-room : room_for E N 0 0 result buf ≡ joining E N plan buf
    joining-room = after fine

    -- code 5
    pub joining-short : whole E.width buf < length result → refuses (Room (length result)) buf ≡ joining E N plan buf
    joining-short l = sym (no_room E N 0 0 result buf l) ∙ joining-room

    pub joining-done : length result ≤ whole E.width buf → writes E N 0 0 result buf ≡ joining E N plan buf
    joining-done l = sym (room E N 0 0 result buf l) ∙ joining-room

module _ (E : Edition) (N : ℕ) (plan buf : List ℕ) where
  pub answers-refused : {r : Refusal} → Err r ≡ checking E N plan → Gives (joining E N plan buf) (Err r) buf
  answers-refused e = gives (sym (joining-refused E N plan buf e)) refl refl

  module _ (bounded : Bounded E) (c : Counts) (fine : Ok c ≡ checking E N plan) where
    abbrev W : ℕ
    W = E.width

    known : Checked E N plan c
    known = checked E N plan bounded c fine

    pub records-whole : c.records ≡ whole W plan
    records-whole = ap (λ (x : Counts). x.records) known.counts

    pub records-few : (c.records ≤ 65536) × (c.records ≤ E.records)
    records-few = (omega (arith, records-whole, known.most, bounded.records), omega (arith, records-whole, known.most))

    pub ports-few : N < 256
    ports-few = omega (arith, known.few, bounded.ports, bounded.width)

    -- a table that lists the plan's sums
    module _ (count : ℕ) (entries : List Entry) (t : Listed W plan c.records count entries) where
      abbrev table : List Entry
      table = take count entries

      abbrev laying : List Record
      laying = cut (entry_sums W plan table)

      table-cut : laying ≡ result E N plan buf
      table-cut = cut_sums (entry_sums W plan table) _ (t.lists ∙ ap (λ (m : ℕ). sums (plan_from W plan 0 m)) records-whole)
        where
          cut_sums : (q p : List Record) → q ≡ sums p → cut q ≡ join_plan p
          cut_sums q p e = unfold join_plan in ap cut e

      pub table-length : length table ≡ count
      table-length = length-take-le count entries t.room

      pub first-inside : (e : ℕ) → e < length table → (entry_at table e).first < whole W plan
      first-inside e l =
          let b : e < count = omega (arith, table-length) in
          omega (arith, ap (λ (x : Entry). x.first) (get_or-take count entries e (record { first = 0; next = 0; total = 0 }) b), t.before e b, records-whole)

      pub table-room : (need : ℕ) → need ≡ length laying → need ≤ whole W buf → length (bytes E.byte N laying) ≤ length buf
      table-room need q l =
          omega (
            arith,
            ap (λ (p : List Record). length (bytes E.byte N p)) table-cut,
            bytes-size E.byte N W (each_width W N (join-sound W N known.sound)),
            mul-le-mul_right (W + 4) l,
            ap (λ (m : ℕ). m * (W + 4)) (q ∙ ap length table-cut),
            whole-fits W buf,
          )

      pub answers-short : (need : ℕ) → need ≡ length laying → whole W buf < need → Gives (joining E N plan buf) (Err (Room need)) buf
      answers-short need q l =
          let e : need ≡ length (result E N plan buf) = q ∙ ap length table-cut in
          gives (sym (joining-short E N plan buf fine (omega arith))) (ap {B = Outcome} (λ (k : ℕ). Err (Room k)) e) refl

      pub answers-done : (need : ℕ) → need ≡ length laying → need ≤ whole W buf → (after : List ℕ) → after ≡ laid buf 0 (bytes E.byte N laying)
          → Gives (joining E N plan buf) (Ok (plan_counts need 0 c.total)) after
      answers-done need q l after w =
          let e : need ≡ length (result E N plan buf) = q ∙ ap length table-cut in
          let sum : c.total ≡ total (result E N plan buf) = ap (λ (x : Counts). x.total) known.counts ∙ sym (join-total (plan_of W plan)) in
          gives (sym (joining-done E N plan buf fine (omega arith))) (written-outcome E N 0 0 need c.total 0 (result E N plan buf) buf e sum refl)
          (w ∙ ap (λ (p : List Record). laid buf 0 (bytes E.byte N p)) table-cut ∙ written-bytes E N 0 0 (result E N plan buf) buf)

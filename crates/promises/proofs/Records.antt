-- A record is written as its bytes, and read from them again; a record that was read is written as the bytes that it was read from.
use Rattle.std.specs.Prelude.{Err, Ok}
use mathlib.Core.Path.{◌≡◌, refl, sym, ap, ◌∙◌, subst}
use mathlib.Core.Bool.{Bool, true, false, cond, true≢false}
use mathlib.Core.List.{List}
use mathlib.Core.Logic.{dite}
use Prim.Native.Nat.{ℕ, ◌+◌, ◌<◌, ◌≤◌}
use native.Mathlib.Decide.{dec_lt}
use native.Mathlib.Omega.{arith}
use lib.Dec.{leb}
use lib.ListN.{length, get_or, take, drop}
use Rattle.switch.specs.declared.Edition.{Edition}
use Rattle.switch.specs.Editions.{Bounded}
use Rattle.switch.specs.Outcome.{Outcome}
use Rattle.switch.specs.Check.{ports_fine}
use Rattle.switch.proofs.Check.{many-ports}
use Rattle.switch.proofs.Check as check
use Rattle.switch.specs.declared.Refusal.{Refusal}
use Rattle.switch.specs.declared.Refusal.TheVariants.{Ports, Room, Malformed}
use Rattle.switch.specs.declared.Counts.{Counts}
use Rattle.switch.specs.Answer.{counts_of, plan_counts}
use Rattle.switch.proofs.Answer.{code-done}
use Rattle.switch.specs.Sound.{Sound}
use Rattle.records.specs.Record.{well_formed}
use Rattle.records.specs.Bytes.{encode, laid, whole, record_at}
use Rattle.switch.specs.Result.{Result, refuses, Gives}
use Rattle.records.specs.Write.{writes, written}
use Rattle.records.proofs.Bytes.{encode-size}
use Rattle.records.proofs.Meaning.{means, encode-sound}
use Rattle.records.proofs.Part.{record-size, record-fits, whole-fits}
use Rattle.records.proofs.Round.{decoded-encode}
use Rattle.records.proofs.Write.{write-ports, write-room, write-malformed, write_done}
use Rattle.plans.specs.declared.Step.TheVariants as step
use Rattle.plans.specs.declared.Stepped.{Stepped}
use Rattle.plans.specs.Read.{step_at}
use Rattle.plans.proofs.Trips.{few-ports, wrote, written-bytes, write_read, gave, read-write}
use Rattle.promises.specs.Calls.{WriteRecord, StepAt}
use Rattle.promises.proofs.Outcomes.{never, same-refusal, not-zero}
use Rattle.promises.proofs.Laid.{laid-front, laid-behind}
use Rattle.promises.specs.Records.{GoodRecord, Unwritable, no-ports, no_room, unsound, RecordWritten, WrittenAgain}

-- ---- written, then read

module _ (E : Edition) (bounds : Bounded E) (one : 0 < E.records) (hold N : ℕ) (outputs buf : List ℕ) (long : length outputs ≡ E.width) (r : Outcome) (after : List ℕ) (met : WriteRecord E hold N outputs buf r after) where
  taken : GoodRecord E hold N outputs (length buf) → r ≡ Ok (plan_counts 1 0 hold)
  taken g =
      let fine = encode-sound E.width E.byte N _ (few-ports E bounds g.few).0 (few-ports E bounds g.few).1 g.sound in
      met.outcome ∙ sym (ap (λ (w : Result). w.outcome) (write_done E hold N outputs buf g.some g.few g.room fine))

  module _ (c : Counts) (done : r ≡ Ok c) where
    good : GoodRecord E hold N outputs (length buf)
    good =
        let w = wrote E hold N outputs buf c (sym done ∙ met.outcome) in
        let m = means E.width E.byte N (encode E.byte hold N outputs) (encode-size E.byte hold N E.width outputs long) (few-ports E bounds w.few).0 (few-ports E bounds w.few).1 w.fine in
        record { some = w.some; few = w.few; room = w.room; sound = subst (Sound E.width N) (decoded-encode E.byte hold N outputs) m.sound }

    reads-back : step_at E N (take (E.width + 4) after) 0 ≡ record { step = step.Record; hold = hold; outputs = outputs; next = 1 }
    reads-back = ap (λ (b : List ℕ). step_at E N (take (E.width + 4) b) 0) met.bytes ∙ write_read E hold N outputs buf bounds one long c (sym done ∙ met.outcome)

    later : drop (E.width + 4) after ≡ drop (E.width + 4) buf
    later = ap (drop (E.width + 4)) (met.bytes ∙ written-bytes E hold N outputs buf bounds one long c (sym done ∙ met.outcome)) ∙ laid-behind buf (encode E.byte hold N outputs) (E.width + 4) (encode-size E.byte hold N E.width outputs long)

  unchanged : ((c : Counts) → r ≡ Ok c → ⊥) → after ≡ buf
  unfolding written
  unchanged n = by (ports_fine E.ports N) (leb (E.width + 4) (length buf)) (well_formed E.width E.byte N (encode E.byte hold N outputs)) met
    where
      by : (p q w : Bool)
          → let x = cond p (cond q (cond w (writes E hold N outputs buf) (refuses (Malformed 0) buf)) (refuses (Room 1) buf)) (refuses Ports buf) in
          Gives x r after → after ≡ buf
      by true true true m = absurd (n _ m.outcome)
      by true true false m = m.bytes
      by true false w m = m.bytes
      by false q w m = m.bytes

  -- the first test that fails
  module _ (f : Refusal) (e : r ≡ Err f) where
    told : (g : Refusal) → refuses g buf ≡ written E hold N outputs buf → Unwritable E hold N outputs (length buf) g → Unwritable E hold N outputs (length buf) f
    told g q = subst (Unwritable E hold N outputs (length buf)) (same-refusal (ap (λ (w : Result). w.outcome) q ∙ sym met.outcome ∙ e))

    why : Unwritable E hold N outputs (length buf) f
    why =
        dite (dec_lt 0 N) (λ some. dite (dec_lt E.ports N)
        (λ l. told Ports (write-ports E hold N outputs buf (many-ports _ _ l)) (no-ports (λ _ h. omega arith)))
        (λ g. let few : N ≤ E.ports = omega (arith, g) in dite (dec_lt (length buf) (E.width + 4))
        (λ l. told (Room 1) (write-room E hold N outputs buf some few l) (no_room some few l))
        (λ h. let room : E.width + 4 ≤ length buf = omega (arith, h) in by some few room (well_formed E.width E.byte N (encode E.byte hold N outputs)) refl)))
        (λ z. told Ports (write-ports E hold N outputs buf (check.no-ports _ _ (omega (arith, z)))) (no-ports (λ s _. z s)))
      where
        by : 0 < N → N ≤ E.ports → E.width + 4 ≤ length buf → (b : Bool) → well_formed E.width E.byte N (encode E.byte hold N outputs) ≡ b → Unwritable E hold N outputs (length buf) f
        by some few room true w = never (sym e ∙ met.outcome ∙ sym (ap (λ (x : Result). x.outcome) (write_done E hold N outputs buf some few room w)))
        by some few room false w =
            told (Malformed 0) (write-malformed E hold N outputs buf some few room w)
            (unsound some few room (λ s. true≢false (sym (encode-sound E.width E.byte N _ (few-ports E bounds few).0 (few-ports E bounds few).1 s) ∙ w)))

  pub write-promise : RecordWritten E hold N outputs buf r after
  write-promise = record {
    taken = taken;
    only_then = λ z. good (counts_of r) (code-done r z);
    reads-back = λ z. reads-back (counts_of r) (code-done r z);
    later = λ z. later (counts_of r) (code-done r z);
    refuses = why;
    unchanged = λ n. unchanged (not-zero n);
  }

-- ---- read, then written

pub read-write-promise : (E : Edition) → Bounded E → (N : ℕ) (plan : List ℕ) → ((i : ℕ) → get_or plan i 0 < 256) → (at : ℕ) (s : Stepped E.width) → StepAt E N plan at s → s.step ≡ step.Record
    → (buf : List ℕ) → E.width + 4 ≤ length buf → (r : Outcome) (after : List ℕ) → WriteRecord E s.hold N s.outputs buf r after → WrittenAgain E plan at s buf r after
read-write-promise E bounds N plan byte at s e found buf room r after met = record {
  taken = met.outcome ∙ ap (λ (w : Result). w.outcome) again;
  same = ap (take (E.width + 4)) bytes ∙ laid-front buf (record_at E.width plan at) (E.width + 4) size;
  later = ap (drop (E.width + 4)) bytes ∙ laid-behind buf (record_at E.width plan at) (E.width + 4) size;
}
  where
    gives : (step_at E N plan at).step ≡ step.Record
    gives = ap (λ (x : Stepped E.width). x.step) (sym e) ∙ found

    size : length (record_at E.width plan at) ≡ E.width + 4
    size = record-size E.width plan at (record-fits E.width plan at (whole E.width plan) (gave E N plan at gives).inside (whole-fits E.width plan))

    again : written E s.hold N s.outputs buf ≡ record { outcome = Ok (plan_counts 1 0 s.hold); bytes = laid buf 0 (record_at E.width plan at) }
    again =
        subst (λ (x : Stepped E.width). written E x.hold N x.outputs buf
        ≡ record { outcome = Ok (plan_counts 1 0 x.hold); bytes = laid buf 0 (record_at E.width plan at) }) (sym e) (read-write E N plan at gives bounds byte buf room)

    bytes : after ≡ laid buf 0 (record_at E.width plan at)
    bytes = met.bytes ∙ ap (λ (w : Result). w.bytes) again

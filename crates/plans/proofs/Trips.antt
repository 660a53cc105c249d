-- The round trips of the calls: what was written is read back by the steps, and what a step gives is written as the same bytes.
use Rattle.std.specs.Prelude.{Err, Ok}
use mathlib.Core.Path.{◌≡◌, refl, sym, ap, ◌∙◌, subst}
use mathlib.Core.Bool.{Bool, true, false}
use mathlib.Core.Logic.{dite}
use mathlib.Core.List.{List, [], ◌∷◌, append-nil}
use Prim.Native.Nat.{ℕ, ◌+◌, ◌*◌, ◌%◌, ◌<◌, ◌≤◌}
use native.Mathlib.Nat.{mul-mod_left}
use native.Mathlib.Decide.{dec_lt}
use native.Mathlib.Omega.{arith}
use lib.ListN.{length, get_or, take, drop}
use lib.Seq.{take_at, get_or-take, get_or-drop}
use Rattle.switch.specs.declared.Counts.{Counts}
use Rattle.switch.specs.Outcome.{Outcome}
use Rattle.switch.specs.declared.Refusal.{Refusal}
use Rattle.switch.specs.Answer.{plan_counts}
use Rattle.switch.specs.Plan.{Record}
use Rattle.switch.proofs.Check.{no-ports, many-ports}
use Rattle.plans.specs.declared.Step.{Step}
use Rattle.plans.specs.declared.Step.TheVariants as step
use Rattle.plans.specs.declared.Stepped.{Stepped}
use Rattle.switch.specs.Sound.{Sound, OfWidth, Each, none, more}
use Rattle.records.specs.Record.{hold, outputs, well_formed}
use Rattle.records.specs.Bytes.{encode, record_at, whole, bytes, laid}
use Rattle.switch.specs.declared.Edition.{Edition}
use Rattle.switch.specs.Editions.{Bounded}
use Rattle.plans.specs.Read.{opening, nothing, given, step_at}
use Rattle.switch.specs.Result.{Result, refuses}
use Rattle.records.specs.Write.{written}
use Rattle.records.proofs.Bytes.{encode-size, bytes-size}
use Rattle.records.proofs.Part.{record-fits, record-size, whole-fits}
use Rattle.records.proofs.Round.{decoded-encode, record-bytes, whole-bytes, encode-decoded}
use Rattle.records.proofs.Meaning.{means}
use Rattle.switch.proofs.Sound.{each_width}
use Rattle.records.proofs.Sound.{bytes-fine}
use Rattle.plans.proofs.Read.{opened, opened-records, opening-done, step_end, step-malformed, step-record, step-refused, step-opened}
use Rattle.records.proofs.Write.{hold-encode, write-ports, write-room, write-malformed, write_done}

-- ---- a written plan, read step by step

-- N ports of an edition are below the idle byte
pub few-ports : (E : Edition) → Bounded E → {N : ℕ} → N ≤ E.ports → (N ≤ E.width) × (N ≤ 255)
few-ports E bounds few = (omega (arith, bounds.ports), omega (arith, bounds.ports, bounds.width))

module _ (E : Edition) (bounds : Bounded E) (N : ℕ) (some : 0 < N) (few : N ≤ E.ports) {p : List Record} (s : Each (Sound E.width N) p) (most : length p ≤ E.records) where
  abbrev plan : List ℕ
  plan = bytes E.byte N p

  wide : Each (OfWidth E.width) p
  wide = each_width E.width N s

  count : whole E.width plan ≡ length p
  count = whole-bytes E.byte N E.width wide

  opens : Ok (plan_counts (whole E.width plan) 0 0) ≡ opening E N plan
  opens = opening-done E N plan some few (ap (λ (l : ℕ). l % (E.width + 4)) (bytes-size E.byte N E.width wide) ∙ mul-mod_left (length p) (E.width + 4)) (omega (arith, count))

  -- step k gives record k
  pub step-bytes : (k : ℕ) → k < length p → (d : Record) → step_at E N plan k ≡ record { step = step.Record; hold = (get_or p k d).hold; outputs = (get_or p k d).outputs; next = k + 1 }
  step-bytes k l d =
      let f = few-ports E bounds few in
      sym (step-record E _ N plan k (omega (arith, count)) (bytes-fine E.width E.byte N f.0 f.1 s k l) ∙ step-opened E N plan k opens)
      ∙ ap (λ (b : List ℕ). given b (k + 1)) (record-bytes E.byte N E.width wide k l d)
      ∙ ap {B = Stepped E.width} (λ (h : ℕ). record { step = step.Record; hold = h; outputs = (get_or p k d).outputs; next = k + 1 }) (hold-encode E.byte (get_or p k d).hold N (get_or p k d).outputs)

-- ---- one record: written, then read

-- what is known of a record that writing does not refuse
pub record Wrote (E : Edition) (h N : ℕ) (o buf : List ℕ) : Type 0 where
  pub some : 0 < N
  pub few : N ≤ E.ports
  pub room : E.width + 4 ≤ length buf
  pub fine : well_formed E.width E.byte N (encode E.byte h N o) ≡ true

module _ (E : Edition) (h N : ℕ) (o buf : List ℕ) where
  pub wrote : (c : Counts) → Ok c ≡ (written E h N o buf).outcome → Wrote E h N o buf
  wrote c d =
      dite (dec_lt 0 N) (λ some. dite (dec_lt E.ports N)
      (λ l. refused (write-ports E h N o buf (many-ports _ _ l)))
      (λ f. let few : N ≤ E.ports = omega (arith, f) in dite (dec_lt (length buf) (E.width + 4))
      (λ l. refused (write-room E h N o buf some few l))
      (λ g. let room : E.width + 4 ≤ length buf = omega (arith, g) in by some few room (well_formed E.width E.byte N (encode E.byte h N o)) refl)))
      (λ z. refused (write-ports E h N o buf (no-ports _ _ (omega (arith, z)))))
    where
      refused : {r : Refusal} {A : Type 0} → refuses r buf ≡ written E h N o buf → A
      refused {r} e = let q : Ok c ≡ Err r = d ∙ sym (ap (λ (w : Result). w.outcome) e) in let z : ◌≡◌ {A = ℕ} 0 1 = cc in absurd (let f : ⊥ = omega arith in f)

      by : 0 < N → N ≤ E.ports → E.width + 4 ≤ length buf → (t : Bool) → well_formed E.width E.byte N (encode E.byte h N o) ≡ t → Wrote E h N o buf
      by some few room true w = record { some = some; few = few; room = room; fine = w }
      by some few room false w = refused (write-malformed E h N o buf some few room w)

  module _ (bounds : Bounded E) (one : 0 < E.records) (long : length o ≡ E.width) (c : Counts) (done : Ok c ≡ (written E h N o buf).outcome) where
    pub written-bytes : (written E h N o buf).bytes ≡ laid buf 0 (encode E.byte h N o)
    written-bytes = let w = wrote c done in sym (ap (λ (x : Result). x.bytes) (write_done E h N o buf w.some w.few w.room w.fine))

    front : take (E.width + 4) (written E h N o buf).bytes ≡ bytes E.byte N (record { hold = h; outputs = o } ∷ [])
    unfolding laid bytes
    front =
        ap (take (E.width + 4)) written-bytes
        ∙ take_at (encode E.byte h N o) (drop (0 + length (encode E.byte h N o)) buf) (E.width + 4) (encode-size E.byte h N E.width o long)
        ∙ sym (append-nil (encode E.byte h N o))

    -- what was written is read back with its hold and its outputs (§5.9)
    pub write_read : step_at E N (take (E.width + 4) (written E h N o buf).bytes) 0 ≡ record { step = step.Record; hold = h; outputs = o; next = 1 }
    write_read =
        let w = wrote c done in
        let f = few-ports E bounds w.few in
        let m = means E.width E.byte N (encode E.byte h N o) (encode-size E.byte h N E.width o long) f.0 f.1 w.fine in
        ap (λ (b : List ℕ). step_at E N b 0) front
        ∙ step-bytes E bounds N w.some w.few (more (subst (Sound E.width N) (decoded-encode E.byte h N o) m.sound) none) (omega arith) 0 (omega arith) (record { hold = h; outputs = o })

-- ---- one record: read, then written

-- what is known of a step that gives a record
pub record Gave (E : Edition) (N : ℕ) (plan : List ℕ) (at : ℕ) : Type 0 where
  pub some : 0 < N
  pub few : N ≤ E.ports
  pub inside : at < whole E.width plan
  pub fine : well_formed E.width E.byte N (record_at E.width plan at) ≡ true
  pub is : step_at E N plan at ≡ given (record_at E.width plan at) (at + 1)

module _ (E : Edition) (N : ℕ) (plan : List ℕ) (at : ℕ) (found : (step_at E N plan at).step ≡ step.Record) where
  pub gave : Gave E N plan at
  gave = by (opening E N plan) refl
    where
      not_end : {s : Step} {A : Type 0} → nothing E s at ≡ step_at E N plan at → (s ≡ step.Record → ⊥) → A
      not_end e ne = absurd (ne (ap (λ (x : Stepped E.width). x.step) e ∙ found))

      by-record : {c : Counts} → Ok c ≡ opening E N plan → at < c.records → (t : Bool) → well_formed E.width E.byte N (record_at E.width plan at) ≡ t → Gave E N plan at
      by-record {c} q l true w =
          let h = opened E N plan c q in
          record {
            some = h.some;
            few = h.few;
            inside = omega (arith, opened-records E N plan c q);
            fine = w;
            is = sym (step-record E c.records N plan at l w ∙ step-opened E N plan at q);
          }
      by-record {c} q l false w = not_end (step-malformed E c.records N plan at l w ∙ step-opened E N plan at q) (λ e. let z : ◌≡◌ {A = ℕ} 0 1 = cc in omega arith)

      by : (o : Outcome) → o ≡ opening E N plan → Gave E N plan at
      by (Ok c) q =
          dite (dec_lt at c.records) (λ l. by-record q l (well_formed E.width E.byte N (record_at E.width plan at)) refl)
          (λ g. not_end (step_end E c.records N plan at (omega (arith, g)) ∙ step-opened E N plan at q) (λ e. let z : ◌≡◌ {A = ℕ} 0 1 = cc in omega arith))
      by (Err r) q = not_end (step-refused E N plan at q) (λ e. let z : ◌≡◌ {A = ℕ} 0 1 = cc in omega arith)

  module _ (bounds : Bounded E) (byte : (i : ℕ) → get_or plan i 0 < 256) where
    same_bytes : encode E.byte (hold (record_at E.width plan at)) N (outputs (record_at E.width plan at)) ≡ record_at E.width plan at
    same_bytes =
        let b = record_at E.width plan at in
        let f = few-ports E bounds gave.few in
        let size = record-size E.width plan at (record-fits E.width plan at (whole E.width plan) gave.inside (whole-fits E.width plan)) in
        let m = means E.width E.byte N b size f.0 f.1 gave.fine in
        encode-decoded E.byte N b (omega (arith, size))
        (rw (get_or-take (E.width + 4) (drop (at * (E.width + 4)) plan) 0 0 (omega arith), get_or-drop (at * (E.width + 4)) plan 0 0) (byte (at * (E.width + 4) + 0)))
        m.ports m.edition

    -- what was read, written anew, is the same bytes (§5.9)
    pub read-write : (buf : List ℕ) → E.width + 4 ≤ length buf
        → written E (step_at E N plan at).hold N (step_at E N plan at).outputs buf ≡ record { outcome = Ok (plan_counts 1 0 (step_at E N plan at).hold); bytes = laid buf 0 (record_at E.width plan at) }
    read-write buf room =
        let b = record_at E.width plan at in
        rw gave.is
        (sym (write_done E (hold b) N (outputs b) buf gave.some gave.few room (ap (well_formed E.width E.byte N) same_bytes ∙ gave.fine))
        ∙ ap {B = Result} (λ (x : List ℕ). record { outcome = Ok (plan_counts 1 0 (hold b)); bytes = laid buf 0 x }) same_bytes)

-- Ok is answered only where every test passes; then what is written is the rescued plan on paper, whose laws stand in the crate rescue_rule.
use Rattle.std.specs.Prelude.{Err, Ok}
use mathlib.Core.Path.{◌≡◌, refl, sym, ap, ◌∙◌, subst}
use mathlib.Core.Bool.{true, false, not}
use mathlib.Core.Logic.{⊎_elim, dite, ◌⊎◌, inl, inr}
use mathlib.Core.List.{List, [], ◌∷◌, ◌++◌, append-nil}
use Prim.Native.Nat.{ℕ, ◌+◌, ◌*◌, ◌/◌, ◌<◌, ◌≤◌}
use native.Mathlib.Decide.{dec_lt}
use native.Mathlib.Omega.{arith}
use lib.ListN.{length, get_or, take, drop, length-append}
use borrow.Author.Tests.{not-true}
use Rattle.switch.specs.declared.Counts.{Counts}
use Rattle.switch.specs.declared.Edition.{Edition}
use Rattle.switch.specs.Outcome.{Outcome}
use Rattle.switch.specs.declared.Refusal.{Refusal}
use Rattle.switch.specs.declared.Refusal.TheVariants.{Records, Room, ListRoom}
use Rattle.switch.specs.Answer.{demand_counts}
use Rattle.switch.specs.Demand.{cell}
use Rattle.switch.specs.Editions.{first_edition, Bounded}
use Rattle.switch.proofs.Answer.{determined}
use Rattle.switch.proofs.Editions.{first-bounded}
use Rattle.switch.specs.Plan.{Record, total, Covers}
use Rattle.switch.specs.Empty.{empty_slots}
use Rattle.switch.specs.Sound.{Each, Sound, OfWidth}
use Rattle.switch.proofs.Check.{some-ports}
use Rattle.switch.proofs.Sound.{each_width}
use Rattle.demand.specs.Checked.{Checked}
use Rattle.demand.specs.Check.{check_demand}
use Rattle.demand.proofs.Check.{fine}
use Rattle.records.specs.Bytes.{record_at, whole, plan_of, bytes, laid}
use Rattle.records.proofs.Bytes.{bytes-append}
use Rattle.records.proofs.Laid.{laid_none}
use Rattle.records.proofs.Part.{record-fits, record-size, whole-fits}
use Rattle.records.proofs.Round.{whole-bytes, plan_of-bytes}
use Rattle.checker.proofs.Passes.{sound-passes}
use Rattle.rescue_rule.specs.Rescue as rule
use Rattle.rescue_rule.specs.Rescue.{kept, Entry, dropped_to, dropped, torn_tail, entry_bytes, added, rescued, Undamaged}
use Rattle.rescue_rule.proofs.Reason.{reason-says}
use Rattle.rescue_rule.proofs.Those.{get_or-end, get_d_front}
use Rattle.rescue_rule.proofs.List.{dropped-whole, dropped-torn, dropped-place, dropped-comes, torn-none, entries-size}
use Rattle.rescue_rule.proofs.Kept.{kept-bytes, dropped-none, kept-all}
use Rattle.rescue_rule.proofs.Rescue.{rest-cell, rescued-sound, rescued-covers, rescued-identical, rescued-undamaged, rescued-twice, added_none}
use Rattle.rescue.specs.declared.Answer.{Answer}
use Rattle.rescue.specs.Rescue.{Saved, Saves, refuses, writes, fitting, check_in, rescuing}
use Rattle.rescue.proofs.Order.{Entering, entering, in-fine, fitting-many, fitting-room, fitting-list, fitting-done, rescuing-faulty}
use Rattle.answers.specs.declared.CvAnswer.{CvAnswer}
use Rattle.answers.specs.Flat.{flat_rescue}
use Rattle.promises.specs.Calls.{RescuePlan, CvRescue}
use Rattle.promises.specs.Rescue.{Tells, Succeeds, Rescued}
use Rattle.promises.proofs.Laid.{laid-front, laid-behind, plan-front, plan-behind}

-- no answer is both
both : {c : Counts} {f : Refusal} → Err f ≡ Ok c → ⊥
both e = let z : ◌≡◌ {A = ℕ} 0 1 = cc in omega arith

module _ (E : Edition) (N : ℕ) (d damaged : List ℕ) where
  abbrev K : List Record
  K = kept E.width E.byte N damaged

  abbrev A : List Record
  A = added E.width N d (kept E.width E.byte N damaged)

  abbrev D : List Entry
  D = dropped E.width E.byte N damaged

  abbrev empty : ℕ
  empty = empty_slots N (cell N d) (rescued E.width E.byte N d damaged)

  module _ (plan list : List ℕ) where
    rescuing-fine : {T : ℕ} → Ok T ≡ check_in E N d damaged → rescuing E N d damaged plan list ≡ fitting E N T empty K A D plan list
    unfolding rescuing
    rescuing-fine e = rw (sym e)

    -- every test passes
    record Through : Type 0 where
      pub T : ℕ
      pub enters : Entering E N T d damaged
      pub few : length (K ++ A) ≤ E.records
      pub gives : rescuing E N d damaged plan list ≡ writes E N T empty K A D plan list

    -- either some test refuses, or all pass
    decided : ((r : Refusal) × (rescuing E N d damaged plan list ≡ refuses r plan list)) ⊎ Through
    decided = go (check_in E N d damaged) refl
      where
        fits : {T : ℕ} → check_in E N d damaged ≡ Ok T → ((r : Refusal) × (rescuing E N d damaged plan list ≡ refuses r plan list)) ⊎ Through
        fits {T} e =
            let s = rescuing-fine (sym e) in
            dite (dec_lt E.records (length (K ++ A))) (λ l. inl (Records E.records, s ∙ fitting-many E N T empty K A D plan list l))
            (λ g. let few : length (K ++ A) ≤ E.records = omega (arith, g) in
            dite (dec_lt (whole E.width plan) (length (K ++ A))) (λ l. inl (Room (length (K ++ A)), s ∙ fitting-room E N T empty K A D plan list few l))
            (λ h. let room : length (K ++ A) ≤ whole E.width plan = omega (arith, h) in
            dite (dec_lt (length list / 4) (length D)) (λ l. inl (ListRoom (length D), s ∙ fitting-list E N T empty K A D plan list few room l))
            (λ i. inr (record {
              T = T;
              enters = entering E N T d damaged e;
              few = few;
              gives = s ∙ fitting-done E N T empty K A D plan list few room (omega (arith, i));
            }))))

        go : (o : Checked) → check_in E N d damaged ≡ o → ((r : Refusal) × (rescuing E N d damaged plan list ≡ refuses r plan list)) ⊎ Through
        go (Ok T) e = fits e
        go (Err r) e = inl (r, rescuing-faulty E N d damaged plan list (sym e))

    -- done is answered where all pass
    through : (c : Counts) → (rescuing E N d damaged plan list).answer.outcome ≡ Ok c → Through
    through c f = ⊎_elim (λ x. absurd (both (sym (ap (λ (y : Saved). y.answer.outcome) x.1) ∙ f))) (λ t. t) decided

  -- ---- a demand that enters

  module _ (bounds : Bounded E) {T : ℕ} (enters : Entering E N T d damaged) where
    asks : Ok T ≡ check_demand E.ports N d
    asks =
        let a = enters.asked in
        ap {B = Checked} (λ (t : ℕ). Ok t) a.longest-is ∙ fine E.ports N d (some-ports E.ports N a.some a.few) a.size (omega (arith, a.longest-is, a.small))

    wide : N ≤ E.width
    wide = omega (arith, enters.asked.few, bounds.ports)

    small : N ≤ 255
    small = omega (arith, wide, bounds.width)

    sound : Each (Sound E.width N) (rescued E.width E.byte N d damaged)
    sound = rescued-sound E.width E.byte N enters.asked.some wide small d damaged

    covers : Covers N (cell N d) (rescued E.width E.byte N d damaged)
    covers = rescued-covers E.width E.byte N enters.asked.some wide small d damaged

    tells : Tells E N damaged D
    tells = record {
      each = λ k l b z. (dropped-place E.width E.byte N damaged z k l (ap not b), reason-says E.width E.byte N (record_at E.width damaged k) (record-size E.width damaged k (record-fits E.width damaged k (whole E.width damaged) l (whole-fits E.width damaged))) wide small);
      only = λ j l z. let x = dropped-comes E.width E.byte N damaged z j l in (x.number, x.inside, bad x.number x.passes, x.place, here z j l x.is);
      even = λ z. ap length (dropped-whole E.width E.byte N damaged z);
      torn = λ nz. (ap length (dropped-torn E.width E.byte N damaged nz) ∙ length-append before (tail ∷ []), λ z. ap (λ (l : List Entry). get_or l (length before) z) (dropped-torn E.width E.byte N damaged nz) ∙ get_or-end before tail z);
    }
      where
        before : List Entry
        before = dropped_to E.width E.byte N damaged (whole E.width damaged)

        tail : Entry
        tail = record { number = whole E.width damaged; reason = 7 }

        bad : (k : ℕ) → not (rule.fine E.width E.byte N damaged k) ≡ true → rule.fine E.width E.byte N damaged k ≡ false
        bad k e = not-true (rule.fine E.width E.byte N damaged k) e

        here : (z : Entry) (j : ℕ) → j < length (dropped_to E.width E.byte N damaged (whole E.width damaged)) → {x : Entry} → get_or (dropped_to E.width E.byte N damaged (whole E.width damaged)) j z ≡ x → get_or D j z ≡ x
        here z j l e = unfold dropped in get_d_front before (torn_tail E.width damaged) j z l ∙ e

    -- what is written on paper
    abbrev p : List Record
    p = rescued E.width E.byte N d damaged

    abbrev counts : Counts
    counts = demand_counts (length (rescued E.width E.byte N d damaged)) T (total (rescued E.width E.byte N d damaged)) (empty_slots N (cell N d) (rescued E.width E.byte N d damaged))

    widths : Each (OfWidth E.width) (rescued E.width E.byte N d damaged)
    widths = each_width E.width N sound

    written : (plan list : List ℕ) → writes E N T empty K A D plan list ≡ record {
      answer = record { outcome = Ok counts; added = length A; dropped = length D };
      plan = laid plan 0 (bytes E.byte N p);
      list = laid list 0 (entry_bytes D);
    }
    unfolding writes rescued
    written plan list = refl

-- ---- once more: what was rescued is undamaged and covers

module _ (E : Edition) (N : ℕ) (d damaged : List ℕ) (bounds : Bounded E) {T : ℕ} (enters : Entering E N T d damaged) (few : length (rescued E.width E.byte N d damaged) ≤ E.records) where
  abbrev q : List Record
  q = rescued E.width E.byte N d damaged

  abbrev b : List ℕ
  b = bytes E.byte N (rescued E.width E.byte N d damaged)

  undamaged : Undamaged E.width E.byte N (bytes E.byte N (rescued E.width E.byte N d damaged))
  undamaged = rescued-undamaged E.width E.byte N enters.asked.some (wide E N d damaged bounds enters) (small E N d damaged bounds enters) d damaged

  back : plan_of E.width b ≡ q
  back = plan_of-bytes E.byte N E.width (widths E N d damaged bounds enters)

  kept_back : kept E.width E.byte N b ≡ q
  kept_back = kept-all E.width E.byte N b undamaged ∙ back

  enough : Covers N (cell N d) (plan_of E.width b)
  enough = subst (Covers N (cell N d)) (sym back) (covers E N d damaged bounds enters)

  nothing-added : added E.width N d (kept E.width E.byte N b) ≡ []
  nothing-added = added_none E.width E.byte N enters.asked.some (wide E N d damaged bounds enters) (small E N d damaged bounds enters) d b undamaged enough

  nothing-dropped : dropped E.width E.byte N b ≡ []
  nothing-dropped = dropped-none E.width E.byte N b undamaged

  same-plan : rescued E.width E.byte N d b ≡ q
  same-plan = rescued-twice E.width E.byte N enters.asked.some (wide E N d damaged bounds enters) (small E N d damaged bounds enters) d damaged

  enters-again : Ok T ≡ check_in E N d b
  enters-again = in-fine E N d b (asks E N d damaged bounds enters) (omega (arith, few, whole-bytes E.byte N E.width (widths E N d damaged bounds enters), torn-none E.width b undamaged.even))

  module _ (buf list' : List ℕ) (room : length (rescued E.width E.byte N d damaged) ≤ whole E.width buf) where
    fits : fitting E N T (empty_slots N (cell N d) q) q [] [] buf list' ≡ writes E N T (empty_slots N (cell N d) q) q [] [] buf list'
    fits =
        let l = ap length (append-nil q) in
        fitting-done E N T (empty_slots N (cell N d) q) q [] [] buf list' (omega (arith, few, l)) (omega (arith, room, l)) (omega arith)

    ends : writes E N T (empty_slots N (cell N d) q) q [] [] buf list' ≡ record { answer = record { outcome = Ok (counts E N d damaged bounds enters); added = 0; dropped = 0 }; plan = laid buf 0 b; list = list' }
    unfolding writes entry_bytes
    ends = λ i. record {
      answer = record { outcome = Ok (demand_counts (length (append-nil q i)) T (total (append-nil q i)) (empty_slots N (cell N d) q)); added = 0; dropped = 0 };
      plan = laid buf 0 (bytes E.byte N (append-nil q i));
      list = laid_none list' 0 i;
    }

    twice : rescuing E N d b buf list' ≡ record { answer = record { outcome = Ok (counts E N d damaged bounds enters); added = 0; dropped = 0 }; plan = laid buf 0 b; list = list' }
    twice =
        rescuing-fine E N d b buf list' enters-again
        ∙ (λ i. fitting E N T (empty_slots N (cell N d) (same-plan i)) (kept_back i) (nothing-added i) (nothing-dropped i) buf list')
        ∙ fits
        ∙ ends

-- ---- what is promised

module _ (E : Edition) (bounds : Bounded E) (N : ℕ) (d damaged plan list : List ℕ) (r : Answer) (after listed : List ℕ) (met : Saves (rescuing E N d damaged plan list) r after listed) where
  passed : (c : Counts) → r.outcome ≡ Ok c → Through E N d damaged plan list
  passed c q = through E N d damaged plan list c (sym (ap (λ (x : Answer). x.outcome) met.answer) ∙ q)

  module _ (c : Counts) (q : r.outcome ≡ Ok c) where
    t : Through E N d damaged plan list
    t = passed c q

    gives : rescuing E N d damaged plan list ≡ record {
      answer = record { outcome = Ok (counts E N d damaged bounds t.enters); added = length (A E N d damaged); dropped = length (D E N d damaged) };
      plan = laid plan 0 (bytes E.byte N (p E N d damaged bounds t.enters));
      list = laid list 0 (entry_bytes (D E N d damaged));
    }
    gives = t.gives ∙ written E N d damaged bounds t.enters plan list

    answer-is : r ≡ record { outcome = Ok (counts E N d damaged bounds t.enters); added = length (A E N d damaged); dropped = length (D E N d damaged) }
    answer-is = met.answer ∙ ap (λ (x : Saved). x.answer) gives

    counts-are : c ≡ counts E N d damaged bounds t.enters
    counts-are = let e : Ok c ≡ Ok (counts E N d damaged bounds t.enters) = sym q ∙ ap (λ (x : Answer). x.outcome) answer-is in cc

    dropped-is : r.dropped ≡ length (D E N d damaged)
    dropped-is = ap (λ (x : Answer). x.dropped) answer-is

    added_is : r.added ≡ length (A E N d damaged)
    added_is = ap (λ (x : Answer). x.added) answer-is

    few-out : length (rescued E.width E.byte N d damaged) ≤ E.records
    few-out = unfold rescued in t.few

    bytes-are : b E N d damaged bounds t.enters few-out ≡ take (c.records * (E.width + 4)) after
    bytes-are = sym (
        ap (λ (x : Counts). take (x.records * (E.width + 4)) after) counts-are
        ∙ ap (take (length (rescued E.width E.byte N d damaged) * (E.width + 4))) (met.plan ∙ ap (λ (x : Saved). x.plan) gives)
        ∙ plan-front E.byte N E.width (widths E N d damaged bounds t.enters) plan
        )

    plan-behind-is : drop (c.records * (E.width + 4)) after ≡ drop (c.records * (E.width + 4)) plan
    plan-behind-is =
        ap (λ (x : Counts). drop (x.records * (E.width + 4)) after) counts-are
        ∙ ap (drop (length (rescued E.width E.byte N d damaged) * (E.width + 4))) (met.plan ∙ ap (λ (x : Saved). x.plan) gives)
        ∙ plan-behind E.byte N E.width (widths E N d damaged bounds t.enters) plan
        ∙ ap (λ (x : Counts). drop (x.records * (E.width + 4)) plan) (sym counts-are)

    list-size : length (entry_bytes (D E N d damaged)) ≡ 4 * r.dropped
    list-size = entries-size (D E N d damaged) ∙ ap (λ (x : ℕ). 4 * x) (sym dropped-is)

    list-is : listed ≡ laid list 0 (entry_bytes (D E N d damaged))
    list-is = met.list ∙ ap (λ (x : Saved). x.list) gives

    succeeds : Succeeds E N d damaged list r c (b E N d damaged bounds t.enters few-out) listed
    succeeds =
        let s = t.enters in
        let some = s.asked.some in
        let broad = wide E N d damaged bounds s in
        let thin = small E N d damaged bounds s in record {
          passes = sound-passes E bounds N t.T d (asks E N d damaged bounds s) few-out (sound E N d damaged bounds s) (covers E N d damaged bounds s) ∙ ap {B = Outcome} (λ (x : Counts). Ok x) (sym counts-are);
          demanded = ap (λ (x : Counts). x.longest) counts-are ∙ s.asked.longest-is;
          keeps = λ octets. both-parts ∙ ap (λ (x : List ℕ). x ++ bytes E.byte N (A E N d damaged)) (kept-bytes E.width E.byte N damaged broad thin octets (whole E.width damaged) (omega arith));
          rest = rest-cell N d (kept E.width E.byte N damaged);
          added = added_is;
          entries = D E N d damaged;
          tells = tells E N d damaged bounds s;
          counted = dropped-is;
          lists = ap (take (4 * r.dropped)) list-is ∙ laid-front list (entry_bytes (D E N d damaged)) (4 * r.dropped) list-size;
          untouched = ap (drop (4 * r.dropped)) list-is ∙ laid-behind list (entry_bytes (D E N d damaged)) (4 * r.dropped) list-size;
          identical = λ octets u c'. (
            rescued-identical E.width E.byte N some broad thin d damaged u c' octets,
            added_is ∙ ap length (added_none E.width E.byte N some broad thin d damaged u c'),
            dropped-is ∙ ap length (dropped-none E.width E.byte N damaged u),
          );
          again = again;
        }
      where
        both-parts : bytes E.byte N (rescued E.width E.byte N d damaged) ≡ bytes E.byte N (K E N d damaged) ++ bytes E.byte N (A E N d damaged)
        both-parts = unfold rescued in bytes-append E.byte N (K E N d damaged) (A E N d damaged)

        again : (buf list' : List ℕ) → c.records ≤ whole E.width buf → (s : Answer) (after' listed' : List ℕ) → Saves (rescuing E N d (b E N d damaged bounds t.enters few-out) buf list') s after' listed'
            → (s ≡ record { outcome = Ok c; added = 0; dropped = 0 }) × (take (length (b E N d damaged bounds t.enters few-out)) after' ≡ b E N d damaged bounds t.enters few-out) × (listed' ≡ list')
        again buf list' room s after' listed' met' =
            let e = twice E N d damaged bounds t.enters few-out buf list' (omega (arith, room, ap (λ (x : Counts). x.records) counts-are)) in (
              met'.answer ∙ ap (λ (x : Saved). x.answer) e ∙ ap {B = Answer} (λ (x : Counts). record { outcome = Ok x; added = 0; dropped = 0 }) (sym counts-are),
              ap (take (length (b E N d damaged bounds t.enters few-out))) (met'.plan ∙ ap (λ (x : Saved). x.plan) e) ∙ laid-front buf (b E N d damaged bounds t.enters few-out) (length (b E N d damaged bounds t.enters few-out)) refl,
              met'.list ∙ ap (λ (x : Saved). x.list) e,
            )

  refused : (f : Refusal) → r.outcome ≡ Err f → (after ≡ plan) × (listed ≡ list) × (r.added ≡ 0) × (r.dropped ≡ 0)
  refused f q = ⊎_elim
      (λ x. (
        met.plan ∙ ap (λ (y : Saved). y.plan) x.1,
        met.list ∙ ap (λ (y : Saved). y.list) x.1,
        ap (λ (y : Answer). y.added) met.answer ∙ ap (λ (y : Saved). y.answer.added) x.1,
        ap (λ (y : Answer). y.dropped) met.answer ∙ ap (λ (y : Saved). y.answer.dropped) x.1,
      ))
      (λ t. absurd (both (sym q ∙ ap (λ (y : Answer). y.outcome) met.answer ∙ ap (λ (y : Saved). y.answer.outcome) (t.gives ∙ written E N d damaged bounds t.enters plan list))))
      (decided E N d damaged plan list)

  pub rescue-promise : Rescued E N d damaged plan list r after listed
  rescue-promise = record {
    succeeds = λ c q. subst (λ (x : List ℕ). Succeeds E N d damaged list r c x listed) (bytes-are c q) (succeeds c q);
    behind = plan-behind-is;
    refuses = refused;
  }

-- ---- the call

-- a rescue
pub rescue-plan-promise : (N : ℕ) (d damaged plan list : List ℕ) (r : Answer) (after listed : List ℕ) → RescuePlan N d damaged plan list r after listed
    → Rescued first_edition N d damaged plan list r after listed
rescue-plan-promise N d damaged plan list r after listed met = rescue-promise first_edition first-bounded N d damaged plan list r after listed met

-- any two answers that meet the contract are equal, and so is every byte of both buffers
pub rescue-one-result : (N : ℕ) (d damaged plan list : List ℕ) (r s : Answer) (after later listed told : List ℕ) → RescuePlan N d damaged plan list r after listed
    → RescuePlan N d damaged plan list s later told → (r ≡ s) × (after ≡ later) × (listed ≡ told)
rescue-one-result N d damaged plan list r s after later listed told x y =
    (determined r s _ x.answer y.answer, determined after later _ x.plan y.plan, determined listed told _ x.list y.list)

-- and at the edge
pub cv-rescue-one-result : (N : ℕ) (d damaged plan list : List ℕ) (r s : CvAnswer) (after later listed told : List ℕ) → CvRescue N d damaged plan list r after listed
    → CvRescue N d damaged plan list s later told → (r ≡ s) × (after ≡ later) × (listed ≡ told)
cv-rescue-one-result N d damaged plan list r s after later listed told x y =
    (determined r s _ x.answer y.answer, determined after later _ x.plan y.plan, determined listed told _ x.list y.list)

-- what crosses the edge is the call's own answer in numbers
pub cv-rescue-crosses : (N : ℕ) (d damaged plan list : List ℕ) (r : CvAnswer) (after listed : List ℕ) → CvRescue N d damaged plan list r after listed
    → (a : Answer) × RescuePlan N d damaged plan list a after listed × (r ≡ flat_rescue a)
cv-rescue-crosses N d damaged plan list r after listed x = ((rescuing first_edition N d damaged plan list).answer, record { answer = refl; plan = x.plan; list = x.list }, x.answer)

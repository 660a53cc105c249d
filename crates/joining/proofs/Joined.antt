-- The joined plan grants and totals what the plan did, is sound where it was, has no more records, and joined again is itself: its sums are the
-- sums that it was cut from.
use mathlib.Core.Path.{◌≡◌, refl, sym, ap, ◌∙◌, subst}
use mathlib.Core.List.{List, [], ◌∷◌, ◌++◌, append-nil}
use Prim.Native.Nat.{ℕ, suc, ◌+◌, ◌-◌, ◌<◌, ◌≤◌, min}
use native.Mathlib.Omega.{arith}
use lib.ListN.{length, length-append, get_or-append}
use lib.Seq.{append_snoc, get_or-append_seam}
use Rattle.switch.specs.Plan.{Record, output, grant, total}
use Rattle.switch.specs.Sound.{Sound, Each, none, more}
use Rattle.tally.specs.Sums.{add_hold, sums_onto, sums, setting_at}
use Rattle.tally.proofs.Same.{same?}
use Rattle.tally.proofs.Sums.{add-here, add-later, add-new, sums-append, sums-summed, distinct}
use Rattle.tally.proofs.Grants.{grant-sums, total-sums, each-sums}
use Rattle.joining.specs.Join.{held, pieces, cut, join_plan}
use Rattle.joining.proofs.Pieces.{pieces_more, pieces-total, pieces-each, total-cut, grant-cut, length_cut, each-cut}

-- joining changes no pair's grant (§12.3)
pub join-grant : (p : List Record) (i j : ℕ) → grant (join_plan p) i j ≡ grant p i j
unfolding join_plan
join-grant p i j = grant-cut (sums p) i j ∙ grant-sums p i j

-- total hold is the same
pub join-total : (p : List Record) → total (join_plan p) ≡ total p
unfolding join_plan
join-total p = total-cut (sums p) ∙ total-sums p

-- ---- sound records

-- a sound record's setting, held otherwise
sound-held : (W N : ℕ) (r : Record) (h : ℕ) → Sound W N r → 0 < h → Sound W N (held h r.outputs)
unfolding output
sound-held W N r h s l = record { held = l; size = s.size; inside = s.inside; setting = s.setting; later = s.later }

-- the joined plan is well formed
pub join-sound : (W N : ℕ) {p : List Record} → Each (Sound W N) p → Each (Sound W N) (join_plan p)
unfolding join_plan
join-sound W N t =
    each-cut (Sound W N) (Sound W N) (λ r h s l _. sound-held W N r h s l) (each-sums (Sound W N) (λ r h s. sound-held W N r (r.hold + h) s (omega (arith, s.held))) t)

-- and each of its holds fits two bytes
pub join-holds : (p : List Record) → Each (λ r. r.hold ≤ 65535) (join_plan p)
unfolding join_plan
join-holds p = each-cut (λ r. r.hold ≤ 65535) (λ r. Unit {0}) (λ r h _ _ l. l) (each-any (sums p))
  where
    each-any : (q : List Record) → Each (λ r. Unit {0}) q
    each-any [] = none
    each-any (r ∷ q) = more tt (each-any q)

-- ---- no more records

cut-add : (q : List Record) (r : Record) → r.hold ≤ 65535 → length (cut (add_hold q r)) ≤ length (cut q) + 1
unfolding add_hold cut
cut-add [] r l = omega (arith, length_cut r [])
cut-add (s ∷ q) r l = by (same? s.outputs r.outputs) (cut-add q r l)
  where
    by : Dec (s.outputs ≡ r.outputs) → length (cut (add_hold q r)) ≤ length (cut q) + 1 → length (cut (add_hold (s ∷ q) r)) ≤ length (cut (s ∷ q)) + 1
    by (yes e) h = omega (arith, ap (λ (t : List Record). length (cut t)) (add-here s q r e), length_cut (held (s.hold + r.hold) s.outputs) q, length_cut s q)
    by (no n) h = omega (arith, ap (λ (t : List Record). length (cut t)) (add-later s q r n), length_cut s (add_hold q r), length_cut s q, h)

cut-onto : (q : List Record) {p : List Record} → Each (λ r. r.hold ≤ 65535) p → length (cut (sums_onto q p)) ≤ length (cut q) + length p
unfolding sums_onto
cut-onto q none = omega arith
cut-onto q (more {r = r} {p = p} l t) = omega (arith, cut-onto (add_hold q r) t, cut-add q r l)

-- the joined plan is no longer than the one read
pub join-records : {p : List Record} → Each (λ r. r.hold ≤ 65535) p → length (join_plan p) ≤ length p
unfolding join_plan cut
join-records t = omega (arith, cut-onto [] t)

-- ---- joined again

-- a record with the last sum's setting adds to that sum
add-last : (q : List Record) (h : ℕ) (r : Record) → ((i : ℕ) → i < length q → setting_at q i ≡ r.outputs → ⊥) → add_hold (q ++ held h r.outputs ∷ []) r ≡ q ++ held (h + r.hold) r.outputs ∷ []
add-last [] h r n = add-here (held h r.outputs) [] r refl
add-last (s ∷ q) h r n = add-later s (q ++ held h r.outputs ∷ []) r (n 0 (omega arith)) ∙ ap (λ (t : List Record). s ∷ t) (add-last q h r (λ i l. n (suc i) (omega arith)))

module _ (q : List Record) (o : List ℕ) (n : (i : ℕ) → i < length q → setting_at q i ≡ o → ⊥) where
  sums-last : (h : ℕ) {l : List Record} → Each (λ r. r.outputs ≡ o) l → sums_onto (q ++ held h o ∷ []) l ≡ q ++ held (h + total l) o ∷ []
  unfolding sums_onto total
  sums-last h none = ap (λ (x : ℕ). q ++ held x o ∷ []) (let e : h ≡ h + 0 = omega arith in e)
  sums-last h (more {r = r} {p = l} e t) =
      ap (λ (x : List Record). sums_onto x l)
      (subst (λ (y : List ℕ). add_hold (q ++ held h y ∷ []) r ≡ q ++ held (h + r.hold) y ∷ []) e (add-last q h r (λ i m x. n i m (x ∙ e))))
      ∙ sums-last (h + r.hold) t ∙ ap (λ (x : ℕ). q ++ held x o ∷ []) (let a : h + r.hold + total l ≡ h + (r.hold + total l) = omega arith in a)

  -- the pieces of a sum sum up to it
  sums-pieces : (h : ℕ) → 0 < h → sums_onto q (pieces h o) ≡ q ++ held h o ∷ []
  unfolding sums_onto
  sums-pieces h l =
      let k : ℕ = min h 65535 in
      let e = pieces_more o h l in
      ap (sums_onto q) e
      ∙ ap (λ (x : List Record). sums_onto x (pieces (h - k) o)) (add-new q (held k o) n)
      ∙ sums-last k (pieces-each o (λ r. r.outputs ≡ o) (λ _ _ _. refl) (h - k))
      ∙ ap (λ (x : ℕ). q ++ held x o ∷ []) (let a : k + total (pieces (h - k) o) ≡ h = omega (arith, pieces-total o (h - k)) in a)

-- the sums of the records that sums are cut into
sums-cut : (q t : List Record) → Each (λ r. 0 < r.hold) t → ((i j : ℕ) → i < j → j < length (q ++ t) → setting_at (q ++ t) i ≡ setting_at (q ++ t) j → ⊥) → sums_onto q (cut t) ≡ q ++ t
unfolding cut sums_onto
sums-cut q [] none apart = sym (append-nil q)
sums-cut q (s ∷ t) (more l ls) apart =
    sums-append q (pieces s.hold s.outputs) (cut t)
    ∙ ap (λ (x : List Record). sums_onto x (cut t)) (sums-pieces q s.outputs fresh s.hold l)
    ∙ sums-cut (q ++ s ∷ []) t ls (rw (append_snoc q s t) apart) ∙ append_snoc q s t
  where
    fresh : (i : ℕ) → i < length q → setting_at q i ≡ s.outputs → ⊥
    fresh i m e =
        apart i (length q) m (omega (arith, length-append q (s ∷ t)))
        (ap (λ (r : Record). r.outputs) (get_or-append q (s ∷ t) (record { hold = 0; outputs = [] }) i m) ∙ e
        ∙ sym (ap (λ (r : Record). r.outputs) (get_or-append_seam q s t (record { hold = 0; outputs = [] }))))

-- the joined plan has the sums of the plan
pub join-sums : {p : List Record} → Each (λ r. 0 < r.hold) p → sums (join_plan p) ≡ sums p
unfolding join_plan
join-sums {p} t =
    sums-cut [] (sums p) (each-sums (λ r. 0 < r.hold) (λ r h l. omega arith) t) (λ i j l m. distinct p (sums p) (sums-summed p) i j l m)

-- joining twice changes nothing further
pub join-twice : {p : List Record} → Each (λ r. 0 < r.hold) p → join_plan (join_plan p) ≡ join_plan p
join-twice {p} t = unfold-join (join_plan p) ∙ ap cut (join-sums t) ∙ sym (unfold-join p)
  where
    unfold-join : (q : List Record) → join_plan q ≡ cut (sums q)
    unfold-join q = unfold join_plan in refl

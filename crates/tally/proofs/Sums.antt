-- The sums of a plan, one record more at a time: a setting that has a sum keeps its place, and any other comes behind all that appeared before it.
use mathlib.Core.Path.{◌≡◌, refl, sym, ap, ◌∙◌}
use mathlib.Core.Bool.{cond}
use mathlib.Core.Logic.{dite}
use mathlib.Core.List.{List, [], ◌∷◌, ◌++◌, append-nil}
use Prim.Native.Nat.{ℕ, zero, suc, ◌+◌, ◌<◌, ◌≤◌}
use native.Mathlib.Nat.{le_of_suc-le-suc, not-suc-le-zero, suc-add}
use native.Mathlib.Decide.{dec_lt}
use native.Mathlib.Omega.{arith}
use lib.ListN.{length, get_or, set, length-append, length-set, get_or-append}
use lib.Seq.{append_snoc, get_or-append_seam}
use Rattle.switch.specs.Plan.{Record}
use Rattle.tally.specs.Sums.{same_outputs, add_hold, sums_onto, sums, hold_of, appears, setting_at, Summed}
use Rattle.tally.proofs.Same.{same?, same-yes, same-no}

-- ---- one hold more

module _ (s : Record) (q : List Record) (r : Record) where
  pub add-here : s.outputs ≡ r.outputs → add_hold (s ∷ q) r ≡ record { hold = s.hold + r.hold; outputs = s.outputs } ∷ q
  unfolding add_hold
  add-here e = rw (same-yes _ _ e)

  pub add-later : (s.outputs ≡ r.outputs → ⊥) → add_hold (s ∷ q) r ≡ s ∷ add_hold q r
  unfolding add_hold
  add-later n = rw (same-no _ _ n)

-- the sum at e grows where e is the first that has the record's setting
pub add_at : (q : List Record) (r : Record) (e : ℕ) → e < length q → setting_at q e ≡ r.outputs → ((i : ℕ) → i < e → setting_at q i ≡ r.outputs → ⊥)
    → add_hold q r ≡ set q e (record { hold = (get_or q e (record { hold = 0; outputs = [] })).hold + r.hold; outputs = setting_at q e })
add_at [] r e l s n = absurd (not-suc-le-zero l)
add_at (x ∷ q) r zero l s n = add-here x q r s
add_at (x ∷ q) r (suc e) l s n = add-later x q r (n 0 (omega arith)) ∙ ap (λ (t : List Record). x ∷ t) (add_at q r e (le_of_suc-le-suc l) s (λ i j. n (suc i) (omega arith)))

-- a setting that has no sum yet comes last
pub add-new : (q : List Record) (r : Record) → ((i : ℕ) → i < length q → setting_at q i ≡ r.outputs → ⊥) → add_hold q r ≡ q ++ r ∷ []
unfolding add_hold
add-new [] r n = refl
add-new (x ∷ q) r n = add-later x q r (n 0 (omega arith)) ∙ ap (λ (t : List Record). x ∷ t) (add-new q r (λ i j. n (suc i) (omega arith)))

pub sums-append : (q p t : List Record) → sums_onto q (p ++ t) ≡ sums_onto (sums_onto q p) t
unfolding sums_onto
sums-append q [] t = refl
sums-append q (r ∷ p) t = sums-append (add_hold q r) p t

pub sums_next : (p : List Record) (r : Record) → sums (p ++ r ∷ []) ≡ add_hold (sums p) r
unfolding sums_onto
sums_next p r = sums-append [] p (r ∷ [])

-- ---- where a setting appears

-- the record at which it appears has it, and none before
appears-is : (o : List ℕ) (p : List Record) → appears o p < length p → setting_at p (appears o p) ≡ o
unfolding appears
appears-is o [] l = absurd (not-suc-le-zero l)
appears-is o (r ∷ p) l = by (same? r.outputs o) l (appears-is o p)
  where
    by : Dec (r.outputs ≡ o) → appears o (r ∷ p) < suc (length p) → (appears o p < length p → setting_at p (appears o p) ≡ o) → setting_at (r ∷ p) (appears o (r ∷ p)) ≡ o
    by (yes e) m f = rw (same-yes _ _ e) e
    by (no n) m f = rw (same-no _ _ n) (f (le_of_suc-le-suc (rw (same-no _ _ n) at m)))

appears-by : (o : List ℕ) (p : List Record) (k : ℕ) → k < length p → setting_at p k ≡ o → appears o p ≤ k
unfolding appears
appears-by o [] k l e = absurd (not-suc-le-zero l)
appears-by o (r ∷ p) zero l e = rw (same-yes _ _ e) (omega arith)
appears-by o (r ∷ p) (suc k) l e = by (same? r.outputs o) (appears-by o p k (le_of_suc-le-suc l) e)
  where
    by : Dec (r.outputs ≡ o) → appears o p ≤ k → appears o (r ∷ p) ≤ suc k
    by (yes q) m = rw (same-yes _ _ q) (omega arith)
    by (no n) m = rw (same-no _ _ n) (omega arith)

-- one record more: what appeared before appears there still, and what did not appears here or not at all
module _ (o : List ℕ) (r : Record) where
  appears-still : (p : List Record) → appears o p < length p → appears o (p ++ r ∷ []) ≡ appears o p
  unfolding appears
  appears-still [] l = absurd (not-suc-le-zero l)
  appears-still (s ∷ p) l = by (same? s.outputs o) l (appears-still p)
    where
      by : Dec (s.outputs ≡ o) → appears o (s ∷ p) < suc (length p) → (appears o p < length p → appears o (p ++ r ∷ []) ≡ appears o p) → appears o (s ∷ (p ++ r ∷ [])) ≡ appears o (s ∷ p)
      by (yes e) m f = rw (same-yes _ _ e)
      by (no n) m f = rw (same-no _ _ n) (ap suc (f (le_of_suc-le-suc (rw (same-no _ _ n) at m))))

  appears-now : (p : List Record) → length p ≤ appears o p → appears o (p ++ r ∷ []) ≡ length p + appears o (r ∷ [])
  unfolding appears
  appears-now [] l = omega arith
  appears-now (s ∷ p) l = by (same? s.outputs o) l (appears-now p)
    where
      by : Dec (s.outputs ≡ o) → suc (length p) ≤ appears o (s ∷ p) → (length p ≤ appears o p → appears o (p ++ r ∷ []) ≡ length p + appears o (r ∷ [])) → appears o (s ∷ (p ++ r ∷ [])) ≡ suc (length p) + appears o (r ∷ [])
      by (yes e) m f = absurd (not-suc-le-zero (rw (same-yes _ _ e) at m))
      by (no n) m f = rw (same-no _ _ n) (ap suc (f (le_of_suc-le-suc (rw (same-no _ _ n) at m))) ∙ sym (suc-add (length p) (appears o (r ∷ []))))

  appears-here : r.outputs ≡ o → appears o (r ∷ []) ≡ 0
  unfolding appears
  appears-here e = rw (same-yes _ _ e)

  appears-nowhere : (r.outputs ≡ o → ⊥) → appears o (r ∷ []) ≡ 1
  unfolding appears
  appears-nowhere n = rw (same-no _ _ n)

-- ---- a setting's holds

holds-add : (o : List ℕ) (q : List Record) (r : Record) → hold_of o (add_hold q r) ≡ hold_of o q + hold_of o (r ∷ [])
unfolding hold_of add_hold
holds-add o [] r = omega arith
holds-add o (s ∷ q) r = by (same? s.outputs r.outputs) (holds-add o q r)
  where
    by : Dec (s.outputs ≡ r.outputs) → hold_of o (add_hold q r) ≡ hold_of o q + hold_of o (r ∷ []) → hold_of o (add_hold (s ∷ q) r) ≡ hold_of o (s ∷ q) + hold_of o (r ∷ [])
    by (yes e) h = rw (same-yes _ _ e) (own (same? s.outputs o))
      where
        own : Dec (s.outputs ≡ o) → cond (same_outputs s.outputs o) (s.hold + r.hold) 0 + hold_of o q ≡ cond (same_outputs s.outputs o) s.hold 0 + hold_of o q + (cond (same_outputs r.outputs o) r.hold 0 + 0)
        own (yes k) = rw (same-yes _ _ k, same-yes r.outputs o (sym e ∙ k)) (omega arith)
        own (no k) = rw (same-no _ _ k, same-no r.outputs o (λ m. k (e ∙ m))) (omega arith)
    by (no n) h = rw (same-no _ _ n) (omega (arith, h))

holds-append : (o : List ℕ) (p t : List Record) → hold_of o (p ++ t) ≡ hold_of o p + hold_of o t
unfolding hold_of
holds-append o [] t = omega arith
holds-append o (r ∷ p) t = omega (arith, holds-append o p t)

-- ---- settings that are in order of first appearance

setting-append : (q : List Record) (r : Record) (k : ℕ) → k < length q → setting_at (q ++ r ∷ []) k ≡ setting_at q k
setting-append q r k l = ap (λ (s : Record). s.outputs) (get_or-append q (r ∷ []) (record { hold = 0; outputs = [] }) k l)

setting-last : (q : List Record) (r : Record) (k : ℕ) → k ≡ length q → setting_at (q ++ r ∷ []) k ≡ r.outputs
setting-last q r k e = rw e (ap (λ (s : Record). s.outputs) (get_or-append_seam q r [] (record { hold = 0; outputs = [] })))

-- adding to a sum changes no setting
same-settings : (q : List Record) (e h : ℕ) (k : ℕ) → setting_at (set q e (record { hold = h; outputs = setting_at q e })) k ≡ setting_at q k
same-settings [] e h k = refl
same-settings (s ∷ q) zero h zero = refl
same-settings (s ∷ q) zero h (suc k) = refl
same-settings (s ∷ q) (suc e) h zero = refl
same-settings (s ∷ q) (suc e) h (suc k) = same-settings q e h k

same-appears : (o : List ℕ) (q : List Record) (e h : ℕ) → appears o (set q e (record { hold = h; outputs = setting_at q e })) ≡ appears o q
unfolding appears
same-appears o [] e h = refl
same-appears o (s ∷ q) zero h = refl
same-appears o (s ∷ q) (suc e) h = ap (λ (k : ℕ). cond (same_outputs s.outputs o) 0 (suc k)) (same-appears o q e h)

module _ (p q : List Record) (s : Summed p q) where
  -- no setting has two sums
  pub distinct : (j k : ℕ) → j < k → k < length q → setting_at q j ≡ setting_at q k → ⊥
  distinct j k l m e = omega (arith, s.order j k l m, ap (λ (o : List ℕ). appears o p) e)

  module _ (r : Record) where
    longer : length (p ++ r ∷ []) ≡ length p + 1
    longer = length-append p (r ∷ [])

    still : (k : ℕ) → k < length q → appears (setting_at q k) (p ++ r ∷ []) ≡ appears (setting_at q k) p
    still k l = appears-still (setting_at q k) r p (s.only k l)

    both : (o : List ℕ) → hold_of o (add_hold q r) ≡ hold_of o (p ++ r ∷ [])
    both o = omega (arith, holds-add o q r, holds-append o p (r ∷ []), s.holds o)

    summed-old : (e : ℕ) → e < length q → setting_at q e ≡ r.outputs → Summed (p ++ r ∷ []) (add_hold q r)
    summed-old e l x =
        let grown : Record = record { hold = (get_or q e (record { hold = 0; outputs = [] })).hold + r.hold; outputs = setting_at q e } in
        let is : add_hold q r ≡ set q e grown = add_at q r e l x (λ i m y. distinct i e m l (y ∙ sym x)) in
        let long : length (add_hold q r) ≡ length q = ap length is ∙ length-set q e grown in
        let at : (k : ℕ) → setting_at (add_hold q r) k ≡ setting_at q k = λ k. ap (λ (t : List Record). setting_at t k) is ∙ same-settings q e grown.hold k in
        let there : (o : List ℕ) → appears o (add_hold q r) ≡ appears o q = λ o. ap (appears o) is ∙ same-appears o q e grown.hold in
        record {
          holds = both;
          each = λ o m. dite (dec_lt (appears o p) (length p))
              (λ i. omega (arith, long, there o, s.each o i))
              (λ n. dite (same? r.outputs o)
              (λ y. omega (arith, long, there o, appears-by o q e l (x ∙ y)))
              (λ y. absurd (let f : ⊥ = omega (arith, longer, appears-now o r p (omega (arith, n)), appears-nowhere o r y) in f)));
          only = λ k m. let m' : k < length q = omega (arith, long) in omega (arith, longer, ap (λ (o : List ℕ). appears o (p ++ r ∷ [])) (at k), still k m', s.only k m');
          order = λ j k i m.
              let m' : k < length q = omega (arith, long) in
              let j' : j < length q = omega arith in
              omega (arith, ap (λ (o : List ℕ). appears o (p ++ r ∷ [])) (at j), ap (λ (o : List ℕ). appears o (p ++ r ∷ [])) (at k), still j j', still k m', s.order j k i m');
        }

    summed-new : ((i : ℕ) → i < length q → setting_at q i ≡ r.outputs → ⊥) → Summed (p ++ r ∷ []) (add_hold q r)
    summed-new n =
        let is : add_hold q r ≡ q ++ r ∷ [] = add-new q r n in
        let long : length (add_hold q r) ≡ length q + 1 = ap length is ∙ length-append q (r ∷ []) in
        let old : (k : ℕ) → k < length q → setting_at (add_hold q r) k ≡ setting_at q k = λ k l. ap (λ (t : List Record). setting_at t k) is ∙ setting-append q r k l in
        let own : (k : ℕ) → k ≡ length q → setting_at (add_hold q r) k ≡ r.outputs = λ k e. ap (λ (t : List Record). setting_at t k) is ∙ setting-last q r k e in
        let fresh : length p ≤ appears r.outputs p = dite (dec_lt (appears r.outputs p) (length p))
        (λ l. absurd (n _ (s.each r.outputs l) (appears-is r.outputs q (s.each r.outputs l)))) (λ g. omega (arith, g)) in
        let last : appears r.outputs (p ++ r ∷ []) ≡ length p = omega (arith, appears-now r.outputs r p fresh, appears-here r.outputs r refl) in
        let seen : (k : ℕ) → k < length q → appears (setting_at (add_hold q r) k) (p ++ r ∷ []) < length p = λ k l.
        omega (arith, ap (λ (o : List ℕ). appears o (p ++ r ∷ [])) (old k l), still k l, s.only k l) in
        let new : (k : ℕ) → k ≡ length q → appears (setting_at (add_hold q r) k) (p ++ r ∷ []) ≡ length p = λ k e.
        ap (λ (o : List ℕ). appears o (p ++ r ∷ [])) (own k e) ∙ last in
        record {
          holds = both;
          each = λ o m. dite (dec_lt (appears o p) (length p))
              (λ i. omega (arith, long, ap (appears o) is, appears-still o r q (s.each o i), s.each o i))
              (λ g. dite (same? r.outputs o)
              (λ y. omega (arith, long, ap (appears o) is, appears-by o (q ++ r ∷ []) (length q) (omega (arith, length-append q (r ∷ []))) (setting-last q r (length q) refl ∙ y)))
              (λ y. absurd (let f : ⊥ = omega (arith, longer, appears-now o r p (omega (arith, g)), appears-nowhere o r y) in f)));
          only = λ k m. dite (dec_lt k (length q)) (λ l. omega (arith, longer, seen k l)) (λ g. omega (arith, longer, new k (omega (arith, long, g))));
          order = λ j k i m. dite (dec_lt k (length q))
              (λ l. let j' : j < length q = omega arith in
              omega (arith, ap (λ (o : List ℕ). appears o (p ++ r ∷ [])) (old j j'), ap (λ (o : List ℕ). appears o (p ++ r ∷ [])) (old k l), still j j', still k l, s.order j k i l))
              (λ g. omega (arith, new k (omega (arith, long, g)), seen j (omega (arith, long))));
        }

    summed-next : Summed (p ++ r ∷ []) (add_hold q r)
    summed-next =
        dite (dec_lt (appears r.outputs q) (length q)) (λ l. summed-old (appears r.outputs q) l (appears-is r.outputs q l))
        (λ g. summed-new (λ i l e. g (omega (arith, appears-by r.outputs q i l e))))

summed-onto : (p q t : List Record) → Summed p q → Summed (p ++ t) (sums_onto q t)
unfolding sums_onto
summed-onto p q [] s = rw append-nil s
summed-onto p q (r ∷ t) s = rw append_snoc at (summed-onto (p ++ r ∷ []) (add_hold q r) t (summed-next p q s r))

-- the settings of a plan in order of first appearance, each with its holds summed
pub sums-summed : (p : List Record) → Summed p (sums p)
sums-summed p = summed-onto [] [] p (record { holds = λ o. refl; each = λ o l. l; only = λ k l. absurd (not-suc-le-zero l); order = λ j k i l. absurd (not-suc-le-zero l) })

-- Each record takes its hold, at least 1, off every line; so the records end when the line sum is used up, and grant exactly what was there.
use mathlib.Core.Path.{◌≡◌, refl, sym, ap, ap₂, ◌∙◌, subst, fun_ext}
use mathlib.Core.Logic.{◌⊎◌, inl, inr}
use mathlib.Core.List.{List, [], ◌∷◌}
use mathlib.Core.Option.{Option, none, some}
use Prim.Native.Nat.{ℕ, zero, suc, ◌+◌, ◌-◌, ◌*◌, ◌≤◌, ◌<◌}
use native.Mathlib.Decide.{ℕ_discrete, dec_lt, dec_le}
use native.Mathlib.Omega.{arith}
use native.Mathlib.Nat.{eq-zero-or-pos, add-zero, zero-add}
use lib.ListN.{get_or, length, get_or-eq_default}
use lib.Seq.{ext_get_or}
use Rattle.counting.specs.Count.{δ}
use Rattle.counting.specs.Matrix.{row, col}
use Rattle.counting.proofs.Sum.{sum-at, sum-none}
use Rattle.switch.specs.Plan.{Full, Record, output, Plan, grant, total}
use Rattle.switch.proofs.Plan.{full-setting}
use Rattle.rules.specs.First.{NonZero, Fits, Agree, First}
use Rattle.rules.specs.Search.{first_setting}
use Rattle.rules.specs.Peel.{peel, Clear, Least, Tidy, Peels, none, more}
use Rattle.rules.specs.Exact.{tab, least, record_of, peels}
use Rattle.rules.proofs.First.{first-unique, first_cong}
use Rattle.rules.proofs.Peel.{peel-back, peel-full-row, peel-full-col}
use Rattle.rules.proofs.Search.{first_found, first-lost}
use Rattle.rules.proofs.Exists.{fits-exists}

-- ---- at most one plan

same-outputs : {W : ℕ} (N : ℕ) (k l : List ℕ) → Tidy W N k → Tidy W N l → ((i : ℕ) → i < N → get_or k i 255 ≡ get_or l i 255) → k ≡ l
same-outputs N k l s t h = ext_get_or 255 k l (s.size ∙ sym t.size) (λ i _. go i (dec_lt i N))
  where
    go : (i : ℕ) → Dec (i < N) → get_or k i 255 ≡ get_or l i 255
    go i (yes p) = h i p
    go i (no p) = s.rest i (omega arith) ∙ sym (t.rest i (omega arith))

same-hold : (N : ℕ) (M : ℕ → ℕ → ℕ) (o p : ℕ → ℕ) (h g : ℕ) → Agree N o p → Least N M o h → Least N M p g → h ≡ g
same-hold N M o p h g a s t =
    let x : h ≤ M t.place (o t.place) = s.below t.place t.inside in
    let y : g ≤ M s.place (p s.place) = t.below s.place s.inside in
    omega (arith, s.met, t.met, ap (M t.place) (a t.place t.inside), ap (M s.place) (a s.place s.inside))

same-record : {W : ℕ} (N : ℕ) (M : ℕ → ℕ → ℕ) (r s : Record) → First N (NonZero M) (output r) → First N (NonZero M) (output s)
    → Tidy W N r.outputs → Tidy W N s.outputs → Least N M (output r) r.hold → Least N M (output s) s.hold → r ≡ s
unfolding output
same-record N M r s f g t u h k =
    let a : Agree N (output r) (output s) = first-unique N (NonZero M) (output r) (output s) f g N (omega arith) in
    let x = same-hold N M (output r) (output s) r.hold s.hold a h k in
    let y = same-outputs N r.outputs s.outputs t u a in
    λ i. record { hold = x i; outputs = y i }

never : (N : ℕ) (M : ℕ → ℕ → ℕ) (o : ℕ → ℕ) → 0 < N → Clear N M → Fits N (NonZero M) o → ⊥
never N M o n c f = omega (arith, c 0 (o 0) n (f.full.inside 0 n), f.used 0 n)

pub peels-unique : {W : ℕ} (N : ℕ) → 0 < N → {M : ℕ → ℕ → ℕ} {p q : List Record} → Peels W N M p → Peels W N M q → p ≡ q
peels-unique N n (none c) (none d) = refl
peels-unique N n (none c) (more f t l s) = absurd (never N _ _ n c f.fits)
peels-unique N n (more f t l s) (none c) = absurd (never N _ _ n c f.fits)
peels-unique {W} N n {M} (more {r = r} {p = p} f t l s) (more {r = r'} {p = p'} f' t' l' s') =
    let e : r ≡ r' = same-record N M r r' f f' t t' l l' in
    ap₂ ◌∷◌ e (peels-unique N n (subst (λ (x : Record). Peels W N (peel x.hold (output x) M) p) e s) s')

-- ---- what it grants, and for how long

-- the hold is at least 1
hold-pos : {N : ℕ} {M : ℕ → ℕ → ℕ} {o : ℕ → ℕ} {h : ℕ} → Fits N (NonZero M) o → Least N M o h → 0 < h
hold-pos f l = omega (arith, f.used l.place l.inside, l.met)

pub peels-plan : {W : ℕ} (N : ℕ) {M : ℕ → ℕ → ℕ} {p : List Record} → Peels W N M p → Plan N p
peels-plan N (none c) = Plan.none
peels-plan N (more {r = r} f t l s) = Plan.more (hold-pos f.fits l) (full-setting N (output r) f.fits.full) (peels-plan N s)

pub peels-grant : {W : ℕ} (N : ℕ) {M : ℕ → ℕ → ℕ} {p : List Record} → Peels W N M p → (i j : ℕ) → i < N → j < N → grant p i j ≡ M i j
unfolding grant
peels-grant N (none c) i j l k = sym (c i j l k)
peels-grant N {M} (more {r = r} {p = p} f t l s) i j li lj =
    omega (arith, peels-grant N s i j li lj, peel-back N r.hold (output r) M (λ i li _. l.below i li) i j li lj)

pub peels-total : {W : ℕ} (N : ℕ) {M : ℕ → ℕ → ℕ} {p : List Record} → Peels W N M p → (i : ℕ) → i < N → total p ≡ row N M i
unfolding total
peels-total N {M} (none c) i li = unfold row in sym (sum-none N (λ j. M i j) (λ j lj. c i j li lj))
peels-total N {M} (more {r = r} {p = p} f t l s) i li =
    omega (arith, peels-total N s i li, peel-full-row N r.hold (output r) M (λ i li _. l.below i li) f.fits.full i li)

-- ---- matrices that agree cell by cell have the same plans

module _ (N : ℕ) where
  pub non_zero-cong : (M M' : ℕ → ℕ → ℕ) → ((i j : ℕ) → i < N → j < N → M i j ≡ M' i j) → (o : ℕ → ℕ) → First N (NonZero M) o → First N (NonZero M') o
  non_zero-cong M M' e = first_cong N (NonZero M) (NonZero M') (λ i j li lj p. rw (← e i j li lj) p) (λ i j li lj p. rw (e i j li lj) p)

  least-cong : (M M' : ℕ → ℕ → ℕ) → ((i j : ℕ) → i < N → j < N → M i j ≡ M' i j) → (o : ℕ → ℕ) (h : ℕ) → Full N o → Least N M o h → Least N M' o h
  least-cong M M' e o h f l = record {
    below = λ i li. omega (arith, l.below i li, e i (o i) li (f.inside i li));
    place = l.place;
    inside = l.inside;
    met = sym (e l.place (o l.place) l.inside (f.inside l.place l.inside)) ∙ l.met;
  }

  pub peel-cong : (M M' : ℕ → ℕ → ℕ) → ((i j : ℕ) → i < N → j < N → M i j ≡ M' i j) → (h : ℕ) (o : ℕ → ℕ) → (i j : ℕ) → i < N → j < N → peel h o M i j ≡ peel h o M' i j
  unfolding peel
  peel-cong M M' e h o i j li lj = ap (λ x. x - h * δ (o i) j) (e i j li lj)

  pub peels-cong : {W : ℕ} {M : ℕ → ℕ → ℕ} {p : List Record} → Peels W N M p → (M' : ℕ → ℕ → ℕ) → ((i j : ℕ) → i < N → j < N → M i j ≡ M' i j) → Peels W N M' p
  peels-cong (none c) M' e = none (λ i j li lj. sym (e i j li lj) ∙ c i j li lj)
  peels-cong {M} (more {r = r} f t l s) M' e =
      more (non_zero-cong M M' e (output r) f) t (least-cong M M' e (output r) r.hold f.fits.full l)
      (peels-cong s (peel r.hold (output r) M') (peel-cong M M' e r.hold (output r)))

-- ---- the list that is computed is such a plan

pub length-tab : (n i : ℕ) (f : ℕ → ℕ) → length (tab n i f) ≡ n
unfolding tab
length-tab zero i f = refl
length-tab (suc n) i f = ap suc (length-tab n (suc i) f)

pub get_or-tab : (n i : ℕ) (f : ℕ → ℕ) (k d : ℕ) → k < n → get_or (tab n i f) k d ≡ f (i + k)
unfolding tab
get_or-tab zero i f k d l = absurd (omega arith)
get_or-tab (suc n) i f zero d l = rw (add-zero i)
get_or-tab (suc n) i f (suc k) d l = get_or-tab n (suc i) f k d (omega arith) ∙ ap f (omega arith)

pub least-le : (n : ℕ) (f : ℕ → ℕ) (i : ℕ) → i ≤ n → least n f ≤ f i
unfolding least
least-le zero f i l = let e : i ≡ 0 = omega arith in rw e (omega arith)
least-le (suc n) f i l = go (ℕ_discrete i (suc n)) (λ h. least-le n f i h)
  where
    go : Dec (i ≡ suc n) → (i ≤ n → least n f ≤ f i) → least (suc n) f ≤ f i
    go (yes e) r = rw e (omega arith)
    go (no e) r = omega (arith, r (omega arith))

pub least-met : (n : ℕ) (f : ℕ → ℕ) → (i : ℕ) × (i ≤ n) × (f i ≡ least n f)
unfolding least
least-met zero f = (0, omega arith, refl)
least-met (suc n) f = go (least-met n f) (dec_le (least n f) (f (suc n)))
  where
    go : (i : ℕ) × (i ≤ n) × (f i ≡ least n f) → Dec (least n f ≤ f (suc n)) → (i : ℕ) × (i ≤ suc n) × (f i ≡ least (suc n) f)
    go r (yes h) = (r.0, omega (arith, r.1), omega (arith, r.2))
    go r (no h) = (suc n, omega arith, omega arith)

pub least-is : (N : ℕ) (M : ℕ → ℕ → ℕ) (o : ℕ → ℕ) → 0 < N → Least N M o (least (N - 1) (λ i. M i (o i)))
least-is N M o pos =
    let r : (i : ℕ) × (i ≤ N - 1) × (M i (o i) ≡ least (N - 1) (λ i. M i (o i))) = least-met (N - 1) (λ i. M i (o i)) in
    record { below = λ i l. least-le (N - 1) (λ i. M i (o i)) i (omega arith); place = r.0; inside = omega (arith, r.1); met = r.2 }

-- a list of W outputs, idle past N, is read as the setting it was made from
pub output-tab : (W N h : ℕ) → N ≤ W → (o : ℕ → ℕ) → ((a : ℕ) → N ≤ a → o a ≡ 255) → output (record { hold = h; outputs = tab W 0 o }) ≡ o
unfolding output
output-tab W N h top o idle = fun_ext (λ i. go i (dec_lt i W))
  where
    go : (i : ℕ) → Dec (i < W) → get_or (tab W 0 o) i 255 ≡ o i
    go i (yes l) = get_or-tab W 0 o i 255 l ∙ ap o (zero-add i)
    go i (no l) = get_or-eq_default (tab W 0 o) 255 (omega (arith, length-tab W 0 o)) ∙ sym (idle i (omega arith))

module _ (W N : ℕ) (pos : 0 < N) (top : N ≤ W) where
  pub output-is : (M : ℕ → ℕ → ℕ) (o : ℕ → ℕ) → ((a : ℕ) → N ≤ a → o a ≡ 255) → output (record_of W N M o) ≡ o
  unfolding record_of
  output-is M o idle = output-tab W N (least (N - 1) (λ i. M i (o i))) top o idle

  pub tidy : (M : ℕ → ℕ → ℕ) (o : ℕ → ℕ) → ((a : ℕ) → N ≤ a → o a ≡ 255) → Tidy W N (record_of W N M o).outputs
  unfolding record_of output
  tidy M o idle = record { size = length-tab W 0 o; rest = λ i l. ap (λ (f : ℕ → ℕ). f i) (output-is M o idle) ∙ idle i l }

  clear : (M : ℕ → ℕ → ℕ) → ((i : ℕ) → i < N → row N M i ≡ 0) → Clear N M
  unfolding row
  clear M h i j li lj = omega (arith, h i li, sum-at N (λ j. M i j) j lj)

  -- where all lines sum to t, t records are enough
  pub peels-are : (k t : ℕ) (M : ℕ → ℕ → ℕ) → t ≤ k → ((i : ℕ) → i < N → row N M i ≡ t) → ((j : ℕ) → j < N → col N M j ≡ t) → Peels W N M (peels W k N M)
  unfolding peels
  peels-are zero t M l rows cols = none (clear M (λ i li. omega (arith, rows i li)))
  peels-are (suc k) t M l rows cols = go (first_setting N M) refl (λ t' M' l' r c. peels-are k t' M' l' r c)
    where
      go : (x : Option (ℕ → ℕ)) → first_setting N M ≡ x
          → ((t' : ℕ) (M' : ℕ → ℕ → ℕ) → t' ≤ k → ((i : ℕ) → i < N → row N M' i ≡ t') → ((j : ℕ) → j < N → col N M' j ≡ t') → Peels W N M' (peels W k N M'))
          → Peels W N M (elim x [ none ↦ [] | some o ↦ record_of W N M o ∷ peels W k N (peel (record_of W N M o).hold o M) ])
      go none e deeper = at (eq-zero-or-pos t)
        where
          at : (t ≡ 0) ⊎ (0 < t) → Peels W N M []
          at (inl z) = none (clear M (λ i li. rows i li ∙ z))
          at (inr p) = absurd (bad (fits-exists N t M p rows cols))
            where
              bad : (o : ℕ → ℕ) × Fits N (NonZero M) o → ⊥
              bad f = first-lost N M e f.0 f.1
      go (some o) e deeper =
          let f = first_found N M o e in
          let q : o ≡ output (record_of W N M o) = sym (output-is M o f.1) in
          let h : Least N M o (record_of W N M o).hold = unfold record_of in least-is N M o pos in
          let up : 0 < (record_of W N M o).hold = hold-pos f.0.fits h in
          more (subst (First N (NonZero M)) q f.0) (tidy M o f.1) (subst (λ x. Least N M x (record_of W N M o).hold) q h)
          (subst (λ x. Peels W N (peel (record_of W N M o).hold x M) (peels W k N (peel (record_of W N M o).hold o M))) q
          (deeper (t - (record_of W N M o).hold) (peel (record_of W N M o).hold o M) (omega arith)
          (λ i li. omega (arith, rows i li, peel-full-row N (record_of W N M o).hold o M (λ i li _. h.below i li) f.0.fits.full i li))
          (λ j lj. omega (arith, cols j lj, peel-full-col N (record_of W N M o).hold o M (λ i li _. h.below i li) f.0.fits.full j lj))))

-- While a pair has slots left, every record serves its input, or gives its output to another input, or fills its wavelength, L slots at a time. So of a
-- pair joined last: at most its row, its column less its cell, and what others ask on its wavelength over L.
use mathlib.Core.Path.{◌≡◌, refl, sym, ap, ◌∙◌, subst}
use mathlib.Core.Logic.{◌≢◌, ◌⊎◌, inl, inr}
use mathlib.Core.Bool.{cond}
use mathlib.Core.List.{List, [], ◌∷◌}
use Prim.Native.Nat.{ℕ, zero, suc, ◌+◌, ◌*◌, ◌-◌, ◌/◌, ◌≤◌, ◌<◌}
use native.Mathlib.Decide.{ℕ_discrete, dec_lt}
use native.Mathlib.Nat.{mul-le-mul_left, le-div_iff_mul-le, div-mul-le_self}
use native.Mathlib.Omega.{arith}
use lib.ListN.{length}
use lib.Dec.{eqb}
use borrow.Author.Tests.{eq-eqb, ne_eqb}
use Rattle.counting.specs.Sum.{sum}
use Rattle.counting.specs.Count.{δ}
use Rattle.counting.specs.Matrix.{row, col}
use Rattle.counting.proofs.Sum.{sum-at}
use Rattle.counting.proofs.Count.{sum-δ, δ-same, δ-other}
use Rattle.switch.specs.Demand.{cell, longest}
use Rattle.switch.specs.Plan.{Setting, Record, output, Plan, grant, total, Covers}
use Rattle.switch.specs.Empty.{empty_slots}
use Rattle.switch.proofs.Demand.{row-le-longest, col-le-longest}
use Rattle.switch.proofs.Empty.{empty-none}
use Rattle.wavelengths.specs.Shared.{wavelength}
use Rattle.wavelengths.proofs.Shared.{wavelength-in}
use Rattle.rules.specs.Peel.{peel}
use Rattle.rules.specs.Exact.{tab}
use Rattle.rules.proofs.Ports.{find}
use Rattle.rules.proofs.Peel.{peel-back, peel_row, peel-col}
use Rattle.rules.proofs.Peels.{output-tab}
use Rattle.quiet_rule.specs.Limit.{lit, band, busiest, Keeps, least_within}
use Rattle.quiet_rule.specs.Quiet.{quiet_setting, quiet_hold, pairs, quiet_record, quiet_rest, quiets, quiet_from, quiet_plan}
use Rattle.quiet_rule.proofs.Limit.{sharing-lit, lit-none, lit-joined, band-at, band-le-busiest, peel-band, least-within}
use Rattle.quiet_rule.proofs.Setting.{Held, input, full, Greedy, setting-greedy, setting-idle}
use Rattle.quiet_rule.proofs.Hold.{Smallest, hold-smallest, pairs-none, pairs-some, pairs-fewer}

-- ---- one record taken off

module _ (N L : ℕ) (limit : 0 < L) (M : ℕ → ℕ → ℕ) (o : ℕ → ℕ) (g : Greedy N L M o) where
  -- while a pair has slots left, some input is joined
  pub some-joined : (i j : ℕ) → i < N → j < N → 0 < M i j → (a : ℕ) × (a < N) × (o a < N)
  some-joined i j li lj p = go (find N (λ a. o a < N) (λ a. dec_lt (o a) N)) (g.none_left i j li lj p)
    where
      go : Dec ((a : ℕ) × (a < N) × (o a < N)) → Held N L o i j → (a : ℕ) × (a < N) × (o a < N)
      go (yes r) h = r
      go (no r) (input l) = absurd (r (i, li, l))
      go (no r) (Held.output a la e) = absurd (r (a, la, rw e lj))
      go (no r) (full l) = absurd (omega (arith, lit-none N o (λ a la. idle a la (dec_lt (o a) N)) (wavelength N i j)))
        where
          idle : (a : ℕ) → a < N → Dec (o a < N) → N ≤ o a
          idle a la (yes q) = absurd (r (a, la, q))
          idle a la (no q) = omega arith

  -- its input is served, or its output, or its wavelength L times; and all three of them if it is
  shared : (i j : ℕ) → i < N → j < N → 0 < M i j
      → L + L * δ (o i) j + δ (o i) j ≤ L * sum N (λ b. δ (o i) b) + L * sum N (λ a. δ (o a) j) + lit N o (wavelength N i j)
  shared i j li lj p = go (g.none_left i j li lj p) (ℕ_discrete (o i) j)
    where
      go : Held N L o i j → Dec (o i ≡ j)
          → L + L * δ (o i) j + δ (o i) j ≤ L * sum N (λ b. δ (o i) b) + L * sum N (λ a. δ (o a) j) + lit N o (wavelength N i j)
      go h (yes e) =
          let one : δ (o i) j ≡ 1 = ap (λ (y : ℕ). δ y j) e ∙ δ-same j in
          let output : 1 ≤ sum N (λ a. δ (o a) j) = omega (arith, sum-at N (λ a. δ (o a) j) i li) in
          let lo : o i < N = rw e lj in
          omega (
            arith,
            ap (λ (y : ℕ). L * y) one,
            ap (λ (y : ℕ). L * y) (sum-δ N (o i) lo),
            mul-le-mul_left L output,
            lit-joined N o i li lo,
            ap (λ (y : ℕ). lit N o (wavelength N i y)) e,
          )
      go (input l) (no e) = omega (arith, δ-other (o i) j e, ap (λ (y : ℕ). L * y) (δ-other (o i) j e), ap (λ (y : ℕ). L * y) (sum-δ N (o i) l))
      go (Held.output a la q) (no e) =
          let output : 1 ≤ sum N (λ a. δ (o a) j) = omega (arith, sum-at N (λ a. δ (o a) j) a la, ap (λ (y : ℕ). δ y j) q, δ-same j) in
          omega (arith, δ-other (o i) j e, ap (λ (y : ℕ). L * y) (δ-other (o i) j e), mul-le-mul_left L output)
      go (full l) (no e) = omega (arith, δ-other (o i) j e, ap (λ (y : ℕ). L * y) (δ-other (o i) j e))

  -- so L times the hold goes of what is asked of its input and of its output, L times, and on its wavelength, the pair's own slots counted once in the
  -- first two and not in the last
  cross : (h : ℕ) → ((i : ℕ) → i < N → o i < N → h ≤ M i (o i)) → (i j : ℕ) → i < N → j < N → 0 < M i j
      → L * h + L * row N (peel h o M) i + L * col N (peel h o M) j + band N (peel h o M) (wavelength N i j) + L * M i j + M i j
      ≤ L * row N M i + L * col N M j + band N M (wavelength N i j) + L * peel h o M i j + peel h o M i j
  cross h least i j li lj p = omega (
    arith,
    mul-le-mul_left h (shared i j li lj p),
    ap (λ (y : ℕ). L * y) (peel_row N h o M least i li),
    ap (λ (y : ℕ). L * y) (peel-col N h o M least j lj),
    ap (λ (y : ℕ). L * y) (peel-back N h o M least i j li lj),
    peel-back N h o M least i j li lj,
    peel-band N h o M least (wavelength N i j) (wavelength-in N i j li lj),
  )

-- L at a time: of L (t + 1) slots, what is over 2T rows of L lies on the wavelength, whose own pair is not among them
spread : (L t T B x : ℕ) → 0 < L → 0 < x → L * t + L * x + x ≤ L * T + L * T + B → t ≤ 2 * T - 1 + (B - 1) / L
spread L t T B x limit p h = go (dec_lt (t + 1) (2 * T))
  where
    go : Dec (t + 1 < 2 * T) → t ≤ 2 * T - 1 + (B - 1) / L
    go (yes l) = omega arith
    go (no l) =
        let over : t + 1 ≡ 2 * T + (t + 1 - 2 * T) = omega arith in
        let own : 1 ≤ x = omega arith in
        let most : t + 1 - 2 * T ≤ (B - 1) / L = (le-div_iff_mul-le limit).1 (omega (arith, ap (λ (y : ℕ). L * y) over, mul-le-mul_left L own)) in
        omega arith

-- ---- all records

module _ (W N : ℕ) (wide : N ≤ W) (top : N ≤ 255) (L : ℕ) (limit : 0 < L) where
  -- the pair i, j has slots, and L times the total is at most L times its row and its column less its cell, and what others ask on its wavelength
  record Last (M : ℕ → ℕ → ℕ) (p : List Record) : Type 0 where
    i : ℕ
    j : ℕ
    li : i < N
    lj : j < N
    asked : 0 < M i j
    long : L * total p + L * M i j + M i j ≤ L * row N M i + L * col N M j + band N M (wavelength N i j)

  -- what is promised of the records of M
  record Quiet (M : ℕ → ℕ → ℕ) (p : List Record) : Type 0 where
    plan : Plan N p
    keeps : Keeps N L p
    grants : (i j : ℕ) → i < N → j < N → grant p i j ≡ M i j
    last : (p ≡ []) ⊎ Last M p

  quiet_none : (M : ℕ → ℕ → ℕ) → pairs N M ≡ 0 → Quiet M []
  unfolding grant
  quiet_none M e = record { plan = Plan.none; keeps = Keeps.none; grants = λ i j li lj. sym (pairs-none N M e i j li lj); last = inl refl }

  -- one record more in front
  module _ (M : ℕ → ℕ → ℕ) (o : ℕ → ℕ) (g : Greedy N L M o) (h : ℕ) (s : Smallest N M o h) (idle : (i : ℕ) → N ≤ i → o i ≡ 255) where
    joins : output (record { hold = h; outputs = tab W 0 o }) ≡ o
    joins = output-tab W N h wide o idle

    -- the pair that is emptied is joined last, where nothing follows; else the one that is joined last after it
    last_more : (p : List Record) → (p ≡ []) ⊎ Last (peel h o M) p → Last M (record { hold = h; outputs = tab W 0 o } ∷ p)
    unfolding total
    last_more p (inl e) =
        let a = s.place in
        let b = o a in
        let input : M a b ≤ row N M a = unfold row in sum-at N (M a) b s.joined in
        let output : M a b ≤ col N M b = unfold col in sum-at N (λ i. M i b) a s.inside in
        record {
          i = a;
          j = b;
          li = s.inside;
          lj = s.joined;
          asked = omega (arith, s.met, s.up);
          long = omega (
            arith,
            ap (λ (q : List Record). L * (h + total q)) e,
            ap (λ (y : ℕ). L * y) s.met,
            mul-le-mul_left L input,
            mul-le-mul_left L output,
            band-at N M a b s.inside s.joined,
          );
        }
    last_more p (inr x) = record { i = x.i; j = x.j; li = x.li; lj = x.lj; asked = left; long = omega (arith, x.long, cross N L limit M o g h s.below x.i x.j x.li x.lj left) }
      where
        left : 0 < M x.i x.j
        left = omega (arith, x.asked, peel-back N h o M s.below x.i x.j x.li x.lj)

    quiet-more : (p : List Record) → Quiet (peel h o M) p → Quiet M (record { hold = h; outputs = tab W 0 o } ∷ p)
    unfolding grant
    quiet-more p q = record {
      plan = Plan.more {r = record { hold = h; outputs = tab W 0 o }} s.up (subst (Setting N) (sym joins) g.setting) q.plan;
      keeps = Keeps.more {r = record { hold = h; outputs = tab W 0 o }} (λ w. omega (arith, sharing-lit N (record { hold = h; outputs = tab W 0 o }) w, ap (λ (f : ℕ → ℕ). lit N f w) joins, g.quiet w)) q.keeps;
      grants = λ i j li lj. omega (arith, q.grants i j li lj, peel-back N h o M s.below i j li lj, ap (λ (f : ℕ → ℕ). h * δ (f i) j) joins);
      last = inr (last_more p q.last);
    }

  -- while a cell is not zero, the setting joins some pair, and its record empties one
  module _ (M : ℕ → ℕ → ℕ) (ne : pairs N M ≢ 0) where
    pub setting-hold : Smallest N M (quiet_setting N L M) (quiet_hold N L M)
    unfolding quiet_hold
    setting-hold =
        let g = setting-greedy N top L M in
        let x = pairs-some N M ne in
        let r = some-joined N L limit M (quiet_setting N L M) g x.0 x.2.0 x.1 x.2.1 x.2.2 in
        hold-smallest N M (quiet_setting N L M) g.used r.0 r.1 r.2

    pub leaves-fewer : pairs N (quiet_rest N L M) < pairs N M
    unfolding quiet_rest
    leaves-fewer = pairs-fewer N M (quiet_setting N L M) (quiet_hold N L M) setting-hold

    record-more : (p : List Record) → Quiet (quiet_rest N L M) p → Quiet M (quiet_record W N L M ∷ p)
    unfolding quiet_record quiet_rest
    record-more p q = quiet-more M (quiet_setting N L M) (setting-greedy N top L M) (quiet_hold N L M) setting-hold (setting-idle N top L M) p q

  quiets-quiet : (k : ℕ) (M : ℕ → ℕ → ℕ) → pairs N M ≤ k → Quiet M (quiets W k N L M)
  unfolding quiets
  quiets-quiet zero M l = quiet_none M (omega arith)
  quiets-quiet (suc k) M l = go (ℕ_discrete (pairs N M) 0) (λ q. quiets-quiet k (quiet_rest N L M) q)
    where
      go : Dec (pairs N M ≡ 0) → (pairs N (quiet_rest N L M) ≤ k → Quiet (quiet_rest N L M) (quiets W k N L (quiet_rest N L M)))
          → Quiet M (cond (eqb (pairs N M) 0) [] (quiet_record W N L M ∷ quiets W k N L (quiet_rest N L M)))
      go (yes e) deeper = rw (eq-eqb (pairs N M) 0 e) (quiet_none M e)
      go (no ne) deeper = rw (ne_eqb (pairs N M) 0 ne) (record-more M ne (quiets W k N L (quiet_rest N L M)) (deeper (omega (arith, leaves-fewer M ne))))

  quiets-short : (k : ℕ) (M : ℕ → ℕ → ℕ) → length (quiets W k N L M) ≤ k
  unfolding quiets
  quiets-short zero M = omega arith
  quiets-short (suc k) M = go (ℕ_discrete (pairs N M) 0) (quiets-short k (quiet_rest N L M))
    where
      go : Dec (pairs N M ≡ 0) → length (quiets W k N L (quiet_rest N L M)) ≤ k
          → length (cond (eqb (pairs N M) 0) [] (quiet_record W N L M ∷ quiets W k N L (quiet_rest N L M))) ≤ suc k
      go (yes e) r = rw (eq-eqb (pairs N M) 0 e) (omega arith)
      go (no ne) r = rw (ne_eqb (pairs N M) 0 ne) (omega arith)

  pub quiet_short : (M : ℕ → ℕ → ℕ) → length (quiet_from W N L M) ≤ pairs N M
  unfolding quiet_from
  quiet_short M = quiets-short (pairs N M) M

  -- ---- the promises

  module _ (d : List ℕ) where
    quiet_is : Quiet (cell N d) (quiet_plan W N L d)
    unfolding quiet_plan quiet_from
    quiet_is = quiets-quiet (pairs N (cell N d)) (cell N d) (omega arith)

    -- its records are settings, no output twice, each held at least 1
    pub quiet-plan : Plan N (quiet_plan W N L d)
    quiet-plan = quiet_is.plan

    -- every record uses each wavelength at most L times
    pub quiet_keeps : Keeps N L (quiet_plan W N L d)
    quiet_keeps = quiet_is.keeps

    -- every pair is granted exactly its cell
    pub quiet-grants : (i j : ℕ) → i < N → j < N → grant (quiet_plan W N L d) i j ≡ cell N d i j
    quiet-grants = quiet_is.grants

    pub quiet-covers : Covers N (cell N d) (quiet_plan W N L d)
    quiet-covers i j li lj = omega (arith, quiet-grants i j li lj)

    pub quiet-empty-slots : empty_slots N (cell N d) (quiet_plan W N L d) ≡ 0
    quiet-empty-slots = empty-none N (cell N d) (quiet_plan W N L d) (λ i j li lj. omega (arith, quiet-grants i j li lj))

    -- at most as many records as there are non-zero cells
    pub quiet-records : length (quiet_plan W N L d) ≤ pairs N (cell N d)
    unfolding quiet_plan
    quiet-records = quiet_short (cell N d)

    -- "total at most 2T - 1 + (W - 1) / L rounded down (T at least 1)", W being the most slots asked on one wavelength
    pub quiet-total : total (quiet_plan W N L d) ≤ 2 * longest N (cell N d) - 1 + (busiest N (cell N d) - 1) / L
    unfolding total
    quiet-total = go quiet_is.last
      where
        go : (quiet_plan W N L d ≡ []) ⊎ Last (cell N d) (quiet_plan W N L d) → total (quiet_plan W N L d) ≤ 2 * longest N (cell N d) - 1 + (busiest N (cell N d) - 1) / L
        go (inl e) = omega (arith, ap total e)
        go (inr x) = spread L (total (quiet_plan W N L d)) (longest N (cell N d)) (busiest N (cell N d)) (cell N d x.i x.j) limit x.asked (omega (
          arith,
          x.long,
          mul-le-mul_left L (row-le-longest N (cell N d) x.i x.li),
          mul-le-mul_left L (col-le-longest N (cell N d) x.j x.lj),
          band-le-busiest N (cell N d) (wavelength N x.i x.j) (wavelength-in N x.i x.j x.li x.lj),
        ))

    -- "If T is 0, empty."
    pub quiet-empty : longest N (cell N d) ≡ 0 → quiet_plan W N L d ≡ []
    quiet-empty e = go quiet_is.last
      where
        go : (quiet_plan W N L d ≡ []) ⊎ Last (cell N d) (quiet_plan W N L d) → quiet_plan W N L d ≡ []
        go (inl q) = q
        go (inr x) =
            let input : cell N d x.i x.j ≤ row N (cell N d) x.i = unfold row in sum-at N (cell N d x.i) x.j x.lj in
            absurd (omega (arith, x.asked, row-le-longest N (cell N d) x.i x.li))

    -- less than three times the least that any plan within the limit can have
    pub quiet-near : 0 < longest N (cell N d) → total (quiet_plan W N L d) < 3 * least_within N L (cell N d)
    unfolding least_within
    quiet-near p = omega (arith, quiet-total, rounded)
      where
        rounded : (busiest N (cell N d) - 1) / L ≤ (busiest N (cell N d) + (L - 1)) / L
        rounded = (le-div_iff_mul-le limit).1 (omega (arith, div-mul-le_self (busiest N (cell N d) - 1) L))

    -- and so than any that covers the demand
    pub quiet-thrice : 0 < longest N (cell N d) → (p : List Record) → Plan N p → Keeps N L p → Covers N (cell N d) p → total (quiet_plan W N L d) < 3 * total p
    quiet-thrice t p plan keeps covers = omega (arith, quiet-near t, least-within N L (cell N d) p keeps covers limit plan)

-- A setting held for h gives a wavelength h slots for each input that uses it, at most L: so no plan within the limit is shorter than the slots asked
-- on any wavelength, over L.
use mathlib.Core.Path.{◌≡◌, refl, sym, ap, ◌∙◌}
use mathlib.Core.List.{List, [], ◌∷◌}
use Prim.Native.Nat.{ℕ, ◌+◌, ◌*◌, ◌-◌, ◌/◌, ◌%◌, ◌≤◌, ◌<◌}
use native.Mathlib.Decide.{ℕ_discrete, dec_lt}
use native.Mathlib.Nat.{mod-lt, mul-le-mul_left, div-lt_iff_lt-mul}
use native.Mathlib.Omega.{arith}
use borrow.Author.Tests.{lt-ltb, le-ltb}
use Rattle.counting.specs.Sum.{sum}
use Rattle.counting.specs.Count.{ind, count, δ}
use Rattle.counting.proofs.Sum.{sum-cong, sum_mono, sum-add, sum-mul, sum-const, sum-none, sum-at, sum-change}
use Rattle.counting.proofs.Most.{most-at, most-le}
use Rattle.counting.proofs.Count.{δ-same, δ-other}
use Rattle.switch.specs.Plan.{Record, output, Plan, grant, total, Covers}
use Rattle.switch.proofs.Plan.{least-total}
use Rattle.wavelengths.specs.Shared.{wavelength, uses, sharing}
use Rattle.wavelengths.proofs.Shared.{wavelength-leads, wavelength-only}
use Rattle.rules.specs.Search.{put}
use Rattle.rules.specs.Peel.{peel}
use Rattle.rules.proofs.Ports.{put_same, put_other, count-le}
use Rattle.rules.proofs.Peel.{peel-back}
use Rattle.quiet_rule.specs.Limit.{lights, lit, band, busiest, Keeps, none, more, least_within}

-- ---- which inputs use a wavelength

-- an idle input uses none
pub lights-idle : (N w i j : ℕ) → N ≤ j → ind (lights N w i j) ≡ 0
unfolding lights ind
lights-idle N w i j l = rw (le-ltb j N l)

pub lights-joined : (N w i j : ℕ) → j < N → ind (lights N w i j) ≡ δ (wavelength N i j) w
unfolding lights δ
lights-joined N w i j l = rw (lt-ltb j N l)

-- input i uses wavelength w where it is joined to output (i + w) mod N
pub lights-is : (N w i j : ℕ) → w < N → i < N → ind (lights N w i j) ≡ δ j ((i + w) % N)
lights-is N w i j lw li = go (dec_lt j N) (ℕ_discrete j ((i + w) % N))
  where
    go : Dec (j < N) → Dec (j ≡ (i + w) % N) → ind (lights N w i j) ≡ δ j ((i + w) % N)
    go (no g) d = lights-idle N w i j (omega arith) ∙ sym (δ-other j ((i + w) % N) (λ e. omega (arith, e, mod-lt (i + w) {m = N} (omega arith))))
    go (yes l) (yes e) = lights-joined N w i j l ∙ ap (λ (x : ℕ). δ x w) (sym (wavelength-only N i j li l w lw (sym e))) ∙ δ-same w ∙ sym (δ-same j) ∙ ap (δ j) e
    go (yes l) (no e) = lights-joined N w i j l ∙ δ-other _ _ (λ q. e (sym (wavelength-leads N i j li l) ∙ ap (λ (x : ℕ). (i + x) % N) q)) ∙ sym (δ-other _ _ e)

-- the same of a record
pub sharing-lit : (N : ℕ) (r : Record) (w : ℕ) → sharing N r w ≡ lit N (output r) w
unfolding sharing uses lit lights
sharing-lit N r w = refl

module _ (N : ℕ) (o : ℕ → ℕ) where
  pub lit_is : (w : ℕ) → w < N → lit N o w ≡ sum N (λ i. δ (o i) ((i + w) % N))
  unfolding lit count
  lit_is w lw = sum-cong N (λ i. ind (lights N w i (o i))) (λ i. δ (o i) ((i + w) % N)) (λ i li. lights-is N w i (o i) lw li)

  -- where all are idle
  pub lit-none : ((i : ℕ) → i < N → N ≤ o i) → (w : ℕ) → lit N o w ≡ 0
  unfolding lit count
  lit-none h w = sum-none N (λ i. ind (lights N w i (o i))) (λ i li. lights-idle N w i (o i) (h i li))

  -- no more than there are inputs
  pub lit-le : (w : ℕ) → lit N o w ≤ N
  unfolding lit
  lit-le w = count-le N (λ i. lights N w i (o i))

  -- a joined pair uses its own wavelength
  pub lit-joined : (i : ℕ) → i < N → o i < N → 0 < lit N o (wavelength N i (o i))
  unfolding lit count
  lit-joined i li lo = omega (
    arith,
    sum-at N (λ a. ind (lights N (wavelength N i (o i)) a (o a))) i li,
    lights-joined N (wavelength N i (o i)) i (o i) lo,
    δ-same (wavelength N i (o i)),
  )

  -- one input more
  pub lit-put : (i j w : ℕ) → i < N → N ≤ o i → lit N (put o i j) w ≡ lit N o w + ind (lights N w i j)
  unfolding lit count
  lit-put i j w li idle = omega (
    arith,
    sum-change N (λ a. ind (lights N w a (put o i j a))) (λ a. ind (lights N w a (o a))) i li (λ a _ ne. ap (λ (x : ℕ). ind (lights N w a x)) (put_other o i j a ne)),
    lights-idle N w i (o i) idle,
    ap (λ (x : ℕ). ind (lights N w i x)) (put_same o i j),
  )

-- ---- the slots asked on a wavelength

-- a pair's cell is one of them
pub band-at : (N : ℕ) (M : ℕ → ℕ → ℕ) (i j : ℕ) → i < N → j < N → M i j ≤ band N M (wavelength N i j)
unfolding band
band-at N M i j li lj = omega (arith, sum-at N (λ a. M a ((a + wavelength N i j) % N)) i li, ap (M i) (wavelength-leads N i j li lj))

pub band-le-busiest : (N : ℕ) (M : ℕ → ℕ → ℕ) (w : ℕ) → w < N → band N M w ≤ busiest N M
unfolding busiest
band-le-busiest N M w l = most-at N (band N M) w l

-- a wavelength loses the hold for each input that uses it
pub peel-band : (N h : ℕ) (o : ℕ → ℕ) (M : ℕ → ℕ → ℕ) → ((i : ℕ) → i < N → o i < N → h ≤ M i (o i)) → (w : ℕ) → w < N
    → band N (peel h o M) w + h * lit N o w ≡ band N M w
unfolding band
peel-band N h o M least w lw = omega (
  arith,
  sum-cong N (λ i. peel h o M i ((i + w) % N) + h * δ (o i) ((i + w) % N)) (λ i. M i ((i + w) % N)) (λ i li. peel-back N h o M least i ((i + w) % N) li (mod-lt (i + w) (omega arith))),
  sum-add N (λ i. peel h o M i ((i + w) % N)) (λ i. h * δ (o i) ((i + w) % N)),
  sum-mul N h (λ i. δ (o i) ((i + w) % N)),
  ap (λ (x : ℕ). h * x) (lit_is N o w lw),
)

-- ---- the least total within a limit

module _ (N L : ℕ) where
  -- a wavelength gets at most L times the hold from each setting
  grant-band : (p : List Record) → Keeps N L p → (w : ℕ) → w < N → band N (grant p) w ≤ total p * L
  unfolding band grant total
  grant-band [] none w lw = omega (arith, sum-const N 0)
  grant-band (r ∷ p) (more k ks) w lw = omega (
    arith,
    sum-add N (λ i. r.hold * δ (output r i) ((i + w) % N)) (λ i. grant p i ((i + w) % N)),
    sum-mul N r.hold (λ i. δ (output r i) ((i + w) % N)),
    ap (λ (x : ℕ). r.hold * x) (lit_is N (output r) w lw),
    ap (λ (x : ℕ). r.hold * x) (sharing-lit N r w),
    mul-le-mul_left r.hold (k w),
    grant-band p ks w lw,
  )

  module _ (M : ℕ → ℕ → ℕ) (p : List Record) (keeps : Keeps N L p) (covers : Covers N M p) where
    -- no plan that covers a demand within the limit, of any length, full or part-filled, grants L times its total less than is asked on a wavelength
    pub least-band : (w : ℕ) → w < N → band N M w ≤ total p * L
    unfolding band
    least-band w lw = omega (
      arith,
      grant-band p keeps w lw,
      sum_mono N (λ i. M i ((i + w) % N)) (λ i. grant p i ((i + w) % N)) (λ i li. covers i ((i + w) % N) li (mod-lt (i + w) (omega arith))),
    )

    pub least-busiest : busiest N M ≤ total p * L
    unfolding busiest
    least-busiest = most-le N (total p * L) (band N M) least-band

    -- so none has a total below the larger of T and, rounded up, the most slots asked on one wavelength over L
    pub least-within : 0 < L → Plan N p → least_within N L M ≤ total p
    unfolding least_within
    least-within pos plan = omega (arith, least-total N M p plan covers, rounded)
      where
        rounded : (busiest N M + (L - 1)) / L < total p + 1
        rounded = (div-lt_iff_lt-mul pos).1 (omega (arith, least-busiest))

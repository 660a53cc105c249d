-- Inputs that are visited lowest first, up to the last one and then from input 0 on, are those of the rule; the ones passed over have no slots left.
use Rattle.labels.specs.Ports.{Outputs}
use mathlib.Core.Path.{◌≡◌, sym, ap, ◌∙◌, subst}
use mathlib.Core.List.{List}
use Prim.Native.Nat.{ℕ, ◌+◌, ◌-◌, ◌%◌, ◌≤◌, ◌<◌}
use native.Mathlib.Nat.{mod-lt, mod-eq_of_lt, add-mod-mod, add-mod_right}
use native.Mathlib.Omega.{arith}
use lib.ListN.{length, get_or, length-set}
use lib.Seq.{get_or-set_other}
use Rattle.switch.specs.Demand.{cell}
use Rattle.sets.specs.Label.{In, Sub, Cleared, Below, From, LowestAt}
use Rattle.labels.specs.Ports.{inputs_of, outputs_of}
use Rattle.slot.specs.declared.Turn.{Turn}
use Rattle.slot.specs.Filled.{Copy, Waiting, Turned, Visited, none, next}
use Rattle.slot.proofs.Visits.{Visiting, visiting-none, visiting-next, visiting-skips}

-- ---- parts of a set

-- r is what l has from a on and below b
pub record Cut (l a b r : ℕ) : Type 0 where
  pub less : Sub r l
  pub from : (k : ℕ) → In r k → a ≤ k
  pub below : (k : ℕ) → In r k → k < b
  pub all : (k : ℕ) → a ≤ k → k < b → In l k → In r k

cut-from : (l a b r : ℕ) → ((k : ℕ) → In l k → k < b) → From l a r → Cut l a b r
cut-from l a b r s f = record { less = f.less; from = f.large; below = λ k h. s k (f.less k h); all = λ k q _ h. f.all k q h }

cut_below : (l b r : ℕ) → Below l b r → Cut l 0 b r
cut_below l b r f = record { less = f.less; from = λ k h. omega arith; below = f.small; all = λ k _ q h. f.all k q h }

-- without its lowest it goes on after that
cut-lowered : (l a b r i r' : ℕ) → Cut l a b r → In r i → ((k : ℕ) → k < i → In r k → ⊥) → Cleared r i r' → Cut l (i + 1) b r'
cut-lowered l a b r i r' c e f d = record {
  less = λ k h. c.less k (d.less k h);
  from = λ k h. after k (λ q. f k q (d.less k h)) (λ z. d.gone (subst (In r') z h));
  below = λ k h. c.below k (d.less k h);
  all = λ k q p h. d.kept k (c.all k (omega (arith, c.from i e)) p h) (λ z. omega arith);
}
  where
    after : (k : ℕ) → (k < i → ⊥) → (k ≡ i → ⊥) → i + 1 ≤ k
    after k x y = omega (arith, x, y)

-- ---- which input a visit comes to

module _ (N s : ℕ) (pos : 0 < N) where
  -- before it goes around
  port-on : (q : ℕ) → q + s % N < N → (q + s) % N ≡ q + s % N
  port-on q l = sym (add-mod-mod q s N) ∙ mod-eq_of_lt l

  -- and after
  port-past : (q : ℕ) → q < N → N ≤ q + s % N → (q + s) % N ≡ q + s % N - N
  port-past q l h =
      sym (add-mod-mod q s N) ∙ ap (λ (x : ℕ). x % N) (let e : q + s % N ≡ q + s % N - N + N = omega arith in e) ∙ add-mod_right (q + s % N - N) N
      ∙ mod-eq_of_lt (omega (arith, mod-lt s pos))

-- ---- a run of visits, whose inputs follow each other: visit q comes to input q + f - b, for q below h

module _ (N s : ℕ) (S : ℕ) (w₀ w : List ℕ) (rows : List Outputs) (out : List ℕ) (turn : Turn) (v f b h r : ℕ) (top : h ≤ N) (here : v ≤ h) (base : b ≤ v + f)
    (port : (q : ℕ) → v ≤ q → q < h → (q + s) % N ≡ q + f - b)
    (g : Visiting N s v w₀ w rows out turn)
    (empty : (i : ℕ) → i < N → (In S i → ⊥) → (j : ℕ) → j < N → cell N w₀ i j ≡ 0)
    (c : Cut S (v + f - b) (h + f - b) r) where
  -- the visits up to k come to inputs without slots left
  passed : (k : ℕ) → v ≤ k → k ≤ h → ((x : ℕ) → v + f - b ≤ x → x < k + f - b → In r x → ⊥) → Visiting N s k w₀ w rows out turn
  passed k l t no_one =
      subst (λ (x : ℕ). Visiting N s x w₀ w rows out turn) (let e : v + (k - v) ≡ k = omega arith in e)
      (visiting-skips N s w₀ w rows out turn v (k - v) (omega arith) (λ q a d. free q a (omega arith)) g)
    where
      free : (q : ℕ) → v ≤ q → q < k → (j : ℕ) → j < N → cell N w₀ ((q + s) % N) j ≡ 0
      free q a d =
          let p : (q + s) % N ≡ q + f - b = port q a (omega arith) in
          empty ((q + s) % N) (mod-lt (q + s) g.copy.sized.some)
          (λ x. no_one (q + f - b) (omega arith) (omega arith) (c.all (q + f - b) (omega arith) (omega arith) (subst (In S) p x)))

  -- the lowest input ahead is the next one that is visited
  reached : (i : ℕ) → In r i → ((k : ℕ) → k < i → In r k → ⊥) → Visiting N s (i + b - f) w₀ w rows out turn × (v ≤ i + b - f) × (i + b - f < h) × ((i + b - f + s) % N ≡ i)
  reached i e first =
      let lo : v + f - b ≤ i = c.from i e in
      let hi : i < h + f - b = c.below i e in
      let a : v ≤ i + b - f = omega arith in
      let d : i + b - f < h = omega arith in
      (passed (i + b - f) a (omega arith) (λ x _ l. first x (omega arith)), a, d, port (i + b - f) a d ∙ omega arith)

  -- none is ahead: the run is over
  over : ((k : ℕ) → In r k → ⊥) → Visiting N s h w₀ w rows out turn
  over no_one = passed h here (omega arith) (λ x _ _. no_one x)

-- ---- turns, one after the other

-- the inputs of r are still ahead: their turns complete those of l
pub record Ahead (N l : ℕ) (w₀ : List ℕ) (rows₀ : List Outputs) (out₀ : List ℕ) (turn₀ : Turn) (r : ℕ) (w : List ℕ) (rows : List Outputs) (out : List ℕ) (turn : Turn) : Type 0 where
  pub copy : Copy N turn.rest w rows
  pub waits : Waiting N r out
  pub work : length w ≡ length w₀
  pub long : length out ≡ length out₀
  pub rest : (w' : List ℕ) (rows' : List Outputs) (out' : List ℕ) (turn' : Turn) → Visited N r w rows out turn w' rows' out' turn' → Visited N l w₀ rows₀ out₀ turn₀ w' rows' out' turn'

-- one less
pub ahead-next : (N l : ℕ) (w₀ : List ℕ) (rows₀ : List Outputs) (out₀ : List ℕ) (turn₀ : Turn) (r : ℕ) (w : List ℕ) (rows : List Outputs) (out : List ℕ) (turn : Turn) → Ahead N l w₀ rows₀ out₀ turn₀ r w rows out turn
    → (i r' : ℕ) → LowestAt 128 r i → Cleared r i r' → (w' : List ℕ) (rows' : List Outputs) (out' : List ℕ) (turn' : Turn) → Turned N i w out turn w' rows' out' turn' → length w' ≡ length w
    → Ahead N l w₀ rows₀ out₀ turn₀ r' w' rows' out' turn'
ahead-next N l w₀ rows₀ out₀ turn₀ r w rows out turn g i r' m d w' rows' out' turn' t z = record {
  copy = t.copy;
  waits = λ k h. let b = g.waits k (d.less k h) in (b.0, ap (λ (o : List ℕ). get_or o k 255) t.seated ∙ get_or-set_other out i k _ 255 (λ e. d.gone (subst (In r') e h)) ∙ b.1);
  work = z ∙ g.work;
  long = ap length t.seated ∙ length-set out i _ ∙ g.long;
  rest = λ w₁ rows₁ out₁ turn₁ k. g.rest w₁ rows₁ out₁ turn₁ (next m d t k);
}

-- ---- the run's turns

-- the inputs of S from the run's first on have had their turns: all its visits are made
module _ (N s S : ℕ) (w₀ : List ℕ) (f b h : ℕ) (top : h ≤ N) (empty : (i : ℕ) → i < N → (In S i → ⊥) → (j : ℕ) → j < N → cell N w₀ i j ≡ 0) where
  pub visits-made : {r : ℕ} {w : List ℕ} {rows : List Outputs} {out w' : List ℕ} {rows' : List Outputs} {out' : List ℕ} {turn turn' : Turn} → Visited N r w rows out turn w' rows' out' turn'
      → (v : ℕ) → v ≤ h → b ≤ v + f → ((q : ℕ) → v ≤ q → q < h → (q + s) % N ≡ q + f - b) → Visiting N s v w₀ w rows out turn → Cut S (v + f - b) (h + f - b) r
      → Visiting N s h w₀ w' rows' out' turn'
  visits-made {r} {w} {rows} {out} {turn = turn} (none n) v here base port g c = over N s S w₀ w rows out turn v f b h r top here base port g empty c n
  visits-made {r} {w} {rows} {out} {turn = turn} (next {i = i} {r = r'} {w₁ = wᵢ} {rows₁ = rowsᵢ} {out₁ = outᵢ} {turn₁ = turnᵢ} m d t k) v here base port g c =
      let x = reached N s S w₀ w rows out turn v f b h r top here base port g empty c i m.here m.past in
      let lo : v + f - b ≤ i = c.from i m.here in
      let e : i + 1 ≡ i + b - f + 1 + f - b = omega (arith, x.1, x.2) in
      visits-made k (i + b - f + 1) (omega (arith, x.2)) (omega (arith, x.1)) (λ q p. port q (omega (arith, x.1)))
      (visiting-next N s (i + b - f) w₀ w rows out turn (omega (arith, x.2)) x.0 wᵢ rowsᵢ outᵢ turnᵢ (subst (λ (y : ℕ). Turned N y w out turn wᵢ rowsᵢ outᵢ turnᵢ) (sym x.3) t))
      (subst (λ (y : ℕ). Cut S y (h + f - b) r') e (cut-lowered S (v + f - b) (h + f - b) r i r' c m.here m.past d))

-- ---- a slot: from input s mod N on, and then from input 0 on

module _ (N s : ℕ) (w₀ : List ℕ) (rows₀ : List Outputs) (out₀ : List ℕ) (begun : Turn) (copy : Copy N begun.rest w₀ rows₀) (wide : N ≤ length out₀) (idle : (i : ℕ) → get_or out₀ i 255 ≡ 255) where
  abbrev f : ℕ
  f = s % N

  abbrev S : ℕ
  S = inputs_of begun.rest.inputs

  pos : 0 < N
  pos = copy.sized.some

  small : f < N
  small = mod-lt s pos

  module _ (ahead : ℕ) (from : From S (s % N) ahead) where
    pub first-waits : Waiting N ahead out₀
    first-waits i h = (copy.inside i (from.less i h), idle i)

    module _ (w : List ℕ) (rows : List Outputs) (out : List ℕ) (half : Turn) (free : (k : ℕ) → k < 128 → In (outputs_of begun.free) k) (first : Visited N ahead w₀ rows₀ out₀ begun w rows out half) where
      pub first-half : Visiting N s (N - s % N) w₀ w rows out half
      first-half =
          visits-made N s S w₀ f 0 (N - f) (omega arith) copy.others first 0 (omega arith) (omega arith)
          (λ q _ l. port-on N s pos q (omega arith) ∙ (let e : q + f ≡ q + f - 0 = omega arith in e))
          (visiting-none N s w₀ rows₀ out₀ begun copy wide idle free)
          (subst (λ (x : ℕ). Cut S x (N - f + f - 0) ahead) (let e : f ≡ 0 + f - 0 = omega arith in e)
          (subst (λ (x : ℕ). Cut S f x ahead) (let e : N ≡ N - f + f - 0 = omega (arith, small) in e) (cut-from S f N ahead copy.inside from)))

      module _ (later : ℕ) (below : Below S (s % N) later) where
        around : (q : ℕ) → N - f ≤ q → q < N → (q + s) % N ≡ q + f - N
        around q l h = port-past N s pos q h (omega arith)

        pub second-waits : Waiting N later out
        second-waits i h =
            let l : i < f = below.small i h in
            let e : i + (N - f) + f - N ≡ i = omega (arith, small) in
            (omega (arith, l, small), subst (λ (x : ℕ). get_or out x 255 ≡ 255) (around (i + (N - f)) (omega arith) (omega (arith, l)) ∙ e) (first-half.ahead (i + (N - f)) (omega arith) (omega (arith, l))))

        pub second-half : (w' : List ℕ) (rows' : List Outputs) (out' : List ℕ) (whole : Turn) → Visited N later w rows out half w' rows' out' whole → Visiting N s N w₀ w' rows' out' whole
        second-half w' rows' out' whole second =
            visits-made N s S w₀ f N N (omega arith) copy.others second (N - f) (omega arith) (omega (arith, small)) around first-half
            (subst (λ (x : ℕ). Cut S x (N + f - N) later) (let e : 0 ≡ N - f + f - N = omega (arith, small) in e)
            (subst (λ (x : ℕ). Cut S 0 x later) (let e : f ≡ N + f - N = omega arith in e) (cut_below S f later below)))

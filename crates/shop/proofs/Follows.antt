-- The lowest idle input of an output's set is the lowest that is ready on paper, so what is kept follows the rule's turn.
use mathlib.Core.Path.{◌≡◌, refl, sym, ap, ap₂, ◌∙◌, subst}
use mathlib.Core.Logic.{◌≢◌, ◌⊎◌, inl, inr}
use mathlib.Core.List.{List, [], ◌∷◌, ◌++◌}
use Prim.Native.Nat.{ℕ, ◌+◌, ◌*◌, ◌≤◌, ◌<◌, max}
use native.Mathlib.Decide.{ℕ_discrete}
use native.Mathlib.Omega.{arith}
use lib.ListN.{length, get_or, set, length-append}
use lib.Seq.{get_or-set_same, get_or-set_other}
use lib.Arith.{digits_lt}
use lib.Dec.{T}
use borrow.Author.Tests.{lt-ltb, le-ltb, le-leb, lt-leb}
use Rattle.switch.specs.Demand.{cell}
use Rattle.switch.proofs.Demand.{index-small}
use Rattle.sets.specs.Label.{In, digit, Cleared}
use Rattle.records.specs.Bytes.{laid}
use Rattle.records.proofs.Laid.{laid_more, length-laid}
use Rattle.rules.specs.Search.{put}
use Rattle.rules.specs.Quick.{lowest}
use Rattle.rules.proofs.Ports.{put_same, put_other}
use Rattle.rules.proofs.Slot.{lowest-at, lowest-none}
use Rattle.shop_rule.specs.Task.{Task}
use Rattle.shop_rule.specs.Shop.{Shop, ready, begin, take, turn}
use Rattle.shop_rule.proofs.Task.{latest-last}
use Rattle.shop_rule.proofs.Begin.{without, without_at, without-row, without-col}
use Rattle.shop_rule.proofs.Going.{is-ready, ready-is}
use Rattle.tasks.specs.Bytes.{task, encode, bytes}
use Rattle.tasks.proofs.Trips.{bytes-size, bytes-last}
use Rattle.shop.specs.declared.Begun.{Begun}
use Rattle.shop.specs.declared.Turned.{Turned}
use Rattle.shop.specs.Sets.{numbers_of, CommonAt}
use Rattle.shop.specs.Kept.{Idle, Held, Wrote, TurnPost}

-- a list with one place set is the function with that place put
get_or-put : (l : List ℕ) (i v : ℕ) → i < length l → (f : ℕ → ℕ) → ((a : ℕ) → f a ≡ get_or l a 0) → (a : ℕ) → put f i v a ≡ get_or (set l i v) a 0
get_or-put l i v li f h a = go (ℕ_discrete a i)
  where
    go : Dec (a ≡ i) → put f i v a ≡ get_or (set l i v) a 0
    go (yes e) = ap (put f i v) e ∙ put_same f i v ∙ sym (get_or-set_same l i v 0 li) ∙ sym (ap (λ (x : ℕ). get_or (set l i v) x 0) e)
    go (no e) = put_other f i v a e ∙ h a ∙ sym (get_or-set_other l i a v 0 e)

module _ (n : ℕ) (few : n ≤ 64) (cells : List ℕ) (d t j : ℕ) (lj : j < n) (x : Shop) (waiting ins outs : List ℕ) (h : Held n cells x waiting ins outs)
    (idle : ℕ) (b : Idle n t ins idle) where
  abbrev w : ℕ
  w = get_or waiting j 0

  -- ---- which input is ready

  ready-yes : (i : ℕ) → In w i → In idle i → T (ready t x j i)
  ready-yes i a z = is-ready t x j i (h.asks i j lj a).1 (omega (arith, b.free i z, h.ins-is i))

  ready-no : (i : ℕ) → i < n → T (ready t x j i) → In w i × In idle i
  ready-no i li r = (asks (ℕ_discrete (digit w i) 1), b.all i li (omega (arith, (ready-is t x j i r).1, h.ins-is i)))
    where
      asks : Dec (In w i) → In w i
      asks (yes a) = a
      asks (no a) = absurd (omega (arith, h.done i j li lj a, (ready-is t x j i r).0))

  -- ---- the turn

  pub turn-running : t < get_or outs j 0 → turn n d t x j ≡ x
  unfolding turn
  turn-running l = rw (lt-leb (x.outs j) t (omega (arith, h.outs-is j)))

  pub turn-nothing : get_or outs j 0 ≤ t → ((i : ℕ) → In w i → In idle i → ⊥) → turn n d t x j ≡ x
  unfolding turn take
  turn-nothing l none =
      let e : lowest n 0 (ready t x j) ≡ 255 = lowest-none n 0 (ready t x j) (λ i _ li r. let q = ready-no i (omega arith) r in none i q.0 q.1) in
      rw (le-leb (x.outs j) t (omega (arith, h.outs-is j)), e, le-ltb 255 n (omega arith))

  module _ (i : ℕ) (o : CommonAt w idle i) (l : get_or outs j 0 ≤ t) where
    li : i < n
    li = h.small i j lj o.left

    pub turn-starts : turn n d t x j ≡ begin d t x i j
    unfolding turn take
    turn-starts =
        let e : lowest n 0 (ready t x j) ≡ i = lowest-at n 0 (ready t x j) i (omega arith) (omega (arith, li)) (ready-yes i o.left o.right)
        (λ k _ m r. let q = ready-no k (omega (arith, li)) r in o.past k m q.0 q.1) in
        rw (le-leb (x.outs j) t (omega (arith, h.outs-is j)), e, lt-ltb i n li)

    -- ---- what is kept afterwards

    module _ (r : ℕ) (c : Cleared w i r) (lw : j < length waiting) (l-ins : i < length ins) (l-outs : j < length outs) (e : ℕ) (is : e ≡ t + (d + cell n cells i j)) where
      same : x.left i j ≡ cell n cells i j
      same = (h.asks i j lj o.left).0

      ends : t + (d + x.left i j) ≡ e
      ends = omega (arith, is, same)

      -- the label of output b, which only j's turn changed
      label : (a b' : ℕ) → In (get_or (set waiting j r) b' 0) a → ((b' ≡ j) × In r a) ⊎ ((b' ≢ j) × In (get_or waiting b' 0) a)
      label a b' z = go (ℕ_discrete b' j)
        where
          go : Dec (b' ≡ j) → ((b' ≡ j) × In r a) ⊎ ((b' ≢ j) × In (get_or waiting b' 0) a)
          go (yes q) = inl (q, subst (λ (m : ℕ). In m a) (ap (λ (y : ℕ). get_or (set waiting j r) y 0) q ∙ get_or-set_same waiting j r 0 lw) z)
          go (no q) = inr (q, subst (λ (m : ℕ). In m a) (get_or-set_other waiting j b' r 0 q) z)

      not-i : (a : ℕ) → In r a → a ≢ i
      not-i a z q = c.gone (subst (In r) q z)

      small : (a b' : ℕ) → b' < n → In (get_or (set waiting j r) b' 0) a → a < n
      small a b' lb z = go (label a b' z)
        where
          go : ((b' ≡ j) × In r a) ⊎ ((b' ≢ j) × In (get_or waiting b' 0) a) → a < n
          go (inl q) = h.small a j lj (c.less a q.1)
          go (inr q) = h.small a b' lb q.1

      asks : (a b' : ℕ) → b' < n → In (get_or (set waiting j r) b' 0) a → ((begin d t x i j).left a b' ≡ cell n cells a b') × (0 < (begin d t x i j).left a b')
      unfolding begin
      asks a b' lb z = go (label a b' z)
        where
          kept : without x.left i j a b' ≡ x.left a b' → (x.left a b' ≡ cell n cells a b') × (0 < x.left a b')
              → (without x.left i j a b' ≡ cell n cells a b') × (0 < without x.left i j a b')
          kept m q = (m ∙ q.0, omega (arith, m, q.1))

          go : ((b' ≡ j) × In r a) ⊎ ((b' ≢ j) × In (get_or waiting b' 0) a) → (without x.left i j a b' ≡ cell n cells a b') × (0 < without x.left i j a b')
          go (inl q) = kept (without-row x.left i j a b' (not-i a q.1))
              (h.asks a b' lb (subst (λ (y : ℕ). In (get_or waiting y 0) a) (sym q.0) (c.less a q.1)))
          go (inr q) = kept (without-col x.left i j a b' q.0) (h.asks a b' lb q.1)

      done : (a b' : ℕ) → a < n → b' < n → (In (get_or (set waiting j r) b' 0) a → ⊥) → (begin d t x i j).left a b' ≡ 0
      unfolding begin
      done a b' la lb z = go (ℕ_discrete b' j) (ℕ_discrete a i)
        where
          go : Dec (b' ≡ j) → Dec (a ≡ i) → without x.left i j a b' ≡ 0
          go (yes q) (yes p) = ap₂ (without x.left i j) p q ∙ without_at x.left i j
          go (yes q) (no p) = without-row x.left i j a b' p ∙ h.done a b' la lb
              (λ y. z (subst (λ (m : ℕ). In m a) (sym (ap (λ (y : ℕ). get_or (set waiting j r) y 0) q ∙ get_or-set_same waiting j r 0 lw)) (c.kept a (subst (λ (y : ℕ). In (get_or waiting y 0) a) q y) p)))
          go (no q) p = without-col x.left i j a b' q ∙ h.done a b' la lb (λ y. z (subst (λ (m : ℕ). In m a) (sym (get_or-set_other waiting j b' r 0 q)) y))

      pub held-begin : Held n cells (begin d t x i j) (set waiting j r) (set ins i e) (set outs j e)
      unfolding begin
      held-begin = record {
        small = small;
        asks = asks;
        done = done;
        ins-is = λ a. ap (λ (y : ℕ). put x.ins i y a) ends ∙ get_or-put ins i e l-ins x.ins h.ins-is a;
        outs-is = λ a. ap (λ (y : ℕ). put x.outs j y a) ends ∙ get_or-put outs j e l-outs x.outs h.outs-is a;
      }

      pub idle-begin : (m : ℕ) → Cleared idle i m → Idle n t (set ins i e) m
      idle-begin m k = record { small = λ a z. b.small a (k.less a z); free = λ a z. free a z (ℕ_discrete a i); all = λ a la z. all a la z (ℕ_discrete a i) }
        where
          free : (a : ℕ) → In m a → Dec (a ≡ i) → get_or (set ins i e) a 0 ≤ t
          free a z (yes q) = absurd (k.gone (subst (In m) q z))
          free a z (no q) = rw (get_or-set_other ins i a e 0 q) (b.free a (k.less a z))

          all : (a : ℕ) → a < n → get_or (set ins i e) a 0 ≤ t → Dec (a ≡ i) → In m a
          all a la z (no q) = k.kept a (b.all a la (rw (get_or-set_other ins i a e 0 q) at z)) q
          all a la z (yes q) = absurd (omega (arith, ap (λ (y : ℕ). get_or (set ins i e) y 0) q, get_or-set_same ins i e 0 l-ins, is, same, (h.asks i j lj o.left).1))

      pub wrote-begin : (before : List ℕ) (g g' : Begun) (tasks tasks' : List ℕ) → Wrote x before g tasks → g.records * 12 + 12 ≤ length tasks
          → tasks' ≡ laid tasks (g.records * 12) (encode (task i j t e)) → g'.records ≡ g.records + 1 → g'.latest ≡ max g.latest e
          → Wrote (begin d t x i j) before g' tasks'
      unfolding begin
      wrote-begin before g g' tasks tasks' p fits q rs ls = subst (λ (z : ℕ). Wrote (after z) before g' tasks') (sym ends) (record {
        laid-is =
            q ∙ ap₂ (λ (l : List ℕ) (k : ℕ). laid l k (encode new)) p.laid-is at-end
            ∙ laid_more before 0 (bytes x.begun) (omega (arith, p.room)) (encode new)
            ∙ ap (laid before 0) (sym (bytes-last x.begun new));
        records = omega (arith, rs, p.records, length-append x.begun (new ∷ []));
        latest-is = omega (arith, ls, p.latest-is, latest-last x.begun new);
        room = omega (
          arith,
          fits,
          p.records,
          bytes-size (x.begun ++ (new ∷ [])),
          length-append x.begun (new ∷ []),
          ap length p.laid-is,
          length-laid before 0 (bytes x.begun) (omega (arith, p.room)),
        );
      })
        where
          new : Task
          new = task i j t e

          -- the shop with the end at z
          after : ℕ → Shop
          after z = record {
            left = put x.left i (put (x.left i) j 0);
            ins = put x.ins i z;
            outs = put x.outs j z;
            begun = x.begun ++ (task i j t z ∷ []);
          }

          at-end : g.records * 12 ≡ 0 + length (bytes x.begun)
          at-end = omega (arith, p.records, bytes-size x.begun)

-- ---- what the code leaves

-- the output starts nothing
pub turned_none : (n : ℕ) (cells : List ℕ) (d t j : ℕ) (so : Turned) (waiting ins outs tasks : List ℕ)
    → ((x : Shop) → Held n cells x waiting ins outs → Idle n t ins (numbers_of so.idle) → turn n d t x j ≡ x)
    → TurnPost n cells d t j so waiting ins outs tasks so waiting ins outs tasks
turned_none n cells d t j so waiting ins outs tasks e = record {
  waiting-size = refl;
  ins-size = refl;
  outs-size = refl;
  kept = λ x before h b p. let q = e x h b in (rw q h, b, rw q p);
}

-- it starts a task with input i
pub turned-starts : (n : ℕ) → n ≤ 64 → (cells : List ℕ) (d t j : ℕ) → j < n → (waiting ins outs tasks : List ℕ) (idle : ℕ) (g : Begun) (i : ℕ)
    → CommonAt (get_or waiting j 0) idle i → get_or outs j 0 ≤ t → (r : ℕ) → Cleared (get_or waiting j 0) i r
    → j < length waiting → i < length ins → j < length outs → (e : ℕ) → e ≡ t + (d + cell n cells i j) → (m : ℕ) → Cleared idle i m
    → g.records * 12 + 12 ≤ length tasks → (tasks' : List ℕ) → tasks' ≡ laid tasks (g.records * 12) (encode (task i j t e))
    → (g' : Begun) → (g'.records ≡ g.records + 1) × (g'.latest ≡ max g.latest e)
    → (x : Shop) (before : List ℕ) → Held n cells x waiting ins outs → Idle n t ins idle → Wrote x before g tasks
    → Held n cells (turn n d t x j) (set waiting j r) (set ins i e) (set outs j e) × Idle n t (set ins i e) m × Wrote (turn n d t x j) before g' tasks'
turned-starts n few cells d t j lj waiting ins outs tasks idle g i o l r c lw l-ins l-outs e is m k fits tasks' q g' more x before h b p =
    let ts = turn-starts n few cells d t j lj x waiting ins outs h idle b i o l in (
      rw ts (held-begin n few cells d t j lj x waiting ins outs h idle b i o l r c lw l-ins l-outs e is),
      idle-begin n few cells d t j lj x waiting ins outs h idle b i o l r c lw l-ins l-outs e is m k,
      rw ts (wrote-begin n few cells d t j lj x waiting ins outs h idle b i o l r c lw l-ins l-outs e is before g g' tasks tasks' p fits q more.0 more.1),
    )

-- ---- where a pair's cell stands

pub pair-in : (n i j : ℕ) (cells : List ℕ) → n ≤ 64 → n * n ≤ length cells → i < n → j < n → (i * n + j < length cells) × (i * n + j < 16384)
pair-in n i j cells few sized li lj = omega (arith, digits_lt {q = i} {m = n} {r = j} {c = n} li lj, index-small n i (omega arith) li)

pub pair-cell : (n i j : ℕ) (cells : List ℕ) → get_or cells (i * n + j) 0 ≡ cell n cells i j
unfolding cell
pair-cell n i j cells = refl

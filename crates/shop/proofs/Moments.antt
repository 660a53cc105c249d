-- A moment turn by turn: what is kept after j turns is the rule's, and what is promised of the moment gives each turn its time and room.
use mathlib.Core.Path.{◌≡◌, ap, subst, ◌∙◌}
use mathlib.Core.List.{List}
use Prim.Native.Nat.{ℕ, ◌+◌, ◌<◌}
use native.Mathlib.Numerals.{add-one}
use native.Mathlib.Omega.{arith}
use lib.ListN.{length}
use Rattle.records.proofs.Laid.{length-laid}
use Rattle.shop_rule.specs.Shop.{Shop, turns}
use Rattle.tasks.specs.Bytes.{bytes}
use Rattle.shop.specs.declared.Begun.{Begun}
use Rattle.shop.specs.declared.Turned.{Turned}
use Rattle.shop.specs.Sets.{numbers_of}
use Rattle.shop.specs.Kept.{Idle, Held, Wrote, TurnPre, TurnPost, MomentPre}

pub wrote-size : (x : Shop) (before : List ℕ) (g : Begun) (tasks : List ℕ) → Wrote x before g tasks → length tasks ≡ length before
wrote-size x before g tasks w = ap length w.laid-is ∙ length-laid before 0 (bytes x.begun) (omega (arith, w.room))

-- what j turns have kept of any shop kept before them
abbrev pub Kept : ℕ → List ℕ → ℕ → ℕ → List ℕ → List ℕ → List ℕ → List ℕ → Turned → List ℕ → List ℕ → List ℕ → List ℕ → Turned → ℕ → Type 0
Kept n cells d t waiting₀ ins₀ outs₀ tasks₀ so₀ waiting ins outs tasks so j =
    (x : Shop) (before : List ℕ) → Held n cells x waiting₀ ins₀ outs₀ → Idle n t ins₀ (numbers_of so₀.idle) → Wrote x before so₀.begun tasks₀
    → Held n cells (turns n d t x j) waiting ins outs × Idle n t ins (numbers_of so.idle) × Wrote (turns n d t x j) before so.begun tasks

module _ (n : ℕ) (cells : List ℕ) (d t : ℕ) (waiting ins outs tasks : List ℕ) (so : Turned) where
  pub kept-none : Kept n cells d t waiting ins outs tasks so waiting ins outs tasks so 0
  unfolding turns
  kept-none x before h b w = (h, b, w)

  pub kept_more : (w i o k w' i' o' k' : List ℕ) (z z' : Turned) (j : ℕ) → Kept n cells d t waiting ins outs tasks so w i o k z j
      → TurnPost n cells d t j z w i o k z' w' i' o' k' → Kept n cells d t waiting ins outs tasks so w' i' o' k' z' (j + 1)
  unfolding turns
  kept_more w i o k w' i' o' k' z z' j q p x before h b g = rw (add-one j) (let r = q x before h b g in p.kept (turns n d t x j) before r.0 r.1 r.2)

  pub kept-all : (w i o k : List ℕ) (z : Turned) (j : ℕ) → j ≡ n → Kept n cells d t waiting ins outs tasks so w i o k z j
      → (x : Shop) (before : List ℕ) → Held n cells x waiting ins outs → Idle n t ins (numbers_of so.idle) → Wrote x before so.begun tasks
      → Held n cells (turns n d t x n) w i o × Wrote (turns n d t x n) before z.begun k
  kept-all w i o k z j e q x before h b g =
      let r = q x before h b g in
      subst (λ (m : ℕ). Held n cells (turns n d t x m) w i o × Wrote (turns n d t x m) before z.begun k) e (r.0, r.2)

pub turn-pre : (n : ℕ) (cells : List ℕ) (d t : ℕ) (begun : Begun) (waiting₀ ins₀ outs₀ tasks₀ : List ℕ) (p : MomentPre n cells d t begun waiting₀ ins₀ outs₀ tasks₀)
    (j : ℕ) → j < n → (waiting ins outs tasks : List ℕ) (g : Begun) → length waiting ≡ 64 → length ins ≡ 64 → length outs ≡ 64
    → Held n cells (turns n d t p.shop j) waiting ins outs → Wrote (turns n d t p.shop j) p.before g tasks
    → TurnPre n cells d t j g.records waiting ins outs tasks
turn-pre n cells d t begun waiting₀ ins₀ outs₀ tasks₀ p j lj waiting ins outs tasks g lw li lo h w = record {
  few = p.few;
  place = lj;
  sized = p.sized;
  started = omega (arith, p.safe.few j lj, w.records);
  waiting-size = lw;
  ins-size = li;
  outs-size = lo;
  small = λ i z. h.small i j lj z;
  time = λ i z. p.safe.time j lj i (h.small i j lj z) (h.asks i j lj z).1;
  room = λ i z. omega (arith, p.safe.space j lj i (h.small i j lj z) (h.asks i j lj z).1, w.records, wrote-size (turns n d t p.shop j) p.before g tasks w);
}

-- The sets at the start: input by input the ones with slots for an output, output by output; with all ports idle they keep the closed shop.
use Rattle.std.specs.Prelude.{Err, Ok}
use mathlib.Core.Path.{◌≡◌, refl, sym, ap, ap₂, subst, ◌∙◌}
use mathlib.Core.Logic.{◌⊎◌, inl, inr}
use mathlib.Core.List.{List}
use Prim.Native.Nat.{ℕ, zero, suc, ◌+◌, ◌*◌, ◌/◌, ◌≤◌, ◌<◌}
use native.Mathlib.Decide.{ℕ_discrete, dec_lt}
use native.Mathlib.Omega.{arith}
use lib.ListN.{length, get_or, set, take, replicate}
use lib.Seq.{get_or-set_same, get_or-set_other, take_all}
use Rattle.counting.specs.Sum.{sum}
use Rattle.counting.specs.Matrix.{row}
use Rattle.counting.proofs.Sum.{sum_rows, sum-next, sum-zero}
use Rattle.std.specs.List.{count_by}
use Rattle.std.proofs.lemmas.List.Sums.{count_by_more_no, count_by_more_yes}
use mathlib.Core.Bool.{Bool, not}
use lib.Dec.{eqb}
use native.Mathlib.Numerals.{add-one}
use borrow.Author.Tests.{lt-leb, le-leb, eq-eqb, ne_eqb}
use Rattle.switch.specs.declared.Refusal.TheVariants.{Room}
use Rattle.switch.specs.Answer.{plan_counts}
use Rattle.switch.specs.Demand.{cell}
use Rattle.switch.specs.declared.Refusal.{Refusal}
use Rattle.switch.specs.Outcome.{Outcome}
use Rattle.demand.specs.Check.{check_demand}
use Rattle.switch.specs.Result.{Gives}
use Rattle.sets.specs.Label.{In, Marked}
use Rattle.shop_rule.specs.Shop.{pairs, closed, shop_plan}
use Rattle.shop_rule.proofs.Begin.{pairs-none, pairs-one}
use Rattle.shop_rule.proofs.Count.{shop-length}
use Rattle.tasks.proofs.Pass.{get_or-zeros}
use Rattle.shop.specs.Kept.{Column, Held, RunPost}
use Rattle.shop.specs.Shopped.{writes, room_for, shopped}
use Rattle.shop.specs.declared.Begun.{Begun}

module _ (n : ℕ) (cells : List ℕ) (j : ℕ) where
  pub column-none : (l : ℕ) → ((k : ℕ) → In l k → ⊥) → Column 0 n cells j l
  column-none l h = record { small = λ i z. absurd (h i z); asks = λ i z. absurd (h i z); all = λ i li _. absurd (omega arith) }

  module _ (i l : ℕ) (b : Column i n cells j l) where
    pub column-mark : (m : ℕ) → (cell n cells i j ≡ 0 → ⊥) → Marked l i m → Column (i + 1) n cells j m
    column-mark m r k = record { small = λ a z. small a (k.only a z); asks = λ a z. asks a (k.only a z); all = λ a la z. all a la z (ℕ_discrete a i) }
      where
        small : (a : ℕ) → In l a ⊎ (a ≡ i) → a < i + 1
        small a (inl z) = omega (arith, b.small a z)
        small a (inr q) = omega arith

        asks : (a : ℕ) → In l a ⊎ (a ≡ i) → 0 < cell n cells a j
        asks a (inl z) = b.asks a z
        asks a (inr q) = rw q (omega (arith, r))

        all : (a : ℕ) → a < i + 1 → 0 < cell n cells a j → Dec (a ≡ i) → In m a
        all a la z (yes q) = rw q k.put
        all a la z (no q) = k.more a (b.all a (omega arith) z)

    pub column-skip : cell n cells i j ≡ 0 → Column (i + 1) n cells j l
    column-skip r = record { small = λ a z. omega (arith, b.small a z); asks = b.asks; all = λ a la z. all a la z (ℕ_discrete a i) }
      where
        all : (a : ℕ) → a < i + 1 → 0 < cell n cells a j → Dec (a ≡ i) → In l a
        all a la z (yes q) = absurd (let v : 0 < cell n cells i j = rw q at z in let f : ⊥ = omega arith in f)
        all a la z (no q) = b.all a (omega arith) z

-- one output more
pub columns-more : (n : ℕ) (cells waiting : List ℕ) (j l : ℕ) → j < length waiting → ((a : ℕ) → a < j → Column n n cells a (get_or waiting a 0)) → Column n n cells j l
    → (a : ℕ) → a < j + 1 → Column n n cells a (get_or (set waiting j l) a 0)
columns-more n cells waiting j l lw h c a la = go (ℕ_discrete a j)
  where
    go : Dec (a ≡ j) → Column n n cells a (get_or (set waiting j l) a 0)
    go (yes q) = subst (λ (b : ℕ). Column n n cells b (get_or (set waiting j l) b 0)) (sym q) (subst (Column n n cells j) (sym (get_or-set_same waiting j l 0 lw)) c)
    go (no q) = subst (Column n n cells a) (sym (get_or-set_other waiting j a l 0 q)) (h a (omega arith))

pub closed-held : (n : ℕ) (cells waiting : List ℕ) → ((j : ℕ) → j < n → Column n n cells j (get_or waiting j 0))
    → Held n cells (closed (cell n cells)) waiting (replicate 64 0) (replicate 64 0)
unfolding closed
closed-held n cells waiting h = record {
  small = λ i j lj z. (h j lj).small i z;
  asks = λ i j lj z. (refl, (h j lj).asks i z);
  done = λ i j li lj z. none i j li lj z (dec_lt 0 (cell n cells i j));
  ins-is = λ i. sym (get_or-zeros 64 i);
  outs-is = λ j. sym (get_or-zeros 64 j);
}
  where
    none : (i j : ℕ) → i < n → j < n → (In (get_or waiting j 0) i → ⊥) → Dec (0 < cell n cells i j) → cell n cells i j ≡ 0
    none i j li lj z (yes q) = absurd (z ((h j lj).all i li q))
    none i j li lj z (no q) = omega arith

-- ---- how many

-- a pair without slots counts nothing, and another one
module _ (cells : List ℕ) where
  abbrev some : ℕ → Bool
  some x = not (eqb x 0)

  counted : (k : ℕ) → k ≤ length cells → count_by some (take k cells) ≡ sum k (λ a. pairs (get_or cells a 0))
  counted zero l = sym (sum-zero (λ a. pairs (get_or cells a 0)))
  counted (suc k) l = go (ℕ_discrete (get_or cells k 0) 0) (counted k (omega arith))
    where
      go : Dec (get_or cells k 0 ≡ 0) → count_by some (take k cells) ≡ sum k (λ a. pairs (get_or cells a 0)) → count_by some (take (suc k) cells) ≡ sum (suc k) (λ a. pairs (get_or cells a 0))
      go (yes e) h = omega (
        arith,
        rw (add-one k) at (count_by_more_no some cells k 0 (omega arith) (ap not (eq-eqb (get_or cells k 0) 0 e))),
        rw (add-one k) at (sum-next k (λ a. pairs (get_or cells a 0))),
        ap pairs e,
        pairs-none,
        h,
      )
      go (no n) h = omega (
        arith,
        rw (add-one k) at (count_by_more_yes some cells k 0 (omega arith) (ap not (ne_eqb (get_or cells k 0) 0 n))),
        rw (add-one k) at (sum-next k (λ a. pairs (get_or cells a 0))),
        pairs-one (get_or cells k 0) (omega (arith, n)),
        h,
      )

  count-all : count_by some cells ≡ sum (length cells) (λ a. pairs (get_or cells a 0))
  count-all = sym (ap (count_by some) (take_all (length cells) cells (omega arith))) ∙ counted (length cells) (omega arith)

pub count-is : (n d : ℕ) (cells : List ℕ) → n ≤ 64 → length cells ≡ n * n → count_by (λ c. not (eqb c 0)) cells ≡ length (shop_plan n d cells)
unfolding row cell
count-is n d cells few size =
    count-all cells ∙ ap (λ (m : ℕ). sum m (λ k. pairs (get_or cells k 0))) size ∙ sum_rows n n (λ k. pairs (get_or cells k 0)) ∙ sym (shop-length n d (omega arith) cells)

-- ---- the call

-- the buffer has no room for all tasks
pub gives-room : (n d : ℕ) (cells tasks : List ℕ) (k : ℕ) → k ≡ length (shop_plan n d cells) → length tasks / 12 < k → Gives (room_for (shop_plan n d cells) tasks) (Err (Room k)) tasks
unfolding room_for
gives-room n d cells tasks k e l = rw (← e, lt-leb _ _ l) (record { outcome = refl; bytes = refl })

-- it has, and the plan is laid over its start
pub gives-done : (n d : ℕ) (cells tasks tasks' : List ℕ) (g : Begun) → length (shop_plan n d cells) ≤ length tasks / 12 → RunPost n cells d tasks g tasks'
    → Gives (room_for (shop_plan n d cells) tasks) (Ok (plan_counts g.records 0 g.latest)) tasks'
unfolding room_for writes
gives-done n d cells tasks tasks' g l p = rw (le-leb _ _ l) (record { outcome = ap₂ (λ (a b : ℕ). Ok (plan_counts a 0 b)) p.records p.latest-is; bytes = p.laid-is })

module _ (n d : ℕ) (cells tasks : List ℕ) where
  -- the demand is refused by itself
  pub gives-faulty : (r : Refusal) → check_demand 64 n cells ≡ Err r → Gives (shopped n d cells tasks) (Err r) tasks
  unfolding shopped
  gives-faulty r e = rw e (record { outcome = refl; bytes = refl })

  -- it is not, and the room decides
  pub gives-fine : (T : ℕ) → check_demand 64 n cells ≡ Ok T → (r : Outcome) (tasks' : List ℕ) → Gives (room_for (shop_plan n d cells) tasks) r tasks' → Gives (shopped n d cells tasks) r tasks'
  unfolding shopped
  gives-fine T e r tasks' g = rw e g

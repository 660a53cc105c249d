-- Adding a record's hold to the pairs that it joins, input by input, grants just what the record grants; and no grant is above the total hold.
use mathlib.Core.Path.{◌≡◌, sym, ap, ◌∙◌}
use mathlib.Core.List.{List, [], ◌∷◌, ◌++◌}
use mathlib.Core.Logic.{dite}
use Prim.Native.Nat.{ℕ, ◌+◌, ◌-◌, ◌*◌, ◌/◌, ◌%◌, ◌<◌, ◌≤◌}
use native.Mathlib.Decide.{ℕ_discrete}
use native.Mathlib.Nat.{mul-le-mul_left, div-add-mod'}
use native.Mathlib.Omega.{arith}
use lib.ListN.{length, get_or, set, take, drop, length-set, length-take, length-drop}
use Rattle.std.proofs.lemmas.List.{get_or-take, get_or-drop}
use Rattle.records.proofs.Meaning.{output-byte}
use lib.Arith.{digits_lt}
use Rattle.counting.specs.Count.{δ}
use Rattle.counting.proofs.Count.{δ-same, δ-other, δ-le}
use Rattle.counting.proofs.Matrix.{Raised}
use Rattle.switch.specs.Demand.{cell, Blank}
use Rattle.switch.specs.Plan.{Record, output, grant, total}
use Rattle.switch.proofs.Demand.{set-raised}
use Rattle.records.specs.Record.{hold, decoded}
use Rattle.records.specs.Bytes.{record_at, plan_from}
use Rattle.grants.specs.Grants.{Grants, Granting, Granted}
use Rattle.plans.proofs.Plans.{plan-next}
use Rattle.switch.proofs.Append.{grant-append}

grant-next : (p : List Record) (r : Record) (i j : ℕ) → grant (p ++ r ∷ []) i j ≡ r.hold * δ (output r i) j + grant p i j
unfolding grant
grant-next p r i j = omega (arith, grant-append p (r ∷ []) i j)

pub grant-le-total : (p : List Record) (i j : ℕ) → grant p i j ≤ total p
unfolding grant total
grant-le-total [] i j = omega arith
grant-le-total (r ∷ p) i j = omega (arith, mul-le-mul_left r.hold (δ-le (output r i) j), grant-le-total p i j)

-- a cell's index tells its pair
pub cell-index : (N : ℕ) (d : List ℕ) (k : ℕ) → cell N d (k / N) (k % N) ≡ get_or d k 0
unfolding cell
cell-index N d k = ap (λ (i : ℕ). get_or d i 0) (div-add-mod' k N)

-- ---- one record

-- the outputs of the N inputs, as they are gone over
module _ (N : ℕ) (b : List ℕ) (long : N + 4 ≤ length b) where
  pub outputs-length : length (take (4 + N - 4) (drop 4 b)) ≡ N
  outputs-length = simp (length-take, length-drop) (omega arith)

  pub output-read : (i : ℕ) → i < N → output (decoded b) i ≡ get_or (take (4 + N - 4) (drop 4 b)) i 0
  output-read i l = output-byte b i (omega arith) ∙ sym (get_or-take (4 + N - 4) (drop 4 b) i 0 (omega arith) ∙ get_or-drop 4 b i 0)

-- the inputs below i have had their turn
pub record Partly (N h : ℕ) (r : Record) (before after : List ℕ) (i : ℕ) : Type 0 where
  pub size : length after ≡ length before
  pub done : (a b : ℕ) → a < i → a < N → b < N → cell N after a b ≡ h * δ (output r a) b + cell N before a b
  pub rest : (a b : ℕ) → i ≤ a → a < N → b < N → cell N after a b ≡ cell N before a b

module _ (N h : ℕ) (r : Record) (before : List ℕ) where
  pub partly_none : Partly N h r before before 0
  partly_none = record { size = λ _. length before; done = λ a b l la lb. absurd (omega arith); rest = λ a b l la lb. λ _. cell N before a b }

  pub partly-all : (after : List ℕ) (i : ℕ) → N ≤ i → Partly N h r before after i → Granted N h r before after
  partly-all after i l p = record { size = p.size; more = λ a b la lb. p.done a b (omega arith) la lb }

  -- input i's turn, its output being j
  module _ (after : List ℕ) (i : ℕ) (l : i < N) (p : Partly N h r before after i) (j : ℕ) (out : output r i ≡ j) where
    -- an idle input joins no pair
    pub partly-idle : N ≤ j → Partly N h r before after (i + 1)
    partly-idle far = record { size = p.size; done = done; rest = λ a b q. p.rest a b (omega arith) }
      where
        done : (a b : ℕ) → a < i + 1 → a < N → b < N → cell N after a b ≡ h * δ (output r a) b + cell N before a b
        done a b q la lb =
            dite (ℕ_discrete a i)
            (λ e. omega (arith, p.rest a b (omega arith) la lb, ap (λ (x : ℕ). h * x) (δ-other (output r a) b (λ s. omega (arith, ap (output r) e)))))
            (λ ne. p.done a b (omega arith) la lb)

    module _ (inside : j < N) (at : ℕ) (is : at ≡ i * N + j) where
      -- the cell of its pair is among the grants, and still as it was
      pub pair_inside : N * N ≤ length before → at < length after
      pair_inside room = omega (arith, p.size, digits_lt {q = i} {m = N} {r = j} {c = N} l inside)

      pub pair_small : (b : List ℕ) → Granting N b h before → get_or after at 0 + h < 4294967296
      unfolding cell
      pair_small b g = rw is (omega (arith, p.rest i j (omega arith) l inside, g.small i j l inside))

      module _ (room : N * N ≤ length before) (next : List ℕ) (put : next ≡ set after at (get_or after at 0 + h)) where
        raised : Raised N (cell N after) (cell N next) i j h
        unfolding cell
        raised = rw (put, is) (set-raised N after (omega (arith, p.size)) i j h l inside)

        -- the pair is granted h more
        pub partly-joined : Partly N h r before next (i + 1)
        partly-joined = record {
          size = ap length put ∙ length-set after _ _ ∙ p.size;
          done = done;
          rest = λ a b q la lb. raised.off-row a b la lb (λ e. omega arith) ∙ p.rest a b (omega arith) la lb;
        }
          where
            at_pair : (b : ℕ) → b ≡ j → cell N next i b ≡ h * δ j b + cell N before i b
            at_pair b e = rw e (omega (arith, raised.at, p.rest i j (omega arith) l inside, ap (λ (x : ℕ). h * x) (δ-same j)))

            off-pair : (b : ℕ) → b < N → (b ≡ j → ⊥) → cell N next i b ≡ h * δ j b + cell N before i b
            off-pair b lb ne = omega (arith, raised.off-col i b l lb ne, p.rest i b (omega arith) l lb, ap (λ (x : ℕ). h * x) (δ-other j b (λ e. ne (sym e))))

            done : (a b : ℕ) → a < i + 1 → a < N → b < N → cell N next a b ≡ h * δ (output r a) b + cell N before a b
            done a b q la lb =
                dite (ℕ_discrete a i)
                (λ e. rw (e, out) (dite (ℕ_discrete b j) (at_pair b) (off-pair b lb)))
                (λ ne. raised.off-row a b la lb ne ∙ p.done a b (omega arith) la lb)

-- ---- the records of a plan

pub grants-none : (N : ℕ) (g : List ℕ) → Blank (N * N) g → Grants N [] g
unfolding cell grant
grants-none N g b = record { room = b.room; is = λ i j li lj. b.clear (i * N + j) }

-- record k, whose bytes are b
pub grants-more : (N W : ℕ) (plan : List ℕ) (k : ℕ) (b : List ℕ) → b ≡ record_at W plan k → (h : ℕ) → h ≡ hold b → (g g' : List ℕ)
    → Grants N (plan_from W plan 0 k) g → Granted N h (decoded b) g g' → Grants N (plan_from W plan 0 (k + 1)) g'
grants-more N W plan k b is h e g g' before step = record {
  room = omega (arith, before.room, step.size);
  is = λ i j li lj. omega (
    arith,
    before.is i j li lj,
    step.more i j li lj,
    ap (λ (x : ℕ). x * δ (output (decoded b) i) j) e,
    grant-next (plan_from W plan 0 k) (decoded b) i j,
    ap (λ (p : List Record). grant p i j) (plan-next W plan k ∙ ap (λ (x : List ℕ). plan_from W plan 0 k ++ decoded x ∷ []) (sym is)),
  );
}

-- 65,536 records of 65,535 fit 32 bits
pub grants-small : (N : ℕ) (p : List Record) (g : List ℕ) (h : ℕ) → Grants N p g → total p + h ≤ 4294901760 → (i j : ℕ) → i < N → j < N → cell N g i j + h < 4294967296
grants-small N p g h a s i j li lj = omega (arith, a.is i j li lj, grant-le-total p i j)

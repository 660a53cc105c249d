-- The text case by case: what is refused is printed as refused, and else the plan that was written is what is printed.
use Rattle.std.specs.Prelude.{Err, Ok}
use mathlib.Core.Path.{◌≡◌, refl, sym, ap, ◌∙◌, subst}
use mathlib.Core.Bool.{false}
use mathlib.Core.List.{List}
use Prim.Native.Nat.{ℕ, ◌+◌, ◌*◌, ◌<◌, ◌≤◌, min}
use native.Mathlib.Decide.{dec_le}
use native.Mathlib.Omega.{arith}
use lib.ListN.{length, take, drop, length-take}
use lib.Seq.{take_at, take_all}
use Rattle.switch.specs.declared.Refusal.{Refusal}
use Rattle.switch.specs.declared.Refusal.TheVariants.{Ports}
use Rattle.switch.specs.declared.Counts.{Counts}
use Rattle.switch.specs.Outcome.{Outcome}
use Rattle.switch.specs.Answer.{demand_counts}
use Rattle.switch.specs.Demand.{cell}
use Rattle.switch.specs.Check.{ports_fine}
use Rattle.switch.specs.Plan.{Record, total}
use Rattle.switch.specs.Empty.{empty_slots}
use Rattle.switch.proofs.Check.{some-ports}
use Rattle.demand.specs.Checked.{Checked}
use Rattle.demand.specs.Check.{check_demand, Asked}
use Rattle.demand.proofs.Check.{fine-asked}
use Rattle.records.specs.Bytes.{bytes, laid, plan_from}
use Rattle.records.proofs.Laid.{length-laid}
use Rattle.records.proofs.Bytes.{bytes-size}
use Rattle.records.proofs.Round.{plan-records}
use Rattle.switch.specs.Editions.{first_edition}
use Rattle.switch.specs.Result.{Result}
use Rattle.planner.specs.Planned.{writes, planned}
use Rattle.planner.proofs.Planned.{planned-faulty, planned-done}
use Rattle.rules.specs.Exact.{exact_plan}
use Rattle.wishes.specs.Wishes.{outcome, cells_of, cells_after}
use Rattle.text.specs.Text.{plan_text, refused_line}
use Rattle.text.specs.Put.{Put}
use Rattle.listing.specs.Listing.{ports_of, counted_text, demand_text, wished_text, wish_text, listing_of}
use Rattle.listing.proofs.Room.{exact-few, exact-width, text-fits}

-- what a plan that was written leaves to print: the records that it counts, at the buffer's start
pub record Written (N : ℕ) (d : List ℕ) (c : Counts) (after : List ℕ) : Type 0 where
  pub few : c.records ≤ 226
  pub room : c.records * 68 ≤ length after
  pub text : plan_text N c (plan_from 64 (take (c.records * 68) after) 0 c.records) ≡ demand_text N d
  pub fits : length (demand_text N d) ≤ 16384

never : {r : Refusal} {c : Counts} {A : Type 0} → Err r ≡ Ok c → A
never e = let z : ◌≡◌ {A = ℕ} 0 1 = cc in absurd (let f : ⊥ = omega arith in f)

module _ (N : ℕ) (d buf : List ℕ) (small : N ≤ 16) (size : length buf ≡ 15368) where
  abbrev plan : List Record
  plan = exact_plan 64 N d

  abbrev answer : Result
  answer = planned first_edition N d plan buf

  module _ (T : ℕ) (fine : check_demand 64 N d ≡ Ok T) where
    asked : Asked 64 N T d
    asked = fine-asked 64 N T d fine

    text-is : demand_text N d ≡ counted_text N T d plan
    unfolding demand_text
    text-is = rw fine

    done-is : answer ≡ writes first_edition N T (empty_slots N (cell N d) plan) plan buf
    done-is = planned-done first_edition N d plan buf T fine (omega (arith, exact-few N T d small asked))

    bytes-are : length (bytes 0 N plan) ≡ length plan * 68
    bytes-are = bytes-size 0 N 64 (exact-width N T d small asked)

    -- the part of the buffer that was written
    part : take (length plan * 68) (laid buf 0 (bytes 0 N plan)) ≡ bytes 0 N plan
    unfolding laid
    part = take_at (bytes 0 N plan) (drop (0 + length (bytes 0 N plan)) buf) (length plan * 68) bytes-are

    abbrev counts : Counts
    counts = demand_counts (length plan) T (total plan) (empty_slots N (cell N d) plan)

    written : Written N d counts (laid buf 0 (bytes 0 N plan))
    written = record {
      few = exact-few N T d small asked;
      room = omega (arith, size, exact-few N T d small asked, length-laid buf 0 (bytes 0 N plan) (omega (arith, size, bytes-are, exact-few N T d small asked)));
      text = ap (λ (b : List ℕ). plan_text N counts (plan_from 64 b 0 (length plan))) part ∙ ap (plan_text N counts) (plan-records 0 N 64 (exact-width N T d small asked)) ∙ sym text-is;
      fits = rw text-is (text-fits N T d small asked);
    }

    done-outcome : answer.outcome ≡ Ok counts
    unfolding writes
    done-outcome = ap (λ (a : Result). a.outcome) done-is

    done-bytes : answer.bytes ≡ laid buf 0 (bytes 0 N plan)
    unfolding writes
    done-bytes = ap (λ (a : Result). a.bytes) done-is

  module _ (r : Refusal) (faulty : check_demand 64 N d ≡ Err r) where
    refused-is : answer.outcome ≡ Err r
    refused-is = ap (λ (a : Result). a.outcome) (planned-faulty first_edition N d plan buf r faulty)

    refused-text : demand_text N d ≡ refused_line r
    unfolding demand_text
    refused-text = rw faulty

  -- the planner's two answers
  pub demand-refused : (r : Refusal) → Err r ≡ answer.outcome → refused_line r ≡ demand_text N d
  demand-refused r q = by (check_demand 64 N d) refl
    where
      by : (k : Checked) → check_demand 64 N d ≡ k → refused_line r ≡ demand_text N d
      by (Ok T) e = never (q ∙ done-outcome T e)
      by (Err x) e = same (q ∙ refused-is x e) ∙ sym (refused-text x e)
        where
          same : {a b : Refusal} → ◌≡◌ {A = Outcome} (Err a) (Err b) → refused_line a ≡ refused_line b
          same h = cc

  pub demand-done : (c : Counts) (after : List ℕ) → Ok c ≡ answer.outcome → after ≡ answer.bytes → Written N d c after
  demand-done c after q b = by (check_demand 64 N d) refl
    where
      by : (k : Checked) → check_demand 64 N d ≡ k → Written N d c after
      by (Ok T) e = same (sym (q ∙ done-outcome T e)) (sym (b ∙ done-bytes T e)) (written T e)
        where
          same : {x y : Counts} {u v : List ℕ} → ◌≡◌ {A = Outcome} (Ok x) (Ok y) → u ≡ v → Written N d x u → Written N d y v
          same {x} {y} {u} {v} h g w = let e : x ≡ y = cc in subst (λ (k : Counts). Written N d k v) e (subst (λ (l : List ℕ). Written N d x l) g w)
      by (Err x) e = never (sym (q ∙ refused-is x e))

-- a wish list for 1 to 16 ports, which the call for up to 64 takes alike
module _ (N : ℕ) (s cells : List ℕ) (some : 0 < N) (small : N ≤ 16) (size : length cells ≡ N * N) where
  outcome-same : outcome 64 N s (length cells) ≡ outcome 16 N s (N * N)
  unfolding outcome
  outcome-same = rw (some-ports 64 N some (omega arith), some-ports 16 N some small, size)

  pub wish-refused : (r : Refusal) → Err r ≡ outcome 64 N s (length cells) → refused_line r ≡ wish_text N s
  unfolding wish_text
  wish-refused r q = ap (wished_text N s) (q ∙ outcome-same)

  pub wish-done : (c : Counts) → Ok c ≡ outcome 64 N s (length cells) → demand_text N (cells_after 64 N s cells) ≡ wish_text N s
  unfolding wish_text cells_after
  wish-done c q = ap (λ (o : Outcome). demand_text N (cells_of N s cells o)) (sym q) ∙ ap (wished_text N s) (q ∙ outcome-same)

-- and for 0 or over 16
pub wish-ports : (N : ℕ) (s : List ℕ) → ports_fine 16 N ≡ false → refused_line Ports ≡ wish_text N s
unfolding wish_text outcome
wish-ports N s e = rw e

-- what is put at the start of a text, and leaves it as long as it was, is its first bytes
module _ (s t d d' : List ℕ) (n : ℕ) (p : Put s d 0 d' n) (same : s ≡ t) where
  pub listed : (n ≡ length t) × (d' ≡ laid d 0 t) × (take n d' ≡ t)
  listed = (omega (arith, p.place, ap length same), p.text ∙ ap (laid d 0) same, ap (take n) p.text ∙ start ∙ same)
    where
      start : take n (laid d 0 s) ≡ s
      start = unfold laid in take_at s (drop (0 + length s) d) n (omega (arith, p.place))

-- as many bytes as are listed stand in the text
pub shown : (s t : List ℕ) (n : ℕ) → n ≡ length s → take n t ≡ s → (n ≤ length t) × (n ≡ length (take n t))
shown s t n l e = (omega (arith, l, ap length e, length-take n t), l ∙ ap length (sym e))

-- only the first 4,096 bytes count
first-bytes : (s : List ℕ) (m most : ℕ) → m ≡ min (length s) most → take m s ≡ take most s
first-bytes s m most e = go (dec_le (length s) most)
  where
    go : Dec (length s ≤ most) → take m s ≡ take most s
    go (yes l) = take_all m s (omega arith) ∙ sym (take_all most s l)
    go (no g) = ap (λ (i : ℕ). take i s) (let same : m ≡ most = omega (arith, g) in same)

pub list-part : (s : List ℕ) (m : ℕ) → m ≡ min (length s) 4096 → wish_text (ports_of (take m s)) (take m s) ≡ listing_of s
unfolding listing_of
list-part s m e = ap (λ (w : List ℕ). wish_text (ports_of w) w) (first-bytes s m 4096 e)

pub list-first : (s : List ℕ) → wish_text (ports_of (take 4096 s)) (take 4096 s) ≡ listing_of s
unfolding listing_of
list-first s = refl

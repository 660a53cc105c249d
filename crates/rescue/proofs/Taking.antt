-- What the pass, the surplus and what is left uncovered come to: all that is known before anything is written.
use Rattle.std.specs.Prelude.{Ok}
use mathlib.Core.Path.{◌≡◌, refl, sym, ap, ap₂, ◌∙◌}
use mathlib.Core.Logic.{dite}
use mathlib.Core.List.{List, ◌++◌}
use Prim.Native.Nat.{ℕ, ◌+◌, ◌*◌, ◌-◌, ◌<◌, ◌≤◌}
use native.Mathlib.Nat.{mul-le-mul, le_of_eq}
use native.Mathlib.Decide.{dec_lt}
use native.Mathlib.Omega.{arith}
use lib.ListN.{length, length-append}
use Rattle.counting.specs.Matrix.{row}
use Rattle.counting.proofs.Sum.{sum-cong}
use Rattle.counting.proofs.Matrix.{row-cong}
use Rattle.switch.specs.declared.Edition.{Edition}
use Rattle.switch.specs.Answer.{demand_counts}
use Rattle.switch.specs.Demand.{cell, longest, Blank}
use Rattle.switch.specs.Editions.{Bounded}
use Rattle.switch.specs.Plan.{Record, grant, total}
use Rattle.switch.specs.Empty.{all_slots, beyond, empty_slots}
use Rattle.switch.proofs.Append.{total-append}
use Rattle.demand.specs.Lines.{Short}
use Rattle.rules.specs.Exact.{exact_plan}
use Rattle.rules.proofs.Exact.{exact-records, exact-total}
use Rattle.rules.proofs.Empty.{exact-empty-slots}
use Rattle.records.specs.Bytes.{whole, bytes, laid}
use Rattle.plans.specs.Reading.{Readable}
use Rattle.planner.specs.Planned.{shortage}
use Rattle.planner.proofs.Planned.{fits-room, lacks-room}
use Rattle.peel.specs.Standing.{Cells}
use Rattle.rescue_rule.specs.Rescue.{kept, dropped_to, dropped, torn_tail, rest_of, rescued, entry_bytes}
use Rattle.rescue_rule.proofs.Kept.{kept-dropped}
use Rattle.rescue_rule.proofs.Rescue.{rest-size, rest-longest, rescued-empty}
use Rattle.rescue.specs.declared.Kept.{Kept}
use Rattle.rescue.specs.declared.Stock.{Stock}
use Rattle.rescue.specs.Keeping.{Keeping, Left, Stocked, Taken, Known}
use Rattle.rescue.specs.Rescue.{Saves, writes, fitting, check_in, rescuing}
use Rattle.rescue.proofs.Order.{Entering, known_over, known-within}
use Rattle.rescue.proofs.Uncovered.{left-cell, left-longest, left-added}

-- sums over all pairs depend on the pairs alone
all-cong : (N : ℕ) (F G : ℕ → ℕ → ℕ) → ((i j : ℕ) → i < N → j < N → F i j ≡ G i j) → all_slots N F ≡ all_slots N G
unfolding all_slots
all-cong N F G e = sum-cong N (row N F) (row N G) (row-cong N F G e)

beyond-cong : (N : ℕ) (M F G : ℕ → ℕ → ℕ) → ((i j : ℕ) → i < N → j < N → F i j ≡ G i j) → beyond N M F ≡ beyond N M G
unfolding beyond
beyond-cong N M F G e =
    sum-cong N (row N (λ i j. F i j - M i j)) (row N (λ i j. G i j - M i j))
    (row-cong N (λ i j. F i j - M i j) (λ i j. G i j - M i j) (λ i j li lj. ap (λ (x : ℕ). x - M i j) (e i j li lj)))

module _ (E : Edition) (bounds : Bounded E) (N T : ℕ) (d damaged : List ℕ) (enters : Entering E N T d damaged) where
  pub narrow : (N ≤ E.width) × (N ≤ 128)
  narrow = (omega (arith, enters.asked.few, bounds.ports), omega (arith, enters.asked.few, bounds.ports, bounds.width))

  pub reads : Readable E N damaged (whole E.width damaged)
  reads = record { bounded = bounds; few = enters.asked.few; inside = omega arith; most = omega (arith, enters.few, bounds.records) }

  pub blank : (g : List ℕ) → Blank (E.ports * E.ports) g → Blank (N * N) g
  blank g b = record { room = omega (arith, b.room, mul-le-mul enters.asked.few enters.asked.few); clear = b.clear }

  -- the pass, and what is left in the place of the grants
  module _ (k : Kept) (g : List ℕ) (keeps : Keeping E.width E.byte N damaged (whole E.width damaged) k g) (w : List ℕ) (leaves : Left (length d) d g w) where
    left : Left (N * N) d g w
    left = record { size = leaves.size; is = λ x l. leaves.is x (omega (arith, enters.asked.size)) }

    pub left-room : N * N ≤ length w
    left-room = omega (arith, leaves.size, keeps.grants.room)

    module _ (rest : ℕ) (is : rest ≡ longest N (cell N w)) where
      same : (i j : ℕ) → i < N → j < N → cell N w i j ≡ cell N (rest_of N d (kept E.width E.byte N damaged)) i j
      same = left-cell N d g w (kept E.width E.byte N damaged) left keeps.grants

      rest-is : rest ≡ longest N (cell N (rest_of N d (kept E.width E.byte N damaged)))
      rest-is = is ∙ left-longest N d g w (kept E.width E.byte N damaged) left keeps.grants

      pub rest-small : rest ≤ 65535
      rest-small = omega (arith, rest-is, rest-longest N d (kept E.width E.byte N damaged), enters.asked.longest-is, enters.asked.small)

      pub left-cells : Cells N rest w
      left-cells = record { some = enters.asked.some; few = narrow.1; room = left-room; longest-is = is; small = rest-small }

      pub left-short : Short N w
      left-short = record { sized = record { few = narrow.1; room = left-room }; lines = omega (arith, is, rest-small) }

      -- what is granted beyond what is asked, and the empty slots of what is added
      module _ (over : ℕ) (beyond-is : over ≡ beyond N (cell N d) (cell N g)) (empty : ℕ) (empty-is : empty ≡ N * rest - all_slots N (cell N w)) where
        empty-all : over + empty ≡ empty_slots N (cell N d) (rescued E.width E.byte N d damaged)
        empty-all =
            ap₂ ◌+◌
            (beyond-is ∙ beyond-cong N (cell N d) (cell N g) (grant (kept E.width E.byte N damaged)) keeps.grants.is)
            (empty-is ∙ ap₂ (λ (t a : ℕ). N * t - a) rest-is (all-cong N (cell N w) (cell N (rest_of N d (kept E.width E.byte N damaged))) same)
            ∙ sym (exact-empty-slots E.width N enters.asked.some narrow.0 (rest_of N d (kept E.width E.byte N damaged)) (le_of_eq (sym (rest-size N d (kept E.width E.byte N damaged))))))
            ∙ sym (rescued-empty E.width E.byte N enters.asked.some narrow.0 (omega (arith, narrow.1)) d damaged)

        pub taken : (torn : ℕ) → torn ≡ length (torn_tail E.width damaged)
            → Taken E N T d damaged (record { longest = T; kept = k.records; dropped = whole E.width damaged - k.records + torn; total = k.total + rest; empty = over + empty; left = rest }) w
        taken torn tail = record {
          longest = refl;
          stock = record {
            reads = reads;
            few = omega (arith, enters.few, bounds.records);
            stays = keeps.records;
            goes = goes;
            held = ap (λ (t : ℕ). t + rest) keeps.holds;
            cells = left-cells;
          };
          plan = left-added N d g w (kept E.width E.byte N damaged) left keeps.grants E.width enters.asked.some narrow.0;
          empty = empty-all;
        }
          where
            goes : whole E.width damaged - k.records + torn ≡ length (dropped E.width E.byte N damaged)
            goes = unfold dropped in omega (
              arith,
              keeps.records,
              tail,
              kept-dropped E.width E.byte N damaged (whole E.width damaged),
              length-append (dropped_to E.width E.byte N damaged (whole E.width damaged)) (torn_tail E.width damaged),
            )

-- ---- how many are added

-- what the exact plan does not find room for is no more than T
pub need-small : (N T room need : ℕ) (s : List ℕ) → Cells N T s → need ≡ shortage room (length (exact_plan 128 N s)) → need ≤ 65535
need-small N T room need s c e =
    dite (dec_lt room (length (exact_plan 128 N s)))
    (λ l. omega (arith, e, lacks-room room _ l, exact-records 128 N c.some c.few s c.room, c.longest-is, c.small))
    (λ g. omega (arith, e, fits-room room (length (exact_plan 128 N s)) (omega (arith, g))))

-- ---- what is written

module _ (E : Edition) (N : ℕ) (damaged : List ℕ) (s : Stock) (w : List ℕ) (st : Stocked E N damaged s w) where
  abbrev pub all : List Record
  all = kept E.width E.byte N damaged ++ exact_plan E.width N w

  wide : N ≤ E.width
  wide = omega (arith, st.reads.few, st.reads.bounded.ports)

  pub all-length : length all ≡ s.kept + length (exact_plan E.width N w)
  all-length = length-append (kept E.width E.byte N damaged) (exact_plan E.width N w) ∙ ap (λ (x : ℕ). x + length (exact_plan E.width N w)) (sym st.stays)

  all-total : s.total ≡ total all
  all-total =
      st.held
      ∙ ap (λ (x : ℕ). total (kept E.width E.byte N damaged) + x) (st.cells.longest-is ∙ sym (exact-total E.width N st.cells.some wide w st.cells.room))
      ∙ sym (total-append (kept E.width E.byte N damaged) (exact_plan E.width N w))

  pub written : (plan list plan' list' : List ℕ) (more : ℕ) → more ≡ length (exact_plan E.width N w) → plan' ≡ laid plan 0 (bytes E.byte N all)
      → list' ≡ laid list 0 (entry_bytes (dropped E.width E.byte N damaged))
      → Saves (writes E N s.longest s.empty (kept E.width E.byte N damaged) (exact_plan E.width N w) (dropped E.width E.byte N damaged) plan list)
      (record { outcome = Ok (demand_counts (s.kept + more) s.longest s.total s.empty); added = more; dropped = s.dropped }) plan' list'
  unfolding writes
  written plan list plan' list' more m p l = record {
    answer = λ i. record {
      outcome = Ok (demand_counts ((ap (λ (x : ℕ). s.kept + x) m ∙ sym all-length) i) s.longest (all-total i) s.empty);
      added = m i;
      dropped = st.goes i;
    };
    plan = p;
    list = l;
  }

  -- what is known of their number
  module _ (most records : ℕ) (k : Known most (s.kept + length (exact_plan E.width N w)) records) (limit : ℕ) (least : most ≤ limit) where
    pub all-over : limit < records → records ≡ length all
    all-over l = known_over most (s.kept + length (exact_plan E.width N w)) records k limit least l ∙ sym all-length

    pub all-within : records ≤ limit → length all ≤ limit
    all-within l = omega (arith, known-within most (s.kept + length (exact_plan E.width N w)) records k limit least l, all-length)

-- the stock decides
pub rescuing-taken : (E : Edition) (N T : ℕ) (d damaged plan list : List ℕ) (s : Stock) (w : List ℕ) → Ok T ≡ check_in E N d damaged → Taken E N T d damaged s w
    → rescuing E N d damaged plan list
    ≡ fitting E N s.longest s.empty (kept E.width E.byte N damaged) (exact_plan E.width N w) (dropped E.width E.byte N damaged) plan list
unfolding rescuing
rescuing-taken E N T d damaged plan list s w e t =
    rw (sym e) (λ i. fitting E N (sym t.longest i) (sym t.empty i) (kept E.width E.byte N damaged) (sym t.plan i) (dropped E.width E.byte N damaged) plan list)

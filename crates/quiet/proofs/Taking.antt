-- What the joined inputs give up is what the rule subtracts; so a step takes the rule's record off and leaves what the rule leaves. Where no cell is left,
-- nobody is joined and the hold is 0.
use Rattle.labels.specs.Ports.{Outputs}
use mathlib.Core.Path.{◌≡◌, refl, sym, ap, ◌∙◌, subst, fun_ext}
use mathlib.Core.Logic.{◌≢◌}
use mathlib.Core.List.{List, [], ◌∷◌}
use Prim.Native.Nat.{ℕ, ◌+◌, ◌*◌, ◌-◌, ◌≤◌, ◌<◌}
use native.Mathlib.Decide.{ℕ_discrete, dec_lt}
use native.Mathlib.Nat.{zero-add}
use native.Mathlib.Omega.{arith}
use lib.ListN.{length, get_or, set, length-set}
use lib.Seq.{ext_get_or}
use lib.Dec.{ltb}
use borrow.Author.Tests.{lt-ltb, le-ltb}
use Rattle.switch.specs.Demand.{cell}
use Rattle.sets.specs.Label.{digit}
use Rattle.sets.proofs.Digits.{digit_lt}
use Rattle.rules.specs.Peel.{peel, peel_to}
use Rattle.rules.specs.Exact.{tab}
use Rattle.rules.proofs.Peel.{length-peel_to, peel_to-joined, peel_to-idle, peel_to-after, peel_to-done}
use Rattle.rules.proofs.Peels.{length-tab, get_or-tab}
use Rattle.board.specs.Level.{out_of}
use Rattle.labels.specs.Rows.{row_of}
use Rattle.board.specs.Labelled.{TakePre, TakePost}
use Rattle.quiet_rule.specs.Quiet.{quiet_setting, smallest, joined_cell, quiet_hold, pairs, quiet_record, quiet_rest, quiet_from}
use Rattle.quiet_rule.proofs.Hold.{Smallest, joined-cell, idle-cell, pairs-none, smallest-none}
use Rattle.quiet_rule.proofs.Quiet.{setting-hold}
use Rattle.quiet_rule.proofs.QuietFrom.{setting_same, quiet-end, quiet_step, quiet-cong}
use Rattle.quiet_setting.specs.Choosing.{asks, Rows}
use Rattle.quiet.specs.Taking.{Giving, Given, Subtracted, Ready, Took, leftover}

-- ---- the cell of an input

module _ (N : ℕ) (w out : List ℕ) (i j : ℕ) (e : j ≡ out_of out i) where
  pub cell-joined : j < N → (r : ℕ) → r ≡ i * N + j → get_or w r 0 ≡ joined_cell N (cell N w) (out_of out) i
  unfolding cell
  cell-joined l r q = ap (λ (k : ℕ). get_or w k 0) (q ∙ ap (λ (x : ℕ). i * N + x) e) ∙ sym (joined-cell N (cell N w) (out_of out) i (rw e at l))

  pub cell-idle : N ≤ j → 0 ≡ joined_cell N (cell N w) (out_of out) i
  cell-idle l = sym (idle-cell N (cell N w) (out_of out) i (rw e at l))

-- ---- one input gives up the hold

module _ (N : ℕ) (w : List ℕ) (rows : List Outputs) (out : List ℕ) (i hold : ℕ) (g : Giving N w rows out i hold) (j : ℕ) (e : j ≡ out_of out i) where
  pub give-pre : j < N → TakePre N w rows i j hold
  give-pre l = record {
    sized = g.copy.sized;
    labels = g.copy.labels;
    input = g.input;
    output = l;
    enough = subst (λ (x : ℕ). hold ≤ cell N w i x) (sym e) (g.enough (rw e at l));
  }

  pub given-joined : j < N → (w' : List ℕ) (rows' : List Outputs) → TakePost N w i j hold w' rows' → Given N w out i hold w' rows'
  given-joined l w' rows' t = record {
    copy = record {
      sized = record { some = g.copy.sized.some; few = g.copy.sized.few; room = omega (arith, g.copy.sized.room, ap length t.taken, length-set w (i * N + j) (cell N w i j - hold)) };
      labels = t.labels;
    };
    joined = λ _. t.taken ∙ ap (λ (x : ℕ). set w (i * N + x) (cell N w i x - hold)) e;
    idle = λ q. absurd (omega (arith, e));
  }

  pub given-idle : N ≤ j → Given N w out i hold w rows
  given-idle l = record { copy = g.copy; joined = λ q. absurd (omega (arith, e)); idle = λ _. refl }

-- ---- one input after the other

module _ (N hold : ℕ) (w₀ out : List ℕ) (room : N * N ≤ length w₀) (w : List ℕ) (k : ℕ) (q : w ≡ peel_to N hold (out_of out) w₀ k) where
  pub still-whole : out_of out k < N → cell N w k (out_of out k) ≡ cell N w₀ k (out_of out k)
  still-whole l = ap (λ (v : List ℕ). cell N v k (out_of out k)) q ∙ peel_to-after N hold (out_of out) w₀ room k k (out_of out k) (omega arith) l

  pub peeled-length : length w ≡ length w₀
  peeled-length = ap length q ∙ length-peel_to N hold (out_of out) w₀ k

  pub peeled-next : (w' : List ℕ) (rows' : List Outputs) → Given N w out k hold w' rows' → w' ≡ peel_to N hold (out_of out) w₀ (k + 1)
  peeled-next w' rows' g = go (dec_lt (out_of out k) N)
    where
      go : Dec (out_of out k < N) → w' ≡ peel_to N hold (out_of out) w₀ (k + 1)
      go (yes l) = g.joined l ∙ ap (λ (v : List ℕ). set v (k * N + out_of out k) (cell N v k (out_of out k) - hold)) q ∙ peel_to-joined N hold (out_of out) w₀ k l
      go (no l) = g.idle (omega arith) ∙ q ∙ peel_to-idle N hold (out_of out) w₀ k (omega arith)

-- ---- a step

module _ (N L : ℕ) (w : List ℕ) (rows : List Outputs) (r : Ready N L w rows) where
  -- the labels have outputs of the switch alone
  pub labels-ask : Rows N rows
  labels-ask = record { some = r.copy.sized.some; few = r.few; size = omega (arith, r.copy.labels.each); inside = λ i j li _ h. ((r.copy.labels.row i li).only j h).0 }

  same-pairs : (i j : ℕ) → i < N → j < N → ltb 0 (asks rows i j) ≡ ltb 0 (cell N w i j)
  unfolding asks
  same-pairs i j li lj = go (ℕ_discrete (digit (row_of rows i) j) 1)
    where
      go : Dec (digit (row_of rows i) j ≡ 1) → ltb 0 (digit (row_of rows i) j) ≡ ltb 0 (cell N w i j)
      go (yes e) = lt-ltb 0 (digit (row_of rows i) j) (omega arith) ∙ sym (lt-ltb 0 (cell N w i j) ((r.copy.labels.row i li).only j e).1)
      go (no e) = le-ltb 0 (digit (row_of rows i) j) (omega (arith, digit_lt (row_of rows i) j)) ∙ sym (le-ltb 0 (cell N w i j) (none (cell N w i j) (λ p. e ((r.copy.labels.row i li).all j lj p))))
        where
          none : (x : ℕ) → (0 < x → ⊥) → x ≤ 0
          none x f = omega (arith, f)

  small : N ≤ 255
  small = omega (arith, r.few)

  module _ (out' : List ℕ) (long : length out' ≡ 64) (chosen : (i : ℕ) → get_or out' i 255 ≡ quiet_setting N L (asks rows) i) where
    setting : out_of out' ≡ quiet_setting N L (cell N w)
    setting = fun_ext chosen ∙ setting_same N L (asks rows) (cell N w) same-pairs

    module _ (hold : ℕ) (h : hold ≡ smallest N (joined_cell N (cell N w) (out_of out'))) where
      hold-is : hold ≡ quiet_hold N L (cell N w)
      unfolding quiet_hold
      hold-is = h ∙ ap (λ (o : ℕ → ℕ). smallest N (joined_cell N (cell N w) o)) setting

      -- while a cell is not zero
      hold-small : pairs N (cell N w) ≢ 0 → Smallest N (cell N w) (out_of out') hold
      hold-small p = subst (λ (o : ℕ → ℕ). Smallest N (cell N w) o hold) (sym setting)
          (subst (Smallest N (cell N w) (quiet_setting N L (cell N w))) (sym hold-is) (setting-hold 64 N r.few small L r.limit (cell N w) p))

      -- and else
      hold-none : pairs N (cell N w) ≡ 0 → hold ≡ 0
      hold-none z = h ∙ smallest-none N (joined_cell N (cell N w) (out_of out')) (λ i li. nothing i li (dec_lt (out_of out' i) N))
        where
          nothing : (i : ℕ) → i < N → Dec (out_of out' i < N) → joined_cell N (cell N w) (out_of out') i ≡ 0
          nothing i li (yes l) = joined-cell N (cell N w) (out_of out') i l ∙ pairs-none N (cell N w) z i (out_of out' i) li l
          nothing i li (no l) = idle-cell N (cell N w) (out_of out') i (omega arith)

      pub step-enough : (i : ℕ) → i < N → out_of out' i < N → hold ≤ cell N w i (out_of out' i)
      step-enough i li l = go (ℕ_discrete (pairs N (cell N w)) 0)
        where
          go : Dec (pairs N (cell N w) ≡ 0) → hold ≤ cell N w i (out_of out' i)
          go (yes z) = omega (arith, hold-none z)
          go (no p) = (hold-small p).below i li l

      -- no hold is over what every cell is at most
      fits : (most : ℕ) → ((i j : ℕ) → i < N → j < N → cell N w i j ≤ most) → hold ≤ most
      fits most f = go (ℕ_discrete (pairs N (cell N w)) 0)
        where
          go : Dec (pairs N (cell N w) ≡ 0) → hold ≤ most
          go (yes z) = omega (arith, hold-none z)
          go (no p) = let s = hold-small p in omega (arith, s.met, f s.place (out_of out' s.place) s.inside s.joined)

      -- without a hold there was nothing to take
      pub none_left : hold ≡ 0 → leftover N L w ≡ []
      none_left z = quiet-end 64 N r.few small L r.limit (cell N w) (ended (ℕ_discrete (pairs N (cell N w)) 0))
        where
          ended : Dec (pairs N (cell N w) ≡ 0) → pairs N (cell N w) ≡ 0
          ended (yes e) = e
          ended (no p) = absurd (omega (arith, (hold-small p).up))

      pub took : 0 < hold → (w' : List ℕ) (rows' : List Outputs) → Subtracted N hold w out' w' rows' → Took N L w w' rows' out' hold
      took p w' rows' s = record {
        copy = s.copy;
        more = quiet_step 64 N r.few small L r.limit (cell N w) (λ z. omega (arith, hold-none z)) ∙ λ x. head x ∷ tail x;
        fits = λ most f. (fits most f, λ i j li lj. omega (arith, f i j li lj, less i j li lj));
      }
        where
          outputs : tab 64 0 (quiet_setting N L (cell N w)) ≡ out'
          outputs = ext_get_or 255 _ _ (length-tab 64 0 (quiet_setting N L (cell N w)) ∙ sym long)
              (λ i l. get_or-tab 64 0 (quiet_setting N L (cell N w)) i 255 (rw (length-tab 64 0 (quiet_setting N L (cell N w))) at l)
              ∙ ap (quiet_setting N L (cell N w)) (zero-add i) ∙ ap (λ (o : ℕ → ℕ). o i) (sym setting))

          head : quiet_record 64 N L (cell N w) ≡ record { hold = hold; outputs = out' }
          head = unfold quiet_record in let a = sym hold-is in λ x. record { hold = a x; outputs = outputs x }

          peeled : (i j : ℕ) → i < N → j < N → cell N w' i j ≡ peel hold (out_of out') (cell N w) i j
          peeled i j li lj = ap (λ (v : List ℕ). cell N v i j) s.taken ∙ peel_to-done N hold (out_of out') w r.copy.sized.room N (omega arith) i j li lj

          less : (i j : ℕ) → i < N → j < N → cell N w' i j ≤ cell N w i j
          less i j li lj = unfold peel in omega (arith, peeled i j li lj)

          rest : (i j : ℕ) → i < N → j < N → quiet_rest N L (cell N w) i j ≡ cell N w' i j
          rest i j li lj =
              let paper : quiet_rest N L (cell N w) i j ≡ peel hold (out_of out') (cell N w) i j =
              unfold quiet_rest in ap (λ (y : ℕ). peel y (quiet_setting N L (cell N w)) (cell N w) i j) (sym hold-is) ∙ ap (λ (o : ℕ → ℕ). peel hold o (cell N w) i j) (sym setting) in
              paper ∙ sym (peeled i j li lj)

          tail : quiet_from 64 N L (quiet_rest N L (cell N w)) ≡ quiet_from 64 N L (cell N w')
          tail = quiet-cong 64 N L (quiet_rest N L (cell N w)) (cell N w') rest

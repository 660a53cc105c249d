-- Turn by turn the working copy, the taken outputs and the outputs by input are what the rule's visits give; after N visits, its slot.
use Rattle.labels.specs.Ports.{Outputs}
use mathlib.Core.Path.{◌≡◌, refl, sym, ap, ap₂, ◌∙◌, subst}
use mathlib.Core.Logic.{◌≢◌}
use mathlib.Core.Bool.{true}
use mathlib.Core.List.{List, ◌∷◌}
use Prim.Native.Nat.{ℕ, zero, suc, ◌+◌, ◌*◌, ◌-◌, ◌%◌, ◌≤◌, ◌<◌}
use native.Mathlib.Decide.{ℕ_discrete, dec_lt}
use native.Mathlib.Nat.{mod-lt}
use native.Mathlib.Numerals.{add-one}
use native.Mathlib.Omega.{arith}
use lib.ListN.{length, get_or, set, length-set}
use lib.Seq.{get_or-set_same, get_or-set_other, ext_get_or}
use Rattle.counting.specs.Count.{δ}
use Rattle.switch.specs.Demand.{cell}
use Rattle.switch.specs.Plan.{Record}
use Rattle.sets.specs.Label.{In}
use Rattle.labels.specs.Ports.{outputs_of}
use Rattle.rules.specs.Search.{put}
use Rattle.rules.specs.Peel.{peel}
use Rattle.rules.specs.Exact.{tab}
use Rattle.rules.specs.Quick.{lowest, Slot, may, seat, visits, slot, quick_from}
use Rattle.rules.proofs.Ports.{put_same, put_other}
use Rattle.rules.proofs.Peel.{peel-off}
use Rattle.rules.proofs.Peels.{length-tab, get_or-tab}
use Rattle.rules.proofs.Rotate.{around-full, around-reach}
use Rattle.rules.proofs.Slot.{lowest-cong, may-cong, visits-idle, slot-idle}
use Rattle.rules.proofs.QuickFrom.{visits-next, quick-step, quick-cong}
use Rattle.slot.specs.declared.Turn.{Turn}
use Rattle.slot.specs.Filled.{left_in, leftover, Copy, Seats, taken_of, turn_of, Turned, Filled}
use Rattle.slot.proofs.Turns.{every-free, asking-same, turn-idle, turned_none}

-- the first v visits of slot s, begun with the working copy w₀
pub record Visiting (N s v : ℕ) (w₀ w : List ℕ) (rows : List Outputs) (out : List ℕ) (turn : Turn) : Type 0 where
  pub copy : Copy N turn.rest w rows
  pub cells : (a b : ℕ) → a < N → b < N → cell N w a b ≡ peel 1 (visits N (cell N w₀) s v).outputs (cell N w₀) a b
  pub taken : (b : ℕ) → b < N → taken_of (outputs_of turn.free) b ≡ (visits N (cell N w₀) s v).taken b
  pub seated : (q : ℕ) → q < v → get_or out ((q + s) % N) 255 ≡ (visits N (cell N w₀) s v).outputs ((q + s) % N)
  pub ahead : (q : ℕ) → v ≤ q → q < N → get_or out ((q + s) % N) 255 ≡ 255
  pub seats : Seats N out

pub visiting-none : (N s : ℕ) (w : List ℕ) (rows : List Outputs) (out : List ℕ) (turn : Turn) → Copy N turn.rest w rows → N ≤ length out → ((i : ℕ) → get_or out i 255 ≡ 255)
    → ((k : ℕ) → k < 128 → In (outputs_of turn.free) k) → Visiting N s 0 w w rows out turn
unfolding visits
visiting-none N s w rows out turn c l o h = record {
  copy = c;
  cells = λ a b la lb. sym (peel-off 1 (λ _. 255) (cell N w) a b (omega (arith, c.sized.few)));
  taken = λ b lb. every-free (outputs_of turn.free) b (h b (omega (arith, c.sized.few)));
  seated = λ q l. absurd (omega arith);
  ahead = λ q _ _. o ((q + s) % N);
  seats = record { wide = l; idle = λ i _. o i };
}

module _ (N s v : ℕ) (w₀ w : List ℕ) (rows : List Outputs) (out : List ℕ) (turn : Turn) (lv : v < N) (g : Visiting N s v w₀ w rows out turn) where
  abbrev M : ℕ → ℕ → ℕ
  M = cell N w₀

  abbrev x : Slot
  x = visits N (cell N w₀) s v

  abbrev i : ℕ
  i = (v + s) % N

  li : i < N
  li = mod-lt (v + s) g.copy.sized.some

  earlier : (q : ℕ) → q < v → (q + s) % N ≢ i
  earlier q l e = omega (arith, (around-full N g.copy.sized.some s).once q v (omega arith) lv e)

  small : N ≤ 255
  small = omega (arith, g.copy.sized.few)

  -- the input has not been visited, so its cells are as they were
  fresh : (b : ℕ) → b < N → cell N w i b ≡ M i b
  fresh b lb = g.cells i b li lb ∙ peel-off 1 x.outputs M i b (λ e. omega (arith, small, e, visits-idle N g.copy.sized.some small M s v (omega arith) i earlier))

  -- and it takes what the rule gives it
  given : turn_of N w (outputs_of turn.free) i ≡ lowest N 0 (may M x.taken i)
  unfolding turn_of
  given = lowest-cong N 0 (may (cell N w) (taken_of (outputs_of turn.free)) i) (may M x.taken i)
      (λ y _ l. may-cong (cell N w) M (taken_of (outputs_of turn.free)) x.taken i y (fresh y (omega arith)) (g.taken y (omega arith)))

  next : visits N (cell N w₀) s (v + 1) ≡ seat (visits N (cell N w₀) s v) i (turn_of N w (outputs_of turn.free) i)
  next = visits-next N (cell N w₀) s v ∙ ap (seat x i) (sym given)

  module _ (w' : List ℕ) (rows' : List Outputs) (out' : List ℕ) (turn' : Turn) (t : Turned N i w out turn w' rows' out' turn') where
    abbrev j : ℕ
    j = turn_of N w (outputs_of turn.free) i

    -- a turn's peel upon the visits' peel
    peeled : (a b : ℕ) → a < N → b < N → cell N w' a b ≡ peel 1 (put x.outputs i j) M a b
    unfolding peel
    peeled a b la lb = go (ℕ_discrete a i)
      where
        go : Dec (a ≡ i) → cell N w' a b ≡ M a b - 1 * δ (put x.outputs i j a) b
        go (yes e) = t.cells a b la lb
            ∙ ap₂ (λ (c o : ℕ). c - 1 * δ o b) (ap (λ (k : ℕ). cell N w k b) e ∙ fresh b lb ∙ ap (λ (k : ℕ). M k b) (sym e))
            (ap (put (λ _. 255) i j) e ∙ put_same (λ _. 255) i j ∙ sym (put_same x.outputs i j) ∙ ap (put x.outputs i j) (sym e))
        go (no e) = t.cells a b la lb ∙ peel-off 1 (put (λ _. 255) i j) (cell N w) a b (λ q. omega (arith, small, q, put_other (λ _. 255) i j a e))
            ∙ g.cells a b la lb ∙ ap (λ (o : ℕ). M a b - 1 * δ o b) (sym (put_other x.outputs i j a e))

    taken' : (b : ℕ) → b < N → taken_of (outputs_of turn'.free) b ≡ put x.taken j true b
    taken' b lb = t.taken b lb ∙ go (ℕ_discrete b j)
      where
        go : Dec (b ≡ j) → put (taken_of (outputs_of turn.free)) j true b ≡ put x.taken j true b
        go (yes e) = rw e (put_same (taken_of (outputs_of turn.free)) j true ∙ sym (put_same x.taken j true))
        go (no e) = put_other (taken_of (outputs_of turn.free)) j true b e ∙ g.taken b lb ∙ sym (put_other x.taken j true b e)

    long : length out' ≡ length out
    long = ap length t.seated ∙ length-set out i j

    seated' : (q : ℕ) → q < v + 1 → get_or out' ((q + s) % N) 255 ≡ put x.outputs i j ((q + s) % N)
    seated' q l = ap (λ (o : List ℕ). get_or o ((q + s) % N) 255) t.seated ∙ go (ℕ_discrete q v)
      where
        go : Dec (q ≡ v) → get_or (set out i j) ((q + s) % N) 255 ≡ put x.outputs i j ((q + s) % N)
        go (yes e) = rw e (get_or-set_same out i j 255 (omega (arith, li, g.seats.wide)) ∙ sym (put_same x.outputs i j))
        go (no e) =
            let n : (q + s) % N ≢ i = earlier q (omega arith) in
            get_or-set_other out i ((q + s) % N) j 255 n ∙ g.seated q (omega arith) ∙ sym (put_other x.outputs i j ((q + s) % N) n)

    ahead' : (q : ℕ) → v + 1 ≤ q → q < N → get_or out' ((q + s) % N) 255 ≡ 255
    ahead' q l h =
        ap (λ (o : List ℕ). get_or o ((q + s) % N) 255) t.seated
        ∙ get_or-set_other out i ((q + s) % N) j 255 (λ e. omega (arith, (around-full N g.copy.sized.some s).once q v h lv e))
        ∙ g.ahead q (omega arith) h

    idle' : (a : ℕ) → N ≤ a → get_or out' a 255 ≡ 255
    idle' a l = ap (λ (o : List ℕ). get_or o a 255) t.seated ∙ get_or-set_other out i a j 255 (λ e. omega (arith, li)) ∙ g.seats.idle a l

    pub visiting-next : Visiting N s (v + 1) w₀ w' rows' out' turn'
    unfolding seat
    visiting-next = record {
      copy = t.copy;
      cells = λ a b la lb. peeled a b la lb ∙ ap (λ (y : Slot). peel 1 y.outputs M a b) (sym next);
      taken = λ b lb. taken' b lb ∙ ap (λ (y : Slot). y.taken b) (sym next);
      seated = λ q l. seated' q l ∙ ap (λ (y : Slot). y.outputs ((q + s) % N)) (sym next);
      ahead = ahead';
      seats = record { wide = omega (arith, g.seats.wide, long); idle = idle' };
    }

  -- an input without slots left need not be visited
  pub visiting-skip : ((b : ℕ) → b < N → cell N w₀ ((v + s) % N) b ≡ 0) → Visiting N s (v + 1) w₀ w rows out turn
  visiting-skip empty =
      visiting-next w rows out turn
      (turned_none N i w rows out turn g.copy (turn-idle N w (outputs_of turn.free) i (λ b lb. fresh b lb ∙ empty b lb)) (g.ahead v (omega arith) lv) turn refl refl
      _ (g.copy.labels.row i li) (asking-same _ i _))

-- nor need any number of them
pub visiting-skips : (N s : ℕ) (w₀ w : List ℕ) (rows : List Outputs) (out : List ℕ) (turn : Turn) (v k : ℕ) → v + k ≤ N → ((q : ℕ) → v ≤ q → q < v + k → (b : ℕ) → b < N → cell N w₀ ((q + s) % N) b ≡ 0)
    → Visiting N s v w₀ w rows out turn → Visiting N s (v + k) w₀ w rows out turn
visiting-skips N s w₀ w rows out turn v zero l e g = subst (λ (x : ℕ). Visiting N s x w₀ w rows out turn) (let z : v ≡ v + 0 = omega arith in z) g
visiting-skips N s w₀ w rows out turn v (suc k) l e g =
    subst (λ (x : ℕ). Visiting N s x w₀ w rows out turn) (let z : v + k + 1 ≡ v + suc k = omega arith in z)
    (visiting-skip N s (v + k) w₀ w rows out turn (omega arith) (visiting-skips N s w₀ w rows out turn v k (omega arith) (λ q a b. e q a (omega arith)) g) (e (v + k) (omega arith) (omega arith)))

-- all inputs are visited
module _ (N s : ℕ) (w₀ w : List ℕ) (rows : List Outputs) (out : List ℕ) (turn : Turn) (g : Visiting N s N w₀ w rows out turn) where
  pos : 0 < N
  pos = g.copy.sized.some

  small' : N ≤ 255
  small' = omega (arith, g.copy.sized.few)

  outputs : out ≡ tab (length out) 0 (slot N (cell N w₀) s)
  outputs = ext_get_or 255 out (tab (length out) 0 (slot N (cell N w₀) s)) (sym (length-tab (length out) 0 (slot N (cell N w₀) s))) (λ k l. at k (dec_lt k N) ∙ sym (get_or-tab (length out) 0 (slot N (cell N w₀) s) k 255 l ∙ ap (slot N (cell N w₀) s) (let e : 0 + k ≡ k = omega arith in e)))
    where
      at : (k : ℕ) → Dec (k < N) → get_or out k 255 ≡ slot N (cell N w₀) s k
      at k (yes h) =
          unfold slot in
          let r : (q : ℕ) × (q < N) × ((q + s) % N ≡ k) = around-reach N pos s k h in
          subst (λ (z : ℕ). get_or out z 255 ≡ (visits N (cell N w₀) s N).outputs z) r.2 (g.seated r.0 r.1)
      at k (no h) = g.seats.idle k (omega arith) ∙ sym (slot-idle N pos small' (cell N w₀) s k (omega arith))

  pub visited-all : left_in N w₀ ≢ 0 → Filled N s w₀ w rows out turn.rest
  visited-all ne = record { copy = g.copy; seats = g.seats; more = more }
    where
      more : leftover (length out) N s w₀ ≡ record { hold = 1; outputs = out } ∷ leftover (length out) N (s + 1) w
      more = unfold leftover left_in in
          quick-step (length out) N pos small' s (cell N w₀) ne
          ∙ ap₂ {B = List Record} (λ (o : List ℕ) (p : List Record). record { hold = 1; outputs = o } ∷ p) (sym outputs)
          (quick-cong (length out) N pos small' (suc s) (peel 1 (slot N (cell N w₀) s) (cell N w₀)) (cell N w) (λ a b la lb. sym (unfold slot in g.cells a b la lb))
          ∙ ap (λ (k : ℕ). quick_from (length out) N k (cell N w)) (sym (add-one s)))

-- Code 5 says that a plan has more records than the buffer holds, and no plan has more than the number promised.
use Rattle.std.specs.Prelude.{Err, Ok}
use mathlib.Core.Path.{◌≡◌, refl, sym, ap, ◌∙◌}
use mathlib.Core.List.{List, [], ◌∷◌}
use Prim.Native.Nat.{ℕ, ◌<◌, ◌≤◌}
use native.Mathlib.Decide.{dec_lt}
use native.Mathlib.Omega.{arith}
use lib.ListN.{length}
use borrow.Author.Tests.{le-leb, lt-leb}
use Rattle.counting.specs.Sum.{sum, most}
use Rattle.counting.specs.Count.{ind, δ}
use Rattle.counting.specs.Matrix.{row, col}
use Rattle.switch.specs.declared.Counts.{Counts}
use Rattle.switch.specs.declared.Edition.{Edition}
use Rattle.switch.specs.Outcome.{Outcome}
use Rattle.switch.specs.declared.Refusal.{Refusal}
use Rattle.switch.specs.declared.Refusal.TheVariants.{Longest}
use Rattle.switch.specs.Answer.{code_of, refusal_code}
use Rattle.switch.specs.Demand.{cell, longest}
use Rattle.switch.specs.Plan.{Record}
use Rattle.records.specs.Bytes.{whole}
use Rattle.rules.specs.Fill.{fill, fill_to, fill_cell, lack}
use Rattle.rules.specs.Search.{put, pick, free, complete, first_setting}
use Rattle.rules.specs.Peel.{peel}
use Rattle.rules.specs.Exact.{tab, least, record_of, peels, exact_from, exact_plan}
use Rattle.rules.specs.Doubled.{every_rotation_plan}
use Rattle.rules.specs.Quick.{quick_plan}
use Rattle.rules.proofs.Exact.{exact}
use Rattle.rules.proofs.Quick.{quick}
use Rattle.room.specs.declared.Planner.{Planner}
use Rattle.room.specs.declared.Planner.TheVariants.{Exact, Doubled, Quick}
use Rattle.room.specs.Room.{exact_room, doubled_room, quick_room, sufficing, room_of, roomed}
use Rattle.room.proofs.Room.{roomed-over, roomed-fine}
use Rattle.promises.specs.Papers.{d1, d6}
use Rattle.promises.specs.Planner.{Serves, Fair, bad-ports, bad-cells, long-line, Why, faulty, over-limit, no_room, Plans}
use Rattle.promises.specs.Rooms.{Method, exactly, quickly, doubling, number_of, Suffices, five}
use Rattle.promises.proofs.Outcomes.{never, same-counts}
use Rattle.promises.proofs.Papers.{p7-meets, p8-meets}
use Rattle.promises.proofs.Planner.{fair-top, fair-small, fair-cells}
use Rattle.promises.proofs.Exact.{exact-promise}
use Rattle.promises.proofs.Doubled.{both-doubled, doubled-promise}
use Rattle.promises.proofs.Quick.{quick-promise}

-- ---- the number that a call gives

-- where the call is done, it gives the planner's number
module _ (E : Edition) (p : Planner) (N T : ℕ) (c : Counts) (some : 0 < N) (few : N ≤ E.ports) where
  by-planner : (q : Planner) → room_of q N T ≡ Ok c → c.records ≡ number_of q N T
  by-planner Exact e = ap (λ (x : Counts). x.records) (sym (same-counts e))
  by-planner Doubled e = ap (λ (x : Counts). x.records) (sym (same-counts e))
  by-planner Quick e = by-limit (dec_lt 1024 T)
    where
      long : 1024 < T → Err Longest ≡ room_of Quick N T
      long l = rw (lt-leb T 1024 l)

      short : T ≤ 1024 → sufficing (quick_room T) ≡ room_of Quick N T
      short l = rw (le-leb T 1024 l)

      by-limit : Dec (1024 < T) → c.records ≡ quick_room T
      by-limit (yes l) = never (long l ∙ e)
      by-limit (no l) = ap (λ (x : Counts). x.records) (sym (same-counts (short (omega (arith, l)) ∙ e)))

  number_is : roomed E p N T ≡ Ok c → c.records ≡ number_of p N T
  number_is e = by-longest (dec_lt 65535 T)
    where
      by-longest : Dec (65535 < T) → c.records ≡ number_of p N T
      by-longest (yes l) = never (roomed-over E p N T some few l ∙ e)
      by-longest (no l) = by-planner p (roomed-fine E p N T some few (omega (arith, l)) ∙ e)

-- ---- code 5

-- it has one reason
short-of : {E : Edition} {most N : ℕ} {d : List ℕ} {p : List Record} {buf : List ℕ} {f : Refusal}
    → Why E most N d p buf f → refusal_code f ≡ 5 → Fair E most N d × (whole E.width buf < length p)
short-of (faulty (bad-ports x)) e = absurd (let z : ⊥ = omega (arith, e) in z)
short-of (faulty (bad-cells x y z)) e = absurd (let z : ⊥ = omega (arith, e) in z)
short-of (faulty (long-line x y z k a b c)) e = absurd (let z : ⊥ = omega (arith, e) in z)
short-of (over-limit x y) e = absurd (let z : ⊥ = omega (arith, e) in z)
short-of (no_room fair l) e = (fair, l)

-- an outcome of code 5 is a refusal, and so has that reason
module _ {E : Edition} {most N : ℕ} {d : List ℕ} {p : List Record} {Worth : List Record → Type 0} {buf after : List ℕ} where
  five-short : (r : Outcome) → Plans E most N d p Worth buf r after → code_of r ≡ 5 → Fair E most N d × (whole E.width buf < length p)
  five-short (Ok x) plans e = absurd (let z : ⊥ = omega (arith, e) in z)
  five-short (Err f) plans e = short-of (plans.refuses f refl).0 e

module _ (E : Edition) (serves : Serves E) where
  -- with that many whole records of room no planner of an edition gives code 5
  pub room-suffices : (m : Method) → Suffices m E
  unfolding exact_room quick_room
  room-suffices exactly N T c e d buf l room f =
      let x = five-short _ (exact-promise E serves N d buf _ _ refl refl) f in
      let fair = x.0 in
      omega (
        arith,
        l,
        room,
        x.1,
        (exact E.width N fair.some (fair-top E serves fair) d (fair-cells E serves fair)).few,
        number_is E Exact N T c fair.some fair.few e,
      )
  room-suffices (doubling rule) N T c e d buf l room f =
      let x = five-short _ (doubled-promise rule E serves N d buf _ _ refl refl) f in
      let fair = x.0 in
      omega (
        arith,
        room,
        x.1,
        (both-doubled rule E.width N fair.some (fair-top E serves fair) d (fair-cells E serves fair)).few,
        number_is E Doubled N T c fair.some fair.few e,
      )
  room-suffices quickly N T c e d buf l room f =
      let x = five-short _ (quick-promise E serves N d buf _ _ refl refl) f in
      let fair = x.0 in
      let small : N ≤ 255 = omega (arith, fair-small E serves fair) in
      omega (
        arith,
        l,
        room,
        x.1,
        (quick E.width N fair.some (fair-top E serves fair) small d).most,
        number_is E Quick N T c fair.some fair.few e,
      )

-- ---- no smaller number would do

-- the exact plan of two ports and of three
pub exact-sharp : (length (exact_plan 64 2 d1) ≡ exact_room 2 (longest 2 (cell 2 d1)))
    × (length (exact_plan 64 3 five) ≡ exact_room 3 (longest 3 (cell 3 five)))
unfolding exact_room
    exact_plan exact_from peels record_of least tab first_setting complete free pick put peel fill fill_to fill_cell lack longest most row col cell sum δ ind
exact-sharp = (refl, refl)

-- the quick cover by P7, and the doubled plan by P8 and the rule of every rotation
pub quick-sharp : length (quick_plan 64 3 d6) ≡ quick_room (longest 3 (cell 3 d6))
unfolding quick_room
quick-sharp = p7-meets

pub doubled-sharp : length (every_rotation_plan 64 1 (5 ∷ [])) ≡ doubled_room 1
doubled-sharp = p8-meets.0

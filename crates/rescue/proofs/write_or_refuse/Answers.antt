-- What is known of the records is exact where they are too many, and else they are not; each return is the first test that fails.
use mathlib.Core.Path.{refl, ap}
use Prim.Native.Nat.{ℕ, ◌+◌, ◌*◌}
use native.Mathlib.Nat.{mul-le-mul_right, div-mul-le_self}
use native.Mathlib.Omega.{arith}
use lib.ListN.{length}
use Rattle.switch.specs.declared.Refusal.TheVariants.{Room, ListRoom}
use Rattle.records.specs.Bytes.{whole}
use Rattle.rescue_rule.proofs.Read.{ports-fit}
use Rattle.rescue.specs.declared.Answer.{Answer}
use Rattle.rescue.specs.Rescue.{refusal}
use Rattle.rescue.proofs.Keep.{kept-few}
use Rattle.rescue.proofs.Order.{saves-as, saves-refusal, fitting-many, fitting-room, fitting-list, fitting-done}
use Rattle.rescue.proofs.Taking.{all-length, all-over, all-within}
use Rattle.rescue.proofs.write_or_refuse.Goals as goal

pub records_known-records-requires : goal.records_known-records-requires
records_known-records-requires g c =
    let st = c.requires.0 in
    (omega (arith, c.requires.1), (omega (arith, st.stays, kept-few c.args.e.width c.args.e.byte c.args.n c.args.damaged.now (whole c.args.e.width c.args.damaged.now), st.few), st.cells))

pub returns-then-e-records : goal.returns-then-e-records
returns-then-e-records g c =
    let st = c.requires.0 in
    let fit = ports-fit _ _ _ _ st.reads in
    let k = c.records_known-records.ensures _ fit.0 st.reads.bounded.width in
    let over = all-over _ _ _ _ _ st _ _ k _ (omega (arith, c.min-most.ensures)) c.if-e-records.true in
    saves-refusal (fitting-many _ _ _ _ _ _ _ _ _ (omega (arith, over, c.if-e-records.true))) refl

pub returns-then-room-records : goal.returns-then-room-records
returns-then-room-records g c =
    let st = c.requires.0 in
    let fit = ports-fit _ _ _ _ st.reads in
    let k = c.records_known-records.ensures _ fit.0 st.reads.bounded.width in
    let over = all-over _ _ _ _ _ st _ _ k _ (omega (arith, c.min-most.ensures)) c.if-room-records.true in
    let few = all-within _ _ _ _ _ st _ _ k _ (omega (arith, c.min-most.ensures)) c.if-e-records.false in
    saves-refusal (fitting-room _ _ _ _ _ _ _ _ _ few (omega (arith, over, c.if-room-records.true))) (ap {B = Answer} (λ (x : ℕ). refusal (Room x)) over)

pub returns-then-list-stock : goal.returns-then-list-stock
returns-then-list-stock g c =
    let st = c.requires.0 in
    let fit = ports-fit _ _ _ _ st.reads in
    let k = c.records_known-records.ensures _ fit.0 st.reads.bounded.width in
    let few = all-within _ _ _ _ _ st _ _ k _ (omega (arith, c.min-most.ensures)) c.if-e-records.false in
    let room = all-within _ _ _ _ _ st _ _ k _ (omega (arith, c.min-most.ensures)) c.if-room-records.false in
    saves-refusal (fitting-list _ _ _ _ _ _ _ _ _ few room (omega (arith, st.goes, c.if-list-stock.true))) (ap {B = Answer} (λ (x : ℕ). refusal (ListRoom x)) st.goes)

pub write-requires : goal.write-requires
write-requires g c =
    let st = c.requires.0 in
    let fit = ports-fit _ _ _ _ st.reads in
    let k = c.records_known-records.ensures _ fit.0 st.reads.bounded.width in
    let room = all-within _ _ _ _ _ st _ _ k _ (omega (arith, c.min-most.ensures)) c.if-room-records.false in (
      st,
      omega (arith, div-mul-le_self (length c.args.plan.now) (c.args.e.width + 4), mul-le-mul_right (c.args.e.width + 4) room, ap (λ (x : ℕ). x * (c.args.e.width + 4)) (all-length _ _ _ _ _ st)),
      omega (arith, c.if-list-stock.false),
    )

pub returns : goal.returns
returns g c =
    let st = c.requires.0 in
    let fit = ports-fit _ _ _ _ st.reads in
    let k = c.records_known-records.ensures _ fit.0 st.reads.bounded.width in
    let few = all-within _ _ _ _ _ st _ _ k _ (omega (arith, c.min-most.ensures)) c.if-e-records.false in
    let room = all-within _ _ _ _ _ st _ _ k _ (omega (arith, c.min-most.ensures)) c.if-room-records.false in
    saves-as (fitting-done _ _ _ _ _ _ _ _ _ few room (omega (arith, st.goes, c.if-list-stock.false))) c.write.ensures

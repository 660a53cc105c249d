-- The plan that is written passes the reader, with the same counts: its times fit four bytes, since a line of 65,535 slots and 64 switchings is short.
use Rattle.std.specs.Prelude.{Ok}
use mathlib.Core.Path.{◌≡◌}
use mathlib.Core.List.{List}
use Prim.Native.Nat.{ℕ, ◌≤◌, ◌<◌}
use native.Mathlib.Nat.{mul-le-mul}
use native.Mathlib.Omega.{arith}
use lib.ListN.{length}
use Rattle.switch.specs.Answer.{plan_counts}
use Rattle.switch.specs.Demand.{cell, longest}
use Rattle.shop_rule.specs.Task.{latest}
use Rattle.shop_rule.specs.Shop.{shop_plan}
use Rattle.shop_rule.proofs.Task.{each_map, each_both}
use Rattle.shop_rule.proofs.Shop.{shop-runs, shop-apart, shop-rising}
use Rattle.shop_rule.proofs.Count.{shop-end}
use Rattle.tasks.specs.Bytes.{bytes}
use Rattle.tasks.specs.Read.{reading}
use Rattle.tasks.proofs.Trips.{written-reads}

pub shop-reads : (n s : ℕ) (d : List ℕ) → 0 < n → n ≤ 64 → s ≤ 65535 → longest n (cell n d) ≤ 65535
    → reading n (bytes (shop_plan n s d)) ≡ Ok (plan_counts (length (shop_plan n s d)) 0 (latest (shop_plan n s d)))
shop-reads n s d some few switching lines =
    let top : n ≤ 255 = omega arith in
    let runs = shop-runs n s top d in
    written-reads n (shop_plan n s d) some few
    (each_map (λ y r. record { start = omega (arith, r.0.lasts, r.1, mul-le-mul few switching); end = omega (arith, r.1, mul-le-mul few switching) }) (each_both runs (shop-end n s top d)))
    (each_map (λ y r. record { input-in = r.input-in; output-in = r.output-in; forward = omega (arith, r.lasts, r.slots) }) runs)
    (shop-rising n s top d) (shop-apart n s top d)

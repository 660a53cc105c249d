-- Each return is the case of the definition whose tests led there.
use borrow.Author.Tests.{lt-ltb, le-ltb}
use Rattle.shop_rule.specs.Shop.{sooner}
use Rattle.shop.proofs.sooner_of.Goals as goal

pub returns-then-e-t : goal.returns-then-e-t
unfolding sooner
returns-then-e-t c = rw (le-ltb _ _ c.if-e-t.true)

pub returns-then-m-t : goal.returns-then-m-t
unfolding sooner
returns-then-m-t c = rw (lt-ltb _ _ c.if-e-t.false, le-ltb _ _ c.if-m-t.true)

pub returns-then-e-m : goal.returns-then-e-m
unfolding sooner
returns-then-e-m c = rw (lt-ltb _ _ c.if-e-t.false, lt-ltb _ _ c.if-m-t.false, lt-ltb _ _ c.if-e-m.true)

pub returns : goal.returns
unfolding sooner
returns c = rw (lt-ltb _ _ c.if-e-t.false, lt-ltb _ _ c.if-m-t.false, le-ltb _ _ c.if-e-m.false)

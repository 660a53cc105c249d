-- Each of the first n outputs passes the test.
use Rattle.std.proofs.Common.{rules, ◌≡◌, true, ◌↔◌}
use Rattle.dropping.proofs.Outputs.{Each, each-told}
use Rattle.dropping.proofs.in_range.Goals as goal

pub returns : goal.returns
returns c =
    let h : c.all.result ≡ true ↔ Each c.args.n c.args.outputs.now = search rules in
    each-told _ _ c.requires _ h

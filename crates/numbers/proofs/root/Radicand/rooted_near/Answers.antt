-- `numbers::root::Radicand::rooted_near` meets its contract: a guess that passes both tests is the root's digits, by `half_root`. Assumes nothing.
use Rattle.numbers.proofs.Laws.RootPattern.{near_pattern}
use Rattle.numbers.proofs.root.Radicand.rooted_near.Goals as goal

pub returns-then-n-square : goal.returns-then-n-square
returns-then-n-square c =
    let x = c.args.self in
    near_pattern x.m x.f c.scaled-n.result c.args.c x.not_short x.not_long x.finite c.scaled-n.ensures.0 c.if-square-n.true c.if-n-square.true

use Rattle.std.proofs.Common.{◌≡◌, ◌-◌, drop}
use Rattle.valuation.specs.Raw.{raw_of, lower, lowest, Small, reach}
use Rattle.valuation.proofs.pieces.least.Given as goal

abbrev pub invariant-loop-k : goal.invariant-loop-k
invariant-loop-k g l =
    let ps = g.S.RateSource.pieces l.source l.stake.code in
    let f = raw_of l.orders.orders.now l.stake in
    (lower l.best (lowest f (drop (l.k - 1) ps)) ≡ lowest f ps) × Small (reach l.stake.amount) l.best

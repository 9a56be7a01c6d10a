use Rattle.std.proofs.Common.{◌≤◌, length, Ok, Err, rules, arith}
use Rattle.std.specs.Ordering.{nat_cmp}
use Rattle.std.proofs.lemmas.Fn.{always_returns_same}
use Rattle.keyed.proofs.Searches.{sought, gap_at}
use Rattle.keyed.proofs.slices.find.Goals as goal

pub returns-in-Ok : goal.returns-in-Ok
returns-in-Ok g c =
    let key = g.R.Keyed.key in
    let q = g.R.Key.Key.rank c.args.key in
    let facts = c.in-Ok.ensures in
    let by_rank = facts.position (λ x. nat_cmp (key x) q) (always_returns_same _ _ _ (λ a r f' called. search rules)) in
    record { within = facts.bound; sought = λ up. sought key c.args.rows.now up q (Ok c.in-Ok.at) facts.bound by_rank }

pub returns-in-Err : goal.returns-in-Err
returns-in-Err g c =
    let key = g.R.Keyed.key in
    let q = g.R.Key.Key.rank c.args.key in
    let facts = c.in-Err.ensures in
    let by_rank = facts.position (λ x. nat_cmp (key x) q) (always_returns_same _ _ _ (λ a r f' called. search rules)) in
    let here : c.in-Err.at ≤ length c.args.rows.now = facts.bound in
    record { within = omega (arith, here); sought = λ up. gap_at key c.args.rows.now q c.in-Err.at _ (omega arith) (sought key c.args.rows.now up q (Err c.in-Err.at) facts.bound by_rank) }

use Rattle.std.proofs.Common.{ℕ, ◌+◌, ◌-◌, ltb, take, drop, ap, ◌∙◌, rules}
use Rattle.std.proofs.lemmas.List.Sorted.{IsPartitionPoint-from_clause, IsPartitionedBy-ltb}
use Rattle.keyed.proofs.Far.{level}
use Rattle.keyed.proofs.Ranges.{range_is}
use Rattle.keyed.proofs.Searches.{tests_below, tests_up_to}
use Rattle.keyed.proofs.slices.range.Goals as goal

pub returns : goal.returns
returns g c = λ up.
    let key = g.R.Keyed.key in
    let xs = c.args.rows.now in
    let low = g.R.Key.Key.rank c.args.low in
    let high = g.R.Key.Key.rank c.args.high in
    let from = IsPartitionPoint-from_clause (λ x. ltb (key x) low) xs _ c.partition_point-from.ensures.partitioned (IsPartitionedBy-ltb key xs low (level key xs up)) (λ a r f' called. search (rules, tests_below)) in
    let to = IsPartitionPoint-from_clause (λ x. ltb (key x) (high + 1)) xs _ c.partition_point-to.ensures.partitioned (IsPartitionedBy-ltb key xs (high + 1) (level key xs up)) (λ a r f' called. search (rules, tests_up_to)) in
    ap (λ (n : ℕ). take (n - c.partition_point-from.result) (drop c.partition_point-from.result xs)) c.max.ensures ∙ range_is key xs low high _ _ from to

use Rattle.std.proofs.Common.{◌≡◌, ℕ, ◌<◌, ◌≤◌, false, length, slice_index_or, rules}
use Rattle.std.proofs.iter.runs.Made.{chains}
use Rattle.margin.specs.Orders.{on}
use Rattle.margin.specs.declared.Order.{Order}
use Rattle.valuation.proofs.Parts.{from, kept_between}
use Rattle.valuation.proofs.orders.Orders.part.Goals as goal

pub returns : goal.returns
returns c =
    let orders = c.args.self.now.orders.now in
    let start = c.unwrap_or-start.result in
    let rest = from orders start in
    let first : (k : ℕ) (d : Order) → k < start → k < length orders → on c.args.code (slice_index_or orders k d) ≡ false = λ k d h l. search (rules, chains) in
    let later : (k : ℕ) (d : Order) → c.map_or-end.result ≤ k → k < length rest → on c.args.code (slice_index_or rest k d) ≡ false = λ k d h l. search (rules, chains) in
    kept_between (on c.args.code) orders _ _ first later

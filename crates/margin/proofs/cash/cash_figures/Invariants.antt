use Rattle.std.proofs.Common.{◌≡◌, ◌*◌, ◌^◌, ◌≤◌, length, take, nat_abs}
use Rattle.margin.proofs.Places.{by_place}
use Rattle.margin.proofs.CashFigures.{valued, at_risk}
use Rattle.margin.proofs.cash.cash_figures.Given as goal

abbrev pub invariant-loop-currency : goal.invariant-loop-currency
invariant-loop-currency l =
    (l.value ≡ by_place valued (take (length l.yielded) l.currencies) l.fn.cash)
    × (l.first ≡ by_place at_risk (take (length l.yielded) l.currencies) l.fn.cash)
    × (nat_abs l.value ≤ length l.yielded * 2 ^ 96)
    × (nat_abs l.first ≤ length l.yielded * 2 ^ 96)

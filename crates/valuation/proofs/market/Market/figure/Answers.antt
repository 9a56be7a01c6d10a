use Rattle.std.proofs.Common.{◌≡◌, [], ◌∷◌, length-append, ◌∙◌, arith, w64, SFits, rules}
use borrow.Author.Differences.{ints}
use Rattle.std.specs.Iterator.Adapters.{zip_first, zip_second}
use Rattle.std.specs.Slice.Iter.{iter_rest}
use Rattle.std.proofs.lemmas.Int.{to_z-of_z}
use Rattle.margin.proofs.Places.{by_place_turn, by_place_end, by_code}
use Rattle.valuation.specs.Holdings.{roubles_in}
use Rattle.valuation.proofs.market.Market.figure.Goals as goal

pub overflow_add-sum : goal.overflow_add-sum
overflow_add-sum g c =
    let f = roubles_in (g.M.Measure.line_value (g.S.RateSource.pieces c.args.self.now.source.now) c.args.portfolio.now.orders.orders.now) (g.M.Measure.shock (g.S.RateSource.pieces c.args.self.now.source.now)) c.args.self.now.listing.instruments.now c.args.portfolio.now.lines.lines.now in
    let first : iter_rest (zip_first c.into_iter-currency-iterator.result) ≡ c.args.self.now.currencies.now = search rules in
    let second : iter_rest (zip_second c.into_iter-currency-iterator.result) ≡ c.args.portfolio.now.cash.now = search rules in
    let turn = by_place_turn f _ _ _ _ _ c.next.new.self _ first second c.loop-currency.yielded_by c.next.ensures.steps (c.in-Some.currency, c.in-Some.cash) c.in-Some.is in
    omega (arith, ints)

pub loop-currency-preserved : goal.loop-currency-preserved
loop-currency-preserved g c =
    let f = roubles_in (g.M.Measure.line_value (g.S.RateSource.pieces c.args.self.now.source.now) c.args.portfolio.now.orders.orders.now) (g.M.Measure.shock (g.S.RateSource.pieces c.args.self.now.source.now)) c.args.self.now.listing.instruments.now c.args.portfolio.now.lines.lines.now in
    let first : iter_rest (zip_first c.into_iter-currency-iterator.result) ≡ c.args.self.now.currencies.now = search rules in
    let second : iter_rest (zip_second c.into_iter-currency-iterator.result) ≡ c.args.portfolio.now.cash.now = search rules in
    let turn = by_place_turn f _ _ _ _ _ c.next.new.self _ first second c.loop-currency.yielded_by c.next.ensures.steps (c.in-Some.currency, c.in-Some.cash) c.in-Some.is in
    let fz : SFits w64 c.in-Some.cash.now = search rules in
    let e = simp to_z-of_z at c.roubles-sum.ensures.is in
    (omega (arith, ints, turn, e), omega (arith, ints, turn, length-append c.loop-currency.yielded ((c.in-Some.currency, c.in-Some.cash) ∷ [])))

pub returns-clause-is : goal.returns-clause-is
returns-clause-is g c =
    let f = roubles_in (g.M.Measure.line_value (g.S.RateSource.pieces c.args.self.now.source.now) c.args.portfolio.now.orders.orders.now) (g.M.Measure.shock (g.S.RateSource.pieces c.args.self.now.source.now)) c.args.self.now.listing.instruments.now c.args.portfolio.now.lines.lines.now in
    let first : iter_rest (zip_first c.into_iter-currency-iterator.result) ≡ c.args.self.now.currencies.now = search rules in
    let second : iter_rest (zip_second c.into_iter-currency-iterator.result) ≡ c.args.portfolio.now.cash.now = search rules in
    let end = by_place_end f _ _ _ _ _ c.next.new.self _ first second c.loop-currency.yielded_by c.next.ensures.steps c.in-None.is (omega arith) in
    c.loop-currency.invariant.0
    ∙ end.0
    ∙ by_code f c.args.self.now.currencies.now c.args.portfolio.now.cash.now c.args.self.now.apart (omega arith)

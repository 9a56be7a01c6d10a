use Rattle.std.proofs.Common.{◌≡◌, [], ◌∷◌, pos, ◌*ℤ◌, ap, ◌∙◌, length-append, arith, w64, SFits, rules, ℤ}
use borrow.Author.Differences.{ints}
use Rattle.std.specs.Iterator.Adapters.{zip_first, zip_second}
use Rattle.std.specs.Slice.Iter.{iter_rest}
use Rattle.std.proofs.lemmas.Int.{to_z-of_z}
use Rattle.margin.specs.Numbers.{down}
use Rattle.margin.proofs.Places.{by_place_turn, by_place_end}
use Rattle.margin.proofs.CashFigures.{valued, at_risk, cash_figures_are}
use Rattle.margin.proofs.cash.cash_figures.Goals as goal

pub overflow_add-value : goal.overflow_add-value
overflow_add-value c =
    let first : iter_rest (zip_first c.into_iter-currency-iterator.result) ≡ c.args.currencies.now = search rules in
    let second : iter_rest (zip_second c.into_iter-currency-iterator.result) ≡ c.args.cash.now = search rules in
    let turn = by_place_turn valued _ _ _ _ _ c.next.new.self _ first second c.loop-currency.yielded_by c.next.ensures.steps (c.in-Some.currency, c.in-Some.cash) c.in-Some.is in
    omega (arith, ints)

pub overflow_add-first : goal.overflow_add-first
overflow_add-first c =
    let first : iter_rest (zip_first c.into_iter-currency-iterator.result) ≡ c.args.currencies.now = search rules in
    let second : iter_rest (zip_second c.into_iter-currency-iterator.result) ≡ c.args.cash.now = search rules in
    let turn = by_place_turn valued _ _ _ _ _ c.next.new.self _ first second c.loop-currency.yielded_by c.next.ensures.steps (c.in-Some.currency, c.in-Some.cash) c.in-Some.is in
    omega (arith, ints)

pub loop-currency-preserved : goal.loop-currency-preserved
loop-currency-preserved c =
    let first : iter_rest (zip_first c.into_iter-currency-iterator.result) ≡ c.args.currencies.now = search rules in
    let second : iter_rest (zip_second c.into_iter-currency-iterator.result) ≡ c.args.cash.now = search rules in
    let x = c.in-Some.currency.now in
    let fz : SFits w64 c.in-Some.cash.now = search rules in
    let fs : SFits w64 c.shocked.result = search rules in
    let e = simp to_z-of_z at c.in_roubles-value.ensures.is in
    let s = simp to_z-of_z at c.shocked.ensures in
    let f = (simp to_z-of_z at c.in_roubles-first.ensures.is) ∙ ap (λ (z : ℤ). down (z *ℤ pos x.fx) 10000) s in
    let v = by_place_turn valued _ _ _ _ _ c.next.new.self _ first second c.loop-currency.yielded_by c.next.ensures.steps (c.in-Some.currency, c.in-Some.cash) c.in-Some.is in
    let n = by_place_turn at_risk _ _ _ _ _ c.next.new.self _ first second c.loop-currency.yielded_by c.next.ensures.steps (c.in-Some.currency, c.in-Some.cash) c.in-Some.is in
    let k = length-append c.loop-currency.yielded ((c.in-Some.currency, c.in-Some.cash) ∷ []) in
    (omega (arith, ints, v, e), omega (arith, ints, n, f), omega (arith, ints, v, k), omega (arith, ints, n, k))

pub returns : goal.returns
returns c = λ l a.
    let first : iter_rest (zip_first c.into_iter-currency-iterator.result) ≡ c.args.currencies.now = search rules in
    let second : iter_rest (zip_second c.into_iter-currency-iterator.result) ≡ c.args.cash.now = search rules in
    c.figures_from.ensures
    ∙ cash_figures_are c.args.currencies.now c.args.cash.now a (omega arith) _ _
    (c.loop-currency.invariant.0 ∙ (by_place_end valued _ _ _ _ _ c.next.new.self _ first second c.loop-currency.yielded_by c.next.ensures.steps c.in-None.is (omega arith)).0)
    (c.loop-currency.invariant.1 ∙ (by_place_end at_risk _ _ _ _ _ c.next.new.self _ first second c.loop-currency.yielded_by c.next.ensures.steps c.in-None.is (omega arith)).0)

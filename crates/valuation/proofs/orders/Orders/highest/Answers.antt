use Rattle.std.proofs.Common.{◌≡◌, ◌∙◌, cond, max, filter, rules, tests}
use Rattle.std.specs.List.{fold}
use Rattle.std.proofs.lemmas.Iterator.{YieldsList-from_slice}
use Rattle.std.proofs.lemmas.Iterator.Consumers.{fold_from_yields_List}
use Rattle.margin.specs.Orders.{on}
use Rattle.margin.specs.declared.Order.{Order}
use Rattle.valuation.proofs.Grosses.{highest_fold, kept_fold}
use Rattle.valuation.proofs.orders.Orders.highest.Goals as goal

pub returns : goal.returns
returns c =
    let orders = c.args.self.now.orders.now in
    let s : c.fold.result ≡ fold (λ a (x : Order). cond (on c.args.code x) (max a x.price) a) c.args.price c.args.self.now.orders.now =
    fold_from_yields_List _ (λ a x. cond (on c.args.code x) (max a x.price) a) c.args.price c.fold.result c.fold.ensures.ran (YieldsList-from_slice orders cc) (λ a x b q k. search (rules, tests)) in
    s ∙ kept_fold (on c.args.code) c.args.price orders ∙ highest_fold c.args.price (filter (on c.args.code) orders)

-- Worked figures, from the definitions.
use Rattle.std.specs.Prelude.{◌≡◌, cond, [], ℤ, pos, ◌==◌}
use Rattle.margin.specs.declared.Figures.{Figures}
use Rattle.margin.specs.Holdings.{Holding, worth}
use Rattle.margin.specs.Figures.{figures_of}
use Rattle.rules.specs.Calls.{Call, open_portfolio, pay_in, deliver_in, fill, put_in_force, accepted, refused}
use Rattle.rules.specs.Histories.{History, asked, holding, in_force}
use Rattle.rules.specs.Rules.{then, ruled, worst_now}
use Rattle.rules.specs.Samples.{stepped, sheet, opened, minus, buy, sell}

abbrev begun : History
begun = asked (opened (sheet 10000)) (open_portfolio 1) accepted

abbrev funded : History
funded = asked begun (pay_in 1 643 100000) accepted

abbrev bought : History
bought = asked funded (buy 1 1 1001 50 10000) accepted

abbrev with_dollars : History
with_dollars = asked (asked begun (pay_in 1 840 100000) accepted) (deliver_in 1 1002 10) accepted

-- cash −400,000 and 50 of 1001, and the price is now 9,000
abbrev fallen : History
fallen = asked (asked bought (fill 1 50 10000) accepted) (put_in_force (sheet 9000)) accepted

abbrev one_cent_short : Holding
one_cent_short = record { cash = λ c. cond (c == 840) (minus 1) (pos 0); planned = λ _. pos 0; lines = []; orders = [] }

abbrev figures_now : History → Figures
figures_now h = figures_of (in_force h) (holding h 1)

-- the call is accepted, and the worst case is then w
abbrev AcceptedAt : History → Call → ℤ → Type 0
AcceptedAt h c w = (ruled h c ≡ accepted) × (worst_now (then h c) 1 ≡ w)

pub record WorkedFigures : Type 0 where
  -- cash of 100,000 carries a buy of 50, and no more
  pub a_buy_to_the_limit : AcceptedAt funded (buy 1 1 1001 50 10000) (pos 0)
  pub a_buy_beyond_it : ruled funded (buy 1 1 1001 51 10000) ≡ refused 24
  -- a sell beside a standing buy is neither added to it nor netted with it
  pub a_sell_beside_a_buy : AcceptedAt bought (sell 2 1 1001 40 10000) (pos 0)
  pub a_sell_too_large_beside_a_buy : ruled bought (sell 2 1 1001 41 10000) ≡ refused 24
  -- a buy counts at its own price where that is above the sheet's, and at the sheet's where it is below
  pub a_buy_above_the_sheet : worst_now (then funded (buy 1 1 1001 10 11000)) 1 ≡ pos 70000
  pub a_buy_below_the_sheet : worst_now (then funded (buy 1 1 1001 10 9000)) 1 ≡ pos 80000
  -- a currency's rate is taken on the equity, after the lines' own rates, and not on the net
  pub dollars_and_bonds : figures_now with_dollars ≡ record { value = pos 13500000; initial = pos 2565000; minimum = pos 1282500; first = pos 10935000; second = pos 12217500; worst = pos 10935000 }
  -- every rounding is toward minus infinity
  pub one_cent_owed : figures_of (sheet 10000) one_cent_short ≡ record { value = minus 90; initial = pos 90; minimum = pos 45; first = minus 180; second = minus 135; worst = minus 180 }
  -- a new sheet counts at once
  pub a_new_price : (figures_now fallen).first ≡ minus 40000
  -- below nought, an order may leave the worst case as it is, and not lower it
  pub a_sell_at_its_worth : ruled fallen (sell 2 1 1001 50 7200) ≡ accepted
  pub a_sell_below_its_worth : ruled fallen (sell 2 1 1001 50 7199) ≡ refused 24
  pub a_sell_into_a_short : AcceptedAt fallen (sell 2 1 1001 90 9000) (minus 40000)
  pub a_sell_too_far_into_a_short : ruled fallen (sell 2 1 1001 91 9000) ≡ refused 24
  -- stepped rates
  pub stepped_long : worth (stepped 2000 3000 5000 10 20) 10000 (pos 25) ≡ pos 175000
  pub stepped_short : worth (stepped 2000 3000 5000 10 20) 10000 (minus 15) ≡ minus 185000

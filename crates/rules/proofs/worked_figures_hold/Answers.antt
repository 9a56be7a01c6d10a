use Rattle.std.proofs.Common.{refl}
use Rattle.rules.proofs.worked_figures_hold.Goals as goal

pub returns : goal.returns
returns c = record {
  a_buy_to_the_limit = (refl, refl);
  a_buy_beyond_it = refl;
  a_sell_beside_a_buy = (refl, refl);
  a_sell_too_large_beside_a_buy = refl;
  a_buy_above_the_sheet = refl;
  a_buy_below_the_sheet = refl;
  dollars_and_bonds = refl;
  one_cent_owed = refl;
  a_new_price = refl;
  a_sell_at_its_worth = refl;
  a_sell_below_its_worth = refl;
  a_sell_into_a_short = (refl, refl);
  a_sell_too_far_into_a_short = refl;
  stepped_long = refl;
  stepped_short = refl;
}

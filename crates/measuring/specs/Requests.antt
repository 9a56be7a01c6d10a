-- The orders that C's records say.
use Rattle.std.specs.Prelude.{cond, List, map, length, Some, None, Option, nat_eq}
use Rattle.margin.specs.declared.Order.{Order}
use Rattle.margin.specs.declared.Side.TheVariants.{Buy, Sell}
use Rattle.measuring.specs.declared.requests.Request.{Request}

abbrev pub order_of : Request → Order
order_of r = record { number = 0; portfolio = 0; side = cond r.sells Sell Buy; code = r.code; left = r.left; price = r.price }

abbrev pub four_of : List Request → Option (List Order)
four_of rs = cond (nat_eq (length rs) 4) (Some (map order_of rs)) None

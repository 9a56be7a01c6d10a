-- What the entries of a sheet are found by.
use Rattle.std.specs.Prelude.{ℕ}
use Rattle.margin.specs.declared.Currency.{Currency}
use Rattle.margin.specs.declared.Instrument.{Instrument}
use Rattle.margin.specs.declared.Order.{Order}

abbrev pub currency_code : Currency → ℕ
currency_code c = c.code

abbrev pub instrument_code : Instrument → ℕ
instrument_code i = i.code

abbrev pub order_number : Order → ℕ
order_number o = o.number

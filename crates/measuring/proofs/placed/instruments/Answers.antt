use Rattle.std.proofs.Common.{pos, false, arith}
use Rattle.measuring.proofs.Eights.{instruments_are}
use Rattle.measuring.proofs.placed.instruments.Goals as goal

pub returns-in-len8 : goal.returns-in-len8
returns-in-len8 c =
    instruments_are (record { planned = pos 0; price = 0; currency = 0; off_list = false }) c.args.units.now _ _ _ _ _ _ _ _ (omega (arith, c.in-len8.len_at_least, c.in-len8.len_below))
    c.instrument.ensures c.instrument-in-len8.ensures c.instrument-in-len8-2.ensures c.instrument-in-len8-3.ensures
    c.instrument-in-len8-4.ensures c.instrument-in-len8-5.ensures c.instrument-in-len8-6.ensures c.instrument-in-len8-7.ensures

use Rattle.std.proofs.Common.{pos, false, arith}
use Rattle.measuring.proofs.Eights.{lines_are}
use Rattle.measuring.proofs.placed.lines.Goals as goal

pub returns-in_ok-line-in-len8-8 : goal.returns-in_ok-line-in-len8-8
returns-in_ok-line-in-len8-8 c =
    lines_are (record { planned = pos 0; price = 0; currency = 0; off_list = false }) c.args.units.now _ _ _ _ _ _ _ _ (omega (arith, c.in-len8.len_at_least, c.in-len8.len_below))
    c.in_ok-line-in-len8.ensures c.in_ok-line-in-len8-2.ensures c.in_ok-line-in-len8-3.ensures c.in_ok-line-in-len8-4.ensures
    c.in_ok-line-in-len8-5.ensures c.in_ok-line-in-len8-6.ensures c.in_ok-line-in-len8-7.ensures c.in_ok-line-in-len8-8.ensures

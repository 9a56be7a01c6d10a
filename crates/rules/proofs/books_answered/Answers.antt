use Rattle.std.proofs.Common.{refl}
use Rattle.rules.proofs.books_answered.Goals as goal

pub returns : goal.returns
returns c = record {
  orders = refl;
  dollars = refl;
  sheets = refl;
  stepped = refl;
  ranges = refl;
  first_failing = refl;
  places = refl;
  roundings = refl;
  notices = refl;
  recorded = refl;
}

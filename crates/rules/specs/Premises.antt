-- The premises of the laws are met: the book of new sheets is a run of closed sheets and the rules' answers.
use Rattle.rules.specs.Rules.{Ruled}
use Rattle.rules.specs.Laws.{ClosedSheets}
use Rattle.rules.specs.Books.{played, sheets_book}

pub record PremisesAreMet : Type 0 where
  pub sheets_closed : ClosedSheets (played sheets_book)
  pub answers_ruled : Ruled (played sheets_book)

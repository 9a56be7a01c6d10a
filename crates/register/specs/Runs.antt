-- A register after a history of calls. The names of histories stand behind `histories.`; those of the register alone.
use Rattle.std.specs.Prelude.{◌≡◌, ℕ, [], length, pos, Ok, Err, Result}
use Rattle.margin.specs.declared.Figures.{Figures}
use Rattle.rules.specs.Calls.{Answer, accepted, told, refused}
use Rattle.rules.specs.Histories as histories
use Rattle.rules.specs.Rules.{Ruled}
use Rattle.rules.specs.Laws.{ClosedSheets, LawfulRun}
use Rattle.sheet.specs.declared.drafts.ClosedSheet.{ClosedSheet}
use Rattle.register.specs.declared.faults.RegisterFault.{RegisterFault}
use Rattle.register.specs.declared.state.Register.{Register}
use Rattle.register.specs.Faults.{fault_number}
use Rattle.register.specs.State.{in_force, is_open, cash, open_count, places}

-- ---- the rules' answer that a result is
abbrev pub said : Result (Unit {0}) RegisterFault → Answer
said (Ok u) = accepted
said (Err f) = refused (fault_number f)

abbrev pub said_figures : Result Figures RegisterFault → Answer
said_figures (Ok f) = told f
said_figures (Err f) = refused (fault_number f)

abbrev pub said_put : Result (Unit {0}) (RegisterFault × ClosedSheet) → Answer
said_put (Ok u) = accepted
said_put (Err x) = refused (fault_number x.0)

-- the register holds what the history says, and the history says no more than cash
pub record Holds (h : histories.History) (r : Register) : Type 0 where
  pub sheet : histories.in_force h ≡ in_force r
  pub «open» : (j : ℕ) → histories.is_open h j ≡ is_open r j
  pub cash : (j k : ℕ) → histories.cash h j k ≡ cash r j k
  pub planned : (j code : ℕ) → histories.planned h j code ≡ pos 0
  pub orders : histories.orders h ≡ []
  pub lines : histories.lines h ≡ []
  pub count : length (histories.portfolios h) ≡ open_count r
  pub places : (histories.places h).portfolios ≡ places r

-- the register came to this by calls that were answered by the rules, under closed sheets
pub record Reached (h : histories.History) (r : Register) : Type 0 where
  pub closed : ClosedSheets h
  pub ruled : Ruled h
  pub holds : Holds h r

-- and so by a lawful run
pub record Run (h : histories.History) (r : Register) : Type 0 where
  pub reached : Reached h r
  pub lawful : LawfulRun h

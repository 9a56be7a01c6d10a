-- What the desk answers to each field of a book, and what it then holds.
use Rattle.std.specs.Prelude.{◌≡◌, ℕ, List, [], ◌∷◌, pos, neg_ℤ, Some, None, Ok, Err, Option, Result, MatchResult}
use Rattle.book.specs.declared.faults.FieldFault.{FieldFault}
use Rattle.book.specs.Requests.{Request, enter_currency, put_in_force, open_portfolio, pay_in, pay_out, figures}
use Rattle.book.specs.Book.{Entry}
use Rattle.margin.specs.declared.Currency.{Currency}
use Rattle.margin.specs.declared.Figures.{Figures}
use Rattle.margin.specs.Sheets.{Sheet}
use Rattle.margin.specs.Cash.{cash_sheet}
use Rattle.sheet.specs.declared.drafts.ClosedSheet.{ClosedSheet}
use Rattle.sheet.specs.declared.drafts.Draft.{Draft}
use Rattle.sheet.specs.declared.faults.SheetCause.TheVariants.{NotInForce}
use Rattle.sheet.specs.declared.faults.SheetFault.{SheetFault}
use Rattle.sheet.specs.declared.faults.SheetFault.TheVariants.{Field as InField}
use Rattle.sheet.specs.Faults as sheets
use Rattle.sheet.specs.Drafts.{enters, EnteredIn, closes, closed_entries}
use Rattle.register.specs.declared.faults.RegisterFault.{RegisterFault}
use Rattle.register.specs.declared.faults.RegisterFault.TheVariants.{Sheet as InSheet}
use Rattle.register.specs.declared.state.Register.{Register}
use Rattle.register.specs.Faults.{fault_at}
use Rattle.register.specs.State.{Unchanged, Opens, Pays, Puts, Begins}
use Rattle.register.specs.Answers.{opens, pays_in, pays_out, tells, puts}
use Rattle.register.specs.Runs.{said, said_figures, said_put, Run}
use Rattle.rules.specs.Calls as calls
use Rattle.rules.specs.Histories.{History, Places, opened_with, asked}
use Rattle.desk.specs.declared.replies.Outcome.{Outcome}
use Rattle.desk.specs.declared.service.Desk.{Desk}

-- ---- the answer to a request
abbrev pub done : Result (Unit {0}) RegisterFault → Result (Option Figures) RegisterFault
done (Ok x) = Ok None
done (Err f) = Err f

abbrev pub entered : Result (Unit {0}) SheetFault → Result (Option Figures) RegisterFault
entered (Ok x) = Ok None
entered (Err f) = Err (InSheet f)

abbrev pub told : Result Figures RegisterFault → Result (Option Figures) RegisterFault
told (Ok f) = Ok (Some f)
told (Err f) = Err f

-- refusal 27 where no sheet is in force
abbrev pub with_register : Option Register → (Register → Result (Option Figures) RegisterFault) → Result (Option Figures) RegisterFault
with_register None call = Err (InSheet (sheets.refusal NotInForce))
with_register (Some r) call = call r

abbrev pub put : Result (Unit {0}) (RegisterFault × ClosedSheet) → Result (Option Figures) RegisterFault
put (Ok u) = Ok None
put (Err x) = Err x.0

-- the first closed sheet opens the register, a later one is put in force
abbrev pub closed : Option Register → List Currency → Result ClosedSheet (SheetFault × Draft) → Result (Option Figures) RegisterFault
closed o table (Err x) = Err (InSheet x.0)
closed None table (Ok c) = Ok None
closed (Some r) table (Ok c) = put (puts r c table)

abbrev pub answer : Desk → Request → Result (Option Figures) RegisterFault
answer d (enter_currency c x) = entered (enters d.drafting.draft d.drafting.table c x)
answer d put_in_force = closed d.register d.drafting.table (closes d.drafting.draft d.drafting.table)
answer d (open_portfolio p) = with_register d.register (λ r. done (opens r p))
answer d (pay_in p c x) = with_register d.register (λ r. done (pays_in r p c x))
answer d (pay_out p c x) = with_register d.register (λ r. done (pays_out r p c x))
answer d (figures p) = with_register d.register (λ r. told (tells r p))

-- ---- what a request leaves: d before, e after
-- R of the register before and after, where there is one
abbrev pub OnRegister : Option Register → Option Register → (Register → Register → Type 0) → Type 0
OnRegister None None R = Unit {0}
OnRegister None (Some t) R = ⊥
OnRegister (Some r) None R = ⊥
OnRegister (Some r) (Some t) R = R r t

abbrev pub Calls : Desk → Desk → (Register → Register → Type 0) → Type 0
Calls d e R = (e.drafting ≡ d.drafting) × OnRegister d.register e.register R

abbrev pub PutLeaves : Option Register → Option Register → List Currency → Result ClosedSheet (SheetFault × Draft) → Type 0
PutLeaves o u table (Err x) = u ≡ o
PutLeaves None None table (Ok c) = ⊥
PutLeaves None (Some t) table (Ok c) = Begins (cash_sheet (closed_entries c table)) 64 t
PutLeaves (Some r) None table (Ok c) = ⊥
PutLeaves (Some r) (Some t) table (Ok c) = MatchResult (puts r c table) (λ _. Puts r (cash_sheet (closed_entries c table)) t) (λ _. Unchanged r t)

-- the closed sheet opens the register
abbrev pub Opened : Desk → ClosedSheet → Desk → Type 0
Opened d c e = (e.drafting ≡ d.drafting) × PutLeaves None e.register d.drafting.table (Ok c)

abbrev pub Leaves : Desk → Request → Desk → Type 0
Leaves d (enter_currency c x) e =
    (e.register ≡ d.register)
    × MatchResult (enters d.drafting.draft d.drafting.table c x)
    (λ _. EnteredIn d.drafting.draft d.drafting.table c x e.drafting.draft e.drafting.table)
    (λ _. (e.drafting.draft ≡ d.drafting.draft) × (e.drafting.table ≡ d.drafting.table))
-- whatever the answer, an empty draft begins
Leaves d put_in_force e =
    (e.drafting.draft.currencies ≡ 0)
    × PutLeaves d.register e.register d.drafting.table (closes d.drafting.draft d.drafting.table)
Leaves d (open_portfolio p) e = Calls d e (λ r t. MatchResult (opens r p) (λ _. Opens r p t) (λ _. Unchanged r t))
Leaves d (pay_in p c x) e = Calls d e (λ r t. MatchResult (pays_in r p c x) (λ _. Pays r p c (pos x) t) (λ _. Unchanged r t))
Leaves d (pay_out p c x) e = Calls d e (λ r t. MatchResult (pays_out r p c x) (λ _. Pays r p c (neg_ℤ (pos x)) t) (λ _. Unchanged r t))
Leaves d (figures p) e = e ≡ d

-- ---- the calls of a book as a history
-- the desk's register has 64 places for portfolios, and no lines, orders or journal yet
abbrev pub room : Places
room = record { portfolios = 64; lines = 0; orders = 0; journal = 0 }

abbrev pub sheet_of : ClosedSheet → List Currency → Sheet
sheet_of c table = cash_sheet (closed_entries c table)

-- a call of the register is asked, where there is one
abbrev pub asks : Option Register → Option History → (Register → History → History) → Option History
asks None o f = o
asks (Some r) None f = None
asks (Some r) (Some h) f = Some (f r h)

-- the first closed sheet begins the history, a later one is a call
abbrev pub after_closing : Option Register → Option History → List Currency → Result ClosedSheet (SheetFault × Draft) → Option History
after_closing g o table (Err x) = o
after_closing None o table (Ok c) = Some (opened_with (sheet_of c table) room)
after_closing (Some r) None table (Ok c) = None
after_closing (Some r) (Some h) table (Ok c) = Some (asked h (calls.put_in_force (sheet_of c table)) (said_put (puts r c table)))

-- the history with what a request asks of the register, and the rules' answer
abbrev pub next : Desk → Option History → Request → Option History
next d o (enter_currency c x) = o
next d o put_in_force = after_closing d.register o d.drafting.table (closes d.drafting.draft d.drafting.table)
next d o (open_portfolio p) = asks d.register o (λ r h. asked h (calls.open_portfolio p) (said (opens r p)))
next d o (pay_in p c x) = asks d.register o (λ r h. asked h (calls.pay_in p c x) (said (pays_in r p c x)))
next d o (pay_out p c x) = asks d.register o (λ r h. asked h (calls.pay_out p c x) (said (pays_out r p c x)))
next d o (figures p) = asks d.register o (λ r h. asked h (calls.figures p) (said_figures (tells r p)))

-- the register was reached by the history, by a lawful run
abbrev pub Lawful : Option Register → Option History → Type 0
Lawful None None = Unit {0}
Lawful None (Some h) = ⊥
Lawful (Some r) None = ⊥
Lawful (Some r) (Some h) = Run h r

-- a lawful run stays one
abbrev pub Carries : Desk → Request → Desk → Type 0
Carries d q e = (o : Option History) → Lawful d.register o → Lawful e.register (next d o q)

-- ---- a field, and a whole book
-- a refusal has the place of its field
abbrev pub placed : Result (Option Figures) RegisterFault → ℕ → Result (Option Figures) RegisterFault
placed (Ok x) p = Ok x
placed (Err f) p = Err (fault_at f p)

abbrev pub ServesContent : Desk → ℕ → Result Request FieldFault → Result (Option Figures) RegisterFault → Desk → Type 0
ServesContent d p (Ok q) a e = (a ≡ placed (answer d q) p) × Leaves d q e × Carries d q e
ServesContent d p (Err f) a e = (a ≡ Err (InSheet (InField f))) × (e ≡ d)

-- the outcome o is the answer to the field x
abbrev pub Serves : Desk → Entry → Outcome → Desk → Type 0
Serves d x o e = (o.tag ≡ x.tag) × ServesContent d x.place x.content o.answer e

abbrev pub next_of : Desk → Option History → Result Request FieldFault → Option History
next_of d u (Ok q) = next d u q
next_of d u (Err f) = u

-- the outcomes are those of the fields in order: each is what the desk answers as the fields before it left the desk. From u
-- on, the calls that they make, with their answers, lead to the history v
abbrev pub Served : Desk → Option History → List Entry → List Outcome → Desk → Option History → Type 0
Served d u [] [] e v = (d ≡ e) × (u ≡ v)
Served d u [] (o ∷ os) e v = ⊥
Served d u (x ∷ xs) [] e v = ⊥
Served d u (x ∷ xs) (o ∷ os) e v = (m : Desk) × Serves d x o m × Served m (next_of d u x.content) xs os e v

-- an empty draft, and no sheet in force
pub record Begun (d : Desk) : Type 0 where
  pub draft : d.drafting.draft.currencies ≡ 0
  pub register : d.register ≡ None

-- from an empty desk; the register at the end was reached by the calls of the book, by a lawful run
pub record Runs (xs : List Entry) (os : List Outcome) : Type 0 where
  pub first : Desk
  pub last : Desk
  pub history : Option History
  pub begun : Begun first
  pub served : Served first None xs os last history
  pub lawful : Lawful last.register history

-- The number and the place of each fault of a sheet.
use Rattle.std.specs.Prelude.{ℕ}
use Rattle.book.specs.declared.faults.FieldCause.TheVariants.{Range}
use Rattle.book.specs.Faults.{field_number, fault}
use Rattle.keyed.specs.declared.table.Refusal.{Refusal}
use Rattle.keyed.specs.declared.table.Refusal.TheVariants.{Taken, Full as Brim}
use Rattle.sheet.specs.declared.faults.SheetCause.{SheetCause}
use Rattle.sheet.specs.declared.faults.SheetCause.TheVariants.{Entered, Full, Incomplete, Unfit, NotInForce}
use Rattle.sheet.specs.declared.faults.SheetFault.{SheetFault}
use Rattle.sheet.specs.declared.faults.SheetFault.TheVariants.{Field, State}

abbrev pub cause_number : SheetCause → ℕ
cause_number Entered = 10
cause_number Full = 11
cause_number Incomplete = 12
cause_number Unfit = 13
cause_number NotInForce = 27

abbrev pub sheet_number : SheetFault → ℕ
sheet_number (Field f) = field_number f
sheet_number (State c p) = cause_number c

abbrev pub sheet_place : SheetFault → ℕ
sheet_place (Field f) = f.place
sheet_place (State c p) = p

-- the same fault at a place
abbrev pub sheet_at : SheetFault → ℕ → SheetFault
sheet_at (Field f) p = Field (fault f.cause p)
sheet_at (State c q) p = State c p

-- the faults of calls without a book
abbrev pub out_of_range : SheetFault
out_of_range = Field (fault Range 0)

abbrev pub refusal : SheetCause → SheetFault
refusal c = State c 0

-- a table's refusal of an entry
abbrev pub of_table : Refusal → SheetFault
of_table Taken = refusal Entered
of_table Brim = refusal Full

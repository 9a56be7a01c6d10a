-- The number, the place and the layer of each refusal.
use Rattle.std.specs.Prelude.{ℕ}
use Rattle.sheet.specs.declared.faults.SheetFault.{SheetFault}
use Rattle.sheet.specs.declared.faults.SheetFault.TheVariants.{Field as InField, State as OfDraft}
use Rattle.sheet.specs.Faults as sheets
use Rattle.register.specs.declared.faults.Layer.{Layer}
use Rattle.register.specs.declared.faults.Layer.TheVariants.{OfField, OfSheet, OfRegister}
use Rattle.register.specs.declared.faults.RegisterCause.{RegisterCause}
use Rattle.register.specs.declared.faults.RegisterCause.TheVariants.{NoPortfolio, PortfolioExists, CodeMissing, NoPlace, Gross, WorstCase}
use Rattle.register.specs.declared.faults.RegisterFault.{RegisterFault}
use Rattle.register.specs.declared.faults.RegisterFault.TheVariants.{Sheet, State}

abbrev pub cause_number : RegisterCause → ℕ
cause_number NoPortfolio = 14
cause_number PortfolioExists = 15
cause_number CodeMissing = 16
cause_number NoPlace = 22
cause_number Gross = 23
cause_number WorstCase = 24

abbrev pub fault_number : RegisterFault → ℕ
fault_number (Sheet f) = sheets.sheet_number f
fault_number (State c p) = cause_number c

-- the field's first byte in the book, from 1, and 0 without a book
abbrev pub fault_place : RegisterFault → ℕ
fault_place (Sheet f) = sheets.sheet_place f
fault_place (State c p) = p

abbrev pub sheet_layer : SheetFault → Layer
sheet_layer (InField f) = OfField
sheet_layer (OfDraft c p) = OfSheet

abbrev pub fault_layer : RegisterFault → Layer
fault_layer (Sheet f) = sheet_layer f
fault_layer (State c p) = OfRegister

-- the same fault at a place
abbrev pub fault_at : RegisterFault → ℕ → RegisterFault
fault_at (Sheet f) p = Sheet (sheets.sheet_at f p)
fault_at (State c q) p = State c p

-- the faults of calls without a book
abbrev pub out_of_range : RegisterFault
out_of_range = Sheet sheets.out_of_range

abbrev pub refusal : RegisterCause → RegisterFault
refusal c = State c 0

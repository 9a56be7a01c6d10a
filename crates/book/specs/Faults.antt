-- The number of each fault of a field.
use Rattle.std.specs.Prelude.{ℕ}
use Rattle.book.specs.declared.faults.FieldCause.{FieldCause}
use Rattle.book.specs.declared.faults.FieldCause.TheVariants.{Ends, UnknownTag, Length, Range}
use Rattle.book.specs.declared.faults.FieldFault.{FieldFault}

abbrev pub number_of : FieldCause → ℕ
number_of Ends = 1
number_of UnknownTag = 2
number_of Length = 3
number_of Range = 4

abbrev pub field_number : FieldFault → ℕ
field_number f = number_of f.cause

abbrev pub fault : FieldCause → ℕ → FieldFault
fault c p = record { cause = c; place = p }

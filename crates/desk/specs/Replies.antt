-- The number, the figures and the text of each outcome.
use Rattle.std.specs.Prelude.{ℕ, ◌/◌, ◌%◌, false, List, [], ◌∷◌, ◌++◌, Some, None, Ok, Err, Option, Result}
use Rattle.std.specs.Fmt.{decimal, digit_glyph}
use Rattle.margin.specs.declared.Figures.{Figures}
use Rattle.margin.specs.Texts.{six_numbers}
use Rattle.register.specs.declared.faults.RegisterFault.{RegisterFault}
use Rattle.register.specs.Faults.{fault_number}
use Rattle.desk.specs.declared.replies.Outcome.{Outcome}

-- 0: accepted
abbrev pub answer_number : Result (Option Figures) RegisterFault → ℕ
answer_number (Ok x) = 0
answer_number (Err f) = fault_number f

abbrev pub answer_figures : Result (Option Figures) RegisterFault → Option Figures
answer_figures (Ok o) = o
answer_figures (Err f) = None

abbrev pub outcome_number : Outcome → ℕ
outcome_number o = answer_number o.answer

abbrev pub outcome_figures : Outcome → Option Figures
outcome_figures o = answer_figures o.answer

-- a byte as two digits of base 16
abbrev pub two_hex : ℕ → List ℕ
two_hex n = digit_glyph false (n / 16) ∷ digit_glyph false (n % 16) ∷ []

-- a space and the six numbers, where there are figures
abbrev pub figures_text : Option Figures → List ℕ
figures_text None = []
figures_text (Some f) = 32 ∷ six_numbers f

-- what is printed of an outcome: its tag, its number, its figures
abbrev pub outcome_text : Outcome → List ℕ
outcome_text o = two_hex o.tag ++ (32 ∷ (decimal (outcome_number o) ++ figures_text (outcome_figures o)))

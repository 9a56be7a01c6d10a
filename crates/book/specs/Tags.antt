-- The tags, each with the length of its payload.
use Rattle.std.specs.Prelude.{ℕ, cond, List, [], ◌∷◌, Some, None, Option, ◌==◌}
use Rattle.book.specs.declared.tags.Tag.{Tag}
use Rattle.book.specs.declared.tags.Tag.TheVariants.{Currency, PutInForce, Open, PayIn, PayOut, Figures}

abbrev pub lookup : List (ℕ × ℕ) → ℕ → Option ℕ
lookup [] t = None
lookup (x ∷ xs) t = cond (x.0 == t) (Some x.1) (lookup xs t)

abbrev pub lengths : List (ℕ × ℕ)
lengths = (0x01, 6) ∷ (0x05, 0) ∷ (0x10, 2) ∷ (0x11, 12) ∷ (0x12, 12) ∷ (0x18, 2) ∷ []

abbrev pub payload_length : ℕ → Option ℕ
payload_length t = lookup lengths t

-- the byte that a tag is
abbrev pub byte_of : Tag → ℕ
byte_of Currency = 0x01
byte_of PutInForce = 0x05
byte_of Open = 0x10
byte_of PayIn = 0x11
byte_of PayOut = 0x12
byte_of Figures = 0x18

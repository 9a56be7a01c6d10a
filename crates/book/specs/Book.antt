-- What a book of bytes says, field by field.
use Rattle.std.specs.Prelude.{ℕ, zero, suc, ◌+◌, ◌-◌, ◌*◌, Bool, cond, List, [], ◌∷◌, length, take, drop, Some, None, Ok, Err, Option, Result, ◌==◌, nat_lt, slice_index}
use Rattle.std.specs.Borrow.{Bor}
use Rattle.book.specs.declared.faults.FieldCause.TheVariants.{Ends, UnknownTag, Length, Range}
use Rattle.book.specs.declared.faults.FieldFault.{FieldFault}
use Rattle.book.specs.declared.fields.Field.{Field}
use Rattle.book.specs.declared.reader.Item.{Item}
use Rattle.book.specs.Faults.{fault}
use Rattle.book.specs.Tags.{payload_length}
use Rattle.book.specs.Requests.{Request, request, out_of_range, asked}

-- a field of a book: its tag, its place, and what it asks or what is wrong with it
pub record Entry : Type 0 where
  pub tag : ℕ
  pub place : ℕ
  pub content : Result Request FieldFault

-- refusal 4
abbrev pub in_range : Request → ℕ → Result Request FieldFault
in_range r p = cond (out_of_range r) (Err (fault Range p)) (Ok r)

-- refusals 2 and 3, and then 4
abbrev pub by_length : Option ℕ → ℕ → List ℕ → ℕ → Result Request FieldFault
by_length None t payload p = Err (fault UnknownTag p)
by_length (Some n) t payload p = cond (length payload == n) (in_range (request t payload) p) (Err (fault Length p))

abbrev pub content : ℕ → List ℕ → ℕ → Result Request FieldFault
content t payload p = by_length (payload_length t) t payload p

abbrev pub tag : List ℕ → ℕ
tag bs = slice_index bs 0

-- the length of the payload that a field states
abbrev pub stated : List ℕ → ℕ
stated bs = slice_index bs 1 * 256 + slice_index bs 2

-- refusal 1: the book ends inside the field
abbrev pub cut_off : List ℕ → Bool
cut_off bs = nat_lt (length bs) (3 + cond (nat_lt (length bs) 3) 0 (stated bs))

-- the payload of a field, and the bytes after it
abbrev pub payload : List ℕ → List ℕ
payload bs = take (stated bs) (drop 3 bs)

abbrev pub after : List ℕ → List ℕ
after bs = drop (stated bs) (drop 3 bs)

-- the field at the front of a book that begins at the place p, and the bytes after it; after refusal 1 nothing more is read
pub record Front : Type 0 where
  pub entry : Entry
  pub rest : List ℕ

abbrev pub front : List ℕ → ℕ → Front
front bs p =
    cond (cut_off bs)
    (record { entry = record { tag = tag bs; place = p; content = Err (fault Ends p) }; rest = [] })
    (record { entry = record { tag = tag bs; place = p; content = content (tag bs) (payload bs) p }; rest = after bs })

-- at most n fields from the place p on
abbrev pub fields_from : ℕ → List ℕ → ℕ → List Entry
fields_from zero bs p = []
fields_from (suc n) bs p =
    cond (length bs == 0) [] ((front bs p).entry ∷ fields_from n (front bs p).rest (p + (length bs - length (front bs p).rest)))

-- the fields of a book: its length bounds how many there are, since each has a byte at least
abbrev pub fields_of : List ℕ → ℕ → List Entry
fields_of bs p = fields_from (length bs) bs p

-- only so many bytes of a book are read; its first byte has the place 1
unfoldable pub fields : List ℕ → List Entry
fields bs = fields_of (take 65536 bs) 1

-- ---- what the reader hands on, with its references read
abbrev pub parts : Bor (List ℕ) × Bor (List ℕ) → List ℕ × List ℕ
parts x = (x.0.now, x.1.now)

abbrev pub content_of : Result Field FieldFault → Result Request FieldFault
content_of (Ok f) = Ok (asked f.kind)
content_of (Err f) = Err f

abbrev pub place_of : Result Field FieldFault → ℕ
place_of (Ok f) = f.place
place_of (Err f) = f.place

abbrev pub seen : Item → Entry
seen i = record { tag = i.tag; place = place_of i.field; content = content_of i.field }

abbrev pub seen_front : Item × Bor (List ℕ) → Front
seen_front x = record { entry = seen x.0; rest = x.1.now }

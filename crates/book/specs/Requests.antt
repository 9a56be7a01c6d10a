-- What a field asks, in numbers.
use Rattle.std.specs.Prelude.{◌≡◌, ℕ, Bool, false, cond, ◌||◌, List, take, drop, ◌==◌}
use Rattle.book.specs.declared.fields.PaymentBytes.{PaymentBytes}
use Rattle.book.specs.declared.fields.Kind.{Kind}
use Rattle.book.specs.declared.fields.Kind.TheVariants.{Currency, PutInForce, Open, PayIn, PayOut, Figures}
use Rattle.book.specs.declared.payments.Payment.{Payment}
use Rattle.book.specs.Numbers.{number}
use Rattle.book.specs.Ranges.{no_portfolio, no_currency, no_fx, no_amount}

pub data Request : Type 0 where
  enter_currency : (code fx : ℕ) → Request
  put_in_force : Request
  open_portfolio : (portfolio : ℕ) → Request
  pay_in pay_out : (portfolio currency amount : ℕ) → Request
  figures : (portfolio : ℕ) → Request

-- the number of w bytes after the first k
abbrev pub part : ℕ → ℕ → List ℕ → ℕ
part k w bs = number (take w (drop k bs))

-- what a field of a known tag asks, by the bytes of its payload
abbrev pub request : ℕ → List ℕ → Request
request t bs =
    cond (t == 0x01) (enter_currency (part 0 2 bs) (part 2 4 bs)) (
    cond (t == 0x05) put_in_force (
    cond (t == 0x10) (open_portfolio (part 0 2 bs)) (
    cond (t == 0x11) (pay_in (part 0 2 bs) (part 2 2 bs) (part 4 8 bs)) (
    cond (t == 0x12) (pay_out (part 0 2 bs) (part 2 2 bs) (part 4 8 bs)) (
    figures (part 0 2 bs))))))

-- a number of the request is outside its range
abbrev pub out_of_range : Request → Bool
out_of_range (enter_currency c x) = no_currency c || no_fx x
out_of_range put_in_force = false
out_of_range (open_portfolio p) = no_portfolio p
out_of_range (pay_in p c x) = no_portfolio p || no_currency c || no_amount x
out_of_range (pay_out p c x) = no_portfolio p || no_currency c || no_amount x
out_of_range (figures p) = no_portfolio p

-- a payment in numbers
abbrev pub numbers : PaymentBytes → Payment
numbers y = record { portfolio = number y.portfolio.now; currency = number y.currency.now; amount = number y.amount.now }

-- what a field by its kind asks
abbrev pub asked : Kind → Request
asked (Currency c x) = enter_currency (number c.now) (number x.now)
asked PutInForce = put_in_force
asked (Open p) = open_portfolio (number p.now)
asked (PayIn y) = pay_in (number y.portfolio.now) (number y.currency.now) (number y.amount.now)
asked (PayOut y) = pay_out (number y.portfolio.now) (number y.currency.now) (number y.amount.now)
asked (Figures p) = figures (number p.now)

-- a payment's parts spell the numbers of its payload
pub record Parts (y : PaymentBytes) (bs : List ℕ) : Type 0 where
  pub portfolio : number y.portfolio.now ≡ part 0 2 bs
  pub currency : number y.currency.now ≡ part 2 2 bs
  pub amount : number y.amount.now ≡ part 4 8 bs

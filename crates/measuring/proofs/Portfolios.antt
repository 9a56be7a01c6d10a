-- Lines and instruments in codes one after another, and the holding that they make.
use Rattle.std.proofs.Common.{◌≡◌, ℕ, zero, None, suc, ◌+◌, ◌<◌, Bool, true, false, cond, eqb, nat_eq, List, [], ◌∷◌, map, length, get_or, ℤ, Some, Option, refl, ap, ◌∙◌, ap₂, arith}
use mathlib.Core.Path.{fun_ext}
use Rattle.std.specs.List.{AllByRecursion}
use Rattle.std.proofs.lemmas.Bool.{ne_eqb}
use Rattle.keyed.specs.Rows.{Rising, lookup}
use Rattle.margin.specs.declared.Figures.{Figures}
use Rattle.margin.specs.declared.Instrument.{Instrument}
use Rattle.margin.specs.declared.Order.{Order}
use Rattle.margin.specs.declared.Piece.{Piece}
use Rattle.margin.specs.Keys.{instrument_code}
use Rattle.margin.specs.Cash.{cash_by}
use Rattle.margin.specs.Figures.{figures_of}
use Rattle.margin.specs.Sheets.{Apart}
use Rattle.sources.specs.Entering.{Said}
use Rattle.valuation.specs.declared.line.Line.{Line}
use Rattle.valuation.specs.Keys.{line_code}
use Rattle.valuation.specs.Values.{of}
use Rattle.valuation.specs.Holdings.{planned_in, sheet_of, holding_of}
use Rattle.measuring.specs.declared.units.Units.{Units}
use Rattle.measuring.specs.declared.requests.Request.{Request}
use Rattle.measuring.specs.declared.portfolio.Cash.{Cash}
use Rattle.measuring.specs.Requests.{order_of, four_of}
use Rattle.measuring.specs.Placed.{instruments_from, eight_of, LinesFrom, AreLines}
use Rattle.measuring.specs.Portfolios.{currencies_of, planned_from, codes_from, figures_under}

pick : (b : Bool) (l : Line) (o : Option Line) (z t : ℤ) → l.planned ≡ z → of (λ l. l.planned) o ≡ t → of (λ l. l.planned) (cond b (Some l) o) ≡ cond b z t
pick true l o z t e f = e
pick false l o z t e f = f

planned_at : (n : ℕ) (us : List Units) (ls : List Line) → LinesFrom n us ls → (code : ℕ) → planned_in ls code ≡ planned_from n us code
planned_at n [] [] a code = refl
planned_at n [] (l ∷ ls) a code = absurd a
planned_at n (u ∷ us) [] a code = absurd a
planned_at n (u ∷ us) (l ∷ ls) (c, p, rest) code =
    ap (λ m. of (λ l. l.planned) (cond (eqb code m) (Some l) (lookup line_code ls code))) c ∙ pick (eqb code n) l (lookup line_code ls code) u.planned (planned_from (suc n) us code) p (planned_at (suc n) us ls rest code)

pub planned_is : (n : ℕ) (us : List Units) (ls : List Line) → LinesFrom n us ls → planned_in ls ≡ planned_from n us
planned_is n us ls a = fun_ext (planned_at n us ls a)

pub codes_are : (n : ℕ) (us : List Units) (ls : List Line) → LinesFrom n us ls → map line_code ls ≡ codes_from n us
codes_are n [] [] a = refl
codes_are n [] (l ∷ ls) a = absurd a
codes_are n (u ∷ us) [] a = absurd a
codes_are n (u ∷ us) (l ∷ ls) (c, p, rest) = ap₂ ◌∷◌ c (codes_are (suc n) us ls rest)

-- ---- codes rise, and are apart
later : (k n : ℕ) (us : List Units) (ls : List Line) → k < n → LinesFrom n us ls → AllByRecursion (λ y. eqb k (line_code y) ≡ false) ls
later k n [] [] h a = tt
later k n [] (l ∷ ls) h a = absurd a
later k n (u ∷ us) [] h a = absurd a
later k n (u ∷ us) (l ∷ ls) h (c, p, rest) = (ne_eqb k l.code (λ e. omega (arith, c)), later k (suc n) us ls (omega arith) rest)

pub lines_apart : (n : ℕ) (us : List Units) (ls : List Line) → LinesFrom n us ls → Apart line_code ls
lines_apart n [] [] a = tt
lines_apart n [] (l ∷ ls) a = absurd a
lines_apart n (u ∷ us) [] a = absurd a
lines_apart n (u ∷ us) (l ∷ ls) (c, p, rest) = (later l.code (suc n) us ls (omega (arith, c)) rest, lines_apart (suc n) us ls rest)

code_at : (n : ℕ) (us : List Units) (k : ℕ) (d : _) → k < length (instruments_from n us) → instrument_code (get_or (instruments_from n us) k d) ≡ n + k
code_at n [] k d h = absurd (omega arith)
code_at n (u ∷ us) zero d h = omega arith
code_at n (u ∷ us) (suc k) d h = omega (arith, code_at (suc n) us k d (omega arith))

pub instruments_rise : (n : ℕ) (us : List Units) → Rising instrument_code (instruments_from n us)
instruments_rise n us k d h = omega (arith, code_at n us k d (omega arith), code_at n us (suc k) d h)

-- ---- what is there where all is
some_of : {X : Type 0} (b : Bool) (x y : X) → Some y ≡ cond b (Some x) None → (b ≡ true) × (y ≡ x)
some_of true x y e = let d : y ≡ x = cc in (refl, d)
some_of false x y e = let z : ◌≡◌ {A = ℕ} 0 1 = cc in absurd (omega arith)

pub eight_there : (us : List Units) (is : List Instrument) → Some is ≡ eight_of us → is ≡ instruments_from 1000 us
eight_there us is e = (some_of (nat_eq (length us) 8) (instruments_from 1000 us) is e).1

abbrev made : Cash → List Piece → List Instrument → (ℕ → ℤ) → List ℕ → List Order → Figures
made c ps is planned codes os =
    figures_of (record { currencies = currencies_of c; instruments = is; pieces = λ _. ps }) (record { cash = cash_by (currencies_of c) (c.roubles ∷ c.dollars ∷ []); planned = planned; lines = codes; orders = os })

pub figures_are : (r : Said) (c : Cash) (us : List Units) (rs : List Request) (ps : List Piece) (is : List Instrument) (ls : List Line) (os : List Order) (f : Figures) →
    r.outside ≡ false → ps ≡ r.pieces → Some is ≡ eight_of us → AreLines us (Some ls) → Some os ≡ four_of rs →
    f ≡ figures_of (sheet_of (λ _. ps) (currencies_of c) is) (holding_of (cash_by (currencies_of c) (c.roubles ∷ c.dollars ∷ [])) ls os) → Some f ≡ figures_under r c us rs
figures_are r c us rs ps is ls os f out p i (within, l) o e =
    let (four, order) = some_of (nat_eq (length rs) 4) (map order_of rs) os o in
    let all : f ≡ made c r.pieces (instruments_from 1000 us) (planned_from 1000 us) (codes_from 1000 us) (map order_of rs) =
    e
    ∙ ap (λ x. made c x is (planned_in ls) (map line_code ls) os) p
    ∙ ap (λ x. made c r.pieces x (planned_in ls) (map line_code ls) os) (eight_there us is i)
    ∙ ap (λ x. made c r.pieces (instruments_from 1000 us) x (map line_code ls) os) (planned_is 1000 us ls l)
    ∙ ap (λ x. made c r.pieces (instruments_from 1000 us) (planned_from 1000 us) x os) (codes_are 1000 us ls l)
    ∙ ap (λ x. made c r.pieces (instruments_from 1000 us) (planned_from 1000 us) (codes_from 1000 us) x) order
    in
    rw (out, within, four) (ap Some all)

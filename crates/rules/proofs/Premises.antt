-- The book of new sheets: its sheets are closed, and its answers the rules'.
use Rattle.std.proofs.Common.{◌≡◌, ℕ, ◌+◌, ◌-◌, ◌*◌, ◌≤◌, true, false, eqb, ltb, List, [], ◌∷◌, map, length, is_some, refl, arith}
use Rattle.std.specs.List.{AllByRecursion}
use Rattle.std.proofs.lemmas.Bool.{or_left, or_right, le-leb, both_ways, cond_both}
use Rattle.margin.specs.declared.Instrument.{Instrument}
use Rattle.margin.specs.declared.Kind.{Kind}
use Rattle.margin.specs.declared.Kind.TheVariants.{Shortable, OffList}
use Rattle.margin.specs.declared.Piece.{Piece}
use Rattle.margin.specs.Sheets.{Apart, currency_at, Closed, KeepsTheRules}
use Rattle.rules.specs.Calls.{Call, Answer}
use Rattle.rules.specs.Histories.{History, asked}
use Rattle.rules.specs.Rules.{ruled, Ruled}
use Rattle.rules.specs.Laws.{ClosedSheets, offers_closed}
use Rattle.rules.specs.Books.{after, answers, sheets_book}
use Rattle.rules.specs.Premises.{PremisesAreMet}
use Rattle.rules.specs.Samples.{posted, posted_rates, posted_sheet, sheet, roubles, dollars, instrument}

-- ---- answers
ruled_after : (h : History) (rs : List (Call × Answer)) → Ruled h → answers h rs ≡ map (λ r. r.1) rs → Ruled (after h rs)
ruled_after h [] R e = R
ruled_after h (r ∷ rs) R e =
    let here : r.1 ≡ ruled h r.0 = cc in
    let rest : answers (asked h r.0 r.1) rs ≡ map (λ r. r.1) rs = cc in
    ruled_after (asked h r.0 r.1) rs (R, here) rest

-- ---- sheets
closed_after : (h : History) (rs : List (Call × Answer)) → ClosedSheets h → AllByRecursion (λ r. offers_closed r.0) rs → ClosedSheets (after h rs)
closed_after h [] C a = C
closed_after h (r ∷ rs) C a = closed_after (asked h r.0 r.1) rs (C, a.0) a.1

keeps : (plus minus : ℕ) → plus ≤ 10000 → minus ≤ 10000 → KeepsTheRules (posted plus minus)
keeps plus minus p m = record {
  two_or_more = omega arith;
  six_at_most = omega arith;
  weights = (omega arith, (omega arith, tt));
  allowances = (omega arith, (omega arith, tt));
  light = or_left _ _ (le-leb (10000 - plus) 10000 (omega arith));
  heavy = or_right _ _ (or_left _ _ (le-leb 10000 (10000 + minus) (omega arith)));
}

rates_keep : (c : ℕ) → ltb 0 (length (posted_rates c)) ≡ true → KeepsTheRules (posted_rates c)
rates_keep c =
    cond_both (eqb c 840) _ _ (λ ps. ltb 0 (length ps) ≡ true → KeepsTheRules ps) (λ _ _. keeps 1000 1200 (omega arith) (omega arith)) (λ _.
    cond_both (eqb c 1001) _ _ (λ ps. ltb 0 (length ps) ≡ true → KeepsTheRules ps) (λ _ _. keeps 2000 2500 (omega arith) (omega arith)) (λ _.
    cond_both (eqb c 1002) _ _ (λ ps. ltb 0 (length ps) ≡ true → KeepsTheRules ps) (λ _ _. keeps 3000 4000 (omega arith) (omega arith)) (λ _ k. absurd (both_ways false refl k))))

no_allowance : (price c : ℕ) → AllByRecursion (λ p. price * p.allowance ≤ 2000000000000000) (posted_rates c)
no_allowance price c =
    let small : List Piece → Type 0 = AllByRecursion (λ p. price * p.allowance ≤ 2000000000000000) in
    cond_both (eqb c 840) _ _ small (λ _. (omega arith, (omega arith, tt))) (λ _.
    cond_both (eqb c 1001) _ _ small (λ _. (omega arith, (omega arith, tt))) (λ _.
    cond_both (eqb c 1002) _ _ small (λ _. (omega arith, (omega arith, tt))) (λ _. tt)))

all_bounded : (is : List Instrument) → AllByRecursion (λ i. AllByRecursion (λ p. i.price * p.allowance ≤ 2000000000000000) (posted_rates i.code)) is
all_bounded [] = tt
all_bounded (i ∷ is) = (no_allowance i.price i.code, all_bounded is)

-- with roubles and dollars, and at most one instrument beside the bond
module _ (is : List Instrument) (apart : Apart (λ i. i.code) is) (there : AllByRecursion (λ i. is_some (currency_at (posted_sheet (roubles ∷ dollars ∷ []) is) i.currency) ≡ true) is) (rated : AllByRecursion (λ i. ltb 0 (length (posted_rates i.code)) ≡ true) is) where
  two_currencies : Closed (posted_sheet (roubles ∷ dollars ∷ []) is)
  two_currencies = record {
    currencies_apart = ((refl, tt), (tt, tt));
    instruments_apart = apart;
    rouble_at_par = refl;
    currencies_there = there;
    currencies_rated = (refl, (refl, tt));
    instruments_rated = rated;
    allowances_bounded = all_bounded is;
    source_keeps_the_rules = rates_keep;
  }

sheet_closed : (price : ℕ) → Closed (sheet price)
sheet_closed price = two_currencies _ ((refl, tt), (tt, tt)) (refl, (refl, tt)) (refl, (refl, tt))

share_closed : (currency : ℕ) (kind : Kind) → is_some (currency_at (sheet 9000) currency) ≡ true → Closed (posted_sheet (roubles ∷ dollars ∷ []) (instrument 1001 currency kind 9000 ∷ []))
share_closed currency kind there = two_currencies _ (tt, tt) (there, tt) (refl, tt)

one_currency_closed : Closed (posted_sheet (roubles ∷ []) (instrument 1001 643 Shortable 9000 ∷ []))
one_currency_closed = record {
  currencies_apart = (tt, tt);
  instruments_apart = (tt, tt);
  rouble_at_par = refl;
  currencies_there = (refl, tt);
  currencies_rated = (refl, tt);
  instruments_rated = (refl, tt);
  allowances_bounded = all_bounded (instrument 1001 643 Shortable 9000 ∷ []);
  source_keeps_the_rules = rates_keep;
}

pub premises_are_met : PremisesAreMet
premises_are_met = record {
  sheets_closed = closed_after sheets_book.begun sheets_book.rows (sheet_closed 10000)
      (tt, (tt, (tt, (tt, (tt, (tt, (sheet_closed 9000, (tt, (tt, (tt, (tt, (tt, (tt, (tt, (tt, (tt, (tt, (tt, (tt, (tt, (tt, (tt, (one_currency_closed, (two_currencies [] tt tt tt, (share_closed 840 Shortable refl, (share_closed 643 OffList refl, (tt, (tt, tt))))))))))))))))))))))))))));
  answers_ruled = ruled_after sheets_book.begun sheets_book.rows tt refl;
}

-- What the table of portfolios holds after a change.
use Rattle.std.proofs.Common.{◌≡◌, ℕ, ◌+◌, leb, Bool, true, false, cond, ◌||◌, eqb, List, length, replicate, ℤ, pos, is_some, Some, None, Ok, Err, vec_items, Option, Result, Vec, sym, refl, ap, ◌∙◌, subst, ⊎_elim, arith}
use Rattle.std.specs.Option.{option_map, option_to_list}
use Rattle.std.proofs.lemmas.Bool.{leb-false, cases_eq, eq-eqb, ne_eqb, eqb-true, cond-true, cond-false, both_ways}
use Rattle.std.specs.declared.alloc.Global.{Global}
use Rattle.margin.specs.declared.Currency.{Currency}
use Rattle.margin.specs.Cash.{cash_sheet, cash_by}
use Rattle.keyed.specs.declared.table.Refusal.{Refusal}
use Rattle.keyed.specs.declared.table.Refusal.TheVariants.{Taken, Full}
use Rattle.keyed.specs.declared.table.Table.{Table}
use Rattle.keyed.specs.Tables.{entries, holds, Sound, Sets, Inserts, Replaces}
use Rattle.keyed.proofs.Changes.{sized}
use Rattle.register.specs.Keys.{portfolio_number}
use Rattle.register.specs.declared.records.Portfolio.{Portfolio}
use Rattle.register.specs.declared.state.Register.{Register}
use Rattle.book.specs.Ranges.{no_portfolio}
use Rattle.register.specs.declared.faults.RegisterCause.TheVariants.{PortfolioExists, NoPlace}
use Rattle.register.specs.declared.faults.RegisterFault.{RegisterFault}
use Rattle.register.specs.Faults.{out_of_range, refusal}
use Rattle.register.specs.State.{currencies, portfolio, is_open, cash_in, open_count, places, Opens}
use Rattle.register.specs.Answers.{opens}
use Rattle.register.specs.Writes.{Writes, cash_of}
use Rattle.register.proofs.CashPlaces.{cash_none}

-- how many records there are after one is put in
count_after : {K : Type 0} {keyed : _} {ranks : _} (s t : Table Portfolio K keyed ranks) (x : Portfolio) (o : Option Portfolio) → Sound portfolio_number s → holds portfolio_number s x.number ≡ o → Sets portfolio_number s t x.number (Some x) → length (entries t) + length (option_to_list o) ≡ length (entries s) + 1
count_after s t x o up h e =
    omega (arith, ap (λ (l : List Portfolio). length l) e.rows, (sized portfolio_number).length_with (entries s) x up, ap (λ (o : Option Portfolio). length (option_to_list o)) h)

-- what is found of a portfolio after one is put in
found_after : {K : Type 0} {keyed : _} {ranks : _} (s t : Table Portfolio K keyed ranks) (x : Portfolio) → Sets portfolio_number s t x.number (Some x) → (j : ℕ) → holds portfolio_number t j ≡ cond (eqb j x.number) (Some x) (holds portfolio_number s j)
found_after s t x e j =
    ⊎_elim
    (λ same. ap (holds portfolio_number t) same ∙ e.here ∙ sym (cond-true (eqb j x.number) (Some x) (holds portfolio_number s j) (eq-eqb j x.number same)))
    (λ apart. e.others j apart ∙ sym (cond-false (eqb j x.number) (Some x) (holds portfolio_number s j) (ne_eqb j x.number apart)))
    (cases_eq j x.number)

mapped_cond : {X Y : Type 0} (f : X → Y) (b : Bool) (x : X) (o : Option X) → option_map f (cond b (Some x) o) ≡ cond b (Some (f x)) (option_map f o)
mapped_cond f true x o = refl
mapped_cond f false x o = refl

pub written : (s t : Register) (x : Portfolio) (o : Option Portfolio) → currencies t ≡ currencies s → is_open s x.number ≡ true → Replaces portfolio_number s.portfolios t.portfolios x o → Writes s x.number x.cash t
written s t x None same there h = absurd (both_ways true (sym there ∙ ap is_some h.0) refl)
written s t x (Some y) same there h = record {
  currencies = same;
  cash = λ j. ap (option_map cash_of) (found_after s.portfolios t.portfolios x h.1 j) ∙ mapped_cond cash_of (eqb j x.number) x (portfolio s j);
  count = omega (arith, count_after s.portfolios t.portfolios x (Some y) s.portfolios.rising h.0 h.1);
  places = h.1.room;
}

-- the same, by the number and the cash that the record is known to have
pub written_as : (r t : Register) (x : Portfolio) (p : ℕ) (zs : List ℤ) → x.number ≡ p → x.cash ≡ zs → Writes r x.number x.cash t → Writes r p zs t
written_as r t x p zs n e w = subst (λ (l : List ℤ). Writes r p l t) e (subst (λ (q : ℕ). Writes r q x.cash t) n w)

-- ---- a portfolio is put in
none_open : (b : Bool) (x : Portfolio) (o : Option Portfolio) → is_some (cond b (Some x) o) ≡ (b || is_some o)
none_open true x o = refl
none_open false x o = refl

-- the new portfolio has no cash, as it had none before
no_cash : (cs : List Currency) (b : Bool) (x : Portfolio) (o : Option Portfolio) (k : ℕ) → x.cash ≡ replicate 8 (pos 0) → (b ≡ true → o ≡ None) → cash_in cs (cond b (Some x) o) k ≡ cash_in cs o k
no_cash cs true x o k e n = ap (λ (zs : List ℤ). cash_by cs zs k) e ∙ cash_none cs 8 k ∙ sym (ap (λ (p : Option Portfolio). cash_in cs p k) (n refl))
no_cash cs false x o k e n = refl

-- what passes three checks
past_three : (a b d : Bool) (f g k : RegisterFault) (done : Result (Unit {0}) RegisterFault) → done ≡ cond a (Err f) (cond b (Err g) (cond d (Err k) done)) → done ≡ Ok tt → (b ≡ false) × (d ≡ false)
past_three true b d f g k done e is = let n : ◌≡◌ {A = ℕ} 0 1 = cc in absurd (omega arith)
past_three false true d f g k done e is = let n : ◌≡◌ {A = ℕ} 0 1 = cc in absurd (omega arith)
past_three false false true f g k done e is = let n : ◌≡◌ {A = ℕ} 0 1 = cc in absurd (omega arith)
past_three false false false f g k done e is = (refl, refl)

module _ (s t : Register) (x : Portfolio) (same : t.currencies ≡ s.currencies) (none : x.cash ≡ replicate 8 (pos 0)) (may : opens s x.number ≡ Ok tt) where
  passed : (is_open s x.number ≡ false) × (leb (places s) (open_count s) ≡ false)
  passed = past_three (no_portfolio x.number) (is_open s x.number) (leb (places s) (open_count s)) out_of_range (refusal PortfolioExists) (refusal NoPlace) (Ok tt) (sym may) refl

  pub added : (a : Result (Unit {0}) Refusal) → Inserts portfolio_number s.portfolios t.portfolios x a → Opens s x.number t
  added (Ok u) h =
      let cs = ap (λ (v : Vec Currency Global). vec_items v) same in
      record {
        sheet = ap cash_sheet cs;
        «open» = λ j. ap is_some (found_after s.portfolios t.portfolios x h.2 j) ∙ none_open (eqb j x.number) x (portfolio s j);
        cash = λ j k.
            ap (λ (l : List Currency). cash_in l (portfolio t j) k) cs
            ∙ ap (λ (o : Option Portfolio). cash_in (currencies s) o k) (found_after s.portfolios t.portfolios x h.2 j)
            ∙ no_cash (currencies s) (eqb j x.number) x (portfolio s j) k none (λ b. ap (portfolio s) (eqb-true j x.number b) ∙ h.0);
        count = omega (arith, count_after s.portfolios t.portfolios x None s.portfolios.rising h.0 h.2);
        places = h.2.room;
      }
  added (Err Taken) h = absurd (both_ways (is_open s x.number) passed.0 h.0)
  added (Err Full) h = absurd (omega (arith, leb-false _ _ passed.1, h.1))

-- the same, by the number that the record is known to have
pub added_as : (s t : Register) (x : Portfolio) (p : ℕ) → x.number ≡ p → t.currencies ≡ s.currencies → x.cash ≡ replicate 8 (pos 0) → opens s p ≡ Ok tt → (a : Result (Unit {0}) Refusal) → Inserts portfolio_number s.portfolios t.portfolios x a → Opens s p t
added_as s t x p n same none may a h = subst (λ (q : ℕ). Opens s q t) n (added s t x same none (subst (λ (q : ℕ). opens s q ≡ Ok tt) (sym n) may) a h)

-- A payment by place is the payment by code that the rules speak of.
use Rattle.std.proofs.Common.{◌≡◌, ℕ, ◌+◌, ◌≤◌, Bool, true, false, cond, not, ◌&&◌, ◌||◌, eqb, ltb, List, [], ◌∷◌, length, get_or, set, ℤ, pos, ◌+ℤ◌, neg_ℤ, nat_abs, is_some, Some, None, Ok, Err, Option, Result, sym, refl, ap, ◌∙◌, subst, add-zero, arith}
use mathlib.Core.Path.{fun_ext}
use borrow.Author.Differences.{ints}
use Rattle.std.specs.Option.{option_map}
use Rattle.std.proofs.lemmas.Bool.{eq-eqb, ne_eqb, eqb-true, eqb-false, le-ltb, cond-true, cond-false, both_ways, or_parts, or_from, or_left}
use Rattle.book.specs.Ranges.{no_portfolio, no_currency, no_amount}
use Rattle.book.proofs.Answers.{fails, passes}
use Rattle.keyed.specs.Rows.{Stands}
use Rattle.margin.specs.declared.Currency.{Currency}
use Rattle.margin.specs.Keys.{currency_code}
use Rattle.margin.specs.Numbers.{any, the_first}
use Rattle.margin.specs.Limits.{over_gross, worsens}
use Rattle.margin.specs.Cash.{cash_sheet, cash_by, cash_holding}
use Rattle.register.specs.declared.faults.RegisterCause.TheVariants.{NoPortfolio, CodeMissing, Gross, WorstCase}
use Rattle.register.specs.declared.faults.RegisterFault.{RegisterFault}
use Rattle.register.specs.declared.records.Portfolio.{Portfolio}
use Rattle.register.specs.declared.state.Register.{Register}
use Rattle.register.specs.State.{currencies, in_force, portfolio, is_open, cash_in, cash, holding, Pays}
use Rattle.register.specs.Answers.{paid, with_paid, missing, pays_in, pays_out}
use Rattle.register.specs.Faults.{out_of_range, refusal}
use Rattle.register.specs.Writes.{over, moved_to, cash_of, Writes}
use Rattle.register.proofs.Currencies.{standing}
use Rattle.register.proofs.CashPlaces.{cash_read, cash_written, cash_small}

by_test : {P : Type 0} (b : Bool) → (b ≡ true → P) → (b ≡ false → P) → P
by_test true f g = f refl
by_test false f g = g refl

-- ---- what `moved` answers, of an amount y that is z
module _ (zs : List ℤ) (i : ℕ) (y z : ℤ) (is : y ≡ z) where
  sum_is : moved_to zs i (get_or zs i (pos 0) +ℤ y) ≡ moved_to zs i (get_or zs i (pos 0) +ℤ z)
  sum_is = ap (λ (w : ℤ). moved_to zs i (get_or zs i (pos 0) +ℤ w)) is

  pub not_moved : None ≡ moved_to zs i (get_or zs i (pos 0) +ℤ y) → over (get_or zs i (pos 0) +ℤ z) ≡ true
  not_moved e =
      by_test (over (get_or zs i (pos 0) +ℤ z)) (λ t. t)
      (λ f. let g = e ∙ sum_is ∙ cond-false _ _ _ f in let n : ◌≡◌ {A = ℕ} 0 1 = cc in absurd (omega arith))

  pub is_moved : (l : List ℤ) → Some l ≡ moved_to zs i (get_or zs i (pos 0) +ℤ y) → (over (get_or zs i (pos 0) +ℤ z) ≡ false) × (l ≡ set zs i (get_or zs i (pos 0) +ℤ z))
  is_moved l e =
      by_test (over (get_or zs i (pos 0) +ℤ z))
      (λ t. let g = e ∙ sum_is ∙ cond-true _ _ _ t in let n : ◌≡◌ {A = ℕ} 0 1 = cc in absurd (omega arith))
      (λ f. let g = e ∙ sum_is ∙ cond-false _ _ _ f in (f, cc))

-- the gross of cash alone
gross_of_cash : (cs ds : List Currency) (f : ℕ → ℤ) → any (λ c. ltb 200000000000 (nat_abs (f c.code) + 0)) ds ≡ any (λ c. over (f c.code)) ds
gross_of_cash cs [] f = refl
gross_of_cash cs (d ∷ ds) f =
    ap (λ (n : ℕ). ltb 200000000000 n || any (λ c. ltb 200000000000 (nat_abs (f c.code) + 0)) ds) (add-zero (nat_abs (f d.code)))
    ∙ ap (λ (b : Bool). over (f d.code) || b) (gross_of_cash cs ds f)

none_over : (f : ℕ → ℤ) (cs : List Currency) → ((k : ℕ) → nat_abs (f k) ≤ 200000000000) → any (λ c. over (f c.code)) cs ≡ false
none_over f [] h = refl
none_over f (c ∷ cs) h = or_from _ _ (le-ltb 200000000000 (nat_abs (f c.code)) (h c.code)) (none_over f cs h)

-- where one currency changes, the test of all is its test
only_one : (g g' : ℕ → Bool) (k : ℕ) (cs : List Currency) → ((d : ℕ) → eqb k d ≡ false → g' d ≡ g d) → any (λ c. g c.code) cs ≡ false →
    (is_some (the_first (λ x. eqb k x.code) cs) ≡ true → any (λ c. g' c.code) cs ≡ g' k) × (g' k ≡ false → any (λ c. g' c.code) cs ≡ false)
only_one g g' k [] same none = (λ e. absurd (both_ways false refl e), λ e. refl)
only_one g g' k (c ∷ cs) same none =
    let n = or_parts _ _ none in
    let rest = only_one g g' k cs same n.1 in
    by_test (eqb k c.code)
    (λ t.
    let e : g' c.code ≡ g' k = ap g' (sym (eqb-true k c.code t)) in
    let off : g' k ≡ false → (g' c.code || any (λ x. g' x.code) cs) ≡ false = λ f. or_from _ _ (e ∙ f) (rest.1 f) in
    (λ _. by_test (g' k) (λ u. or_left _ _ (e ∙ u) ∙ sym u) (λ f. off f ∙ sym f), off))
    (λ f.
    let z = same c.code f ∙ n.0 in
    (λ e. ap (λ (t : Bool). t || any (λ x. g' x.code) cs) z ∙ rest.0 (sym (ap (λ (o : Option Currency). is_some o) (cond-false (eqb k c.code) (Some c) _ f)) ∙ e), λ e. or_from _ _ z (rest.1 e)))

-- an amount more at one code, elsewhere as it was
moved_at : (b : Bool) (x y z : ℤ) → (b ≡ true → x ≡ y) → cond b (x +ℤ z) y ≡ y +ℤ cond b z (pos 0)
moved_at true x y z e = ap (λ (w : ℤ). w +ℤ z) (e refl)
moved_at false x y z e = omega (arith, ints)

-- the cash of a portfolio is that of its record
pub cash_of_row : (r : Register) (p : ℕ) (x : Portfolio) → portfolio r p ≡ Some x → cash r p ≡ cash_by (currencies r) x.cash
cash_of_row r p x there = fun_ext (λ k. ap (λ (o : Option Portfolio). cash_in (currencies r) o k) there)

module _ (r : Register) (p c i : ℕ) (x : Portfolio) (there : portfolio r p ≡ Some x) (s : Stands currency_code (currencies r) c i) (long : length (currencies r) ≤ length x.cash) where
  cash_is : cash r p ≡ cash_by (currencies r) x.cash
  cash_is = cash_of_row r p x there

  read : cash r p c ≡ get_or x.cash i (pos 0)
  read = ap (λ (f : ℕ → ℤ). f c) cash_is ∙ cash_read (currencies r) x.cash c i r.currencies_rise s long

  -- z more at the place is z more in the currency
  paid_is : (z : ℤ) → cash_by (currencies r) (set x.cash i (get_or x.cash i (pos 0) +ℤ z)) ≡ paid (cash r p) c z
  paid_is z = fun_ext (λ k.
      cash_written (currencies r) x.cash c i (get_or x.cash i (pos 0) +ℤ z) r.currencies_rise s long k
      ∙ ap (λ (y : ℤ). cond (eqb k c) (get_or x.cash i (pos 0) +ℤ z) y) (sym (ap (λ (f : ℕ → ℤ). f k) cash_is))
      ∙ moved_at (eqb k c) (get_or x.cash i (pos 0)) (cash r p k) z (λ t. sym read ∙ ap (cash r p) (sym (eqb-true k c t))))

  -- the gross is over its limit just where this currency's is
  over_is : (z : ℤ) → over_gross (in_force r) (with_paid r p c z) ≡ over (get_or x.cash i (pos 0) +ℤ z)
  over_is z =
      gross_of_cash (currencies r) (currencies r) (paid (cash r p) c z)
      ∙ (only_one (λ k. over (cash r p k)) (λ k. over (paid (cash r p) c z k)) c (currencies r)
      (λ d f. ap over (ap (λ (b : Bool). cash r p d +ℤ cond b z (pos 0)) (ne_eqb d c (λ e. eqb-false c d f (sym e))) ∙ nought (cash r p d)))
      (none_over (cash r p) (currencies r) small)).0 (standing (currencies r) c i r.currencies_rise s)
      ∙ ap over (ap (λ (b : Bool). cash r p c +ℤ cond b z (pos 0)) (eq-eqb c c refl) ∙ ap (λ (y : ℤ). y +ℤ z) read)
    where
      nought : (y : ℤ) → y +ℤ pos 0 ≡ y
      nought y = omega (arith, ints)

      small : (k : ℕ) → nat_abs (cash r p k) ≤ 200000000000
      small k = subst (λ (f : ℕ → ℤ). nat_abs (f k) ≤ 200000000000) (sym cash_is) (cash_small (currencies r) x.cash k x.small)

  -- the worst case by place is that by code
  worse_is : (z : ℤ) →
      worsens (in_force r) (cash_holding (cash_by (currencies r) x.cash)) (cash_holding (cash_by (currencies r) (set x.cash i (get_or x.cash i (pos 0) +ℤ z))))
      ≡ worsens (in_force r) (holding r p) (with_paid r p c z)
  worse_is z =
      ap (λ (f : ℕ → ℤ). worsens (in_force r) (cash_holding f) (cash_holding (cash_by (currencies r) (set x.cash i (get_or x.cash i (pos 0) +ℤ z))))) (sym cash_is)
      ∙ ap (λ (f : ℕ → ℤ). worsens (in_force r) (holding r p) (cash_holding f)) (paid_is z)

  open_is : is_open r p ≡ true
  open_is = ap is_some there

  -- writing the cash is the payment
  cash_after : (b : Bool) (o q : Option Portfolio) (zs : List ℤ) (k : ℕ) → option_map cash_of q ≡ cond b (Some zs) (option_map cash_of o) → cash_in (currencies r) q k ≡ cond b (cash_by (currencies r) zs k) (cash_in (currencies r) o k)
  cash_after true o None zs k e = let n : ◌≡◌ {A = ℕ} 0 1 = cc in absurd (omega arith)
  cash_after true o (Some y) zs k e = let same : y.cash ≡ zs = cc in ap (λ (l : List ℤ). cash_by (currencies r) l k) same
  cash_after false None None zs k e = refl
  cash_after false None (Some y) zs k e = let n : ◌≡◌ {A = ℕ} 0 1 = cc in absurd (omega arith)
  cash_after false (Some x) None zs k e = let n : ◌≡◌ {A = ℕ} 0 1 = cc in absurd (omega arith)
  cash_after false (Some x) (Some y) zs k e = let same : y.cash ≡ x.cash = cc in ap (λ (l : List ℤ). cash_by (currencies r) l k) same

  open_after : (b : Bool) (o q : Option Portfolio) (zs : List ℤ) → option_map cash_of q ≡ cond b (Some zs) (option_map cash_of o) → (b ≡ true → is_some o ≡ true) → is_some q ≡ is_some o
  open_after true o None zs e h = let n : ◌≡◌ {A = ℕ} 0 1 = cc in absurd (omega arith)
  open_after true o (Some y) zs e h = sym (h refl)
  open_after false None None zs e h = refl
  open_after false None (Some y) zs e h = let n : ◌≡◌ {A = ℕ} 0 1 = cc in absurd (omega arith)
  open_after false (Some x) None zs e h = let n : ◌≡◌ {A = ℕ} 0 1 = cc in absurd (omega arith)
  open_after false (Some x) (Some y) zs e h = refl

  here_or_not : (b d : Bool) (f : ℤ) (y z : ℤ) → (b ≡ true → f ≡ y +ℤ cond d z (pos 0)) → cond b f y ≡ y +ℤ cond (b && d) z (pos 0)
  here_or_not true d f y z e = e refl
  here_or_not false d f y z e = omega (arith, ints)

  pub pays : (z : ℤ) (t : Register) → Writes r p (set x.cash i (get_or x.cash i (pos 0) +ℤ z)) t → Pays r p c z t
  pays z t w =
      let zs = set x.cash i (get_or x.cash i (pos 0) +ℤ z) in
      record {
        sheet = ap cash_sheet w.currencies;
        «open» = λ j. open_after (eqb j p) (portfolio r j) (portfolio t j) zs (w.cash j) (λ b. ap (is_open r) (eqb-true j p b) ∙ open_is);
        cash = λ j k.
            ap (λ (cs : List Currency). cash_in cs (portfolio t j) k) w.currencies
            ∙ cash_after (eqb j p) (portfolio r j) (portfolio t j) zs k (w.cash j)
            ∙ here_or_not (eqb j p) (eqb k c) (cash_by (currencies r) zs k) (cash r j k) z (λ b. ap (λ (f : ℕ → ℤ). f k) (paid_is z) ∙ ap (λ (q : ℕ). cash r q k +ℤ cond (eqb k c) z (pos 0)) (sym (eqb-true j p b)));
        count = w.count;
        places = w.places;
      }

  -- ---- the answers, past the first three checks
  module _ (a : ℕ) (ranged : (no_portfolio p || no_currency c || no_amount a) ≡ false) where
    known : missing r c ≡ false
    known = ap not (standing (currencies r) c i r.currencies_rise s)

    past_three : (rest ans : Result (Unit {0}) RegisterFault) → ans ≡ rest →
        ans ≡ cond (no_portfolio p || no_currency c || no_amount a) (Err out_of_range) (cond (not (is_open r p)) (Err (refusal NoPortfolio)) (cond (missing r c) (Err (refusal CodeMissing)) rest))
    past_three rest ans e = passes _ out_of_range _ _ ranged (passes _ (refusal NoPortfolio) _ _ (ap not open_is) (passes _ (refusal CodeMissing) _ _ known e))

    pub in_over : over (get_or x.cash i (pos 0) +ℤ pos a) ≡ true → Err (refusal Gross) ≡ pays_in r p c a
    in_over o = past_three _ _ (fails _ (refusal Gross) _ (over_is (pos a) ∙ o))

    pub in_done : over (get_or x.cash i (pos 0) +ℤ pos a) ≡ false → Ok tt ≡ pays_in r p c a
    in_done o = past_three _ _ (passes _ (refusal Gross) _ _ (over_is (pos a) ∙ o) refl)

    pub out_over : over (get_or x.cash i (pos 0) +ℤ neg_ℤ (pos a)) ≡ true → Err (refusal Gross) ≡ pays_out r p c a
    out_over o = past_three _ _ (fails _ (refusal Gross) _ (over_is (neg_ℤ (pos a)) ∙ o))

    -- b judges the cash l
    module _ (l : List ℤ) (moved : (over (get_or x.cash i (pos 0) +ℤ neg_ℤ (pos a)) ≡ false) × (l ≡ set x.cash i (get_or x.cash i (pos 0) +ℤ neg_ℤ (pos a)))) (b : Bool)
        (judged : b ≡ worsens (in_force r) (cash_holding (cash_by (currencies r) x.cash)) (cash_holding (cash_by (currencies r) l))) where
      worse : worsens (in_force r) (holding r p) (with_paid r p c (neg_ℤ (pos a))) ≡ b
      worse = sym (worse_is (neg_ℤ (pos a))) ∙ sym (judged ∙ ap (λ (zs : List ℤ). worsens (in_force r) (cash_holding (cash_by (currencies r) x.cash)) (cash_holding (cash_by (currencies r) zs))) moved.1)

      pub out_worse : b ≡ true → Err (refusal WorstCase) ≡ pays_out r p c a
      out_worse t = past_three _ _ (passes _ (refusal Gross) _ _ (over_is (neg_ℤ (pos a)) ∙ moved.0) (fails _ (refusal WorstCase) _ (worse ∙ t)))

      pub out_done : b ≡ false → Ok tt ≡ pays_out r p c a
      out_done f = past_three _ _ (passes _ (refusal Gross) _ _ (over_is (neg_ℤ (pos a)) ∙ moved.0) (passes _ (refusal WorstCase) _ _ (worse ∙ f) refl))

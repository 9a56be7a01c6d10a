-- What a history of cash says after one more call, and what its register then holds.
use Rattle.std.proofs.Common.{◌≡◌, ℕ, Bool, not, eqb, List, [], ◌++◌, length, ℤ, pos, ◌+ℤ◌, is_some, vec_items, filter, Vec, sym, ap, ◌∙◌}
use Rattle.std.specs.declared.alloc.Global.{Global}
use Rattle.keyed.specs.declared.table.Table.{Table}
use Rattle.keyed.specs.Tables.{entries, room, holds}
use Rattle.margin.specs.declared.Currency.{Currency}
use Rattle.margin.specs.Numbers.{any}
use Rattle.margin.specs.Cash.{cash_sheet, cash_holding}
use Rattle.rules.specs.Calls.{Call}
use Rattle.rules.specs.Histories as histories
use Rattle.rules.specs.Histories.{History, asked, Spot, same_spot}
use Rattle.rules.specs.Rules.{then}
use Rattle.rules.specs.Laws.{offers_closed}
use Rattle.rules.proofs.Every.{every_run_is_lawful}
use Rattle.register.specs.Keys.{portfolio_number}
use Rattle.register.specs.declared.records.Portfolio.{Portfolio}
use Rattle.register.specs.declared.state.Register.{Register}
use Rattle.register.specs.State.{currencies, in_force, portfolio, is_open, cash_in, cash, holding, open_count, places, Unchanged}
use Rattle.register.specs.Runs.{Holds, Reached, Run}

-- what a portfolio holds
pub holding_is : (h : History) (r : Register) → Holds h r → (j : ℕ) → histories.holding h j ≡ holding r j
holding_is h r H j = λ i. record {
  cash = λ k. H.cash j k i;
  planned = λ k. H.planned j k i;
  lines = histories.codes (filter (λ b. eqb j b.portfolio) (H.lines i));
  orders = filter (λ o. eqb j o.portfolio) (H.orders i);
}

-- ---- a call that touches no line and no order
-- it adds to the cash of each portfolio j in each currency k the amount `adds j k`
pub record IdleButCash (h : History) (c : Call) (adds : ℕ → ℕ → ℤ) : Type 0 where
  pub pays : (j k : ℕ) → histories.pays h c j k ≡ adds j k
  pub delivers : (j k : ℕ) → histories.delivers h c j k ≡ pos 0
  pub reorders : histories.reorders c [] ≡ []
  pub touches : histories.touches h c ≡ []
  pub closes : offers_closed c

lines_none : (h : History) (c : Call) → histories.touches h c ≡ [] → histories.lines h ≡ [] → histories.lines (then h c) ≡ []
lines_none h c e l =
    let T : Spot → Bool = λ b. histories.line_exists (then h c) b.portfolio b.code in
    ap (λ (ls : List Spot). filter T (ls ++ filter (λ b. not (any (same_spot b) ls)) (histories.lines h))) e
    ∙ ap (λ (ls : List Spot). filter T (filter (λ b. not (any (same_spot b) [])) ls)) l

module _ (h : History) (c : Call) (adds : ℕ → ℕ → ℤ) (r : Register) (I : IdleButCash h c adds) (H : Holds h r) where
  -- what a portfolio would hold
  pub holding_then : (j : ℕ) → histories.holding (then h c) j ≡ cash_holding (λ k. cash r j k +ℤ adds j k)
  holding_then j =
      let lines = lines_none h c I.touches H.lines in
      let orders = ap (histories.reorders c) H.orders ∙ I.reorders in
      λ i. record {
        cash = λ k. (ap (λ (z : ℤ). z +ℤ histories.pays h c j k) (H.cash j k) ∙ ap (λ (z : ℤ). cash r j k +ℤ z) (I.pays j k)) i;
        planned = λ k. (ap (λ (z : ℤ). z +ℤ histories.delivers h c j k) (H.planned j k) ∙ ap (λ (z : ℤ). pos 0 +ℤ z) (I.delivers j k)) i;
        lines = histories.codes (filter (λ b. eqb j b.portfolio) (lines i));
        orders = filter (λ o. eqb j o.portfolio) (orders i);
      }

  -- the register afterwards holds what the history then says
  pub holds_then : (t : Register) → histories.in_force (then h c) ≡ in_force t → ((j : ℕ) → histories.is_open (then h c) j ≡ is_open t j) →
      ((j k : ℕ) → cash t j k ≡ cash r j k +ℤ adds j k) → length (histories.portfolios (then h c)) ≡ open_count t → places t ≡ places r → Holds (then h c) t
  holds_then t s o m n p = record {
    sheet = s;
    «open» = o;
    cash = λ j k. ap (λ (z : ℤ). z +ℤ histories.pays h c j k) (H.cash j k) ∙ ap (λ (z : ℤ). cash r j k +ℤ z) (I.pays j k) ∙ sym (m j k);
    planned = λ j k. ap (λ (z : ℤ). z +ℤ histories.delivers h c j k) (H.planned j k) ∙ ap (λ (z : ℤ). pos 0 +ℤ z) (I.delivers j k);
    orders = ap (histories.reorders c) H.orders ∙ I.reorders;
    lines = lines_none h c I.touches H.lines;
    count = n;
    places = H.places ∙ sym p;
  }

-- ---- nothing has changed
pub same_holds : (h : History) (r t : Register) → Unchanged r t → Holds h r → Holds h t
same_holds h r t same H =
    let cs = ap (λ (v : Vec Currency Global). vec_items v) same.currencies in
    record {
      sheet = H.sheet ∙ sym (ap cash_sheet cs);
      «open» = λ j. H.«open» j ∙ sym (ap (λ (u : Table Portfolio _ _ _). is_some (holds portfolio_number u j)) same.portfolios);
      cash = λ j k. H.cash j k ∙ sym (ap (λ (l : List Currency). cash_in l (portfolio t j) k) cs ∙ ap (λ (u : Table Portfolio _ _ _). cash_in (currencies r) (holds portfolio_number u j) k) same.portfolios);
      planned = H.planned;
      orders = H.orders;
      lines = H.lines;
      count = H.count ∙ sym (ap (λ (u : Table Portfolio _ _ _). length (entries u)) same.portfolios);
      places = H.places ∙ sym (ap (λ (u : Table Portfolio _ _ _). room u) same.portfolios);
    }

-- what is reached is a lawful run
pub run : (h : History) (r : Register) → Reached h r → Run h r
run h r R = record { reached = R; lawful = every_run_is_lawful h R.closed R.ruled }

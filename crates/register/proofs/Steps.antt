-- Each call of the register, as a step of a history.
use Rattle.std.proofs.Common.{◌≡◌, ℕ, Bool, true, false, cond, not, ◌&&◌, ◌||◌, eqb, leb, length, ℤ, pos, ◌+ℤ◌, neg_ℤ, is_some, Ok, Err, Result, sym, refl, ap, ◌∙◌, arith, MatchResult}
use Rattle.std.proofs.lemmas.Bool.{eq-eqb}
use Rattle.margin.specs.declared.Figures.{Figures}
use Rattle.margin.specs.Sheets.{Sheet, currency_at}
use Rattle.margin.specs.Holdings.{Holding}
use Rattle.margin.specs.Figures.{figures_of}
use Rattle.margin.specs.Limits.{over_gross, worsens}
use Rattle.margin.specs.Cash.{cash_holding}
use Rattle.margin.proofs.Integers.{add_nought}
use Rattle.rules.specs.Calls.{Call, Answer, accepted, told, refused, open_portfolio, pay_in, pay_out, figures}
use Rattle.rules.specs.Histories as histories
use Rattle.rules.specs.Histories.{History, asked}
use Rattle.rules.specs.Rules.{then, ruled, gross_over, margin_worsens}
use Rattle.rules.specs.Laws.{offers_closed}
use Rattle.register.specs.declared.faults.RegisterCause.TheVariants.{NoPortfolio, PortfolioExists, CodeMissing, NoPlace, Gross, WorstCase}
use Rattle.register.specs.declared.faults.RegisterFault.{RegisterFault}
use Rattle.register.specs.declared.state.Register.{Register}
use Rattle.register.specs.Faults.{fault_number, out_of_range, refusal}
use Rattle.register.specs.State.{in_force, is_open, cash, holding, open_count, places, Unchanged, Opens, Pays}
use Rattle.register.specs.Answers.{opens, pays_in, pays_out, tells, with_paid}
use Rattle.register.specs.Runs.{said, said_figures, Holds, Reached, Run}
use Rattle.register.proofs.Histories.{holding_is, IdleButCash, holding_then, holds_then, same_holds, run}

-- ---- check by check: the same test, and the number of the fault
module _ {X : Type 0} (say : Result X RegisterFault → Answer) (err : (f : RegisterFault) → say (Err f) ≡ refused (fault_number f)) where
  spoken : (b : Bool) (f : RegisterFault) (x : Result X RegisterFault) → say (cond b (Err f) x) ≡ cond b (refused (fault_number f)) (say x)
  spoken true f x = err f
  spoken false f x = refl

  pub checked : (b d : Bool) (f : RegisterFault) (x : Result X RegisterFault) (y : Answer) → b ≡ d → say x ≡ y → say (cond b (Err f) x) ≡ cond d (refused (fault_number f)) y
  checked b d f x y e h = spoken b f x ∙ ap (λ (t : Bool). cond t (refused (fault_number f)) (say x)) e ∙ ap (λ (a : Answer). cond d (refused (fault_number f)) a) h

-- ---- what a refused call, and one that only tells, leave of a history
refused_holds : (h : History) (c : Call) (n : ℕ) (t : Register) → Holds h t → Holds (asked h c (refused n)) t
refused_holds h c n t H = record { sheet = H.sheet; «open» = H.«open»; cash = H.cash; planned = H.planned; orders = H.orders; lines = H.lines; count = H.count; places = H.places }

told_holds : (h : History) (c : Call) (f : Figures) (t : Register) → Holds (then h c) t → Holds (asked h c (told f)) t
told_holds h c f t H = record { sheet = H.sheet; «open» = H.«open»; cash = H.cash; planned = H.planned; orders = H.orders; lines = H.lines; count = H.count; places = H.places }

-- a call that answers nothing but that it is done
step : (h : History) (c : Call) (r t : Register) (a : Result (Unit {0}) RegisterFault) → Reached h r → offers_closed c → said a ≡ ruled h c → MatchResult a (λ _. Holds (then h c) t) (λ _. Unchanged r t) → Run (asked h c (said a)) t
step h c r t (Ok u) R closes e H = run _ t (record { closed = (R.closed, closes); ruled = (R.ruled, e); holds = H })
step h c r t (Err f) R closes e same = run _ t (record { closed = (R.closed, closes); ruled = (R.ruled, e); holds = refused_holds h c (fault_number f) t (same_holds h r t same R.holds) })

weaker : (a : Result (Unit {0}) RegisterFault) (P Q U : Type 0) → (P → Q) → MatchResult a (λ _. P) (λ _. U) → MatchResult a (λ _. Q) (λ _. U)
weaker (Ok u) P Q U f h = f h
weaker (Err e) P Q U f h = h

module _ (h : History) (r : Register) (H : Holds h r) where
  open_is : (p : ℕ) → not (is_open r p) ≡ not (histories.is_open h p)
  open_is p = ap not (sym (H.«open» p))

  missing_is : (c : ℕ) → not (is_some (currency_at (in_force r) c)) ≡ not (is_some (currency_at (histories.in_force h) c))
  missing_is c = ap (λ (s : Sheet). not (is_some (currency_at s c))) (sym H.sheet)

-- ---- opening a portfolio
module _ (h : History) (p : ℕ) (r t : Register) (a : Result (Unit {0}) RegisterFault) (R : Reached h r) (is : a ≡ opens r p) (left : MatchResult a (λ _. Opens r p t) (λ _. Unchanged r t)) where
  opens_idle : IdleButCash h (open_portfolio p) (λ j k. pos 0)
  opens_idle = record { pays = λ j k. refl; delivers = λ j k. refl; reorders = refl; touches = refl; closes = tt }

  opens_holds : Opens r p t → Holds (then h (open_portfolio p)) t
  opens_holds o =
      holds_then h (open_portfolio p) (λ j k. pos 0) r opens_idle R.holds t (R.holds.sheet ∙ sym o.sheet)
      (λ j. ap (λ (b : Bool). eqb j p || b) (R.holds.«open» j) ∙ sym (o.«open» j))
      (λ j k. o.cash j k ∙ sym (add_nought (cash r j k) (pos 0) refl))
      (omega (arith, R.holds.count, o.count)) o.places

  opens_ruled : said (opens r p) ≡ ruled h (open_portfolio p)
  opens_ruled =
      let full : leb (places r) (open_count r) ≡ leb (histories.places h).portfolios (length (histories.portfolios h)) = ap (λ (n : ℕ). leb n (open_count r)) (sym R.holds.places) ∙ ap (leb (histories.places h).portfolios) (sym R.holds.count) in
      checked said (λ f. refl) _ _ out_of_range _ _ refl (
      checked said (λ f. refl) _ _ (refusal PortfolioExists) _ _ (sym (R.holds.«open» p)) (
      checked said (λ f. refl) _ _ (refusal NoPlace) (Ok tt) accepted full refl))

  pub opens_run : Run (asked h (open_portfolio p) (said a)) t
  opens_run = step h (open_portfolio p) r t a R tt (ap said is ∙ opens_ruled) (weaker a _ _ _ opens_holds left)

-- ---- payments: z more in currency c
module _ (h : History) (call : Call) (p c : ℕ) (z : ℤ) (r : Register) (H : Holds h r) (I : IdleButCash h call (λ j k. cond (eqb j p && eqb k c) z (pos 0))) where
  own : histories.holding (then h call) p ≡ with_paid r p c z
  own =
      holding_then h call (λ j k. cond (eqb j p && eqb k c) z (pos 0)) r I H p
      ∙ ap (λ (b : Bool). cash_holding (λ k. cash r p k +ℤ cond (b && eqb k c) z (pos 0))) (eq-eqb p p refl)

  gross_is : histories.in_force (then h call) ≡ histories.in_force h → over_gross (in_force r) (with_paid r p c z) ≡ gross_over (then h call) p
  gross_is s = sym (ap (λ (u : Sheet). over_gross u (histories.holding (then h call) p)) (s ∙ H.sheet) ∙ ap (over_gross (in_force r)) own)

  worsens_is : worsens (in_force r) (holding r p) (with_paid r p c z) ≡ margin_worsens h call p
  worsens_is =
      sym (ap (λ (u : Sheet). worsens u (histories.holding h p) (histories.holding (then h call) p)) H.sheet
      ∙ ap (λ (k : Holding). worsens (in_force r) k (histories.holding (then h call) p)) (holding_is h r H p)
      ∙ ap (worsens (in_force r) (holding r p)) own)

  pays_holds : (t : Register) → histories.in_force (then h call) ≡ histories.in_force h → ((j : ℕ) → histories.is_open (then h call) j ≡ histories.is_open h j) →
      length (histories.portfolios (then h call)) ≡ length (histories.portfolios h) → Pays r p c z t → Holds (then h call) t
  pays_holds t s o n q =
      holds_then h call (λ j k. cond (eqb j p && eqb k c) z (pos 0)) r I H t (s ∙ H.sheet ∙ sym q.sheet) (λ j. o j ∙ H.«open» j ∙ sym (q.«open» j))
      q.cash (n ∙ H.count ∙ sym q.count) q.places

module _ (h : History) (p c x : ℕ) (r t : Register) (a : Result (Unit {0}) RegisterFault) (R : Reached h r) where
  in_idle : IdleButCash h (pay_in p c x) (λ j k. cond (eqb j p && eqb k c) (pos x) (pos 0))
  in_idle = record { pays = λ j k. refl; delivers = λ j k. refl; reorders = refl; touches = refl; closes = tt }

  in_ruled : said (pays_in r p c x) ≡ ruled h (pay_in p c x)
  in_ruled =
      checked said (λ f. refl) _ _ out_of_range _ _ refl (
      checked said (λ f. refl) _ _ (refusal NoPortfolio) _ _ (open_is h r R.holds p) (
      checked said (λ f. refl) _ _ (refusal CodeMissing) _ _ (missing_is h r R.holds c) (
      checked said (λ f. refl) _ _ (refusal Gross) (Ok tt) accepted (gross_is h (pay_in p c x) p c (pos x) r R.holds in_idle refl) refl)))

  pub pays_in_run : a ≡ pays_in r p c x → MatchResult a (λ _. Pays r p c (pos x) t) (λ _. Unchanged r t) → Run (asked h (pay_in p c x) (said a)) t
  pays_in_run is left =
      step h (pay_in p c x) r t a R tt (ap said is ∙ in_ruled)
      (weaker a _ _ _ (pays_holds h (pay_in p c x) p c (pos x) r R.holds in_idle t refl (λ j. refl) refl) left)

  out_idle : IdleButCash h (pay_out p c x) (λ j k. cond (eqb j p && eqb k c) (neg_ℤ (pos x)) (pos 0))
  out_idle = record { pays = λ j k. refl; delivers = λ j k. refl; reorders = refl; touches = refl; closes = tt }

  out_ruled : said (pays_out r p c x) ≡ ruled h (pay_out p c x)
  out_ruled =
      checked said (λ f. refl) _ _ out_of_range _ _ refl (
      checked said (λ f. refl) _ _ (refusal NoPortfolio) _ _ (open_is h r R.holds p) (
      checked said (λ f. refl) _ _ (refusal CodeMissing) _ _ (missing_is h r R.holds c) (
      checked said (λ f. refl) _ _ (refusal Gross) _ _ (gross_is h (pay_out p c x) p c (neg_ℤ (pos x)) r R.holds out_idle refl) (
      checked said (λ f. refl) _ _ (refusal WorstCase) (Ok tt) accepted (worsens_is h (pay_out p c x) p c (neg_ℤ (pos x)) r R.holds out_idle) refl))))

  pub pays_out_run : a ≡ pays_out r p c x → MatchResult a (λ _. Pays r p c (neg_ℤ (pos x)) t) (λ _. Unchanged r t) → Run (asked h (pay_out p c x) (said a)) t
  pays_out_run is left =
      step h (pay_out p c x) r t a R tt (ap said is ∙ out_ruled)
      (weaker a _ _ _ (pays_holds h (pay_out p c x) p c (neg_ℤ (pos x)) r R.holds out_idle t refl (λ j. refl) refl) left)

-- ---- figures
module _ (h : History) (p : ℕ) (r : Register) (R : Reached h r) where
  tells_idle : IdleButCash h (figures p) (λ j k. pos 0)
  tells_idle = record { pays = λ j k. refl; delivers = λ j k. refl; reorders = refl; touches = refl; closes = tt }

  tells_holds : Holds (then h (figures p)) r
  tells_holds =
      holds_then h (figures p) (λ j k. pos 0) r tells_idle R.holds r R.holds.sheet R.holds.«open»
      (λ j k. sym (add_nought (cash r j k) (pos 0) refl)) R.holds.count refl

  told_is : told (figures_of (in_force r) (holding r p)) ≡ told (figures_of (histories.in_force h) (histories.holding h p))
  told_is =
      ap told (sym (ap (λ (s : Sheet). figures_of s (histories.holding h p)) R.holds.sheet ∙ ap (figures_of (in_force r)) (holding_is h r R.holds p)))

  tells_ruled : said_figures (tells r p) ≡ ruled h (figures p)
  tells_ruled =
      checked said_figures (λ f. refl) _ _ out_of_range _ _ refl (
      checked said_figures (λ f. refl) _ _ (refusal NoPortfolio) (Ok (figures_of (in_force r) (holding r p))) _ (open_is h r R.holds p) told_is)

  told_step : (a : Result Figures RegisterFault) → said_figures a ≡ ruled h (figures p) → Run (asked h (figures p) (said_figures a)) r
  told_step (Ok f) e = run _ r (record { closed = (R.closed, tt); ruled = (R.ruled, e); holds = told_holds h (figures p) f r tells_holds })
  told_step (Err f) e = run _ r (record { closed = (R.closed, tt); ruled = (R.ruled, e); holds = refused_holds h (figures p) (fault_number f) r R.holds })

  pub tells_run : (a : Result Figures RegisterFault) → a ≡ tells r p → Run (asked h (figures p) (said_figures a)) r
  tells_run a is = told_step a (ap said_figures is ∙ tells_ruled)

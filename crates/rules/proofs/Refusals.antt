-- A refusal for margin, exactly: from the rules, and from what the worst case is.
use Rattle.std.proofs.Common.{◌≡◌, ℕ, Bool, true, false, not, ◌&&◌, eqb, ◌↔◌, List, [], ◌∷◌, ◌++◌, ℤ, pos, ◌≤ℤ◌, ◌<ℤ◌, filter, sym, refl, ap, ◌∙◌, subst, ⊎_elim, arith}
use Rattle.std.specs.List.{AllByRecursion}
use Rattle.std.proofs.ByRecursion.{kept_by_passes}
use Rattle.std.proofs.lemmas.Int.{ints}
use Rattle.std.proofs.lemmas.Bool.{eqb-true, cases_Bool, and_parts, and_from, not-true, both_ways, eq-eqb, cond-true, cond-false}
use Rattle.margin.specs.Numbers.{below}
use Rattle.margin.specs.Sheets.{Sheet, Closed}
use Rattle.margin.specs.Holdings.{Holding, first_ratio}
use Rattle.margin.specs.Fillings.{Filling, Allowed, filled, worst}
use Rattle.rules.specs.Calls.{Call, Answer, open_portfolio, pay_in, pay_out, deliver_in, deliver_out, place, fill, cancel, figures, take_notice, record_paper, put_back, put_in_force, accepted, refused}
use Rattle.rules.specs.Histories.{History, in_force, holding}
use Rattle.rules.specs.Rules.{margin_worsens, Check, checks, first_of, then, worst_now, Ruled}
use Rattle.rules.specs.Laws.{PassesEarlier, SomeFillingWorsens, MarginRefusals, WorstCaseIsLeast, ClosedSheets}
use Rattle.margin.proofs.Integers.{less_than, less_test}
use Rattle.margin.proofs.WorstCase.{worst_is_least}
use Rattle.rules.proofs.Moments.{at_moment, closed_then, closed_now}

-- the last check of all has the number 24, and no other has
last_of : (es : List Check) (w : Bool) (a : Answer) → AllByRecursion (λ k. not (eqb 24 k.number) ≡ true) es → a ≡ first_of (es ++ record { fails = w; number = 24 } ∷ []) accepted →
    (a ≡ refused 24) ↔ (AllByRecursion (λ k. k.fails ≡ false) es × (w ≡ true))
last_of [] true a n e = (λ _. (tt, refl), λ _. e)
last_of [] false a n e = (λ p. let z : ◌≡◌ {A = ℕ} 0 1 = cc in absurd (omega arith), λ p. let z : ◌≡◌ {A = ℕ} 0 1 = cc p.1 in absurd (omega arith))
last_of (k ∷ es) w a n e =
    ⊎_elim
    (λ t. let r : a ≡ refused k.number = e ∙ cond-true k.fails _ _ t in
    (λ p. let same : 24 ≡ k.number = cc in absurd (both_ways (eqb 24 k.number) (not-true _ n.0) (eq-eqb _ _ same)), λ p. absurd (both_ways k.fails p.0.0 t)))
    (λ f. let r : a ≡ first_of (es ++ record { fails = w; number = 24 } ∷ []) accepted = e ∙ cond-false k.fails _ _ f in
    let by = last_of es w a n.1 r in
    (λ p. let m = by.0 p in ((f, m.0), m.1), λ p. by.1 (p.0.1, p.1)))
    (cases_Bool k.fails)

last_check : (cs : List Check) (w : Bool) (a : Answer) → cs ≡ filter (λ k. not (eqb 24 k.number)) cs ++ record { fails = w; number = 24 } ∷ [] → a ≡ first_of cs accepted →
    (a ≡ refused 24) ↔ (AllByRecursion (λ k. k.fails ≡ false) (filter (λ k. not (eqb 24 k.number)) cs) × (w ≡ true))
last_check cs w a is e = last_of (filter (λ k. not (eqb 24 k.number)) cs) w a (kept_by_passes _ cs) (e ∙ ap (λ l. first_of l accepted) is)

≤_less : {x y z : ℤ} → x ≤ℤ y → y <ℤ z → x <ℤ z
≤_less p q = omega (arith, ints)

-- below nought and below what it was: so is some filling
worsens_is : (s : Sheet) → Closed s → (after : Holding) (old : ℤ) →
    ((below (worst s after) (pos 0) && below (worst s after) old) ≡ true)
    ↔ ((f : Filling) × Allowed f after × (first_ratio s (filled s f after) <ℤ pos 0) × (first_ratio s (filled s f after) <ℤ old))
worsens_is s C after old =
    let W = worst_is_least s C after in (
      λ e. let b = and_parts _ _ e in
          (W.reached.0, W.reached.1, subst (λ z. z <ℤ pos 0) (sym W.reached.2) (less_than _ _ b.0), subst (λ z. z <ℤ old) (sym W.reached.2) (less_than _ _ b.1)),
      λ p. and_from _ _ (less_test _ _ (≤_less (W.bound p.0 p.1) p.2)) (less_test _ _ (≤_less (W.bound p.0 p.1) p.3)),
    )

at_portfolio : (q : History) (c : Call) (a : Answer) (p : ℕ) → Closed (in_force q) →
    checks q c ≡ filter (λ k. not (eqb 24 k.number)) (checks q c) ++ record { fails = margin_worsens q c p; number = 24 } ∷ [] → a ≡ first_of (checks q c) accepted →
    (a ≡ refused 24) ↔ (PassesEarlier q c × SomeFillingWorsens q c p)
at_portfolio q c a p C is e =
    let by = last_check (checks q c) (margin_worsens q c p) a is e in
    let w = worsens_is (in_force q) C (holding (then q c) p) (worst_now q p) in
    (λ r. let m = by.0 r in (m.0, w.0 m.1), λ m. by.1 (m.0, w.1 m.1))

pub margin_refusals : (h : History) → ClosedSheets h → Ruled h → MarginRefusals h
margin_refusals h C R q (pay_out p c x) a m j e =
    subst (λ i. (a ≡ refused 24) ↔ (PassesEarlier q (pay_out p c x) × SomeFillingWorsens q (pay_out p c x) i)) (sym (eqb-true j p e))
    (at_portfolio q (pay_out p c x) a p (closed_now q (closed_then _ m C).0) refl (at_moment _ m R).1)
margin_refusals h C R q (deliver_out p c x) a m j e =
    subst (λ i. (a ≡ refused 24) ↔ (PassesEarlier q (deliver_out p c x) × SomeFillingWorsens q (deliver_out p c x) i)) (sym (eqb-true j p e))
    (at_portfolio q (deliver_out p c x) a p (closed_now q (closed_then _ m C).0) refl (at_moment _ m R).1)
margin_refusals h C R q (place o) a m j e =
    subst (λ i. (a ≡ refused 24) ↔ (PassesEarlier q (place o) × SomeFillingWorsens q (place o) i)) (sym (eqb-true j o.portfolio e))
    (at_portfolio q (place o) a o.portfolio (closed_now q (closed_then _ m C).0) refl (at_moment _ m R).1)
margin_refusals h C R q (open_portfolio p) a m j e = absurd (both_ways false refl e)
margin_refusals h C R q (pay_in p c x) a m j e = absurd (both_ways false refl e)
margin_refusals h C R q (deliver_in p c x) a m j e = absurd (both_ways false refl e)
margin_refusals h C R q (fill n c x) a m j e = absurd (both_ways false refl e)
margin_refusals h C R q (cancel n) a m j e = absurd (both_ways false refl e)
margin_refusals h C R q (figures p) a m j e = absurd (both_ways false refl e)
margin_refusals h C R q (take_notice p) a m j e = absurd (both_ways false refl e)
margin_refusals h C R q (record_paper w t) a m j e = absurd (both_ways false refl e)
margin_refusals h C R q (put_back w) a m j e = absurd (both_ways false refl e)
margin_refusals h C R q (put_in_force s) a m j e = absurd (both_ways false refl e)

pub worst_case_is_least : (h : History) → ClosedSheets h → Ruled h → WorstCaseIsLeast h
worst_case_is_least h C R q m j = worst_is_least (in_force q) (closed_now q (closed_then q m C)) (holding q j)

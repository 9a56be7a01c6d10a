-- A call for one portfolio leaves all others as they are.
use Rattle.std.proofs.Common.{◌≡◌, ℕ, Bool, true, false, not, ◌&&◌, eqb, List, ◌++◌, ℤ, pos, Some, None, filter, Option, sym, refl, ap, ◌∙◌}
use Rattle.std.specs.List.{AllByRecursion}
use Rattle.std.proofs.lemmas.List.Elements.{filter-append}
use Rattle.std.proofs.ByRecursion.{All-weaker, all_kept_by, kept_by_passes}
use Rattle.std.proofs.lemmas.Bool.{and_right, both_ways, eqb-true, and_left}
use Rattle.margin.specs.declared.Order.{Order}
use Rattle.margin.specs.Numbers.{any, below}
use Rattle.margin.specs.Sheets.{Apart, Sheet}
use Rattle.margin.specs.Holdings.{first_ratio}
use Rattle.margin.specs.Fillings.{worst}
use Rattle.margin.specs.Figures.{figures_of}
use Rattle.rules.specs.Calls.{Call, Answer, accepted, told, given, refused, open_portfolio, pay_in, pay_out, deliver_in, deliver_out, place, fill, cancel, figures, take_notice, record_paper, put_back, put_in_force, Notice}
use Rattle.rules.specs.Histories.{fell, History, asked, orders, is_open, cash, planned, standing, pays, delivers, cash_filled, units_filled, touches, spot_of, reorders, brings, in_force, owner, Spot, same_spot, lines, codes, holding, ratio_now, sets_notice, or_owed, notice}
use Rattle.rules.specs.Rules.{worst_now, then, Ruled}
use Rattle.rules.specs.Laws.{settles, Unchanged, NewSheetsMoveNothing, concerns, OthersUntouched}
use Rattle.margin.proofs.Integers.{add_nought}
use Rattle.margin.proofs.Lists.{by_test, kept_none, kept_swap, any_none, all_both, all_from_has, kept_same}
use Rattle.rules.proofs.Orders.{num, mine, less_others, cancel_others}
use Rattle.rules.proofs.Lines.{exists, exists_left, Exact, exact}
use Rattle.rules.proofs.Moments.{at_moment}
use Rattle.rules.proofs.Standing.{numbers_apart}

-- ---- cash, planned, orders, and the sheet
cash_apart : (s : Sheet) (o : Option Order) (x j k : ℕ) → eqb j (owner o) ≡ false → cash_filled s o x j k ≡ pos 0
cash_apart s None x j k e = refl
cash_apart s (Some o) x j k e = rw e

units_apart : (o : Option Order) (q j code : ℕ) → eqb j (owner o) ≡ false → units_filled o q j code ≡ pos 0
units_apart None q j code e = refl
units_apart (Some o) q j code e = rw e

spot_apart : (o : Option Order) (j : ℕ) → eqb j (owner o) ≡ false → AllByRecursion (λ b. eqb j b.portfolio ≡ false) (spot_of o)
spot_apart None j e = tt
spot_apart (Some o) j e = (e, tt)

pub pays_nought : (h : History) (c : Call) (j k : ℕ) → concerns h c j ≡ false → pays h c j k ≡ pos 0
pays_nought h (open_portfolio p) j k e = refl
pays_nought h (pay_in p c x) j k e = rw e
pays_nought h (pay_out p c x) j k e = rw e
pays_nought h (deliver_in p c q) j k e = refl
pays_nought h (deliver_out p c q) j k e = refl
pays_nought h (place o) j k e = refl
pays_nought h (fill n q x) j k e = cash_apart (in_force h) (standing h n) _ j k e
pays_nought h (cancel n) j k e = refl
pays_nought h (figures p) j k e = refl
pays_nought h (take_notice p) j k e = refl
pays_nought h (record_paper w t) j k e = refl
pays_nought h (put_back w) j k e = refl
pays_nought h (put_in_force t) j k e = refl

pub delivers_nought : (h : History) (c : Call) (j k : ℕ) → concerns h c j ≡ false → delivers h c j k ≡ pos 0
delivers_nought h (open_portfolio p) j k e = refl
delivers_nought h (pay_in p c x) j k e = refl
delivers_nought h (pay_out p c x) j k e = refl
delivers_nought h (deliver_in p c q) j k e = rw e
delivers_nought h (deliver_out p c q) j k e = rw e
delivers_nought h (place o) j k e = refl
delivers_nought h (fill n q x) j k e = units_apart (standing h n) q j k e
delivers_nought h (cancel n) j k e = refl
delivers_nought h (figures p) j k e = refl
delivers_nought h (take_notice p) j k e = refl
delivers_nought h (record_paper w t) j k e = refl
delivers_nought h (put_back w) j k e = refl
delivers_nought h (put_in_force t) j k e = refl

pub orders_left : (h : History) (c : Call) (j : ℕ) → Apart num (orders h) → concerns h c j ≡ false → filter (mine j) (reorders c (orders h)) ≡ filter (mine j) (orders h)
orders_left h (open_portfolio p) j a e = refl
orders_left h (pay_in p c x) j a e = refl
orders_left h (pay_out p c x) j a e = refl
orders_left h (deliver_in p c q) j a e = refl
orders_left h (deliver_out p c q) j a e = refl
orders_left h (place o) j a e = rw e
orders_left h (fill n q x) j a e = less_others n q j (orders h) e
orders_left h (cancel n) j a e = cancel_others n j (orders h) a e
orders_left h (figures p) j a e = refl
orders_left h (take_notice p) j a e = refl
orders_left h (record_paper w t) j a e = refl
orders_left h (put_back w) j a e = refl
orders_left h (put_in_force t) j a e = refl

pub touches_others : (h : History) (c : Call) (j : ℕ) → concerns h c j ≡ false → AllByRecursion (λ b. eqb j b.portfolio ≡ false) (touches h c)
touches_others h (open_portfolio p) j e = tt
touches_others h (pay_in p c x) j e = tt
touches_others h (pay_out p c x) j e = tt
touches_others h (deliver_in p c q) j e = (e, tt)
touches_others h (deliver_out p c q) j e = (e, tt)
touches_others h (place o) j e = (e, tt)
touches_others h (fill n q x) j e = spot_apart (standing h n) j e
touches_others h (cancel n) j e = spot_apart (standing h n) j e
touches_others h (figures p) j e = tt
touches_others h (take_notice p) j e = tt
touches_others h (record_paper w t) j e = tt
touches_others h (put_back w) j e = tt
touches_others h (put_in_force t) j e = tt

pub sheet_left : (h : History) (c : Call) (j : ℕ) (s : Sheet) → concerns h c j ≡ false → brings c s ≡ s
sheet_left h (open_portfolio p) j s e = refl
sheet_left h (pay_in p c x) j s e = refl
sheet_left h (pay_out p c x) j s e = refl
sheet_left h (deliver_in p c q) j s e = refl
sheet_left h (deliver_out p c q) j s e = refl
sheet_left h (place o) j s e = refl
sheet_left h (fill n q x) j s e = refl
sheet_left h (cancel n) j s e = refl
sheet_left h (figures p) j s e = refl
sheet_left h (take_notice p) j s e = refl
sheet_left h (record_paper w t) j s e = refl
sheet_left h (put_back w) j s e = refl
sheet_left h (put_in_force t) j s e = absurd (both_ways true e refl)

-- ---- lines, and the whole holding
abbrev pub of : ℕ → Spot → Bool
of j b = eqb j b.portfolio

-- a spot of j is none of those that a call for another touches
free_of : (j : ℕ) (b : Spot) (bs : List Spot) → of j b ≡ true → AllByRecursion (λ d. of j d ≡ false) bs → any (same_spot b) bs ≡ false
free_of j b bs e a = any_none (same_spot b) bs (All-weaker (λ d. of j d ≡ false) (λ d. same_spot b d ≡ false) (λ d f. and_left _ _ (ap (λ x. eqb x d.portfolio) (sym (eqb-true j b.portfolio e)) ∙ f)) bs a)

pub lines_left : (h : History) (c : Call) (j : ℕ) → Apart num (orders h) → Exact h → concerns h c j ≡ false → filter (of j) (lines (then h c)) ≡ filter (of j) (lines h)
lines_left h c j a E e =
    let T : List Spot = touches h c in
    let free : Spot → Bool = λ d. not (any (same_spot d) T) in
    let after : Spot → Bool = exists (then h c) in
    let away : AllByRecursion (λ d. of j d ≡ false) T = touches_others h c j e in
    let own : List Spot = filter (of j) (lines h) in
    let mine' : AllByRecursion (λ b. of j b ≡ true) own = kept_by_passes (of j) (lines h) in
    let there : AllByRecursion (λ b. exists h b ≡ true) own = all_kept_by (of j) (λ b. exists h b ≡ true) (lines h) (all_from_has (λ b. exists h b ≡ true) (lines h) (λ b m. (E b).0 m)) in
    let frees : AllByRecursion (λ b. free b ≡ true) own = All-weaker (λ b. of j b ≡ true) (λ b. free b ≡ true) (λ b y. ap not (free_of j b T y away)) own mine' in
    let stays : AllByRecursion (λ b. after b ≡ true) own =
    All-weaker (λ b. (of j b ≡ true) × (exists h b ≡ true)) (λ b. after b ≡ true) (λ b p. exists_left h c b a (free_of j b T p.0 away) ∙ p.1) own (all_both _ _ own mine' there)
    in
    kept_swap (of j) after (T ++ filter free (lines h))
    ∙ ap (filter after) (filter-append (of j) T (filter free (lines h)))
    ∙ ap (λ l. filter after (l ++ filter (of j) (filter free (lines h)))) (kept_none (of j) T away)
    ∙ ap (filter after) (kept_swap (of j) free (lines h) ∙ kept_same free own frees)
    ∙ kept_same after own stays

pub holding_left : (h : History) (c : Call) (j : ℕ) → Ruled h → concerns h c j ≡ false → holding (then h c) j ≡ holding h j
holding_left h c j R e =
    let a = numbers_apart h R in
    let l = lines_left h c j a (exact h R) e in
    let o = orders_left h c j a e in
    λ i. record {
      cash = λ k. add_nought (cash h j k) _ (pays_nought h c j k e) i;
      planned = λ k. add_nought (planned h j k) _ (delivers_nought h c j k e) i;
      lines = codes (l i);
      orders = o i;
    }

pub ratio_left : (h : History) (c : Call) (j : ℕ) → Ruled h → concerns h c j ≡ false → ratio_now (then h c) j ≡ ratio_now h j
ratio_left h c j R e = ap (λ s. first_ratio s (holding (then h c) j)) (sheet_left h c j (in_force h) e) ∙ ap (first_ratio (in_force h)) (holding_left h c j R e)

-- what a call leaves untouched it does not settle
unsettled : (h : History) (c : Call) (j : ℕ) → concerns h c j ≡ false → settles c j ≡ false
unsettled h (take_notice p) j e = e
unsettled h (put_back r) j e = e
unsettled h (open_portfolio p) j e = refl
unsettled h (pay_in p c x) j e = refl
unsettled h (pay_out p c x) j e = refl
unsettled h (deliver_in p c q) j e = refl
unsettled h (deliver_out p c q) j e = refl
unsettled h (place o) j e = refl
unsettled h (fill n q x) j e = refl
unsettled h (cancel n) j e = refl
unsettled h (figures p) j e = refl
unsettled h (record_paper r t) j e = refl
unsettled h (put_in_force t) j e = refl

pub sets_left : (h : History) (c : Call) (j : ℕ) (w : Option Notice) → settles c j ≡ false → sets_notice h c j w ≡ w
sets_left h (open_portfolio p) j w e = refl
sets_left h (pay_in p c x) j w e = refl
sets_left h (pay_out p c x) j w e = refl
sets_left h (deliver_in p c q) j w e = refl
sets_left h (deliver_out p c q) j w e = refl
sets_left h (place o) j w e = refl
sets_left h (fill n q x) j w e = refl
sets_left h (cancel n) j w e = refl
sets_left h (figures p) j w e = refl
sets_left h (take_notice p) j w e = rw e
sets_left h (record_paper r t) j w e = refl
sets_left h (put_back r) j w e = rw e
sets_left h (put_in_force t) j w e = refl

pub not_fallen : (o : Bool) (z : ℤ) → (o && fell z z) ≡ false
not_fallen o z = and_right o _ (by_test (below z (pos 0)) (λ y. rw y) (λ n. rw n))

pub owed_left : (w : Option Notice) (b : Bool) (new : Notice) → b ≡ false → or_owed w b new ≡ w
owed_left None b new e = rw e
owed_left (Some n) b new e = refl

pub notice_left : (h : History) (c : Call) (j : ℕ) → Ruled h → concerns h c j ≡ false → notice (then h c) j ≡ notice h j
notice_left h c j R e =
    owed_left _ _ _ (ap (λ r. is_open h j && fell (ratio_now h j) r) (ratio_left h c j R e) ∙ not_fallen (is_open h j) (ratio_now h j))
    ∙ sets_left h c j (notice h j) (unsettled h c j e)

unchanged : (h : History) (c : Call) (j : ℕ) → Ruled h → concerns h c j ≡ false → Unchanged h (then h c) j
unchanged h c j R e = record {
  same_holding = holding_left h c j R e;
  same_figures = ap (λ s. figures_of s (holding (then h c) j)) (sheet_left h c j (in_force h) e) ∙ ap (figures_of (in_force h)) (holding_left h c j R e);
  same_notice = notice_left h c j R e;
}

untouched : (q : History) (c : Call) (a : Answer) (j : ℕ) → Ruled q → concerns q c j ≡ false → Unchanged q (asked q c a) j
untouched q c (refused n) j R e = record { same_holding = refl; same_figures = refl; same_notice = refl }
untouched q c accepted j R e = unchanged q c j R e
untouched q c (told f) j R e = let u = unchanged q c j R e in record { same_holding = u.same_holding; same_figures = u.same_figures; same_notice = u.same_notice }
untouched q c (given w) j R e = let u = unchanged q c j R e in record { same_holding = u.same_holding; same_figures = u.same_figures; same_notice = u.same_notice }

pub others_untouched : (h : History) → Ruled h → OthersUntouched h
others_untouched h R q c a m j e = untouched q c a j (at_moment (asked q c a) m R).0 e

-- ---- the worst case
pub worst_left : (h : History) (c : Call) (j : ℕ) → Ruled h → concerns h c j ≡ false → worst_now (then h c) j ≡ worst_now h j
worst_left h c j R e = ap (λ s. worst s (holding (then h c) j)) (sheet_left h c j (in_force h) e) ∙ ap (worst (in_force h)) (holding_left h c j R e)

-- ---- a new sheet
new_sheet_leaves : (q : History) (t : Sheet) (a : Answer) (j : ℕ) → Ruled q → holding (asked q (put_in_force t) a) j ≡ holding q j
new_sheet_leaves q t accepted j R = holding_left q (figures 0) j R refl
new_sheet_leaves q t (told f) j R = holding_left q (figures 0) j R refl
new_sheet_leaves q t (given w) j R = holding_left q (figures 0) j R refl
new_sheet_leaves q t (refused n) j R = refl

pub new_sheets_move_nothing : (h : History) → Ruled h → NewSheetsMoveNothing h
new_sheets_move_nothing h R q t a m j = new_sheet_leaves q t a j (at_moment _ m R).0

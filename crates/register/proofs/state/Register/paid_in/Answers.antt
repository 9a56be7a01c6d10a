use Rattle.std.proofs.Common.{◌≡◌, ℕ, is_some, ◌≤◌, length, pos, Err, sym, ap, ◌∙◌, w64, to_z, rules}
use Rattle.book.proofs.Refusals.{not_refused}
use Rattle.register.specs.State.{currencies, portfolio}
use Rattle.register.proofs.Store.{written_as}
use Rattle.register.proofs.Payments.{not_moved, is_moved, pays, in_over, in_done}
use Rattle.register.proofs.state.Register.paid_in.Goals as goal

pub returns-in_default-moved-clause-answer : goal.returns-in_default-moved-clause-answer
returns-in_default-moved-clause-answer c =
    let i = c.in-Some-place_of.place in
    let long : length (currencies c.args.self.now) ≤ length c.in-Some.before.cash = search rules in
    let is : to_z w64 c.args.payment.amount ≡ pos c.args.payment.amount = search rules in
    let over = not_moved c.in-Some.before.cash i _ (pos c.args.payment.amount) is c.in_default-moved.ensures.cash in
    ap Err c.into-in_default-moved.ensures ∙ in_over c.args.self.now _ _ i c.in-Some.before (sym c.in-Some.ensures.value) c.in-Some-place_of.ensures long c.args.payment.amount (not_refused _ 0 _ c.in_ok-check.ensures) over

pub returns : goal.returns
returns c =
    let i = c.in-Some-place_of.place in
    let long : length (currencies c.args.self.now) ≤ length c.in-Some.before.cash = search rules in
    let is : to_z w64 c.args.payment.amount ≡ pos c.args.payment.amount = search rules in
    let m = is_moved c.in-Some.before.cash i _ (pos c.args.payment.amount) is c.in-Some-moved.after.cash c.in-Some-moved.ensures.cash in
    let there = sym c.in-Some.ensures.value in
    let s = c.in-Some-place_of.ensures in
    record {
      answer = in_done c.args.self.now _ _ i c.in-Some.before there s long c.args.payment.amount (not_refused _ 0 _ c.in_ok-check.ensures) m.0;
      after = record { «open» = ap (λ (j : ℕ). is_some (portfolio c.args.self.now j)) (c.in-Some-moved.ensures.number ∙ c.in-Some.ensures.keyed) ∙ ap is_some there; writes = λ t w. pays c.args.self.now _ _ i c.in-Some.before there s long (pos c.args.payment.amount) t (written_as _ t c.in-Some-moved.after _ _ (c.in-Some-moved.ensures.number ∙ c.in-Some.ensures.keyed) m.1 w) };
    }

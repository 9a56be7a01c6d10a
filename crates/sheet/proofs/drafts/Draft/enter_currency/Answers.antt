use Rattle.std.proofs.Common.{Ok, Err, refl, ap, ◌∙◌, arith}
use Rattle.sheet.specs.Drafts.{InOrder}
use Rattle.sheet.proofs.Entering.{sought, entered, full, room, put_in}
use Rattle.sheet.proofs.drafts.Draft.enter_currency.Goals as goal

pub returns-in_default-clause-answer : goal.returns-in_default-clause-answer
returns-in_default-clause-answer c o =
    let stands = sought c.args.self.now c.args.table.now _ _ (Ok _) o c.entries.ensures c.in_default.ensures.sought in
    ap Err c.into.ensures ∙ entered c.args.self.now c.args.table.now c.args.currency _ c.in_ok-check_currency.ensures o _ stands

pub returns-then-self-min-clause-answer : goal.returns-then-self-min-clause-answer
returns-then-self-min-clause-answer c o =
    let gap = sought c.args.self.now c.args.table.now _ _ (Err _) o c.entries.ensures c.in-Err.ensures.sought in
    ap Err c.into-then-self-min.ensures ∙ full c.args.self.now c.args.table.now c.args.currency _ c.in_ok-check_currency.ensures o _ gap (omega arith)

pub returns : goal.returns
returns c =
    let gap = λ (o : InOrder c.args.self.now c.args.table.now). sought c.args.self.now c.args.table.now _ _ (Err _) o c.entries.ensures c.in-Err.ensures.sought in
    record {
      answer = λ o. room c.args.self.now c.args.table.now c.args.currency _ c.in_ok-check_currency.ensures o _ (gap o) (omega arith);
      tables = λ o. put_in c.args.self.now c.args.table.now c.args.currency _ c.in_ok-check_currency.ensures o _ _ _ (gap o) refl (omega arith) (omega arith) c.add.ensures.records c.add.ensures.free;
    }

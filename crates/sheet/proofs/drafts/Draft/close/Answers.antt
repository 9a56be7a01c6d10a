use Rattle.sheet.proofs.Closing.{refused, closed, as_closed}
use Rattle.sheet.proofs.drafts.Draft.close.Goals as goal

pub returns-then-is_incomplete-clause-answer : goal.returns-then-is_incomplete-clause-answer
returns-then-is_incomplete-clause-answer c = refused c.args.self c.args.table.now _ c.entries-entries.ensures _ c.if-is_incomplete.ensures c.into.ensures

pub returns : goal.returns
returns c =
    record {
      answer = closed c.args.self c.args.table.now _ c.entries-entries.ensures c.if-is_incomplete.ensures;
      closed = as_closed c.args.self c.args.table.now _ c.entries-entries.ensures c.if-is_incomplete.ensures;
    }

use Rattle.std.proofs.Common.{Err, arith}
use Rattle.keyed.proofs.Lookups.{lookup_gap}
use Rattle.finding.specs.declared.Row.{Row}
use Rattle.finding.proofs.InUse.{in_use}
use Rattle.finding.proofs.find_row.Goals as goal

pub returns-in-Err : goal.returns-in-Err
returns-in-Err c = record {
  found = λ up l. absurd (omega arith);
  missing = λ up l. lookup_gap (λ (x : Row). x.code) _ c.args.code _ (in_use c.args.rows.now c.args.used _ c.args.code (Err _) c.min.ensures c.in-Err.ensures.sought up);
}

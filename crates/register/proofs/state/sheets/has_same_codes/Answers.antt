use Rattle.std.proofs.Common.{◌==◌, rules, sym, ◌∙◌}
use Rattle.std.proofs.lemmas.Bool.{ne_eqb}
use Rattle.std.proofs.lemmas.Iterator.{YieldsList-from_slice, YieldsList-from_zip}
use Rattle.std.proofs.lemmas.Iterator.Search.{all_from_yields_List}
use borrow.Author.Tests.{tests}
use Rattle.register.proofs.SameCodes.{other_length, zipped}
use Rattle.register.proofs.state.sheets.has_same_codes.Goals as goal

pub returns-then-ours-theirs : goal.returns-then-ours-theirs
returns-then-ours-theirs c =
    let ours = c.args.ours.now in
    let theirs = c.args.theirs.now in
    all_from_yields_List (λ p. p.0.code == p.1.code) c.all.new.self _ c.all.result c.all.ensures.ran (YieldsList-from_zip (YieldsList-from_slice ours cc) (YieldsList-from_slice theirs cc)) (λ x b q k. search (rules, tests))
    ∙ zipped ours theirs c.if-ours-theirs.true

pub returns-else-ours-theirs : goal.returns-else-ours-theirs
returns-else-ours-theirs c = ne_eqb _ _ c.if-ours-theirs.false ∙ sym (other_length c.args.ours.now c.args.theirs.now c.if-ours-theirs.false)

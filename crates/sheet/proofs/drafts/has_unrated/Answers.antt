use Rattle.std.proofs.Common.{◌∙◌, rules, tests}
use Rattle.std.proofs.lemmas.Iterator.{YieldsList-from_slice}
use Rattle.std.proofs.lemmas.Iterator.Search.{any_from_yields_List}
use Rattle.margin.specs.Cash.{cash_sheet}
use Rattle.sheet.specs.Drafts.{unrated}
use Rattle.sheet.proofs.Searches.{any_is}
use Rattle.sheet.proofs.drafts.has_unrated.Goals as goal

pub returns : goal.returns
returns c =
    let test = unrated (cash_sheet c.args.entries.now) in
    any_from_yields_List test _ _ _ c.any.ensures.ran (YieldsList-from_slice c.args.entries.now cc) (λ x b q k. search (rules, tests)) ∙ any_is test c.args.entries.now

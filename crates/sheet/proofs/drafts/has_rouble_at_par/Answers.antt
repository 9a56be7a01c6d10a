use Rattle.std.proofs.Common.{◌∙◌, rules, tests}
use Rattle.std.proofs.lemmas.Iterator.{YieldsList-from_slice}
use Rattle.std.proofs.lemmas.Iterator.Search.{any_from_yields_List}
use Rattle.sheet.specs.Drafts.{at_par}
use Rattle.sheet.proofs.Searches.{any_is}
use Rattle.sheet.proofs.drafts.has_rouble_at_par.Goals as goal

pub returns : goal.returns
returns c = any_from_yields_List at_par _ _ _ c.any.ensures.ran (YieldsList-from_slice c.args.entries.now cc) (λ x b q k. search (rules, tests)) ∙ any_is at_par c.args.entries.now

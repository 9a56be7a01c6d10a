use Rattle.std.proofs.Common.{sym, ◌∙◌}
use Rattle.margin.specs.Keys.{instrument_code}
use Rattle.valuation.proofs.Found.{found, missing}
use Rattle.valuation.proofs.listing.Listing.at.Goals as goal

pub returns-in_err-at : goal.returns-in_err-at
returns-in_err-at c =
    c.from_residual.ensures ∙ missing instrument_code c.args.self.now.instruments.now c.args.code c.args.self.now.rising c.find.result (c.find.ensures.sought c.args.self.now.rising) (sym c.ok.ensures.value ∙ c.in_err-at.was)

pub returns : goal.returns
returns c = found instrument_code c.args.self.now.instruments.now c.args.code c.args.self.now.rising c.find.result (c.find.ensures.sought c.args.self.now.rising) c.in_ok-at.at (sym c.ok.ensures.value ∙ c.in_ok-at.was) _

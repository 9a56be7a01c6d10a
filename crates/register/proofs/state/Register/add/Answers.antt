use Rattle.std.proofs.Common.{refl}
use Rattle.register.proofs.Store.{added_as}
use Rattle.register.proofs.state.Register.add.Goals as goal

pub returns : goal.returns
returns c = added_as c.args.self.now _ c.empty.result _ c.empty.ensures.number refl c.empty.ensures.cash c.requires c.insert.result c.insert.ensures

use Rattle.std.proofs.Common.{refl}
use Rattle.register.proofs.Store.{written}
use Rattle.register.proofs.state.Register.post.Goals as goal

pub returns : goal.returns
returns c = written c.args.self.now _ _ c.replace.result refl c.requires c.replace.ensures

use Rattle.std.proofs.Common.{refl}
use Rattle.tree_transaction.proofs.NodeLaws.{make_stays, make_made}
use Rattle.tree_transaction.proofs.transaction.Transaction.make.Goals as goal

pub returns-clause-known : goal.returns-clause-known
returns-clause-known c = make_stays c.args.self.now _ c.args.place c.args.cached c.requires.known c.requires.free c.requires.node c.requires.fresh refl refl c.in_ok-put_cached.ensures.cached_nodes c.in_ok-put_node.ensures.image

pub returns-clause-made : goal.returns-clause-made
returns-clause-made c = make_made c.args.self.now _ c.args.place c.args.cached c.requires.known c.requires.free c.requires.node c.requires.fresh refl refl c.in_ok-put_cached.ensures.cached_nodes c.in_ok-put_node.ensures.image

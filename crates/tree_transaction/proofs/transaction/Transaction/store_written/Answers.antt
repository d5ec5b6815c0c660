use Rattle.std.proofs.Common.{◌∙◌, refl, sym}
use Rattle.tree_transaction.specs.Transactions.{cached_nodes_of}
use Rattle.tree_transaction.proofs.BackLaws.{laid_again, put_again}
use Rattle.tree_transaction.proofs.KnownLaws.{put-back}
use Rattle.tree_transaction.proofs.transaction.Transaction.store_written.Goals as goal

pub returns-in_ok-put_cached-clause-stands : goal.returns-in_ok-put_cached-clause-stands
returns-in_ok-put_cached-clause-stands c =
    let is = c.rerun.new.cached in
    laid_again c.args.self.now _ c.args.place c.args.written.cached c.args.self.now.places c.args.self.now.updates
    (record { is = is; put = c.in_ok-put_cached.ensures.cached_nodes ∙ sym (put-back (cached_nodes_of c.args.self.now) c.args.place is); same = refl; laid = c.in_ok-rerun.ensures.laid })

pub returns-in_ok-store_node-clause-stands : goal.returns-in_ok-store_node-clause-stands
returns-in_ok-store_node-clause-stands c =
    let has = c.requires.same c.if-written.false in
    put_again c.args.self.now c.store_node.new.self c.args.place c.args.written.cached c.args.self.now.places c.args.self.now.updates has.is_cached has.apart
    (c.in_ok-store_node.ensures.cached_nodes ∙ sym (put-back (cached_nodes_of c.args.self.now) c.args.place c.args.written.cached)) c.store_node.ensures.nodes c.store_node.ensures.places c.in_ok-store_node.ensures.node

use Rattle.std.proofs.Common.{◌∙◌, ap, sym, length, arith}
use Rattle.layout.specs.CachedNodes.{CachedNode}
use Rattle.tree_transaction.specs.Transactions.{cached_nodes_of}
use Rattle.tree_transaction.proofs.BackLaws.{laid_again, put_again}
use Rattle.tree_transaction.proofs.KnownLaws.{put-back}
use Rattle.tree_transaction.proofs.transaction.Transaction.store_cut.Goals as goal

pub returns-in_ok-store_node_and_runs-clause-stands : goal.returns-in_ok-store_node_and_runs-clause-stands
returns-in_ok-store_node_and_runs-clause-stands c =
    let back = c.in_ok-store_node_and_runs.ensures.back in
    laid_again c.args.self.now c.store_node_and_runs.new.self c.args.place c.args.cached c.args.self.now.places c.args.self.now.updates
    (record { is = back.is; put = back.put ∙ sym (put-back (cached_nodes_of c.args.self.now) c.args.place back.is); same = back.same; laid = back.laid })

pub returns-in_ok-store_node-clause-stands : goal.returns-in_ok-store_node-clause-stands
returns-in_ok-store_node-clause-stands c =
    let has = c.requires.same (omega (arith, c.if-len-before.false, c.len.ensures, ap (λ (one : CachedNode). length one.blocks) c.cached.view_is)) in
    put_again c.args.self.now c.store_node.new.self c.args.place c.args.cached c.args.self.now.places c.args.self.now.updates has.is_cached has.apart
    (c.in_ok-store_node.ensures.cached_nodes ∙ sym (put-back (cached_nodes_of c.args.self.now) c.args.place c.args.cached)) c.store_node.ensures.nodes c.store_node.ensures.places c.in_ok-store_node.ensures.node

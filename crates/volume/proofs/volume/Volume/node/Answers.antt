use Rattle.std.proofs.Common.{◌≡◌, ◌≤◌, ◌+◌, ℕ, length, ap, arith}
use Rattle.journal.specs.Journal.{log_of}
use Rattle.journal.specs.Log.{contents}
use Rattle.tree_transaction.proofs.KnownLaws.{cached_at}
use Rattle.inode.specs.Fields.{most_entries}
use Rattle.layout.specs.CachedNodes.{CachedNode}
use Rattle.layout.specs.Known.{IsCached}
use Rattle.layout.specs.Marks.{mark_by}
use Rattle.layout.specs.Stands.{current_version}
use Rattle.model_tree.specs.Seats.Seats.{no_seats}
use Rattle.volume.specs.Views.{volume_state}
use Rattle.volume.proofs.NodeLaws.{node_there, none_there}
use Rattle.volume.proofs.ServeLaws.{if_some_so}
use Rattle.volume.proofs.volume.Volume.node.Goals as goal

pub returns-in_err-place-clause-none : goal.returns-in_err-place-clause-none
unfolding volume_state
returns-in_err-place-clause-none g c =
    let volume = c.args.self.now in
    rw c.from_residual.ensures (none_there (contents (log_of volume.store.journal)) volume.table c.args.number c.in_err-place.ensures.none)

pub returns-clause-some : goal.returns-clause-some
unfolding volume_state
returns-clause-some g c =
    let volume = c.args.self.now in
    if_some_so c.cached.result _ _
    (λ cached_node there. node_there (contents (log_of volume.store.journal)) volume.table c.in_ok-place.place c.args.number cached_node.now volume.known.are_cached_nodes.apart there c.in_ok-place.ensures.some)
    c.cached.ensures.some

pub returns-clause-fit : goal.returns-clause-fit
returns-clause-fit g c =
    let volume = c.args.self.now in
    let nodes = volume.limits.nodes in
    if_some_so c.cached.result _ _
    (λ cached_node there. cached_at nodes (mark_by (148 + nodes) volume.places) volume.table c.in_ok-place.place cached_node.now volume.known.are_cached_nodes there)
    c.cached.ensures.some

-- a node has no more entries than its form has room for
few_of : (place : ℕ) (cached_node : CachedNode) → IsCached cached_node → cached_node.form ≡ (current_version no_seats).form place → length cached_node.fields.acl ≤ 72
few_of place cached_node fit form = (let most : most_entries cached_node.form ≡ 72 = ap most_entries form in omega (arith, fit.fits.acl, most))

pub returns-clause-few : goal.returns-clause-few
returns-clause-few g c =
    let volume = c.args.self.now in
    let nodes = volume.limits.nodes in
    if_some_so c.cached.result _ _
    (λ cached_node there. few_of c.in_ok-place.place cached_node.now
    (cached_at nodes (mark_by (148 + nodes) volume.places) volume.table c.in_ok-place.place cached_node.now volume.known.are_cached_nodes there)
    (volume.known.forms c.in_ok-place.place cached_node.now there))
    c.cached.ensures.some

use Rattle.std.proofs.Common.{◌≡◌, ◌+◌, ◌∙◌, List, Option, Some, set, refl, ap, subst}
use Rattle.disk.specs.Moments.{Image, applied}
use Rattle.inode.specs.Fields.{IsInode}
use Rattle.inode.specs.Encoding.{inode_sector}
use Rattle.model_tree.specs.Trees.Edit.{Show}
use Rattle.layout.specs.CachedNodes.{CachedNode}
use Rattle.tree_transaction.specs.Blocks.{IsSectorPut}
use Rattle.tree_transaction.specs.Nodes.{metadata_of, fields_showing, showing}
use Rattle.tree_transaction.proofs.KnownLaws.{put-back, edits, turns}
use Rattle.tree_transaction.proofs.NodeLaws.{fits_at, show_stays, show_now, show_made}
use Rattle.tree_transaction.proofs.transaction.Transaction.show.Goals as goal

module _ (c : goal.In_ok-put_cached) where
  abbrev was : CachedNode
  was = c.in_ok-cached.cached

  abbrev now : CachedNode
  now = showing (metadata_of c.args.metadata.now) was

  fits : IsInode was.form (fields_showing was.fields (metadata_of c.args.metadata.now))
  fits = fits_at c.args.self.now.cached_nodes.cached_nodes c.args.place (metadata_of c.args.metadata.now) was c.requires.node c.in_ok-cached.ensures.cached

  put : (image : Image) → IsSectorPut (applied c.args.self.now.updates image) (applied c.put_node.new.updates image) (148 + c.args.place) (inode_sector now.form now.fields)
  put image = subst (λ (one : CachedNode). IsSectorPut (applied c.args.self.now.updates image) (applied c.put_node.new.updates image) (148 + c.args.place) (inode_sector one.form one.fields)) c.in_ok-show_in.ensures (c.in_ok-put_node.ensures.image image)

  cached_nodes : c.put_cached.new.cached_nodes.cached_nodes ≡ set c.args.self.now.cached_nodes.cached_nodes c.args.place (Some now)
  cached_nodes =
      c.in_ok-put_cached.ensures.cached_nodes ∙ ap (λ (one : CachedNode). set c.take_cached.new.cached_nodes.cached_nodes c.args.place (Some one)) c.in_ok-show_in.ensures
      ∙ ap (λ (l : List (Option CachedNode)). set l c.args.place (Some now)) c.in_ok-cached.ensures.cached_nodes ∙ put-back c.args.self.now.cached_nodes.cached_nodes c.args.place now

pub returns-clause-known : goal.returns-clause-known
returns-clause-known c = show_stays c.args.self.now _ c.args.place c.in_ok-cached.cached (metadata_of c.args.metadata.now) c.requires.known c.in_ok-cached.ensures.cached (fits c) refl refl (cached_nodes c) (put c)

pub returns-clause-cached_nodes : goal.returns-clause-cached_nodes
returns-clause-cached_nodes c = turns c.args.self.now _ c.args.place c.in_ok-cached.cached c.in_ok-cached.ensures.cached (showing (metadata_of c.args.metadata.now))
    (show_now c.args.self.now _ c.args.place c.in_ok-cached.cached (metadata_of c.args.metadata.now) c.requires.known c.in_ok-cached.ensures.cached (fits c) refl refl (cached_nodes c) (put c))

pub returns-clause-metadata : goal.returns-clause-metadata
returns-clause-metadata c = edits c.args.self.now _ c.args.place c.in_ok-cached.cached c.in_ok-cached.ensures.cached (λ number. Show number (metadata_of c.args.metadata.now))
    (show_made c.args.self.now _ c.args.place c.in_ok-cached.cached (metadata_of c.args.metadata.now) c.requires.known c.in_ok-cached.ensures.cached (fits c) refl refl (cached_nodes c) (put c))

use Rattle.std.proofs.Common.{◌≡◌, ◌≤◌, ◌+◌, ◌∙◌, List, Option, Some, set, refl, sym, ap, subst, arith}
use Rattle.disk.specs.Moments.{Image, applied}
use Rattle.inode.specs.Encoding.{inode_sector}
use Rattle.model_tree.specs.declared.node.NodeKind.TheVariants as kind
use Rattle.model_tree.specs.Trees.Edit.{SetSize}
use Rattle.layout.specs.CachedNodes.{CachedNode}
use Rattle.tree_transaction.specs.Blocks.{IsSectorPut}
use Rattle.tree_transaction.specs.Grown.{grown, sized}
use Rattle.tree_transaction.proofs.GrowLaws.{grow_stays, grow_now, grow_made}
use Rattle.tree_transaction.proofs.KnownLaws.{put-back, same_cached, edits, turns}
use Rattle.tree_transaction.proofs.transaction.Transaction.grow.Goals as goal

module _ (c : goal.In_ok-put_cached) where
  abbrev was : CachedNode
  was = c.in_ok-cached.cached

  same : c.requires.file.cached ≡ was
  same = same_cached c.args.self.now.cached_nodes.cached_nodes c.args.place c.requires.file.cached was c.requires.file.there c.in_ok-cached.ensures.cached

  file : was.fields.kind ≡ kind.File
  file = ap (λ (one : CachedNode). one.fields.kind) (sym same) ∙ c.requires.file.file

  longer : was.fields.size ≤ c.args.size
  longer = let e = ap (λ (one : CachedNode). one.fields.size) same in omega (arith, e, c.requires.file.longer)

  cached_nodes : c.put_cached.new.cached_nodes.cached_nodes ≡ set c.args.self.now.cached_nodes.cached_nodes c.args.place (Some (grown was c.args.size))
  cached_nodes =
      c.in_ok-put_cached.ensures.cached_nodes ∙ ap (λ (one : CachedNode). set c.take_cached.new.cached_nodes.cached_nodes c.args.place (Some one)) c.in_ok-grow_to.ensures
      ∙ ap (λ (l : List (Option CachedNode)). set l c.args.place (Some (grown was c.args.size))) c.in_ok-cached.ensures.cached_nodes ∙ put-back c.args.self.now.cached_nodes.cached_nodes c.args.place (grown was c.args.size)

  put : (image : Image) → IsSectorPut (applied c.args.self.now.updates image) (applied c.put_node.new.updates image) (148 + c.args.place) (inode_sector (grown was c.args.size).form (grown was c.args.size).fields)
  put image = subst (λ (one : CachedNode). IsSectorPut (applied c.args.self.now.updates image) (applied c.put_node.new.updates image) (148 + c.args.place) (inode_sector one.form one.fields)) c.in_ok-grow_to.ensures (c.in_ok-put_node.ensures.image image)

pub returns-clause-known : goal.returns-clause-known
returns-clause-known c =
    grow_stays c.args.self.now c.args.place c.args.size c.in_ok-cached.cached c.requires.known c.in_ok-cached.ensures.cached (file c) (longer c) c.requires.file.few _ refl refl (cached_nodes c) (put c)

pub returns-clause-cached_nodes : goal.returns-clause-cached_nodes
returns-clause-cached_nodes c = turns c.args.self.now _ c.args.place c.in_ok-cached.cached c.in_ok-cached.ensures.cached (λ cached_node. sized cached_node c.args.size)
    (grow_now c.args.self.now c.args.place c.args.size c.in_ok-cached.cached c.requires.known c.in_ok-cached.ensures.cached (file c) (longer c) c.requires.file.few _ refl refl (cached_nodes c) (put c))

pub returns-clause-grown : goal.returns-clause-grown
returns-clause-grown c = edits c.args.self.now _ c.args.place c.in_ok-cached.cached c.in_ok-cached.ensures.cached (λ number. SetSize number c.args.size)
    (grow_made c.args.self.now c.args.place c.args.size c.in_ok-cached.cached c.requires.known c.in_ok-cached.ensures.cached (file c) (longer c) c.requires.file.few _ refl refl (cached_nodes c) (put c))

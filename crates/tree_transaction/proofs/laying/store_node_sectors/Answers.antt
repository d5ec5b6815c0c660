use Rattle.std.proofs.Common.{◌∙◌, ap}
use Rattle.inode.specs.Fields.{fields_of}
use Rattle.inode.specs.Encoding.{inode_sector}
use Rattle.layout.specs.CachedNodes as layout
use Rattle.tree_transaction.proofs.LayLaws.{lays-cached}
use Rattle.tree_transaction.proofs.laying.store_node_sectors.Goals as goal

pub returns-clause-lays : goal.returns-clause-lays
returns-clause-lays c = λ image. lays-cached _ _ _ c.args.sector c.args.cached.now c.deref.result.now c.as_slice.result.now (inode_sector c.cached.inside.form (fields_of c.cached.inside.inode))
    (c.deref.ensures.value ∙ ap (λ (cached_node : layout.CachedNode). cached_node.fields.run_sectors) c.cached.view_is) (c.as_slice.ensures ∙ ap (λ (cached_node : layout.CachedNode). cached_node.runs) c.cached.view_is) c.requires.apart
    (c.in_ok-lay_runs.ensures.lays image) (ap (λ (cached_node : layout.CachedNode). inode_sector cached_node.form cached_node.fields) c.cached.view_is) (c.in_ok-put_inode.ensures.image image)

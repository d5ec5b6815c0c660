use Rattle.std.proofs.Common.{◌∙◌, ap}
use Rattle.layout.specs.CachedNodes.{CachedNode}
use Rattle.model_tree.specs.declared.limits.Limits.{Limits}
use Rattle.fs.specs.Views.{fs_of}
use Rattle.fs.proofs.AttributeLaws.{shows}
use Rattle.fs.proofs.fs.Fs.metadata.Goals as goal

pub returns-clause-shows : goal.returns-clause-shows
unfolding fs_of
returns-clause-shows g c bitmap =
    let limits = (fs_of c.args.self.now).volume.limits in
    let acl = ap (λ (it : CachedNode). it.fields.acl) c.cached.view_is in
    shows c.args.cached.now c.requires.fits limits _
    (ap (λ (it : CachedNode). it.fields.kind) c.cached.view_is) (ap (λ (it : CachedNode). it.fields.number) c.cached.view_is)
    (ap (λ (it : CachedNode). it.fields.owner) c.cached.view_is) (ap (λ (it : CachedNode). it.fields.group) c.cached.view_is)
    (c.as_slice.ensures ∙ acl)
    (ap (λ (it : CachedNode). it.fields.change) c.cached.view_is) (ap (λ (it : CachedNode). it.fields.time_modify) c.cached.view_is)
    (ap (λ (it : CachedNode). it.fields.size) c.cached.view_is)
    (ap (λ (l : Limits). l.file_bytes) c.limits-limits.ensures.limits) (ap (λ (l : Limits). l.name_bytes) c.limits-limits.ensures.limits)
    (ap (λ (l : Limits). l.transfer_bytes) c.limits-limits.ensures.limits) bitmap

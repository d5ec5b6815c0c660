use Rattle.std.proofs.Common.{◌∙◌, ap}
use Rattle.std.specs.Prelude.{nat_lt}
use Rattle.layout.specs.CachedNodes.{CachedNode}
use Rattle.fs.specs.Views.{fs_of}
use Rattle.fs.proofs.CachedNodeViews.{has_names_told}
use Rattle.fs.proofs.fs.Fs.has_names.Goals as goal

pub returns-then-is_directory : goal.returns-then-is_directory
unfolding fs_of
returns-then-is_directory g c =
    let held = (fs_of c.args.self.now).volume in
    ap (nat_lt 0) c.len.ensures.count
    ∙ has_names_told held.tree c.args.number c.in-Some.cached.now c.in-Some.ensures.some (c.is_directory.ensures.0 c.if-is_directory.true)
    c.cached.inside.names (ap (λ (it : CachedNode). it.names) c.cached.view_is)

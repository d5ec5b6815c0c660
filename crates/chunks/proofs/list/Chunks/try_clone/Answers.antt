use Rattle.std.proofs.Common.{◌∙◌}
use Rattle.chunks.proofs.Replacing.{view_same, kept_same}
use Rattle.chunks.proofs.list.Chunks.try_clone.Goals as goal

pub invariant_of-result : goal.invariant_of-result
invariant_of-result g c =
    let same = rw c.deref.ensures.value at c.in_ok-chunks.ensures in
    rw (c.in_ok-ends.ensures.items, c.deref-2.ensures.value)
    (kept_same _ c.in_ok-chunks.chunks.items c.self.inside.chunks.items c.self.inside.ends.items same c.self.invariant)

pub returns : goal.returns
returns g c =
    let same = rw c.deref.ensures.value at c.in_ok-chunks.ensures in
    view_same _ c.in_ok-chunks.chunks.items c.self.inside.chunks.items same ∙ c.self.view_is

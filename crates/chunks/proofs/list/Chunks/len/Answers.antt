use Rattle.std.proofs.Common.{length, sym, ap, ◌∙◌}
use Rattle.chunks.proofs.Places.{last_end, no_end}
use Rattle.chunks.proofs.list.Chunks.len.Goals as goal

pub returns-in-Some : goal.returns-in-Some
returns-in-Some g c =
    let is = rw c.deref.ensures.value at c.in-Some.ensures.value in
    last_end _ _ _ c.self.invariant c.in-Some.end.now (sym is) ∙ ap length c.self.view_is

pub returns-in-None : goal.returns-in-None
returns-in-None g c =
    let is = rw c.deref.ensures.value at c.in-None.ensures.value in
    no_end _ _ _ c.self.invariant (sym is) ∙ ap length c.self.view_is

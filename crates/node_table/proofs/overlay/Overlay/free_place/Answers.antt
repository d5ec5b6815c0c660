use Rattle.std.proofs.Common.{◌≡◌, ◌<◌, ℕ, false, Option, Some, None, length, sym, ap, ◌∙◌, subst}
use Rattle.std.specs.Prelude.{IfNone, is_some, not}
use Rattle.node_table.specs.Overlays.{Overlaid}
use Rattle.node_table.proofs.OverlayLaws.{changed-length}
use Rattle.node_table.proofs.overlay.Overlay.free_place.Goals as goal

if_none : {A : Type 0} {P : Type 0} (found : Option A) → is_some found ≡ false → IfNone found P → P
if_none None none holds = holds
if_none (Some it) none holds = absurd cc

pub returns-in-Some-clause-some : goal.returns-in-Some-clause-some
returns-in-Some-clause-some c =
    let free = c.in-Some.ensures.some in
    record {
      within = subst (λ (n : ℕ). c.in-Some.place < n)
          (sym (changed-length c.self.inside.table.now c.self.inside.changes.items)
          ∙ ap (λ (overlay : Overlaid). length overlay.cached_nodes) c.self.view_is)
          free.within;
      free = if_none c.cached.result (c.is_none.ensures ∙ ap not c.if-is_none.true) c.cached.ensures.none;
    }

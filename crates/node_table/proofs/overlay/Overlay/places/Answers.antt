use Rattle.std.proofs.Common.{length, sym, ap, ◌∙◌}
use Rattle.node_table.specs.Overlays.{Overlaid}
use Rattle.node_table.proofs.OverlayLaws.{changed-length}
use Rattle.node_table.proofs.overlay.Overlay.places.Goals as goal

pub returns : goal.returns
returns c = c.places.ensures.places ∙ sym (changed-length c.self.inside.table.now c.self.inside.changes.items) ∙ ap (λ (overlay : Overlaid). length overlay.cached_nodes) c.self.view_is

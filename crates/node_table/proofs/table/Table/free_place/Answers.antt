use Rattle.std.proofs.Common.{◌≡◌, ◌-◌, ℕ, List, Option, length, ap, subst, ◌∙◌}
use Rattle.std.specs.Prelude.{IfSome, slice_get}
use Rattle.layout.specs.CachedNodes.{CachedNode}
use Rattle.node_table.specs.Tables.{IsFree}
use Rattle.node_table.proofs.TableLaws.{free_found}
use Rattle.node_table.proofs.table.Table.free_place.Goals as goal

pub returns-clause-some : goal.returns-clause-some
returns-clause-some c =
    let last : c.copied.result ≡ slice_get c.self.inside.free.items (length c.self.inside.free.items - 1) =
    c.copied.ensures ∙ c.last.ensures.value ∙ ap (λ (l : List ℕ). slice_get l (length l - 1)) c.deref.ensures.value in
    subst (λ (cached_nodes : List (Option CachedNode)). IfSome c.copied.result (IsFree cached_nodes))
    c.self.view_is
    (free_found c.self.inside.cached_nodes.items c.self.inside.index.items c.self.inside.free.items c.self.inside.charge _ c.copied.result c.self.invariant.0 last)

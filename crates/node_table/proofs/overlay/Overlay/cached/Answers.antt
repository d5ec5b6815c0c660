use Rattle.std.proofs.Common.{◌≡◌, ◌≢◌, ◌<◌, ℕ, Option, Some, None, length, get_or, sym, ap, subst, ◌∙◌}
use Rattle.std.specs.Prelude.{IfSome, IfNone}
use Rattle.model_tree.specs.Trees.Keyed.{Keyed}
use Rattle.layout.specs.CachedNodes.{CachedNode}
use Rattle.node_table.specs.Overlays.{Overlaid, change_at}
use Rattle.node_table.proofs.OverlayLaws.{at-off, changed-off, read-change, lent-some, lent-none}
use Rattle.node_table.proofs.overlay.Overlay.cached.Goals as goal

pub returns-in-Some-clause-some : goal.returns-in-Some-clause-some
returns-in-Some-clause-some c =
    let changes : Keyed (Option CachedNode) = c.self.inside.changes.items in
    let within : c.in-Some.i < length changes = subst (λ (l : Keyed (Option CachedNode)). c.in-Some.i < length l) c.deref.ensures.value c.in-Some.ensures.within in
    let key : (change_at changes c.in-Some.i).0 ≡ c.args.place = subst (λ (l : Keyed (Option CachedNode)). (change_at l c.in-Some.i).0 ≡ c.args.place) c.deref.ensures.value c.in-Some.ensures.some in
    let there = read-change c.self.inside.table.now changes c.in-Some.i c.args.place c.index.result.now c.self.invariant.0 c.self.invariant.1 within key c.index.ensures in
    lent-some c.index.result.now.1 c.as_deref.result (get_or c.args.self.now.cached_nodes c.args.place None) (ap (λ (overlay : Overlaid). get_or overlay.cached_nodes c.args.place None) (sym c.self.view_is) ∙ there) c.as_deref.ensures.cases

pub returns-in-Some-clause-none : goal.returns-in-Some-clause-none
returns-in-Some-clause-none c =
    let changes : Keyed (Option CachedNode) = c.self.inside.changes.items in
    let within : c.in-Some.i < length changes = subst (λ (l : Keyed (Option CachedNode)). c.in-Some.i < length l) c.deref.ensures.value c.in-Some.ensures.within in
    let key : (change_at changes c.in-Some.i).0 ≡ c.args.place = subst (λ (l : Keyed (Option CachedNode)). (change_at l c.in-Some.i).0 ≡ c.args.place) c.deref.ensures.value c.in-Some.ensures.some in
    let there = read-change c.self.inside.table.now changes c.in-Some.i c.args.place c.index.result.now c.self.invariant.0 c.self.invariant.1 within key c.index.ensures in
    lent-none c.index.result.now.1 c.as_deref.result (get_or c.args.self.now.cached_nodes c.args.place None) (ap (λ (overlay : Overlaid). get_or overlay.cached_nodes c.args.place None) (sym c.self.view_is) ∙ there) c.as_deref.ensures.cases

pub returns-in-None-clause-some : goal.returns-in-None-clause-some
returns-in-None-clause-some c =
    let none = at-off c.self.inside.changes.items c.args.place (subst (λ (l : Keyed (Option CachedNode)). (i : ℕ) → i < length l → (change_at l i).0 ≢ c.args.place) c.deref.ensures.value c.in-None.ensures.none) in
    let there : get_or c.self.inside.table.now c.args.place None ≡ get_or c.args.self.now.cached_nodes c.args.place None =
    sym (changed-off c.self.inside.table.now c.self.inside.changes.items c.args.place none) ∙ ap (λ (overlay : Overlaid). get_or overlay.cached_nodes c.args.place None) c.self.view_is in
    subst (λ (there : Option CachedNode). IfSome c.cached.result (λ cached_node. there ≡ Some cached_node.now)) there c.cached.ensures.some

pub returns-in-None-clause-none : goal.returns-in-None-clause-none
returns-in-None-clause-none c =
    let none = at-off c.self.inside.changes.items c.args.place (subst (λ (l : Keyed (Option CachedNode)). (i : ℕ) → i < length l → (change_at l i).0 ≢ c.args.place) c.deref.ensures.value c.in-None.ensures.none) in
    let there : get_or c.self.inside.table.now c.args.place None ≡ get_or c.args.self.now.cached_nodes c.args.place None =
    sym (changed-off c.self.inside.table.now c.self.inside.changes.items c.args.place none) ∙ ap (λ (overlay : Overlaid). get_or overlay.cached_nodes c.args.place None) c.self.view_is in
    subst (λ (there : Option CachedNode). IfNone c.cached.result (there ≡ None)) there
    c.cached.ensures.none

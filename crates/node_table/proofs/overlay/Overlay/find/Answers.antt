use Rattle.std.proofs.Common.{◌≡◌, ◌≢◌, ◌<◌, ℕ, Option, Some, None, length, sym, ap, subst, ◌∙◌}
use Rattle.std.proofs.lemmas.List.{get_or_default}
use Rattle.std.specs.Prelude.{IfNone}
use Rattle.model_tree.specs.Trees.Keyed.{Keyed}
use Rattle.layout.specs.CachedNodes.{CachedNode}
use Rattle.node_table.specs.Tables.{node_number, node_number_at, HasNoNode}
use Rattle.node_table.specs.Overlays.{Overlaid, overlaid, change_at}
use Rattle.node_table.proofs.OverlayLaws.{at-off, at-some, changed-off, changed-here, has-not, has-not_changed}
use Rattle.node_table.proofs.overlay.Overlay.find.Goals as goal

none-any : (found : Option ℕ) (P : Type 0) → P → IfNone found P
none-any None P holds = holds
none-any (Some place) P holds = tt

pub returns-in-Some-clause-some : goal.returns-in-Some-clause-some
returns-in-Some-clause-some c =
    let changes : Keyed (Option CachedNode) = c.self.inside.changes.items in
    let within : c.in-Some.i < length changes = subst (λ (l : Keyed (Option CachedNode)). c.in-Some.i < length l) c.deref.ensures.value c.in-Some.ensures.within in
    let number : node_number (change_at changes c.in-Some.i).1 ≡ Some c.args.number = subst (λ (l : Keyed (Option CachedNode)). node_number (change_at l c.in-Some.i).1 ≡ Some c.args.number) c.deref.ensures.value c.in-Some.ensures.some in
    let key : (change_at changes c.in-Some.i).0 ≡ c.index.result.now.0 = ap (λ (e : ℕ × Option CachedNode). e.0) (sym (get_or_default changes c.in-Some.i c.index.result.now (0, None) within) ∙ sym c.index.ensures) in
    ap (λ (overlay : Overlaid). node_number_at overlay.cached_nodes c.index.result.now.0) (sym c.self.view_is)
    ∙ ap (node_number_at (overlaid c.self.inside.table.now changes)) (sym key)
    ∙ ap node_number (changed-here c.self.inside.table.now changes c.in-Some.i c.self.invariant.0 c.self.invariant.1 within) ∙ number

pub returns-in_err-place-clause-none : goal.returns-in_err-place-clause-none
returns-in_err-place-clause-none c =
    let none = subst (λ (l : Keyed (Option CachedNode)). (i : ℕ) → i < length l → node_number (change_at l i).1 ≢ Some c.args.number) c.deref.ensures.value c.in_default.ensures.none in
    none-any c.from_residual.result (HasNoNode c.args.self.now.cached_nodes c.args.number)
    (subst (λ (overlay : Overlaid). HasNoNode overlay.cached_nodes c.args.number) c.self.view_is (has-not c.self.inside.table.now c.self.inside.changes.items c.args.number none c.in_err-place.ensures.none))

pub returns-in-Some-change_of-clause-none : goal.returns-in-Some-change_of-clause-none
returns-in-Some-change_of-clause-none c =
    let none = subst (λ (l : Keyed (Option CachedNode)). (i : ℕ) → i < length l → node_number (change_at l i).1 ≢ Some c.args.number) c.deref.ensures.value c.in_default.ensures.none in
    let within = subst (λ (l : Keyed (Option CachedNode)). c.in-Some-change_of.field-0 < length l) c.deref-2.ensures.value c.in-Some-change_of.ensures.within in
    let key = subst (λ (l : Keyed (Option CachedNode)). (change_at l c.in-Some-change_of.field-0).0 ≡ c.in_ok-place.place) c.deref-2.ensures.value c.in-Some-change_of.ensures.some in
    let put = at-some c.self.inside.changes.items c.in_ok-place.place c.in-Some-change_of.field-0 within key in
    subst (λ (overlay : Overlaid). HasNoNode overlay.cached_nodes c.args.number) c.self.view_is
    (has-not_changed c.self.inside.table.now c.self.inside.changes.items c.args.number c.in_ok-place.place none c.in_ok-place.ensures.only c.in_ok-place.ensures.some put)

pub returns-in-None-clause-some : goal.returns-in-None-clause-some
returns-in-None-clause-some c =
    let none = at-off c.self.inside.changes.items c.in_ok-place.place (subst (λ (l : Keyed (Option CachedNode)). (i : ℕ) → i < length l → (change_at l i).0 ≢ c.in_ok-place.place) c.deref-2.ensures.value c.in-None.ensures.none) in
    ap (λ (overlay : Overlaid). node_number_at overlay.cached_nodes c.in_ok-place.place) (sym c.self.view_is)
    ∙ ap node_number (changed-off c.self.inside.table.now c.self.inside.changes.items c.in_ok-place.place none) ∙ c.in_ok-place.ensures.some

use Rattle.std.proofs.Common.{◌≡◌, ◌<◌, ℕ, Option, Some, None, length, get_or, set, sym, ap, subst, ◌∙◌}
use Rattle.std.proofs.lemmas.List.{set-get_or}
use Rattle.model_tree.specs.Trees.Keyed.{Keyed}
use Rattle.layout.specs.CachedNodes.{CachedNode}
use Rattle.node_table.specs.Tables.{node_number}
use Rattle.node_table.specs.Overlays.{Overlaid, overlaid, change_at}
use Rattle.node_table.proofs.OverlayLaws.{unchanged, changed-here, changed-exchange, own-exchange, within-exchange, changed-push, own-push, within-push}
use Rattle.node_table.proofs.TableLaws.{within-numbered}
use Rattle.node_table.proofs.overlay.Overlay.take.Goals as goal

pub invariant_of-self : goal.invariant_of-self
invariant_of-self c =
    rw c.take_from.ensures.changes (
      own-exchange c.self.inside.changes.items c.in-Some.i None c.self.invariant.0,
      within-exchange (length c.self.inside.table.now) c.self.inside.changes.items c.in-Some.i None c.self.invariant.1,
    )

pub returns-in-Some-clause-cached : goal.returns-in-Some-clause-cached
returns-in-Some-clause-cached c =
    let changes : Keyed (Option CachedNode) = c.self.inside.changes.items in
    let within : c.in-Some.i < length changes = subst (λ (l : Keyed (Option CachedNode)). c.in-Some.i < length l) c.deref.ensures.value c.in-Some.ensures.within in
    let key : (change_at changes c.in-Some.i).0 ≡ c.args.place = subst (λ (l : Keyed (Option CachedNode)). (change_at l c.in-Some.i).0 ≡ c.args.place) c.deref.ensures.value c.in-Some.ensures.some in
    c.take_from.ensures.cached ∙ sym (changed-here c.self.inside.table.now changes c.in-Some.i c.self.invariant.0 c.self.invariant.1 within)
    ∙ ap (λ (k : ℕ). get_or (overlaid c.self.inside.table.now changes) k None) key ∙ ap (λ (overlay : Overlaid). get_or overlay.cached_nodes c.args.place None) c.self.view_is

pub returns-in-Some-clause-cached_nodes : goal.returns-in-Some-clause-cached_nodes
returns-in-Some-clause-cached_nodes c =
    let changes : Keyed (Option CachedNode) = c.self.inside.changes.items in
    let within : c.in-Some.i < length changes = subst (λ (l : Keyed (Option CachedNode)). c.in-Some.i < length l) c.deref.ensures.value c.in-Some.ensures.within in
    let key : (change_at changes c.in-Some.i).0 ≡ c.args.place = subst (λ (l : Keyed (Option CachedNode)). (change_at l c.in-Some.i).0 ≡ c.args.place) c.deref.ensures.value c.in-Some.ensures.some in
    ap (overlaid c.self.inside.table.now) c.take_from.ensures.changes ∙ changed-exchange c.self.inside.table.now changes c.in-Some.i None c.self.invariant.0 within
    ∙ ap (λ (k : ℕ). set (overlaid c.self.inside.table.now changes) k None) key ∙ ap (λ (overlay : Overlaid). set overlay.cached_nodes c.args.place None) c.self.view_is

pub returns-in_default-cached-clause-cached : goal.returns-in_default-cached-clause-cached
returns-in_default-cached-clause-cached c =
    let there = unchanged c.self.inside.table.now c.self.inside.changes.items c.deref.result.now c.args.self.now c.args.place c.deref.ensures.value c.self.view_is c.in_default.ensures.none in
    sym (there.same ∙ c.in_default-cached.ensures.none)

pub returns-in_default-cached-clause-cached_nodes : goal.returns-in_default-cached-clause-cached_nodes
returns-in_default-cached-clause-cached_nodes c =
    let there = unchanged c.self.inside.table.now c.self.inside.changes.items c.deref.result.now c.args.self.now c.args.place c.deref.ensures.value c.self.view_is c.in_default.ensures.none in
    sym (ap (set c.args.self.now.cached_nodes c.args.place) (sym (there.same ∙ c.in_default-cached.ensures.none)) ∙ set-get_or c.args.self.now.cached_nodes c.args.place None)

pub invariant_of-self-2 : goal.invariant_of-self-2
invariant_of-self-2 c =
    let there = unchanged c.self.inside.table.now c.self.inside.changes.items c.deref.result.now c.args.self.now c.args.place c.deref.ensures.value c.self.view_is c.in_default.ensures.none in
    let cached_node = c.in-Some-cached.cached.now in
    let within = within-numbered c.self.inside.table.now c.args.place cached_node.fields.number (ap node_number c.in-Some-cached.ensures.some) in
    rw c.in_ok-push.ensures.items (
      own-push c.self.inside.changes.items c.args.place None c.self.invariant.0 there.none,
      within-push (length c.self.inside.table.now) c.self.inside.changes.items c.args.place None c.self.invariant.1 within,
    )

pub returns-clause-cached : goal.returns-clause-cached
returns-clause-cached c =
    let there = unchanged c.self.inside.table.now c.self.inside.changes.items c.deref.result.now c.args.self.now c.args.place c.deref.ensures.value c.self.view_is c.in_default.ensures.none in
    sym (there.same ∙ c.in-Some-cached.ensures.some ∙ ap (λ (cached_node : CachedNode). Some cached_node) (sym c.in_ok-cached.ensures))

pub returns-clause-cached_nodes : goal.returns-clause-cached_nodes
returns-clause-cached_nodes c =
    let there = unchanged c.self.inside.table.now c.self.inside.changes.items c.deref.result.now c.args.self.now c.args.place c.deref.ensures.value c.self.view_is c.in_default.ensures.none in
    ap (overlaid c.self.inside.table.now) c.in_ok-push.ensures.items ∙ changed-push c.self.inside.table.now c.self.inside.changes.items c.args.place None there.none
    ∙ ap (λ (overlay : Overlaid). set overlay.cached_nodes c.args.place None) c.self.view_is

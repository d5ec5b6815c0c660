use Rattle.std.proofs.Common.{◌≡◌, ◌<◌, ℕ, Option, None, length, get_or, set, ap, subst, ◌∙◌, arith}
use Rattle.model_tree.specs.Trees.Keyed.{Keyed}
use Rattle.layout.specs.CachedNodes.{CachedNode}
use Rattle.node_table.specs.Overlays.{Overlaid, overlaid, change_at}
use Rattle.node_table.proofs.OverlayLaws.{unchanged, changed-length, changed-exchange, own-exchange, within-exchange, changed-push, own-push, within-push}
use Rattle.node_table.proofs.overlay.Overlay.put.Goals as goal

pub invariant_of-self : goal.invariant_of-self
invariant_of-self c =
    rw c.put_into.ensures (
      own-exchange c.self.inside.changes.items c.in-Some.i c.args.cached c.self.invariant.0,
      within-exchange (length c.self.inside.table.now) c.self.inside.changes.items c.in-Some.i c.args.cached c.self.invariant.1,
    )

pub returns-in-Some-clause-cached_nodes : goal.returns-in-Some-clause-cached_nodes
returns-in-Some-clause-cached_nodes c =
    let changes : Keyed (Option CachedNode) = c.self.inside.changes.items in
    let within : c.in-Some.i < length changes = subst (λ (l : Keyed (Option CachedNode)). c.in-Some.i < length l) c.deref.ensures.value c.in-Some.ensures.within in
    let key : (change_at changes c.in-Some.i).0 ≡ c.args.place = subst (λ (l : Keyed (Option CachedNode)). (change_at l c.in-Some.i).0 ≡ c.args.place) c.deref.ensures.value c.in-Some.ensures.some in
    ap (overlaid c.self.inside.table.now) c.put_into.ensures ∙ changed-exchange c.self.inside.table.now changes c.in-Some.i c.args.cached c.self.invariant.0 within
    ∙ ap (λ (k : ℕ). set (overlaid c.self.inside.table.now changes) k c.args.cached) key ∙ ap (λ (overlay : Overlaid). set overlay.cached_nodes c.args.place c.args.cached) c.self.view_is

pub invariant_of-self-in-Continue-1 : goal.invariant_of-self-in-Continue-1
invariant_of-self-in-Continue-1 c =
    let there = unchanged c.self.inside.table.now c.self.inside.changes.items c.deref.result.now c.args.self.now c.args.place c.deref.ensures.value c.self.view_is c.in-None.ensures.none in
    let within : c.args.place < length c.self.inside.table.now =
    omega (arith, c.requires, ap (λ (overlay : Overlaid). length overlay.cached_nodes) c.self.view_is, changed-length c.self.inside.table.now c.self.inside.changes.items) in
    rw c.in_ok-push-in-None.ensures.items (
      own-push c.self.inside.changes.items c.args.place c.args.cached c.self.invariant.0 there.none,
      within-push (length c.self.inside.table.now) c.self.inside.changes.items c.args.place c.args.cached c.self.invariant.1 within,
    )

pub returns-in_err-push-in-None-clause-again : goal.returns-in_err-push-in-None-clause-again
returns-in_err-push-in-None-clause-again c other =
    let there = unchanged c.self.inside.table.now c.self.inside.changes.items c.deref.result.now c.args.self.now c.args.place c.deref.ensures.value c.self.view_is c.in-None.ensures.none in
    absurd (other (there.same ∙ ap (λ (overlay : Overlaid). get_or overlay.table c.args.place None) c.self.view_is))

pub returns-in_ok-push-in-None-clause-cached_nodes : goal.returns-in_ok-push-in-None-clause-cached_nodes
returns-in_ok-push-in-None-clause-cached_nodes c =
    let there = unchanged c.self.inside.table.now c.self.inside.changes.items c.deref.result.now c.args.self.now c.args.place c.deref.ensures.value c.self.view_is c.in-None.ensures.none in
    ap (overlaid c.self.inside.table.now) c.in_ok-push-in-None.ensures.items ∙ changed-push c.self.inside.table.now c.self.inside.changes.items c.args.place c.args.cached there.none
    ∙ ap (λ (overlay : Overlaid). set overlay.cached_nodes c.args.place c.args.cached) c.self.view_is

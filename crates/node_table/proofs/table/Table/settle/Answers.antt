use Rattle.std.proofs.Common.{◌≡◌, ◌<◌, ℕ, List, [], ◌∷◌, ◌++◌, Option, Some, None, length, ap, sym, subst, ◌∙◌, refl, arith}
use Rattle.std.proofs.lemmas.List.{length-append, nil_from_length}
use Rattle.model_tree.specs.Trees.Keyed.{Keyed}
use Rattle.layout.specs.CachedNodes.{CachedNode}
use Rattle.node_table.specs.Overlays.{overlaid}
use Rattle.node_table.proofs.OverlayLaws.{IsSettling, settle-fresh, settle-step}
use Rattle.node_table.proofs.table.Table.settle.Goals as goal

pub loop-place-init : goal.loop-place-init
loop-place-init c = record {
  can = c.requires;
  leads = ap (overlaid c.args.self.now) c.changes.view_is;
  own = c.changes.invariant;
}

-- the loop's state, if the last change of the list is this one
taken : (cached_nodes target : List (Option CachedNode)) (old left : Keyed (Option CachedNode)) (place : ℕ) (cached_node same : Option CachedNode) → IsSettling cached_nodes target old → old ≡ left ++ (place, cached_node) ∷ [] → cached_node ≡ same
    → IsSettling cached_nodes target (left ++ (place, same) ∷ [])
taken cached_nodes target old left place cached_node same settling is e = subst (IsSettling cached_nodes target) (is ∙ ap (λ (k : Option CachedNode). left ++ (place, k) ∷ []) e) settling

shorter : (old left : Keyed (Option CachedNode)) (change : ℕ × Option CachedNode) → old ≡ left ++ change ∷ [] → length left < length old
shorter old left change is = omega (arith, ap length is, length-append left (change ∷ []))

pub put-requires : goal.put-requires
put-requires c low before =
    settle-fresh c.loop-place.self (overlaid c.args.self.now c.args.changes) c.pop.new.self.items c.in-Some.place (Some c.in-Some-cached.cached)
    (taken c.loop-place.self (overlaid c.args.self.now c.args.changes) c.loop-place.list.items c.pop.new.self.items c.in-Some.place c.in-Some.cached (Some c.in-Some-cached.cached) c.loop-place.invariant c.in-Some.ensures.items c.in-Some-cached.is)
    c.in-Some-cached.cached.fields.number refl low before

pub loop-place-smaller-in-Some-cached : goal.loop-place-smaller-in-Some-cached
loop-place-smaller-in-Some-cached c = shorter c.loop-place.list.items c.pop.new.self.items (c.in-Some.place, c.in-Some.cached) c.in-Some.ensures.items

pub loop-place-preserved-in-Some-cached : goal.loop-place-preserved-in-Some-cached
loop-place-preserved-in-Some-cached c =
    rw c.put.ensures (settle-step c.loop-place.self (overlaid c.args.self.now c.args.changes) c.pop.new.self.items c.in-Some.place (Some c.in-Some-cached.cached)
    (taken c.loop-place.self (overlaid c.args.self.now c.args.changes) c.loop-place.list.items c.pop.new.self.items c.in-Some.place c.in-Some.cached (Some c.in-Some-cached.cached) c.loop-place.invariant c.in-Some.ensures.items c.in-Some-cached.is))

pub loop-place-smaller : goal.loop-place-smaller
loop-place-smaller c = shorter c.loop-place.list.items c.pop.new.self.items (c.in-Some.place, c.in-Some.cached) c.in-Some.ensures.items

pub loop-place-preserved : goal.loop-place-preserved
loop-place-preserved c =
    rw c.vacate.ensures (settle-step c.loop-place.self (overlaid c.args.self.now c.args.changes) c.pop.new.self.items c.in-Some.place None
    (taken c.loop-place.self (overlaid c.args.self.now c.args.changes) c.loop-place.list.items c.pop.new.self.items c.in-Some.place c.in-Some.cached None c.loop-place.invariant c.in-Some.ensures.items c.in-None.is))

pub returns : goal.returns
returns c =
    let cases = c.in_default.ensures.cases in
    let none : c.loop-place.list.items ≡ [] = nil_from_length c.loop-place.list.items (omega (arith, cases, c.loop-place.list.ok)) in
    ap (overlaid c.loop-place.self) (sym none) ∙ c.loop-place.invariant.leads

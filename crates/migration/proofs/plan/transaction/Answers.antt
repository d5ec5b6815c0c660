use Rattle.std.proofs.Common.{◌≡◌, ◌≤◌, ◌+◌, ◌-◌, ◌++◌, ◌∙◌, ◌∷◌, [], ℕ, suc, List, Option, Some, None, Vec, Global, get_or, sym, ap, arith}
use Rattle.std.proofs.lemmas.List.{append-nil}
use Rattle.disk.specs.declared.update.Update.{Update}
use Rattle.layout.specs.CachedNodes.{CachedNode}
use Rattle.migration.specs.Plans.{moved_node}
use Rattle.migration.proofs.Transactions.{nodes_of, nodes_more}
use Rattle.migration.proofs.plan.transaction.Goals as goal
use Rattle.migration.proofs.plan.transaction.Goals.{in-Some+in_ok-push, in_default}

pub moved_node-requires-clause-fit : goal.moved_node-requires-clause-fit
moved_node-requires-clause-fit c = c.requires.fit c.loop-place.place c.in-Some.cached.now c.in-Some.ensures.some

-- one more place, which holds this
more : (cached_nodes : List (Option CachedNode)) (from place : ℕ) (cached_node : Option CachedNode) (updates : List Update) → from ≤ place → get_or cached_nodes place None ≡ cached_node
    → updates ≡ nodes_of cached_nodes from (place - from) ++ moved_node place cached_node → updates ≡ nodes_of cached_nodes from (place + 1 - from)
more cached_nodes from place cached_node updates low there are =
    are
    ∙ ap (λ (one : Option CachedNode). nodes_of cached_nodes from (place - from) ++ moved_node place one) (sym there)
    ∙ ap (λ (p : ℕ). nodes_of cached_nodes from (place - from) ++ moved_node p (get_or cached_nodes p None)) (let q : place ≡ from + (place - from) = omega arith in q)
    ∙ sym (nodes_more cached_nodes from (place - from))
    ∙ ap (nodes_of cached_nodes from) (let q : suc (place - from) ≡ place + 1 - from = omega arith in q)

pub loop-place-preserved : goal.loop-place-preserved
loop-place-preserved c =
    let nodes = nodes_of c.args.table.now c.args.from (c.loop-place.place - c.args.from) in
    elim c.match-cached.branch [
      | in-Some+in_ok-push w ↦ more c.args.table.now c.args.from c.loop-place.place (Some w.in-Some.cached.now) c.match-cached.updates.items c.loop-place.auto.place w.in-Some.ensures.some
          (ap (λ (v : Vec Update Global). v.items) w.updates-is ∙ w.in_ok-push.ensures.items
          ∙ ap (λ (l : List Update). l ++ w.moved_node.result ∷ []) c.loop-place.invariant
          ∙ ap (λ (l : List Update). nodes ++ l) (sym w.moved_node.ensures))
      | in_default w ↦ more c.args.table.now c.args.from c.loop-place.place None c.match-cached.updates.items c.loop-place.auto.place w.in_default.ensures.none
          (ap (λ (v : Vec Update Global). v.items) w.updates-is ∙ c.loop-place.invariant ∙ sym (append-nil nodes))
    ]

use Rattle.std.proofs.Common.{◌∙◌, List, Option, ap, sym}
use Rattle.node_table.specs.Overlays.{Overlaid, overlaid}
use Rattle.tree_edits.proofs.OutcomeLaws.{IsBegun, comes_to}
use Rattle.tree_edits.proofs.outcome.outcome_of.Goals as goal
use Rattle.layout.specs.CachedNodes.{CachedNode}

pub returns-clause-done : goal.returns-clause-done
returns-clause-done g c =
    let S = g.S.Sectors in
    let kept = S.kept c.args.base.now in
    let table = c.args.table.now in
    let transaction = c.in_ok-transaction.transaction in
    let mid = c.edit_all.new.transaction in
    let last = c.finish.new.self in
    let outcome = c.into_prepared.result in
    let begun : IsBegun transaction table c.args.places.now = record {
      no_updates = c.in_ok-transaction.ensures.updates;
      nodes_are = c.in_ok-transaction.ensures.nodes;
      places_are = c.in_ok-transaction.ensures.places;
      cached_nodes_are = c.in_ok-transaction.ensures.cached_nodes;
    } in
    let table_is = ap (λ (over : Overlaid). over.table) c.finish.ensures.cached_nodes ∙ c.edit_all.ensures.kept.1 ∙ c.in_ok-transaction.ensures.table in
    comes_to c.args.marking (S.size kept) table c.args.places.now c.requires.whole transaction begun S.keeps_word (S.image kept) c.args.edits.now mid last outcome
    c.in_ok-edit_all.ensures.done.does c.in_ok-finish.ensures.laid (ap (λ (over : Overlaid). over.cached_nodes) c.finish.ensures.cached_nodes)
    (ap (λ (cached_nodes : List (Option CachedNode)). overlaid cached_nodes outcome.changes) (sym table_is) ∙ c.into_prepared.ensures.changes)
    c.into_prepared.ensures.updates (c.into_prepared.ensures.places ∙ c.finish.ensures.places)
    c.in_ok-finish.ensures.targets c.in_ok-finish.ensures.count c.in_ok-edit_all.ensures.done.parts

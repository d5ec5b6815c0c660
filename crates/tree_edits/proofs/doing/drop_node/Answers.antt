use Rattle.std.proofs.Common.{List, [], Option, sym, subst, arith}
use Rattle.tree_transaction.specs.Transactions.{cached_nodes_of}
use Rattle.tree_edits.specs.Doing.{AreMade}
use Rattle.layout.specs.CachedNodes.{CachedNode}
use Rattle.layout.specs.Stands.{HaveCurrentForms}
use Rattle.model_tree.specs.Trees.Edit.{DropNode}
use Rattle.tree_edits.proofs.DoingLaws.{over_number, dropped, all_ok}
use Rattle.tree_edits.proofs.PlaceLaws.{IsThere, there_at, made_none, none_forms}
use Rattle.tree_edits.proofs.doing.drop_node.Goals as goal

pub free-requires-clause-node : goal.free-requires-clause-node
free-requires-clause-node c =
    let it = there_at (cached_nodes_of c.args.transaction.now) c.place_of-place.result c.args.number c.place_of-place.ensures in
    record { cached = it.cached; there = it.there }

pub returns-clause-done : goal.returns-clause-done
returns-clause-done c =
    let old = c.args.transaction.now in
    let new = c.free.new.self in
    let place = c.place_of-place.result in
    let it : IsThere (cached_nodes_of old) place c.args.number = there_at (cached_nodes_of old) place c.args.number c.place_of-place.ensures in
    all_ok c.free.result c.free.ensures.known c.free.ensures.cached_nodes c.free.ensures.freed
    (λ known cached_nodes freed base size. record {
      known = known;
      outline = dropped old new c.requires.known place c.args.number it cached_nodes;
      forms = λ forms. subst HaveCurrentForms (sym cached_nodes) (none_forms (cached_nodes_of old) place forms);
      made = subst (λ (now : List (Option CachedNode)). AreMade (cached_nodes_of old) now []) (sym cached_nodes) (made_none (cached_nodes_of old) place []);
      tree = λ word is. over_number old new c.requires.known place c.args.number it base size DropNode (λ cached_node there. freed cached_node there base size) is;
      count = omega (arith, c.free.ensures.count);
    })

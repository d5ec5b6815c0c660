use Rattle.std.proofs.Common.{◌+◌, ℕ, [], refl, subst, arith}
use Rattle.directory.specs.Records.{record_from}
use Rattle.tree_transaction.specs.Transactions.{cached_nodes_of, MakesOver}
use Rattle.tree_transaction.specs.Naming.{without_name}
use Rattle.layout.specs.Marks.{mark_by}
use Rattle.model_tree.specs.Trees.Edit.{DropName, name_dropped}
use Rattle.tree_edits.proofs.DoingLaws.{turned, turned_forms, turned_made, node_unnamed, all_ok}
use Rattle.tree_edits.proofs.NamedLaws.{has_name, names_without, entry_there}
use Rattle.tree_edits.proofs.PlaceLaws.{IsThere, there_at, directory_there, directory_key}
use Rattle.tree_edits.specs.Outlines.{tree_without_data}
use Rattle.tree_edits.proofs.doing.drop_name.Goals as goal

pub place_of-place-requires : goal.place_of-place-requires
place_of-place-requires c = directory_key (tree_without_data (cached_nodes_of c.args.transaction.now)) c.args.directory c.requires.can.there

pub drop_name-requires-clause-names : goal.drop_name-requires-clause-names
drop_name-requires-clause-names c =
    let old = c.args.transaction.now in
    let it : IsThere (cached_nodes_of old) c.place_of-place.result c.args.directory = there_at (cached_nodes_of old) c.place_of-place.result c.args.directory c.place_of-place.ensures in
    let is = directory_there (cached_nodes_of old) c.requires.known.cached_nodes.apart c.place_of-place.result c.args.directory it c.requires.can.there in
    has_name old.nodes (mark_by (148 + old.nodes) old.places) (cached_nodes_of old) c.requires.known.cached_nodes c.place_of-place.result c.args.directory it is c.args.stamp c.args.name.now c.requires.can

pub returns-clause-done : goal.returns-clause-done
returns-clause-done c =
    let old = c.args.transaction.now in
    let new = c.drop_name.new.self in
    let place = c.place_of-place.result in
    let name = c.args.name.now in
    let it : IsThere (cached_nodes_of old) place c.args.directory = there_at (cached_nodes_of old) place c.args.directory c.place_of-place.ensures in
    let is = directory_there (cached_nodes_of old) c.requires.known.cached_nodes.apart place c.args.directory it c.requires.can.there in
    let mark = mark_by (148 + old.nodes) old.places in
    let names = names_without old.nodes mark (cached_nodes_of old) c.requires.known.cached_nodes place c.args.directory it is c.args.stamp name c.requires.can in
    let entry = entry_there old.nodes mark (cached_nodes_of old) c.requires.known.cached_nodes place c.args.directory it is c.args.stamp name c.requires.can in
    all_ok c.drop_name.result c.drop_name.ensures.known c.drop_name.ensures.cached_nodes c.drop_name.ensures.dropped
    (λ known turns drops base size. record {
      known = known;
      outline = turned old new c.requires.known place c.args.directory it (without_name name) (turns it.cached it.there) refl (name_dropped c.args.stamp) (node_unnamed name c.args.stamp it.cached is names);
      forms = turned_forms old new c.requires.known place c.args.directory it (without_name name) (turns it.cached it.there) refl refl;
      made = turned_made old new c.requires.known place c.args.directory it (without_name name) (turns it.cached it.there) refl [];
      tree = λ word laid. subst (λ (n : ℕ). MakesOver base size old new (DropName n c.args.stamp)) it.number_is
          (drops it.cached (record_from c.args.stamp name c.requires.can.number) it.there entry base size) laid;
      count = omega (arith, c.drop_name.ensures.count);
    })

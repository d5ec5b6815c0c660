use Rattle.std.proofs.Common.{◌+◌, [], refl, arith}
use Rattle.directory.specs.Records.{record_from}
use Rattle.tree_transaction.specs.Transactions.{cached_nodes_of}
use Rattle.tree_transaction.specs.Naming.{with_name, blocks_named}
use Rattle.layout.specs.Marks.{mark_by}
use Rattle.model_tree.specs.Trees.Edit.{PutName, name_put}
use Rattle.tree_edits.proofs.DoingLaws.{over_number, turned, turned_forms, turned_made, node_named, all_ok}
use Rattle.tree_edits.proofs.NamedLaws.{room_there, can_name, names_with, named_charge}
use Rattle.tree_edits.proofs.PlaceLaws.{IsThere, there_at, directory_there, directory_key}
use Rattle.tree_edits.specs.Outlines.{tree_without_data}
use Rattle.tree_edits.proofs.RoomLaws.{no_room}
use Rattle.tree_edits.proofs.doing.put_name.Goals as goal

pub place_of-place-requires : goal.place_of-place-requires
place_of-place-requires c = directory_key (tree_without_data (cached_nodes_of c.args.transaction.now)) c.args.directory c.requires.can.there

pub put_name-requires-clause-names : goal.put_name-requires-clause-names
put_name-requires-clause-names c =
    let old = c.args.transaction.now in
    let it : IsThere (cached_nodes_of old) c.place_of-place.result c.args.directory = there_at (cached_nodes_of old) c.place_of-place.result c.args.directory c.place_of-place.ensures in
    let is = directory_there (cached_nodes_of old) c.requires.known.cached_nodes.apart c.place_of-place.result c.args.directory it c.requires.can.there in
    can_name old.nodes (mark_by (148 + old.nodes) old.places) (cached_nodes_of old) c.requires.known.cached_nodes c.place_of-place.result c.args.directory it is c.args.stamp c.args.name.now c.args.number c.requires.can
    (room_there old.nodes (mark_by (148 + old.nodes) old.places) (cached_nodes_of old) c.requires.known.cached_nodes c.place_of-place.result c.args.directory it is c.args.stamp c.args.name.now c.args.number c.requires.can c.requires.few)

pub returns-clause-done : goal.returns-clause-done
returns-clause-done c =
    let old = c.args.transaction.now in
    let new = c.put_name.new.self in
    let place = c.place_of-place.result in
    let entry = record_from c.args.stamp c.args.name.now c.args.number in
    let it : IsThere (cached_nodes_of old) place c.args.directory = there_at (cached_nodes_of old) place c.args.directory c.place_of-place.ensures in
    let is = directory_there (cached_nodes_of old) c.requires.known.cached_nodes.apart place c.args.directory it c.requires.can.there in
    let names = names_with old.nodes (mark_by (148 + old.nodes) old.places) (cached_nodes_of old) c.requires.known.cached_nodes place c.args.directory it is c.args.stamp c.args.name.now c.args.number c.requires.can in
    all_ok c.put_name.result c.put_name.ensures.known c.put_name.ensures.cached_nodes c.put_name.ensures.put
    (λ known turns puts base size. record {
      known = known;
      outline = turned old new c.requires.known place c.args.directory it (with_name entry) (turns it.cached it.there) refl (name_put entry.0 entry.1) (node_named entry it.cached is names);
      forms = turned_forms old new c.requires.known place c.args.directory it (with_name entry) (turns it.cached it.there) refl refl;
      made = turned_made old new c.requires.known place c.args.directory it (with_name entry) (turns it.cached it.there) refl [];
      tree = λ word is. over_number old new c.requires.known place c.args.directory it base size (λ to. PutName to entry.0 entry.1) (λ cached_node there. puts cached_node there base size) is;
      count = omega (arith, c.put_name.ensures.count);
    })

pub returns-clause-full : goal.returns-clause-full
returns-clause-full c = λ full.
    let old = c.args.transaction.now in
    let place = c.place_of-place.result in
    let it : IsThere (cached_nodes_of old) place c.args.directory = there_at (cached_nodes_of old) place c.args.directory c.place_of-place.ensures in
    let is = directory_there (cached_nodes_of old) c.requires.known.cached_nodes.apart place c.args.directory it c.requires.can.there in
    record {
      count = 1;
      within = omega arith;
      full = no_room old c.requires.known place c.args.directory it (name_put c.args.stamp (record { name = c.args.name.now; number = c.args.number })) blocks_named (c.put_name.ensures.full full)
          (named_charge old.nodes (mark_by (148 + old.nodes) old.places) (cached_nodes_of old) c.requires.known.cached_nodes place c.args.directory it is c.args.stamp c.args.name.now c.args.number c.requires.can);
    }

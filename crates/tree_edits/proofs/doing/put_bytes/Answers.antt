use Rattle.std.proofs.Common.{◌+◌, [], refl, arith, length}
use Rattle.tree_transaction.specs.Transactions.{cached_nodes_of}
use Rattle.tree_transaction.specs.Grown.{reaching, blocks_to}
use Rattle.layout.specs.Marks.{mark_by}
use Rattle.model_tree.specs.Trees.Edit.{PutBytes, with_content, overwritten}
use Rattle.model_tree.specs.Trees.Tree.{Node, File, bytes_of}
use Rattle.tree_edits.proofs.DoingLaws.{over_number, turned, turned_forms, turned_made, node_written, all_four, under}
use Rattle.tree_edits.proofs.FileLaws.{is_file, can_write, written_charge}
use Rattle.tree_edits.proofs.PlaceLaws.{IsThere, there_at}
use Rattle.tree_edits.proofs.RoomLaws.{no_room}
use Rattle.tree_edits.proofs.doing.put_bytes.Goals as goal

pub place_of-place-requires : goal.place_of-place-requires
place_of-place-requires g c = c.requires.can.there

pub write-requires-clause-file : goal.write-requires-clause-file
write-requires-clause-file g c =
    let old = c.args.transaction.now in
    let it : IsThere (cached_nodes_of old) c.place_of-place.result c.args.file = there_at (cached_nodes_of old) c.place_of-place.result c.args.file c.place_of-place.ensures in
    can_write (cached_nodes_of old) old.nodes (mark_by (148 + old.nodes) old.places) c.requires.known.0.cached_nodes c.place_of-place.result c.args.file (c.args.offset + length c.args.bytes.now) it c.requires.can

pub returns-clause-done : goal.returns-clause-done
returns-clause-done g c =
    let old = c.args.transaction.now in
    let new = c.write.new.self in
    let place = c.place_of-place.result in
    let bytes = c.args.bytes.now in
    let end = c.args.offset + length bytes in
    let known = c.requires.known.0 in
    let it : IsThere (cached_nodes_of old) place c.args.file = there_at (cached_nodes_of old) place c.args.file c.place_of-place.ensures in
    let is = is_file (cached_nodes_of old) old.nodes (mark_by (148 + old.nodes) old.places) known.cached_nodes place c.args.file end it c.requires.can in
    all_four c.write.result c.write.ensures.known c.write.ensures.cached_nodes c.write.ensures.count (under _ c.write.result c.write.ensures.tree)
    (λ stays turns count writes. record {
      known = stays;
      outline = turned old new known place c.args.file it (reaching end) (turns it.cached it.there) refl (λ (node : Node). with_content node (File (overwritten (bytes_of node.content) c.args.offset bytes))) (node_written c.args.offset bytes it.cached is);
      forms = turned_forms old new known place c.args.file it (reaching end) (turns it.cached it.there) refl refl;
      made = turned_made old new known place c.args.file it (reaching end) (turns it.cached it.there) refl [];
      tree = λ word. over_number old new known place c.args.file it _ _ (λ number. PutBytes number c.args.offset bytes) (writes word);
      count = omega (arith, count);
    })

pub returns-clause-full : goal.returns-clause-full
returns-clause-full g c = λ full.
    let old = c.args.transaction.now in
    let place = c.place_of-place.result in
    let bytes = c.args.bytes.now in
    let end = c.args.offset + length bytes in
    let it : IsThere (cached_nodes_of old) place c.args.file = there_at (cached_nodes_of old) place c.args.file c.place_of-place.ensures in
    let is = is_file (cached_nodes_of old) old.nodes (mark_by (148 + old.nodes) old.places) c.requires.known.0.cached_nodes place c.args.file end it c.requires.can in
    record {
      count = 1;
      within = omega arith;
      full = no_room old c.requires.known.0 place c.args.file it (λ (node : Node). with_content node (File (overwritten (bytes_of node.content) c.args.offset bytes))) (blocks_to end) (c.write.ensures.full full)
          (written_charge it.cached c.args.offset bytes is);
    }

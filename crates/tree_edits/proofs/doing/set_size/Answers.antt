use Rattle.std.proofs.Common.{◌+◌, [], refl, arith}
use Rattle.tree_transaction.specs.Transactions.{cached_nodes_of}
use Rattle.tree_transaction.specs.Grown.{sized}
use Rattle.layout.specs.CachedNodes.{CachedNode}
use Rattle.layout.specs.Marks.{mark_by}
use Rattle.model_tree.specs.Trees.Edit.{SetSize, with_content, resized}
use Rattle.model_tree.specs.Trees.Tree.{Node, File, bytes_of}
use Rattle.tree_edits.proofs.DoingLaws.{over_number, turned, turned_forms, turned_made, node_sized, all_four, under}
use Rattle.tree_edits.proofs.FileLaws.{is_file, can_grow, can_cut}
use Rattle.tree_edits.proofs.PlaceLaws.{IsThere, there_at}
use Rattle.tree_edits.proofs.doing.set_size.Goals as goal

pub place_of-place-requires : goal.place_of-place-requires
place_of-place-requires g c = c.requires.can.there

pub truncate-requires-clause-file : goal.truncate-requires-clause-file
truncate-requires-clause-file g c =
    let old = c.args.transaction.now in
    let it : IsThere (cached_nodes_of old) c.place_of-place.result c.args.file = there_at (cached_nodes_of old) c.place_of-place.result c.args.file c.place_of-place.ensures in
    can_cut (cached_nodes_of old) old.nodes (mark_by (148 + old.nodes) old.places) c.requires.known.0.cached_nodes c.place_of-place.result c.args.file c.args.size it c.requires.can
    (let same = c.size_at.ensures it.cached it.there in omega (arith, same))

pub grow-requires-clause-file : goal.grow-requires-clause-file
grow-requires-clause-file g c =
    let old = c.args.transaction.now in
    let it : IsThere (cached_nodes_of old) c.place_of-place.result c.args.file = there_at (cached_nodes_of old) c.place_of-place.result c.args.file c.place_of-place.ensures in
    can_grow (cached_nodes_of old) old.nodes (mark_by (148 + old.nodes) old.places) c.requires.known.0.cached_nodes c.place_of-place.result c.args.file c.args.size it c.requires.can
    (let same = c.size_at.ensures it.cached it.there in omega (arith, same))

pub returns-then-size-size_at-clause-done : goal.returns-then-size-size_at-clause-done
returns-then-size-size_at-clause-done g c =
    let old = c.args.transaction.now in
    let new = c.truncate.new.self in
    let place = c.place_of-place.result in
    let size = c.args.size in
    let known = c.requires.known.0 in
    let it : IsThere (cached_nodes_of old) place c.args.file = there_at (cached_nodes_of old) place c.args.file c.place_of-place.ensures in
    let is = is_file (cached_nodes_of old) old.nodes (mark_by (148 + old.nodes) old.places) known.cached_nodes place c.args.file size it c.requires.can in
    let turn : CachedNode → CachedNode = λ cached_node. sized cached_node size in
    all_four c.truncate.result c.truncate.ensures.known c.truncate.ensures.cached_nodes c.truncate.ensures.count (under _ c.truncate.result c.truncate.ensures.tree)
    (λ stays turns count cuts. record {
      known = stays;
      outline = turned old new known place c.args.file it turn (turns it.cached it.there) refl (λ (node : Node). with_content node (File (resized (bytes_of node.content) size))) (node_sized size it.cached is);
      forms = turned_forms old new known place c.args.file it turn (turns it.cached it.there) refl refl;
      made = turned_made old new known place c.args.file it turn (turns it.cached it.there) refl [];
      tree = λ word. over_number old new known place c.args.file it _ _ (λ number. SetSize number size) (cuts word);
      count = omega (arith, count);
    })

pub returns-clause-done : goal.returns-clause-done
returns-clause-done g c =
    let old = c.args.transaction.now in
    let new = c.grow.new.self in
    let place = c.place_of-place.result in
    let size = c.args.size in
    let known = c.requires.known.0 in
    let it : IsThere (cached_nodes_of old) place c.args.file = there_at (cached_nodes_of old) place c.args.file c.place_of-place.ensures in
    let is = is_file (cached_nodes_of old) old.nodes (mark_by (148 + old.nodes) old.places) known.cached_nodes place c.args.file size it c.requires.can in
    let turn : CachedNode → CachedNode = λ cached_node. sized cached_node size in
    record {
      known = c.in_ok-grow.ensures.known;
      outline = turned old new known place c.args.file it turn (c.in_ok-grow.ensures.cached_nodes it.cached it.there) refl (λ (node : Node). with_content node (File (resized (bytes_of node.content) size))) (node_sized size it.cached is);
      forms = turned_forms old new known place c.args.file it turn (c.in_ok-grow.ensures.cached_nodes it.cached it.there) refl refl;
      made = turned_made old new known place c.args.file it turn (c.in_ok-grow.ensures.cached_nodes it.cached it.there) refl [];
      tree = λ word. over_number old new known place c.args.file it _ _ (λ number. SetSize number size) (λ cached_node there. c.in_ok-grow.ensures.grown cached_node there _ _);
      count = omega (arith, c.grow.ensures.count);
    }

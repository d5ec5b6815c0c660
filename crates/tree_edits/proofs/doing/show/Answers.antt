use Rattle.std.proofs.Common.{◌+◌, [], refl, arith}
use Rattle.tree_transaction.specs.Transactions.{cached_nodes_of}
use Rattle.tree_transaction.specs.Nodes.{metadata_of, showing as showing_cached}
use Rattle.layout.specs.Marks.{mark_by}
use Rattle.tree_transaction.proofs.KnownLaws.{cached_at}
use Rattle.model_tree.specs.Trees.Edit.{Show, showing}
use Rattle.tree_edits.proofs.DoingLaws.{over_number, turned, turned_forms, turned_made, node_showing, all_ok, metadata_fits}
use Rattle.tree_edits.proofs.PlaceLaws.{IsThere, there_at}
use Rattle.tree_edits.proofs.doing.show.Goals as goal

pub show-requires-clause-node : goal.show-requires-clause-node
show-requires-clause-node c =
    let old = c.args.transaction.now in
    let it = there_at (cached_nodes_of old) c.place_of-place.result c.args.number c.place_of-place.ensures in
    record {
      cached = it.cached;
      there = it.there;
      fits = metadata_fits it.cached c.args.metadata.now
          (cached_at old.nodes (mark_by (148 + old.nodes) old.places) (cached_nodes_of old) c.place_of-place.result it.cached c.requires.known.cached_nodes it.there) (c.requires.forms c.place_of-place.result it.cached it.there) c.requires.can.entries;
    }

pub returns-clause-done : goal.returns-clause-done
returns-clause-done c =
    let old = c.args.transaction.now in
    let new = c.show.new.self in
    let place = c.place_of-place.result in
    let metadata = metadata_of c.args.metadata.now in
    let it : IsThere (cached_nodes_of old) place c.args.number = there_at (cached_nodes_of old) place c.args.number c.place_of-place.ensures in
    all_ok c.show.result c.show.ensures.known c.show.ensures.cached_nodes c.show.ensures.metadata
    (λ known turns shows base size. record {
      known = known;
      outline = turned old new c.requires.known place c.args.number it (showing_cached metadata) (turns it.cached it.there) refl (showing metadata) (node_showing metadata it.cached);
      forms = turned_forms old new c.requires.known place c.args.number it (showing_cached metadata) (turns it.cached it.there) refl refl;
      made = turned_made old new c.requires.known place c.args.number it (showing_cached metadata) (turns it.cached it.there) refl [];
      tree = λ word is. over_number old new c.requires.known place c.args.number it base size (λ number. Show number metadata) (λ cached_node there. shows cached_node there base size) is;
      count = omega (arith, c.show.ensures.count);
    })

use Rattle.extent_tree.specs.Held.{entries_by}
use Rattle.extent_tree.proofs.Cuts.{kept_push, push_grows}
use Rattle.extent_tree.proofs.Maps.{items_of, inserted_other}
use Rattle.extent_tree.proofs.cutting.keep_index.Goals as goal

pub returns-clause-changed : goal.returns-clause-changed
returns-clause-changed c =
    kept_push (entries_by items_of c.args.nodes.now) (entries_by items_of c.insert.new.self) c.args.entry.sector c.args.changed.now.items c.push-2.new.self.items c.in_ok-push-2.ensures.items (inserted_other c.args.nodes.now c.insert.new.self c.args.entry.sector c.in_ok-new.field-0 c.in_ok-insert.ensures.updates)

pub returns-clause-grows : goal.returns-clause-grows
returns-clause-grows c = push_grows c.args.entry.sector c.args.changed.now.items c.push-2.new.self.items c.in_ok-push-2.ensures.items

use Rattle.std.proofs.Common.{inl, refl, rules}
use Rattle.fs.specs.Opening.{IsFileToOpen, NameLeadsTo}
use Rattle.fs.specs.Views.{fs_of}
use Rattle.fs.proofs.OpenTests.{leads_to_node, node_above}
use Rattle.fs.proofs.fs.Fs.file_to_open.Goals as goal
use Rattle.model_tree.specs.Trees.Stamp.{next_stamp}
use Rattle.volume.proofs.ViewLaws.{volume_formed}

pub returns-in-Some : goal.returns-in-Some
unfolding fs_of
returns-in-Some g c =
    let tree = (fs_of c.args.self.now).volume.tree in
    let number = c.in-Some.number in
    let formed = volume_formed c.args.self.now.volume in
    let named : NameLeadsTo tree c.args.asked.directory c.args.asked.name.now number = record { is_there = search rules; number_is = search rules } in
    let is : IsFileToOpen (fs_of c.args.self.now) c.args.asked number = search rules in
    (number, is, inl (refl, node_above _ _ tree formed number (leads_to_node _ _ tree formed c.args.asked.directory number c.args.asked.name.now named)))

-- the next change makes it
pub returns-in-None : goal.returns-in-None
unfolding fs_of
returns-in-None g c =
    let fs = fs_of c.args.self.now in
    let own = next_stamp fs.volume.run fs.changes in
    let is : IsFileToOpen fs c.args.asked own = search rules in
    (own, is, c.next_stamp.ensures)

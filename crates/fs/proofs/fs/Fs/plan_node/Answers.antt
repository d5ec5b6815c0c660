use Rattle.model_tree.specs.declared.status.Status.TheVariants as status
use Rattle.fs.specs.Views.{fs_of}
use Rattle.fs.proofs.NodePlans as plans
use Rattle.volume.specs.Views.{volume_state}
use Rattle.volume.proofs.LimitLaws.{limited_of}
use Rattle.fs.proofs.fs.Fs.plan_node.Goals as goal

pub returns-clause-planned : goal.returns-clause-planned
unfolding fs_of volume_state
returns-clause-planned g c =
    let fs = fs_of c.args.self.now in
    let new = c.args.new in
    plans.planned_where fs (c.args.self.now.ready c.requires.up) c.args.self.now.counted (limited_of c.args.self.now.volume) c.args.now new.directory new.name new.kind new.size c.args.metadata
    c.in_ok-directory_metadata.directory_metadata c.args.parent.now c.requires.parent c.requires.size c.requires.made c.requires.entries c.args.stamp c.in_ok-edits.edits.items
    c.requires.stamp c.in_ok-directory_metadata.ensures c.in_ok-edits.ensures c.requires.room

pub returns-clause-after : goal.returns-clause-after
unfolding fs_of volume_state
returns-clause-after g c =
    let fs = fs_of c.args.self.now in
    let new = c.args.new in
    plans.after fs (c.args.self.now.ready c.requires.up) c.args.self.now.counted (limited_of c.args.self.now.volume) c.args.now new.directory new.name new.kind new.size c.args.metadata
    c.in_ok-directory_metadata.directory_metadata c.args.parent.now c.requires.parent c.requires.size c.requires.made c.requires.entries c.args.stamp c.in_ok-edits.edits.items
    c.requires.stamp c.in_ok-directory_metadata.ensures c.in_ok-edits.ensures

use Rattle.std.proofs.Common.{◌∙◌, ap}
use Rattle.model_tree.specs.declared.node.NodeKind.{NodeKind}
use Rattle.fs.specs.Making.{first_content, tree_with}
use Rattle.fs.specs.Views.{fs_of}
use Rattle.fs.proofs.NodePlans as plans
use Rattle.volume.specs.Views.{volume_state}
use Rattle.fs.proofs.fs.Fs.stamp_for_node.Goals as goal

pub stamp_for-requires : goal.stamp_for-requires
unfolding fs_of volume_state
stamp_for-requires g c =
    let new = c.args.new in
    plans.directory_measured (fs_of c.args.self.now) (c.args.self.now.ready c.requires.up) new.directory new.name new.kind c.args.parent.now c.requires.parent c.blank_metadata.result

pub stamp_for-requires-in-File : goal.stamp_for-requires-in-File
unfolding fs_of volume_state
stamp_for-requires-in-File g c =
    let new = c.args.new in
    plans.file_measured (fs_of c.args.self.now) (c.args.self.now.ready c.requires.up) new.directory new.name new.kind c.args.parent.now c.requires.parent c.blank_metadata.result new.size

pub returns-in-Directory-clause-tests : goal.returns-in-Directory-clause-tests
unfolding fs_of volume_state
returns-in-Directory-clause-tests g c node now may content =
    let fs = fs_of c.args.self.now in
    let new = c.args.new in
    c.stamp_for.ensures.tests (tree_with fs new.directory new.name.now node now)
    (plans.directory_room fs (c.args.self.now.ready c.requires.up) new.directory new.name new.kind c.args.parent.now c.requires.parent c.blank_metadata.result now node
    (content ∙ ap (λ (of : NodeKind). first_content of new.size) c.in-Directory.is) c.in-Directory.is)

pub returns-in-File-clause-tests : goal.returns-in-File-clause-tests
unfolding fs_of volume_state
returns-in-File-clause-tests g c node now may content =
    let fs = fs_of c.args.self.now in
    let new = c.args.new in
    c.stamp_for-in-File.ensures.tests (tree_with fs new.directory new.name.now node now)
    (plans.file_room fs (c.args.self.now.ready c.requires.up) new.directory new.name new.kind c.args.parent.now c.requires.parent c.blank_metadata.result now node new.size
    (content ∙ ap (λ (of : NodeKind). first_content of new.size) c.in-File.is))

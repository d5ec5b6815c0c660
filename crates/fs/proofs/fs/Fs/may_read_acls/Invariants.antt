use Rattle.std.proofs.Common.{◌≡◌, ℕ}
use Rattle.std.specs.List.{list_all}
use Rattle.directory.specs.Rest.{rest_of}
use Rattle.fs.specs.Views.{fs_of}
use Rattle.model_tree.specs.Trees.Keyed.{at}
use Rattle.model.specs.Operations.ReadDir.{may_read_acl}
use Rattle.model_tree.specs.Trees.Tree.{DirEntry}
use Rattle.fs.proofs.fs.Fs.may_read_acls.Given as goal

abbrev pub invariant-loop-entry : goal.invariant-loop-entry
invariant-loop-entry g l =
    (goal.iterator-loop-entry g).can_next l.entry-iterator ×
    (goal.iterator-loop-entry g).is_finite l.entry-iterator ×
    (list_all (λ (name : ℕ × DirEntry). may_read_acl l.cred (at name.1.number (fs_of l.self).volume.tree)) (rest_of l.fn.names)
    ≡ list_all (λ (name : ℕ × DirEntry). may_read_acl l.cred (at name.1.number (fs_of l.self).volume.tree)) (rest_of l.entry-iterator))

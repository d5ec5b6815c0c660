use Rattle.std.proofs.Common.{◌≡◌, drop}
use Rattle.volume.specs.Edits.{put_by}
use Rattle.volume.proofs.parent_calls.put_by.Given as goal

abbrev pub invariant-loop-edit : goal.invariant-loop-edit
invariant-loop-edit l = put_by (drop l.edit-index l.edits) ≡ put_by l.edits

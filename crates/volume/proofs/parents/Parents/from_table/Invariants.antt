use Rattle.volume.proofs.ParentNotes.{AreNoted}
use Rattle.volume.proofs.parents.Parents.from_table.Given as goal

abbrev pub invariant-loop-place : goal.invariant-loop-place
invariant-loop-place l = AreNoted l.table l.numbers.items l.place

use Rattle.std.proofs.Common.{take}
use Rattle.layout.specs.SumLaws.{numbers_of}
use Rattle.volume.specs.ParentNotes.{IsNoted}
use Rattle.volume.proofs.parents.note_names.Given as goal

abbrev pub invariant-loop-i : goal.invariant-loop-i
invariant-loop-i l = IsNoted l.table l.initial.numbers.items l.numbers.items (take l.i (numbers_of l.names)) l.directory

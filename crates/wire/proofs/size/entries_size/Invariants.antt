use Rattle.std.proofs.Common.{◌≡◌, length, take}
use Rattle.wire.specs.AnswerViews.{links_of}
use Rattle.wire.proofs.size.entries_size.Given as goal

abbrev pub invariant-loop-entry : goal.invariant-loop-entry
invariant-loop-entry l = l.size ≡ length (links_of (take l.entry-index l.entries))

use Rattle.std.proofs.Common.{◌≡◌, take}
use Rattle.wire.proofs.created.copied.Given as goal

abbrev pub invariant-loop-word : goal.invariant-loop-word
invariant-loop-word l = l.copy ≡ take l.word-index l.words

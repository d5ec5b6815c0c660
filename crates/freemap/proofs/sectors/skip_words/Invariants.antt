use Rattle.std.proofs.Common.{◌≤◌, ◌*◌, ◌-◌}
use Rattle.freemap.specs.Kept.{IsSetBelow}
use Rattle.freemap.proofs.sectors.skip_words.Given as goal

abbrev pub invariant-loop-word : goal.invariant-loop-word
invariant-loop-word l = record { within : l.word ≤ l.words; below : IsSetBelow l.bits (64 * l.word) }

abbrev pub decreases-loop-word : goal.decreases-loop-word
decreases-loop-word l = l.words - l.word

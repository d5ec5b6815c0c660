use Rattle.wire.proofs.Entries.{entries_fit}
use Rattle.wire.proofs.outcome.Answer.write.Goals as goal

pub write-requires-in-ReadDir : goal.write-requires-in-ReadDir
write-requires-in-ReadDir c = let fits = rw c.in-ReadDir.is at c.requires in entries_fit c.in-ReadDir.a.entries.items fits.1.0

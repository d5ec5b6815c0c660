-- What the operations on a file's bytes return.
use Rattle.std.specs.Prelude.{ℕ}
use Rattle.std.specs.Int.{w64, to_be_bytes}
use Rattle.model.specs.Operations.Answer.{Answer}
use Rattle.model.specs.Operations.Files.{committed_as}

-- WRITE, in this run of the server: this count of bytes was taken
abbrev pub written_answer : (run stable count : ℕ) → Answer
written_answer run stable count = Answer.Write (record {
  count = count;
  committed = committed_as stable;
  verifier = to_be_bytes w64 run;
})

-- COMMIT
abbrev pub committed_answer : (run : ℕ) → Answer
committed_answer run = Answer.Commit (to_be_bytes w64 run)

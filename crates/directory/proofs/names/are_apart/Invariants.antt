use Rattle.std.proofs.Common.{ℕ, ◌≡◌, ◌<◌, get_or}
use Rattle.directory.specs.Records.{Record, place_of}
use Rattle.directory.proofs.names.are_apart.Given as goal

abbrev pub invariant-loop-place : goal.invariant-loop-place
invariant-loop-place l = (k : ℕ) (d : Record) → k < l.place → place_of (get_or l.records k d).1.name l.records ≡ k

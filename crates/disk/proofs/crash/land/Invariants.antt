use Rattle.std.proofs.Common.{◌≡◌, ◌≤◌, ◌<◌, ◌∷◌, ℕ, slice_index_or}
use Rattle.disk.specs.Calls.{image_of, written_by}
use Rattle.disk.specs.Landing.{number_for}
use Rattle.disk.proofs.crash.land.Given as goal

abbrev pub invariant-loop-n : goal.invariant-loop-n
invariant-loop-n l = record {
  landed : (n : ℕ) → n < l.n → image_of l.sectors n ≡ slice_index_or (image_of l.initial.sectors n ∷ written_by n l.since) (number_for l.landing n) (image_of l.initial.sectors n);
  rest : (n : ℕ) → l.n ≤ n → image_of l.sectors n ≡ image_of l.initial.sectors n;
}

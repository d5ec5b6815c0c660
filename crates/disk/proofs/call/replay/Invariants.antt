use Rattle.std.proofs.Common.{◌≡◌, ◌<◌, ℕ, length, take}
use Rattle.disk.specs.Moments.{seen}
use Rattle.disk.specs.Calls.{image_of, history_of_calls}
use Rattle.disk.proofs.call.replay.Given as goal

abbrev pub invariant-loop-call : goal.invariant-loop-call
invariant-loop-call l = (n : ℕ) → n < length l.initial.rows → image_of l.rows n ≡ seen (history_of_calls l.initial.rows (take l.call-index l.calls)).now n

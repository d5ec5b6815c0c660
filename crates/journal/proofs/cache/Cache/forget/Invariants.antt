use Rattle.std.proofs.Common.{◌≡◌, ℕ, List, take, false}
use Rattle.std.specs.List.{Contains}
use Rattle.journal.specs.Cached.{AreAmong}
use Rattle.journal.specs.Layout.{targets}
use Rattle.journal.specs.Transactions.{has}
use Rattle.journal.proofs.cache.Cache.forget.Given as goal

abbrev pub invariant-loop-update : goal.invariant-loop-update
invariant-loop-update l = record {
  among : AreAmong l.self.sectors.entries l.fn.self.sectors.entries;
  gone : (n : ℕ) (content : List ℕ) → Contains l.self.sectors.entries (n, content) → has (targets (take l.update-index l.updates)) n ≡ false;
}

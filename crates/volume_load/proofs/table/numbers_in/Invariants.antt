use Rattle.std.proofs.Common.{◌≡◌, take}
use Rattle.volume_load.specs.CachedNodes.{numbers_of}
use Rattle.volume_load.proofs.table.numbers_in.Given as goal

abbrev pub invariant-loop-cached : goal.invariant-loop-cached
invariant-loop-cached l = l.numbers.items ≡ numbers_of (take l.cached-index l.cached_nodes)

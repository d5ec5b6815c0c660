use Rattle.std.proofs.Common.{◌≡◌, ◌++◌}
use Rattle.layout.specs.Rewriting.{all_second}
use Rattle.volume.proofs.load.all_second.Given as goal

abbrev pub invariant-loop-cached : goal.invariant-loop-cached
invariant-loop-cached l = l.second.items ++ all_second l.cached-iterator.rest.items ≡ all_second l.fn.cached_nodes.items

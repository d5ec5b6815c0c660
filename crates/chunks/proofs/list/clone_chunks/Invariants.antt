use Rattle.std.proofs.Common.{◌≡◌, map, take}
use Rattle.chunks.proofs.list.clone_chunks.Given as goal

abbrev pub invariant-loop-chunk : goal.invariant-loop-chunk
invariant-loop-chunk g l =
    map (λ chunk. chunk.value.items) l.copy.items ≡ map (λ chunk. chunk.value.items) (take l.chunk-index l.chunks)

use Rattle.std.proofs.Common.{◌≡◌, map, take}
use Rattle.directory.specs.Records.{record_of}
use Rattle.directory.proofs.records.clone_blocks.Given as goal

abbrev pub invariant-loop-block : goal.invariant-loop-block
invariant-loop-block l =
    map (λ block. map record_of block.value.items) l.copy.items ≡ map (λ block. map record_of block.value.items) (take l.block-index l.blocks)

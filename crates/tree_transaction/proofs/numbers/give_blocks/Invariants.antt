use Rattle.std.proofs.Common.{◌≡◌, ◌+◌, ℕ, length, take}
use Rattle.layout.specs.Marks.{times_set, mark_by}
use Rattle.tree_transaction.proofs.numbers.give_blocks.Given as goal

-- the first blocks are freed
abbrev pub invariant-loop-block : goal.invariant-loop-block
invariant-loop-block l = record {
  marks : (n : ℕ) → mark_by l.first l.places n + times_set n (take l.block l.blocks) ≡ mark_by l.first l.fn.places n + times_set n (take l.from l.blocks);
  len : length l.places ≡ length l.fn.places;
}

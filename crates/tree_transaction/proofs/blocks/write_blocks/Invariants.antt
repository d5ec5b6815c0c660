use Rattle.std.proofs.Common.{◌≡◌, ◌≤◌, ◌+◌, ◌-◌, ◌/◌, ◌%◌, ◌⊎◌, length, take}
use Rattle.disk.specs.Moments.{applied}
use Rattle.tree_transaction.specs.Blocks.{GetSectors, WritesBytes, ChangeBlocks, FillHoles}
use Rattle.tree_transaction.proofs.blocks.write_blocks.Given as goal

-- the first bytes are written, up to the border of a block
abbrev pub invariant-loop-done : goal.invariant-loop-done
invariant-loop-done g l = record {
  within : l.done ≤ length l.bytes;
  bytes : g.S.Sectors.keeps_word → WritesBytes (applied l.fn.updates (g.S.Sectors.image (g.S.Sectors.kept l.fn.base))) (applied l.updates (g.S.Sectors.image (g.S.Sectors.kept l.fn.base))) l.fn.blocks l.blocks l.offset (take l.done l.bytes);
  gets : GetSectors l.first l.fn.places l.places l.fn.blocks l.blocks;
  long : length l.blocks ≡ length l.fn.blocks;
  fills : FillHoles l.filled l.fn.blocks l.blocks;
  others : ChangeBlocks l.fn.updates l.updates l.blocks;
  border : (l.done ≡ 0) ⊎ (((l.offset + l.done) % 4096 ≡ 0) ⊎ (l.done ≡ length l.bytes));
  none : l.done ≡ 0 → length l.updates ≤ length l.fn.updates;
  count : length l.updates ≤ length l.fn.updates + (l.offset % 4096 + l.done + 4095) / 4096;
  kept : g.S.Sectors.kept l.base ≡ g.S.Sectors.kept l.fn.base;
  health : g.S.Sectors.health l.base ≡ g.S.Sectors.health l.fn.base;
}

abbrev pub decreases-loop-done : goal.decreases-loop-done
decreases-loop-done g l = length l.bytes - l.done

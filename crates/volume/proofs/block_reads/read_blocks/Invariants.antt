use Rattle.std.proofs.Common.{◌-◌, ◌≡◌, ◌≤◌}
use Rattle.volume.specs.FileParts.{Appends}
use Rattle.volume.proofs.block_reads.read_blocks.Given as goal

-- the first bytes are there
abbrev pub invariant-loop-done : goal.invariant-loop-done
invariant-loop-done g l = record {
  within : l.done ≤ l.count;
  bytes : Appends g.S.Sectors.keeps_word (g.S.Sectors.image (g.S.Sectors.kept l.fn.base)) l.blocks l.offset l.done l.fn.out.items l.out.items;
  kept : g.S.Sectors.kept l.base ≡ g.S.Sectors.kept l.fn.base;
  health : g.S.Sectors.health l.base ≡ g.S.Sectors.health l.fn.base;
}

abbrev pub decreases-loop-done : goal.decreases-loop-done
decreases-loop-done g l = l.count - l.done

use Rattle.std.proofs.Common.{◌≡◌, map}
use Rattle.directory.specs.Records.{record_of}
use Rattle.volume_load.proofs.NameLaws.{AreReadTo}
use Rattle.volume_load.proofs.names.read_entries.Given as goal

abbrev pub invariant-loop-block : goal.invariant-loop-block
invariant-loop-block g l = record {
  far : AreReadTo g.S.Sectors.keeps_word (g.S.Sectors.image (g.S.Sectors.kept l.fn.sectors)) l.blocks l.count l.block (map record_of l.entries.items);
  kept : g.S.Sectors.kept l.sectors ≡ g.S.Sectors.kept l.fn.sectors;
  health : g.S.Sectors.health l.sectors ≡ g.S.Sectors.health l.fn.sectors;
}

use Rattle.std.proofs.Common.{◌≡◌, ◌<◌, ◌+◌, ℕ, [], slice_index_or}
use Rattle.layout.proofs.sectors.Sectors.read_run.Given as goal

abbrev pub invariant-loop-i : goal.invariant-loop-i
invariant-loop-i g l = record {
  read : g.Self.Sectors.keeps_word → (i : ℕ) → i < l.i
      → slice_index_or l.contents i [] ≡ g.Self.Sectors.image (g.Self.Sectors.kept l.fn.self) (l.fn.first + i);
  kept : g.Self.Sectors.kept l.self ≡ g.Self.Sectors.kept l.fn.self;
  health : g.Self.Sectors.health l.self ≡ g.Self.Sectors.health l.fn.self;
}

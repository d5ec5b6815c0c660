use Rattle.std.proofs.Common.{◌≡◌, ◌≤◌, ◌+◌, ◌++◌, ℕ, List, length, take, vec_capacity}
use Rattle.journal.specs.Index.{IsIndexOf}
use Rattle.journal.specs.Layout.{targets}
use Rattle.journal.proofs.index.SectorIndex.put_all.Given as goal

abbrev pub invariant-loop-i : goal.invariant-loop-i
invariant-loop-i l = record {
  indexed : (sectors : List ℕ) → IsIndexOf l.fn.self.entries.items sectors → length sectors ≡ l.count
      → IsIndexOf l.self.entries.items (sectors ++ targets (take l.i l.updates));
  few : length l.self.entries.items ≤ l.count + l.i;
  capacity : vec_capacity l.self.entries ≡ vec_capacity l.fn.self.entries;
}

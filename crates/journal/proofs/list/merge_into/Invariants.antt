use Rattle.std.proofs.Common.{◌≡◌, ℕ, drop, vec_capacity}
use Rattle.disk.specs.Moments.{Image, applied}
use Rattle.journal.specs.Layout.{targets}
use Rattle.journal.specs.Transactions.{gathered}
use Rattle.journal.proofs.list.merge_into.Given as goal

abbrev pub invariant-loop-update : goal.invariant-loop-update
invariant-loop-update l = record {
  rest : (image : Image) (n : ℕ) → applied (drop l.update-index l.updates) (applied l.pending.items image) n ≡ applied l.updates (applied l.fn.pending.items image) n;
  sectors : gathered (targets l.pending.items) (targets (drop l.update-index l.updates)) ≡ gathered (targets l.fn.pending.items) (targets l.updates);
  sectors_are : l.pending_sectors.sectors.items ≡ targets l.pending.items;
  capacity : vec_capacity l.pending ≡ vec_capacity l.fn.pending;
  named_capacity : vec_capacity l.pending_sectors.sectors ≡ vec_capacity l.fn.pending_sectors.sectors;
}

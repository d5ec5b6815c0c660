use Rattle.std.proofs.Common.{ℕ, Vec, Global, ap, arith}
use Rattle.directory.specs.Records.{record_of}
use Rattle.node_table.proofs.TableLaws.{within-numbered}
use Rattle.volume.proofs.ParentNotes.{next-found, next-none}
use Rattle.volume.proofs.parents.note_names.Goals as goal
use Rattle.volume.proofs.parents.note_names.Goals.{in-Some, in_default}

pub loop-i-preserved : goal.loop-i-preserved
loop-i-preserved c = elim c.match-find.branch [
  | in-Some w ↦
      next-found c.args.table.now c.args.numbers.now.items c.loop-i.numbers.items c.args.directory c.loop-i.i c.args.names.now (record_of c.entry.result.now)
      (omega (arith, c.loop-i-test.true, c.len-i-end.ensures.count)) c.entry.ensures c.loop-i.invariant w.in-Some.ensures.only w.in-Some.place w.in-Some.ensures.some
      (omega (arith, within-numbered c.args.table.now w.in-Some.place c.entry.result.now.number w.in-Some.ensures.some, c.loop-i.invariant.count, c.requires))
      c.match-find.numbers.items (ap (λ (v : Vec ℕ Global). v.items) w.numbers-is)
  | in_default w ↦
      next-none c.args.table.now c.args.numbers.now.items c.loop-i.numbers.items c.args.directory c.loop-i.i c.args.names.now (record_of c.entry.result.now)
      (omega (arith, c.loop-i-test.true, c.len-i-end.ensures.count)) c.entry.ensures c.loop-i.invariant w.in_default.ensures.none c.match-find.numbers.items (ap (λ (v : Vec ℕ Global). v.items) w.numbers-is)
]

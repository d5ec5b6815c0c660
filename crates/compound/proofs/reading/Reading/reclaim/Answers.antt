use Rattle.fs.specs.Views.{fs_of}
use Rattle.session.specs.Views.{table_of}
use Rattle.compound.proofs.reading.Reading.reclaim.Goals as goal

pub returns-then-one_fs-clause-gives : goal.returns-then-one_fs-clause-gives
returns-then-one_fs-clause-gives g c = λ now opens. rw c.if-one_fs.true (c.reclaim_one.ensures.gives now (table_of c.args.table.now) opens)

pub returns-else-one_fs-clause-gives : goal.returns-else-one_fs-clause-gives
returns-else-one_fs-clause-gives g c = λ now opens. rw c.if-one_fs.false (c.reclaim_all.ensures.gives now (fs_of c.args.self.now.fs.now) opens)

pub returns-then-one_fs-clause-answered : goal.returns-then-one_fs-clause-answered
returns-then-one_fs-clause-answered g c = c.reclaim_one.ensures.answered

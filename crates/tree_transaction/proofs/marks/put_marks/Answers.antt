use Rattle.disk.specs.Moments.{applied}
use Rattle.tree_transaction.proofs.WholeLaws.{written_part}
use Rattle.tree_transaction.proofs.marks.put_marks.Goals as goal

pub returns-clause-image : goal.returns-clause-image
returns-clause-image c = λ image. written_part (applied c.args.updates.now image) (applied c.put.new.self image) c.args.before.now c.args.places.now c.args.part c.write_sector.new.sector c.write_sector.ensures (c.in_ok-put.ensures.image image)

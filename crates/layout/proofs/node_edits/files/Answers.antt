use Rattle.layout.proofs.NodeEditLaws.{write_part, write_file, fill_block, cut_file, grow_file}
use Rattle.layout.proofs.node_edits.files.Goals as goal

pub returns-clause-part : goal.returns-clause-part
returns-clause-part c = write_part

pub returns-clause-write : goal.returns-clause-write
returns-clause-write c = write_file

pub returns-clause-fill : goal.returns-clause-fill
returns-clause-fill c = fill_block

pub returns-clause-cut : goal.returns-clause-cut
returns-clause-cut c = cut_file

pub returns-clause-grow : goal.returns-clause-grow
returns-clause-grow c = grow_file

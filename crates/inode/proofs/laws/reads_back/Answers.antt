use Rattle.inode.proofs.ReadBack.{fields-back, form-back, one_node}
use Rattle.inode.proofs.laws.reads_back.Goals as goal

pub returns-clause-back : goal.returns-clause-back
returns-clause-back c = fields-back

pub returns-clause-form : goal.returns-clause-form
returns-clause-form c = form-back

pub returns-clause-one : goal.returns-clause-one
returns-clause-one c = one_node

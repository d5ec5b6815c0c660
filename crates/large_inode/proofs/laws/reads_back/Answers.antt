use Rattle.large_inode.proofs.ReadBack.{fields-back, one_inode, other_forms, never_free}
use Rattle.large_inode.proofs.laws.reads_back.Goals as goal

pub returns-clause-back : goal.returns-clause-back
returns-clause-back c = fields-back

pub returns-clause-one : goal.returns-clause-one
returns-clause-one c = one_inode

pub returns-clause-forms : goal.returns-clause-forms
returns-clause-forms c = other_forms

pub returns-clause-free : goal.returns-clause-free
returns-clause-free c = never_free

use Rattle.std.proofs.Common.{refl}
use Rattle.model.specs.Sessions.StateIds.{found, opened}
use Rattle.fs.proofs.VerdictLaws.{each_is_got, each_setting_is_meant, each_write_is_meant, only_possible}
use Rattle.fs.proofs.laws.verdicts.Goals as goal

pub returns-clause-only : goal.returns-clause-only
returns-clause-only c = only_possible

pub returns-clause-each : goal.returns-clause-each
returns-clause-each c = each_is_got

pub returns-clause-writes : goal.returns-clause-writes
returns-clause-writes c = each_write_is_meant

pub returns-clause-sets : goal.returns-clause-sets
returns-clause-sets c = each_setting_is_meant

pub returns-clause-examples : goal.returns-clause-examples
unfolding found opened
returns-clause-examples c = record {
  newest = refl;
  old = refl;
  not_given = refl;
  none_current = refl;
  none = refl;
  to_be_read = refl;
  not_to_be_written = refl;
}

use Rattle.model.proofs.Sessions.TableCalls.{every_table}
use Rattle.model.proofs.session.every_table.Goals as goal

pub returns : goal.returns
returns c = every_table

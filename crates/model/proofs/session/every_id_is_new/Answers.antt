use Rattle.model.proofs.Sessions.TableIds.{every_call_gives_new}
use Rattle.model.proofs.session.every_id_is_new.Goals as goal

pub returns : goal.returns
returns c = every_call_gives_new

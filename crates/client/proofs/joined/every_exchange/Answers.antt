use Rattle.client.proofs.JoinedLaws.{every_piece_waits, every_record_is_asked, every_reply_is_told}
use Rattle.client.proofs.WholeLaws
use Rattle.client.proofs.joined.every_exchange.Goals as goal

pub returns-clause-waits : goal.returns-clause-waits
returns-clause-waits c = every_piece_waits

pub returns-clause-asked : goal.returns-clause-asked
returns-clause-asked c = every_record_is_asked

pub returns-clause-told : goal.returns-clause-told
returns-clause-told c = every_reply_is_told

pub returns-clause-whole : goal.returns-clause-whole
returns-clause-whole c = WholeLaws.every_exchange

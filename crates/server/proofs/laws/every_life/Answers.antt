use Rattle.server.proofs.LifeStops.{every_held, every_taken, every_stays, every_follows, every_dead, every_once, every_retried, every_sits, every_stored, every_asked, every_ended}
use Rattle.server.proofs.laws.every_life.Goals as goal

pub returns-clause-held : goal.returns-clause-held
returns-clause-held c = every_held

pub returns-clause-taken : goal.returns-clause-taken
returns-clause-taken c = every_taken

pub returns-clause-stays : goal.returns-clause-stays
returns-clause-stays c = every_stays

pub returns-clause-follows : goal.returns-clause-follows
returns-clause-follows c = every_follows

pub returns-clause-dead : goal.returns-clause-dead
returns-clause-dead c = every_dead

pub returns-clause-once : goal.returns-clause-once
returns-clause-once c = every_once

pub returns-clause-sits : goal.returns-clause-sits
returns-clause-sits c = every_sits

pub returns-clause-retried : goal.returns-clause-retried
returns-clause-retried c = every_retried

pub returns-clause-stored : goal.returns-clause-stored
returns-clause-stored c = every_stored

pub returns-clause-asked : goal.returns-clause-asked
returns-clause-asked c = every_asked

pub returns-clause-ended : goal.returns-clause-ended
returns-clause-ended c = every_ended

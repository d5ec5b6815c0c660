use Rattle.model.proofs.Server.HeldLaws.{every_held_is_kept}
use Rattle.model.proofs.Sessions.SeatLives.{every_seat_stays, every_run_can_follow, every_number_once, every_reply_stays_held}
use Rattle.model.proofs.Sessions.SeatRunLaws.{every_reply_is_held, every_taken_is_settled, every_dead_session}
use Rattle.model.proofs.Sessions.SeatReplies.{every_reply_is_stored}
use Rattle.model.proofs.Sessions.SeatsFreed.{every_freeing_is_asked}
use Rattle.model.proofs.Sessions.SeatsSit.{every_session_sits}
use Rattle.model.proofs.runs.every_life.Goals as goal

pub returns-clause-held : goal.returns-clause-held
returns-clause-held c = every_reply_is_held

pub returns-clause-taken : goal.returns-clause-taken
returns-clause-taken c = every_taken_is_settled

pub returns-clause-stays : goal.returns-clause-stays
returns-clause-stays c = every_seat_stays

pub returns-clause-follows : goal.returns-clause-follows
returns-clause-follows c = every_run_can_follow

pub returns-clause-dead : goal.returns-clause-dead
returns-clause-dead c = every_dead_session

pub returns-clause-once : goal.returns-clause-once
returns-clause-once c = every_number_once

pub returns-clause-still_held : goal.returns-clause-still_held
returns-clause-still_held c = every_reply_stays_held

pub returns-clause-stored : goal.returns-clause-stored
returns-clause-stored c = every_reply_is_stored

pub returns-clause-asked : goal.returns-clause-asked
returns-clause-asked c = every_freeing_is_asked

pub returns-clause-sits : goal.returns-clause-sits
returns-clause-sits c = every_session_sits

pub returns-clause-kept : goal.returns-clause-kept
returns-clause-kept c = every_held_is_kept

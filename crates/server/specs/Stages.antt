-- What a connection does, and what has arrived over it.
use Rattle.std.specs.Prelude.{◌≡◌, ℕ, Bool, true, false, ◌&&◌, List, [], ◌∷◌, Option, Some, None, Result, Ok, Err}
use Rattle.compound.specs.Views.{Asked, asks, resumed, fits_operations}
use Rattle.compound.specs.Volumes.{fault_ending}
use Rattle.compound.specs.declared.progress.Progress.{Progress}
use Rattle.compound.specs.declared.step.Stepped.{Stepped}
use Rattle.compound.specs.declared.step.Stepped.TheVariants as stepped
use Rattle.volume.specs.Changes.{Ending, Done}
use Rattle.model.specs.Server.World as world
use Rattle.model.specs.Server.World.{Connection, InProgress, Busy, Replied, Closed}
use Rattle.rpc.specs.Assembly.{Assembly, Gathers, Holds, Refuses, connection_of}
use Rattle.rpc.specs.Places.{compound_at, is_within}
use Rattle.server.specs.declared.begun.Begun.{Begun}
use Rattle.server.specs.declared.begun.TurnEnd.{TurnEnd}
use Rattle.server.specs.declared.begun.TurnEnd.TheVariants as left
use Rattle.server.specs.declared.begun.KeptCall.{KeptCall}
use Rattle.server.specs.declared.begun.FailedStep.{FailedStep}
use Rattle.server.specs.declared.stage.Stage.{Stage}
use Rattle.server.specs.declared.stage.Stage.TheVariants as stage

-- the COMPOUND that a call asks for, and whose it is, if the call is in this record
abbrev pub asked_at : (request : List ℕ) → KeptCall → Asked
asked_at request call = asks call.xid call.cred (compound_at request call.place)

abbrev pub in_progress_at : (request : List ℕ) → Begun → InProgress
in_progress_at request begun = resumed (asked_at request begun.call) begun.progress

-- it is in this record, and can go on with this progress
abbrev pub fits_in : (request : List ℕ) → KeptCall → Progress → Bool
fits_in request call progress =
    is_within request call.place && fits_operations (asked_at request call) progress

-- and in this run, in which it began
pub record CanGoOn (run : ℕ) (request : List ℕ) (begun : Begun) : Type 0 where
  pub can : fits_in request begun.call begun.progress ≡ true
  pub began_in : begun.progress.run ≡ run

-- the record that an assembler holds
abbrev pub held_record : Assembly → Option (List ℕ)
held_record (Gathers bytes) = None
held_record (Holds request) = Some request
held_record (Refuses fault) = None

abbrev pub busy_with : Option (List ℕ) → Begun → Connection
busy_with (Some request) begun = Busy (in_progress_at request begun)
busy_with None begun = Closed

abbrev pub stage_view : Assembly → Stage → Connection
stage_view assembly stage.Receiving = connection_of assembly
stage_view assembly (stage.Running begun) = busy_with (held_record assembly) begun
stage_view assembly (stage.Replied reply) = Replied reply.items

abbrev pub can_go_on : Option (List ℕ) → Begun → Bool
can_go_on (Some request) begun = fits_in request begun.call begun.progress
can_go_on None begun = false

abbrev pub is_fresh : Assembly → Bool
is_fresh (Gathers []) = true
is_fresh (Gathers (byte ∷ bytes)) = false
is_fresh (Holds request) = false
is_fresh (Refuses fault) = false

-- a request that has begun goes on, and nothing comes while a reply waits
abbrev pub is_ready : Stage → Assembly → Bool
is_ready stage.Receiving assembly = true
is_ready (stage.Running begun) assembly = can_go_on (held_record assembly) begun
is_ready (stage.Replied reply) assembly = is_fresh assembly

-- A turn of a call

abbrev pub left_of : KeptCall → Stepped → TurnEnd
left_of call (stepped.Ran progress) = left.Begun (record { call = call; progress = progress })
left_of call (stepped.Answered reply) = left.Answered reply

abbrev pub turn_of_end : TurnEnd → world.Turn
turn_of_end (left.Begun begun) = world.Ran
turn_of_end (left.Answered reply) = world.Answered

-- the connection after it
abbrev pub left_by_turn : Option (List ℕ) → TurnEnd → Connection
left_by_turn request (left.Begun begun) = busy_with request begun
left_by_turn request (left.Answered reply) = Replied reply.items

abbrev pub can_follow : Option (List ℕ) → TurnEnd → Bool
can_follow request (left.Begun begun) = can_go_on request begun
can_follow request (left.Answered reply) = true

-- the request goes on in the same run of the server
abbrev pub IsLeftInRun : (run : ℕ) → TurnEnd → Type 0
IsLeftInRun run (left.Begun begun) = begun.progress.run ≡ run
IsLeftInRun run (left.Answered reply) = Unit {0}

abbrev pub failed_turn_ending : {T : Type 0} → Result T FailedStep → Ending
failed_turn_ending (Ok done) = Done
failed_turn_ending (Err failed) = fault_ending failed.fault

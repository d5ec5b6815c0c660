-- One turn of a COMPOUND, by the definition: an operation, or once the last result is there the
-- reply, which a seat holds first.
use Rattle.std.specs.Prelude.{◌≡◌, ◌+◌, ℕ, Bool, true, false, None}
use Rattle.fs.specs.FileSystem.{FileSystem}
use Rattle.model.specs.Server.World as world
use Rattle.model.specs.Server.World.{World, Connection, Busy, Replied, Turn, Turned, InProgress, further, with_connection}
use Rattle.model.specs.Sessions.Session.{Table}
use Rattle.compound.specs.States.{Agrees, SharedState, HasState, with_state}
use Rattle.compound.specs.Views.{Asked, resumed, fits_operations}
use Rattle.compound.specs.declared.step.Stepped.{Stepped}
use Rattle.compound.specs.declared.step.Stepped.TheVariants as stepped

-- a request that has not ended, in the run of a file system that is up
pub record CanRun (keeps_word : Type 0) (files : FileSystem) (table : Table)
    (request : InProgress) : Type 0 where
  pub up : files.volume.is_down ≡ false
  pub run : request.context.run ≡ files.volume.run
  pub more : request.ended ≡ None
  pub agrees : keeps_word → Agrees files table

-- a turn of the request
abbrev pub stepped_on : World → (number now : ℕ) → InProgress → Turned
stepped_on world number now request = further world number now request request.ended

abbrev pub turn_of_step : Stepped → Turn
turn_of_step (stepped.Ran progress) = world.Ran
turn_of_step (stepped.Answered reply) = world.Answered

-- the connection of this COMPOUND after a step
abbrev pub connection_by : Asked → Stepped → Connection
connection_by asked (stepped.Ran progress) = Busy (resumed asked progress)
connection_by asked (stepped.Answered reply) = Replied reply.items

-- on each connection of each such world, the turn is this one, and leaves this world
abbrev pub RequestSteps : (now : ℕ) → (old new : SharedState) → Asked → InProgress → Stepped
    → Type 0
RequestSteps now old new asked request done =
    (world : World) (number : ℕ) → HasState world old
    → ((stepped_on world number now request).turn ≡ turn_of_step done)
    × ((stepped_on world number now request).world
    ≡ with_connection (with_state world new) number (connection_by asked done))

-- the request goes on in the same run of the server
abbrev pub StaysInRun : (run : ℕ) → Stepped → Type 0
StaysInRun run (stepped.Ran progress) = progress.run ≡ run
StaysInRun run (stepped.Answered reply) = Unit {0}

-- a request that goes on had not ended, and has one result more
abbrev pub GoesFurther : InProgress → Stepped → Type 0
GoesFurther request (stepped.Ran progress) =
    (request.ended ≡ None) × (progress.answered ≡ request.answered + 1)
GoesFurther request (stepped.Answered reply) = Unit {0}

-- the COMPOUND can be resumed after a step
abbrev pub still_fits : Asked → Stepped → Bool
still_fits asked (stepped.Ran progress) = fits_operations asked progress
still_fits asked (stepped.Answered reply) = true

-- what a step leaves of a request, on any device
pub record RequestGoesOn (run : ℕ) (asked : Asked) (request : InProgress) (done : Stepped)
    : Type 0 where
  pub stays : StaysInRun run done
  pub further : GoesFurther request done
  pub fits : still_fits asked done ≡ true

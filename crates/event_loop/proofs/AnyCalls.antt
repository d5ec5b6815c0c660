-- What a call of the server comes to: events of a run, whatever it returns.
use Rattle.std.proofs.Common.{◌≡◌, ℕ, List, Option, Some, None, Result, Ok, Err, IfOk, IfErr, OnErr, Bool, true, false, refl}
use Rattle.std.specs.Global.{Vec}
use Rattle.disk.specs.declared.device.Device.{Ghosts}
use Rattle.model.specs.Server.Runs.{Arrives, Turns, Connects, Takes}
use Rattle.model.specs.Sessions.Session.{Settings}
use Rattle.server.specs.Headline.{BeginsServing}
use Rattle.server.specs.Connections.{turn_view}
use Rattle.server.specs.Refused.{IsUntouched, RefusesTurn, view}
use Rattle.server.specs.Seen.{ServerCall, Did, Done, Took, Turned}
use Rattle.server.specs.Views.{MountsServer, Serves, server_failures, files_of, gave, volume_of, waits_of, world_of}
use Rattle.server.specs.declared.fault.ServerFault.{ServerFault}
use Rattle.server.specs.declared.fault.ServerFault.TheVariants as faults
use Rattle.server.specs.declared.server.Server.{Server}
use Rattle.server.specs.declared.turn.Turn.{Turn}
use Rattle.peer.proofs.Made.{failed_call, gives, goes_as, goes_on, not_called, refused_turn, untouched}
use Rattle.peer.proofs.Serving.{connects, not_connected}
use Rattle.peer.specs.Calls.{Goes, IsOne, RefusesBytes, RefusesOutput}
use Rattle.event_loop.specs.Runs.{GoesAny, HasBegun}

module _ {D : Type 0} {g : Ghosts D} {keeps : Type 0} where
  -- calls of one kind
  pub any_of : {old new : Server D g} {kind : List ServerCall → Type 0} → Goes keeps old new kind → GoesAny keeps old new
  any_of {kind = kind} goes = goes_as {first = kind} {kind = λ calls. Unit {0}} (λ (calls : List ServerCall) (is : kind calls). tt) goes

  -- none
  pub goes_none : (server : Server D g) → GoesAny keeps server server
  goes_none server = any_of {old = server} {new = server} (not_called server)

  -- first these, then those
  pub goes_then : {old between new : Server D g} → GoesAny keeps old between → GoesAny keeps between new → GoesAny keeps old new
  goes_then before after =
      goes_on {first = λ calls. Unit {0}} {then = λ calls. Unit {0}} {kind = λ calls. Unit {0}} (λ (calls more : List ServerCall) (one : Unit {0}) (two : Unit {0}). tt) before after

  -- a mount
  pub begun : (settings : Settings) (device : D) (server : Server D g) → BeginsServing settings server → MountsServer device server → HasBegun keeps settings device server
  begun settings device server begins mounts = record { first = server; begins = begins; mounts = mounts; goes = goes_none server }

  pub begun_on : {settings : Settings} {device : D} {old new : Server D g} → HasBegun keeps settings device old → GoesAny keeps old new → HasBegun keeps settings device new
  begun_on had goes = record { first = had.first; begins = had.begins; mounts = had.mounts; goes = goes_then had.goes goes }

  -- Calls

  pub connected : (old new : Server D g) (result : Result ℕ ServerFault) → files_of new ≡ files_of old → server_failures new ≡ server_failures old
      → OnErr result (world_of new ≡ world_of old) → (keeps → IfOk result (λ conn. Serves old new (Connects conn) Done)) → GoesAny keeps old new
  connected old new (Ok conn) files failures same serves = any_of {old = old} {new = new} (connects old new (Ok conn) conn refl files serves)
  connected old new (Err fault) files failures same serves = any_of {old = old} {new = new} (not_connected old new (Err fault) fault refl same files failures)

  pub fed_any : (old new : Server D g) (connection : ℕ) (piece : List ℕ) (result : Result ℕ ServerFault)
      → IfOk result (λ count. Goes keeps old new (IsOne (Did (Arrives connection piece) (Took (Some count)))))
      → IfErr result (RefusesBytes keeps old new connection piece) → GoesAny keeps old new
  fed_any old new connection piece (Ok count) goes refused = any_of {old = old} {new = new} goes
  fed_any old new connection piece (Err faults.Closed) goes refused = any_of {old = old} {new = new} refused
  fed_any old new connection piece (Err faults.NoConnection) goes refused = any_of {old = old} {new = new} (untouched {old = old} {new = new} refused.1)
  fed_any old new connection piece (Err faults.Device) goes refused = failed_call refused.0
  fed_any old new connection piece (Err faults.Memory) goes refused = absurd refused
  fed_any old new connection piece (Err faults.Full) goes refused = absurd refused

  pub turned_any : (old new : Server D g) (connection now : ℕ) (result : Result Turn ServerFault)
      → IfOk result (λ turn. Goes keeps old new (IsOne (Did (Turns connection now) (Turned (turn_view turn)))))
      → IfErr result (RefusesTurn (view old) (view new) connection) → GoesAny keeps old new
  turned_any old new connection now (Ok turn) goes refused = any_of {old = old} {new = new} goes
  turned_any old new connection now (Err fault) goes refused = any_of {old = old} {new = new} (refused_turn {old = old} {new = new} connection fault refused)

  pub given_any : (old new : Server D g) (connection : ℕ) (result : Result (Option (Vec ℕ)) ServerFault) (waits : Bool) → waits_of old ≡ waits
      → files_of new ≡ files_of old
      → (keeps → (volume_of old).is_down ≡ false → waits_of old ≡ false → IfOk result (λ output. Serves old new (Takes connection) (gave output)))
      → (waits_of old ≡ true → IfOk result (λ output. (output ≡ None) × IsUntouched (view old) (view new)))
      → IfErr result (RefusesOutput old new connection) → GoesAny keeps old new
  given_any old new connection (Err fault) waits is files serves none refused = any_of {old = old} {new = new} (untouched {old = old} {new = new} refused.same)
  given_any old new connection (Ok output) true is files serves none refused = any_of {old = old} {new = new} (untouched {old = old} {new = new} (none is).1)
  given_any old new connection (Ok output) false is files serves none refused = any_of {old = old} {new = new} (gives old new connection (Ok output) files is serves)

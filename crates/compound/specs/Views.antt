-- What the code's values represent.
use Rattle.std.specs.Prelude.{◌≡◌, ℕ, ◌+◌, ◌≤◌, ◌<◌, nat_lt, nat_le, Bool, true, ◌&&◌, List, length, drop, Option, None, Some}
use Rattle.std.specs.Option.{option_map}
use Rattle.model.specs.Operations.Context.{Context, Place}
use Rattle.model.specs.Wire.Rpc.{Compound}
use Rattle.model.specs.Server.World as world
use Rattle.model.specs.Server.World.{World, InProgress, in_progress}
use Rattle.model_tree.specs.declared.acl.Cred.{Cred}
use Rattle.rpc.specs.Views.{compound_view}
use Rattle.xdr.specs.Forms.{counted}
use Rattle.wire.specs.ArgumentView.{argument_view}
use Rattle.wire.specs.SmallViews.{state_view}
use Rattle.compound.specs.declared.begin.Call.{Call}
use Rattle.compound.specs.declared.running.Running.{Running}
use Rattle.compound.specs.declared.progress.Progress.{Progress}
use Rattle.compound.specs.declared.progress.HandlePlace.{HandlePlace}
use Rattle.compound.specs.declared.progress.SlotId.{SlotId}
use Rattle.compound.specs.declared.next.Next.{Next}
use Rattle.compound.specs.declared.next.Next.TheVariants as nexts
use Rattle.compound.specs.declared.results.TheConstants.{AROUND_RESULTS, MAX_REPLY_BYTES, MAX_REFUSAL_BYTES}
use Rattle.model_tree.specs.declared.status.Status.{Status}

-- a filehandle, with the stateid that goes with it
abbrev pub place_of : HandlePlace → Place
place_of place = record { number = place.number; state = option_map state_view place.state }

abbrev pub slot_of : SlotId → List ℕ × ℕ
slot_of id = (id.session, id.slot)

-- whose COMPOUND a record holds, and of which call
pub record Asked : Type 0 where
  pub xid : ℕ
  pub cred : Cred
  pub compound : Compound

abbrev pub asks : (xid : ℕ) → Cred → Compound → Asked
asks xid cred compound = record { xid = xid; cred = cred; compound = compound }

abbrev pub asked_by : Call → Asked
asked_by call = asks call.xid call.cred.now (compound_view call.compound)

abbrev pub context_of : Cred → Progress → Context
context_of cred progress = record {
  cred = cred;
  client = progress.client;
  run = progress.run;
  current = option_map place_of progress.current;
  saved = option_map place_of progress.saved;
}

-- a COMPOUND with this progress
abbrev pub resumed : Asked → Progress → InProgress
resumed asked progress = record {
  xid = asked.xid;
  tag = asked.compound.tag;
  count = asked.compound.count;
  rest = drop progress.position asked.compound.operations;
  answered = progress.answered;
  results = progress.results.bytes;
  context = context_of asked.cred progress;
  slot = option_map slot_of progress.slot;
  altered = progress.altered;
  ended = progress.ended;
}

-- the bytes of its reply up to the end of the results so far
abbrev pub size_so_far : Asked → Progress → ℕ
size_so_far asked progress =
    AROUND_RESULTS + length (counted asked.compound.tag) + length progress.results.bytes

-- Operations are left, and the reply has room for the results so far. Once the last result is there,
-- that one may be a refusal without room.
abbrev pub may_go_on : Asked → Progress → (ended : Option Status) → Bool
may_go_on asked progress None =
    nat_lt progress.answered asked.compound.count
    && nat_le (size_so_far asked progress) MAX_REPLY_BYTES
may_go_on asked progress (Some last) =
    nat_le (size_so_far asked progress) (MAX_REPLY_BYTES + MAX_REFUSAL_BYTES)

-- and the next one begins within their bytes
abbrev pub fits_operations : Asked → Progress → Bool
fits_operations asked progress =
    nat_le progress.position (length asked.compound.operations)
    && may_go_on asked progress progress.ended

-- no operation was done in this run of the server, of whichever COMPOUND
pub record IsBegin (run : ℕ) (progress : Progress) : Type 0 where
  pub begun : (world : World) (asked : Asked) → world.run ≡ run
      → resumed asked progress ≡ in_progress world asked.xid asked.cred asked.compound
  pub run_is : progress.run ≡ run
  pub fit : (asked : Asked) → 0 < asked.compound.count → length asked.compound.tag ≤ 255
      → fits_operations asked progress ≡ true

abbrev pub asked_of : Running → Asked
asked_of running = asks running.xid running.cred.now (compound_view running.compound)

unfoldable pub in_progress_of : Running → InProgress
in_progress_of running = resumed (asked_of running) running.progress

-- what comes next of these operations' bytes
abbrev pub next_view : (operations : List ℕ) → Next → world.Next
next_view operations (nexts.Refuses operation status) = world.Refuses operation status
next_view operations (nexts.Reads argument position) =
    world.Reads (argument_view argument) (drop position operations)

-- the first test that holds, or what comes after all of them
abbrev pub refused_or : Option (ℕ × Status) → world.Next → world.Next
refused_or None next = next
refused_or (Some refusal) next = world.Refuses refusal.0 refusal.1

-- what follows the operation is some of these bytes
abbrev pub IsWithin : (operations : List ℕ) → Next → Type 0
IsWithin operations (nexts.Refuses operation status) = Unit {0}
IsWithin operations (nexts.Reads argument position) = position ≤ length operations

-- What peers were served is of a run of the server.
use Rattle.std.proofs.Common.{ℕ, List, [], ◌∷◌, Option, refl}
use Rattle.disk.specs.declared.device.Device.{Ghosts}
use Rattle.model.specs.Server.Runs.{Left}
use Rattle.server.specs.Seen.{left_of}
use Rattle.server.specs.Views.{seen_with, volume_of, world_of}
use Rattle.server.specs.declared.server.Server.{Server}
use Rattle.server.proofs.Stops.{every_trace}
use Rattle.volume.specs.VolumeState.{kept_of}
use Rattle.peer.specs.Calls.{MakesCalls}
use Rattle.peer.specs.Served.{AreServed, EveryWire}
use Rattle.peer.specs.declared.peer.Peer.{Peer}
use Rattle.peer.specs.declared.stream.Stream as stream

pub every_wire : {D S : Type 0} {g : Ghosts D} {h : stream.Ghosts S} (keeps : Type 0) (now : Server D g) (peers : ℕ → Option (Peer S h)) → EveryWire keeps now peers
every_wire keeps now peers settings first streams keeps_so up begins so_far =
    let begun : List Left = left_of (kept_of (volume_of first)) ∷ [] in
    let made : MakesCalls first now begun (AreServed (world_of first) streams peers) = so_far.made keeps_so up begun begins.ready in
    record {
      recent = made.after;
      calls = made.calls;
      are = made.are;
      told = (every_trace (seen_with first begun) (seen_with now made.after) made.calls made.served).1;
      stops = λ event new moves. (
        record {
          settings = settings;
          run = (volume_of first).run;
          start = kept_of (volume_of first);
          first = seen_with first begun;
          calls = made.calls;
          old = seen_with now made.after;
          event = event;
          new = new;
          mounted = begins;
          served = made.served;
          moves = moves;
        },
        refl,
        refl,
        refl,
      );
    }

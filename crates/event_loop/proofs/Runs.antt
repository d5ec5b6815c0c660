-- Calls of a server and its peers, one after the other.
use Rattle.std.proofs.Common.{◌≡◌, ℕ, List, [], ◌∷◌, ◌++◌, Result, Ok, Err, IfOk, ap, refl, sym, subst, ◌∙◌}
use Rattle.disk.specs.declared.device.Device.{Ghosts}
use Rattle.model.specs.Sessions.Session.{Settings}
use Rattle.server.specs.Views.{server_failures, volume_of}
use Rattle.server.specs.declared.server.Server.{Server}
use Rattle.slab.specs.Slab.{get}
use Rattle.peer.proofs.Wire.{every_wire}
use Rattle.peer.specs.Served.{Serves, ServesFurther, ServesNone, ServesOneMore}
use Rattle.peer.specs.declared.peers.Peers.{Peers}
use Rattle.peer.specs.declared.stream.Stream as stream
use Rattle.system.specs.declared.refused.Refused.{Refused}
use Rattle.event_loop.specs.Runs.{EveryLoop, HasBegun, HasNoPeer, LoopBegins, LoopBeginsAnew, RunsOn}

joined_all : {A : Type 0} (one two three : List A) → (one ++ two) ++ three ≡ one ++ (two ++ three)
joined_all [] two three = refl
joined_all (head ∷ one) two three = ap (λ (rest : List _). head ∷ rest) (joined_all one two three)

with_none : {A : Type 0} (all : List A) → all ++ [] ≡ all
with_none [] = refl
with_none (head ∷ all) = ap (λ (rest : List _). head ∷ rest) (with_none all)

module _ {D S : Type 0} {g : Ghosts D} {h : stream.Ghosts S} {keeps : Type 0} where
  -- no call
  pub runs_none : (all : Peers D S g h) → RunsOn keeps all all
  runs_none all = record { came = []; serves = λ first streams so_far. so_far }

  -- a call after which nobody has come
  pub runs_further : (old new : Peers D S g h) → ServesFurther keeps old.server new.server (get old.peers) (get new.peers) → RunsOn keeps old new
  runs_further old new further = record { came = []; serves = further }

  -- and one by which somebody has come
  pub runs_joined : (old new : Peers D S g h) (stream : S) → ServesOneMore keeps old.server new.server stream (get old.peers) (get new.peers) → RunsOn keeps old new
  runs_joined old new stream one = record { came = (one.0, stream) ∷ []; serves = one.1 }

  -- first these, then those
  pub runs_then : {old between new : Peers D S g h} → RunsOn keeps old between → RunsOn keeps between new → RunsOn keeps old new
  runs_then {new = new} one two = record {
    came = two.came ++ one.came;
    serves = λ first streams so_far.
        subst (λ (all : List (ℕ × S)). Serves keeps first new.server all (get new.peers)) (sym (joined_all two.came one.came streams))
        (two.serves first (one.came ++ streams) (one.serves first streams so_far));
  }

  -- A loop begins

  pub has_none : (server : Server D g) (mounted : Result (Server D g) Refused) (all : Peers D S g h) → mounted ≡ Ok server → all.server ≡ server
      → ServesNone keeps server (get all.peers) → HasNoPeer keeps mounted all
  has_none server mounted all was is none = record {
    server = server;
    is = was;
    serves = λ first goes. subst (λ (now : Server D g). Serves keeps first now [] (get all.peers)) (sym is) (none first goes);
  }

  pub loop_begins : {settings : Settings} {device : D} {mounted : Result (Server D g) Refused} {all : Peers D S g h} → IfOk mounted (HasBegun keeps settings device) → HasNoPeer keeps mounted all
      → LoopBegins keeps settings device all
  loop_begins {settings = settings} {device = device} begun none =
      let here : HasBegun keeps settings device none.server = subst (λ (mounted : Result (Server D g) Refused). IfOk mounted (HasBegun keeps settings device)) none.is begun in
      record { first = here.first; begins = here.begins; mounts = here.mounts; serves = none.serves here.first here.goes }

  -- by settings that are the same
  pub loop_begins_as : {settings other : Settings} {device : D} {mounted : Result (Server D g) Refused} {all : Peers D S g h} → other ≡ settings → IfOk mounted (HasBegun keeps other device)
      → HasNoPeer keeps mounted all → LoopBegins keeps settings device all
  loop_begins_as {device = device} {mounted = mounted} same begun none = loop_begins (subst (λ (settings : Settings). IfOk mounted (HasBegun keeps settings device)) same begun) none

  -- on the device that another loop had
  pub loop_begins_anew : {settings other : Settings} {device : D} {mounted : Result (Server D g) Refused} {old all : Peers D S g h} (server : Server D g) → server ≡ old.server
      → g.history device ≡ (volume_of server).history → g.size device ≡ (volume_of server).sectors → g.failed device ≡ server_failures server
      → other ≡ settings → IfOk mounted (HasBegun keeps other device) → HasNoPeer keeps mounted all → LoopBeginsAnew keeps settings old all
  loop_begins_anew {device = device} server is history size failures same begun none = record {
    device = device;
    history = history ∙ ap (λ (server : Server D g). (volume_of server).history) is;
    size = size ∙ ap (λ (server : Server D g). (volume_of server).sectors) is;
    failures = failures ∙ ap (λ (server : Server D g). server_failures server) is;
    begins = loop_begins_as same begun none;
  }

  pub every_loop : (now : Peers D S g h) → EveryLoop keeps now
  every_loop now settings device old begins runs keeps_so up =
      let so_far : Serves keeps begins.first now.server (runs.came ++ []) (get now.peers) = runs.serves begins.first [] begins.serves in
      every_wire keeps now.server (get now.peers) settings begins.first runs.came keeps_so up begins.begins
      (subst (λ (all : List (ℕ × S)). Serves keeps begins.first now.server all (get now.peers)) (with_none runs.came) so_far)

-- what holds of what a call returned holds of what is made of it
pub if_ok : {A E : Type 0} (P Q : A → Type 0) (result : Result A E) → ((value : A) → P value → Q value) → IfOk result P → IfOk result Q
if_ok P Q (Ok value) shows is = shows value is
if_ok P Q (Err error) shows is = tt

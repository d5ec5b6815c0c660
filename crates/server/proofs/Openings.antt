-- What the turn of a whole record is, by what its call asks for.
use Rattle.std.proofs.Common.{◌≡◌, ◌<◌, ◌≤◌, ℕ, true, List, length, refl, ap, sym, subst, ◌∙◌}
use Rattle.compound.specs.Steps.{stepped_on}
use Rattle.compound.specs.Views.{Asked, IsBegin, asks, resumed, fits_operations}
use Rattle.model_tree.specs.declared.acl.Cred.{Cred}
use Rattle.model.specs.Wire.Record.{framed}
use Rattle.model.specs.Wire.Rpc.{Call, Calls, OtherVersion, VersionRefused, Reply, Compound, Answers, Runs, read_call, request_of, reply_text}
use Rattle.model.specs.Server.World.{World, InProgress, called, in_progress}
use Rattle.rpc.specs.Places.{is_within}
use Rattle.server.specs.declared.begun.Begun.{Begun}
use Rattle.server.specs.Connections.{replied}
use Rattle.server.specs.Stages.{CanGoOn, asked_at, in_progress_at}

pub other_answers : (request : List ℕ) (xid : ℕ) (reply : List ℕ) → read_call request ≡ OtherVersion xid
    → reply ≡ framed (reply_text xid VersionRefused)
    → (world : World) (number now : ℕ) → called world number now (read_call request) ≡ replied world number reply
other_answers request xid reply is bytes world number now = rw (is, bytes) refl

pub call_answers : (request : List ℕ) (call : Call) (answer : Reply) (reply : List ℕ) → read_call request ≡ Calls call
    → request_of call ≡ Answers answer → reply ≡ framed (reply_text call.xid answer)
    → (world : World) (number now : ℕ) → called world number now (read_call request) ≡ replied world number reply
call_answers request call answer reply is asks bytes world number now = rw (is, asks, bytes) refl

runs_as : (run : ℕ) (request : List ℕ) (call : Call) (cred : Cred) (compound : Compound) (running : InProgress) → read_call request ≡ Calls call → request_of call ≡ Runs cred compound
    → ((world : World) → world.run ≡ run → running ≡ in_progress world call.xid cred compound)
    → (world : World) (number now : ℕ) → world.run ≡ run → called world number now (read_call request) ≡ stepped_on world number now running
runs_as run request call cred compound running is by_tests begun world number now here = rw (is, by_tests, begun world here) refl

module _ (run : ℕ) (request : List ℕ) (call : Call) (cred : Cred) (compound : Compound) (begun : Begun)
    (is : read_call request ≡ Calls call) (by_tests : request_of call ≡ Runs cred compound)
    (stands : asked_at request begun.call ≡ asks call.xid cred compound) (begins : IsBegin run begun.progress) where
  -- its COMPOUND can go on
  pub can_begin : is_within request begun.call.place ≡ true → 0 < compound.count → length compound.tag ≤ 255 → CanGoOn run request begun
  can_begin within some short =
      let fit : fits_operations (asked_at request begun.call) begun.progress ≡ true =
      subst (λ (asked : Asked). fits_operations asked begun.progress ≡ true) (sym stands) (begins.fit (asks call.xid cred compound) some short) in
      record { can = rw (within, fit) refl; began_in = begins.run_is }

  -- and a turn of it is the call's
  pub call_runs : (world : World) (number now : ℕ) → world.run ≡ run
      → called world number now (read_call request) ≡ stepped_on world number now (in_progress_at request begun)
  call_runs = runs_as run request call cred compound (in_progress_at request begun) is by_tests
      (λ world here. ap (λ (asked : Asked). resumed asked begun.progress) stands ∙ begins.begun world (asks call.xid cred compound) here)

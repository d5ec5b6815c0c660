-- A change on a world is that on its file system: for each operation on the tree whose result has a
-- length that does not depend on what the operation finds.
use Rattle.std.proofs.Common.{◌≡◌, ◌≤◌, ◌<◌, ◌^◌, ℕ, Bool, true, false, if◌then◌else◌, List, ◌++◌, length, nat_le, Option, Some, None, Err, IfOk, IsErrOf, refl, sym, ap, subst, ◌∙◌, arith}
use Rattle.layout.specs.Stands.{Kept}
use Rattle.fs.specs.Changes.{FsChanges, fs_ending}
use Rattle.fs.specs.FileSystem.{FileSystem}
use Rattle.fs.specs.Operations.{IsNotDone}
use Rattle.fs.specs.declared.fault.FsFault.{FsFault}
use Rattle.fs.specs.declared.fault.FsFault.TheVariants as fault
use Rattle.fs.proofs.ChangeLaws.{changes_by}
use Rattle.volume.specs.Changes.{Given, Broken}
use Rattle.model.specs.Operations.Answer.{Answer, Outcome, Done, Refused}
use Rattle.model.specs.Operations.Context.{Context}
use Rattle.model.specs.Sessions.Opens.{Opens}
use Rattle.model.specs.Operations.Operation.{Argument, operation_of}
use Rattle.model_tree.specs.Refusals.Refusal.{first_refusal}
use Rattle.model.specs.Server.Runs.{is_done}
use Rattle.model.specs.Sessions.Session.{Table}
use Rattle.model.specs.Operations.Step.{State, Stepped, does, effect, refused, refusals, change_refusals, unless_refused, answered}
use Rattle.model.specs.Server.World.{World, InProgress, Gives, run, stepped, state_of, in_room, has_room, refuses, reply_with, outcome_text}
use Rattle.model_tree.specs.declared.limits.Limits.{Limits}
use Rattle.model_tree.specs.declared.status.Status.{Status}
use Rattle.model_tree.specs.declared.status.Status.TheVariants as status
use Rattle.model.proofs.Sessions.KeptLaws.{refused_length}
use Rattle.wire.specs.Short.{IsRefusal}
use Rattle.compound.specs.Operates.{RunsTo, GivesIn, HasResult, ChangesTreeAndOpens, run_in_room, tree_by}
use Rattle.compound.specs.Runs.{with_rest}
use Rattle.compound.specs.States.{HasState, shared}
use Rattle.compound.specs.Trees.{IsHere, IsUp, refusal, fault_result}
use Rattle.compound.specs.Volumes.{OperationGives, ending}
use Rattle.compound.proofs.QuietLaws.{leaves_all, left_all}
use Rattle.compound.proofs.Replies.{room_length}
use Rattle.compound.proofs.Rooms.{state_same, has_room_by, gives_refusal}
use Rattle.compound.proofs.Trees.{here, tree_runs}
use Rattle.compound.proofs.VolumeLaws.{refusal_changes}
use Rattle.compound.proofs.Creating.{below}

-- it succeeds, and this is whether the reply has room for its answer
abbrev pub HasThisRoom : InProgress → Bool → Stepped → Type 0
HasThisRoom request room stepped =
    (answer : Answer) × (stepped.outcome ≡ Done answer) × (room ≡ nat_le (length (reply_with request (Done answer))) 16368)

-- An outcome in the room that the reply has

in_room_by : (world : World) (request : InProgress) (kind : Argument) (after : Stepped) (answer : Answer) (room : Bool)
    → after.outcome ≡ Done answer → has_room world request (Done answer) ≡ room
    → in_room world request (operation_of kind) (stepped world request after)
    ≡ (if room then stepped world request (record { outcome = Done answer; state = after.state })
    else refuses world request (operation_of kind) status.RepTooBig)
in_room_by world request kind after answer room done is =
    ap (λ (o : Outcome). in_room world request (operation_of kind) (stepped world request (record { outcome = o; state = after.state }))) done
    ∙ ap (λ (b : Bool). if b then stepped world request (record { outcome = Done answer; state = after.state })
    else refuses world request (operation_of kind) status.RepTooBig) is

full_by : (first : Option Status) (world : World) (request : InProgress) (state : State) (kind : Argument) (after : Stepped) (answer : Answer)
    → after.outcome ≡ Done answer → has_room world request (Done answer) ≡ false
    → is_done (unless_refused state kind first after).outcome ≡ true
    → in_room world request (operation_of kind) (stepped world request (unless_refused state kind first after))
    ≡ refuses world request (operation_of kind) status.RepTooBig
full_by None world request state kind after answer done room is = in_room_by world request kind after answer false done room
full_by (Some reason) world request state kind after answer done room is = absurd (cc)

tree_by_first : (first : Option Status) (world : World) (request : InProgress) (state : State) (kind : Argument) (after : Stepped) (answer : Answer)
    → after.outcome ≡ Done answer → has_room world request (Done answer) ≡ true
    → tree_by world (in_room world request (operation_of kind) (stepped world request (unless_refused state kind first after)))
    ≡ (unless_refused state kind first after).state.tree
tree_by_first None world request state kind after answer done room = ap (tree_by world) (in_room_by world request kind after answer true done room)
tree_by_first (Some reason) world request state kind after answer done room = refl

ran_by_first : (first : Option Status) (world : World) (request : InProgress) (state : State) (kind : Argument) (after : Stepped) (answer : Answer)
    → after.outcome ≡ Done answer → has_room world request (Done answer) ≡ true
    → in_room world request (operation_of kind) (stepped world request (unless_refused state kind first after))
    ≡ stepped world request (unless_refused state kind first after)
ran_by_first None world request state kind after answer done room =
    in_room_by world request kind after answer true done room
    ∙ ap (λ (o : Outcome). stepped world request (record { outcome = o; state = after.state })) (sym done)
ran_by_first (Some reason) world request state kind after answer done room = refl

-- results of the same length
pub same_room : (request : InProgress) (answer other : Answer) (room : Bool)
    → length (outcome_text (Done answer)) ≡ length (outcome_text (Done other))
    → room ≡ nat_le (length (reply_with request (Done answer))) 16368 → room ≡ nat_le (length (reply_with request (Done other))) 16368
same_room request answer other room same is =
    is ∙ ap (λ (n : ℕ). nat_le n 16368) (omega (arith, same, room_length request (Done answer), room_length request (Done other)))

pub is_short : (request : InProgress) (answer : Answer) → true ≡ nat_le (length (reply_with request (Done answer))) 16368
    → length (reply_with request (Done answer)) ≤ 16368
is_short request answer room = below _ 16368 room

-- One operation

module _ (now : ℕ) (fs : FileSystem) (request : InProgress) (kind : Argument)
    (on_tree : (world : World) (rest : List ℕ) → run world (with_rest request rest) now kind
    ≡ stepped world (with_rest request rest) (does world.limits.volume (state_of world (with_rest request rest)) now kind)) where
  -- it is done
  pub done_runs : (new : FileSystem) (table : Table) (before after : Opens) (left : Context) (answer : Answer)
      → ((state : State) → IsHere fs request state → state.opens ≡ before → does fs.volume.limits state now kind
      ≡ answered (record { tree = new.volume.tree; changes = new.changes; opens = after; context = left }) answer)
      → RunsTo now (shared fs table before) (shared new table after) request (record request { context = left }) kind (Done answer)
  done_runs new table before after left answer does_so = λ world rest on.
      on_tree world rest
      ∙ (ap (λ (limits : Limits). stepped world (with_rest request rest) (does limits (state_of world (with_rest request rest)) now kind)) on.volume
      ∙ (ap (stepped world (with_rest request rest)) (does_so (state_of world (with_rest request rest)) (here world fs table before request rest on) on.opens)
      ∙ ap (λ (known : Table). Gives (Done answer) (record world { tree = new.volume.tree; changes = new.changes; opens = after; table = known })
      (with_rest (record request { context = left }) rest)) on.table_is))

  -- it is refused
  pub refused_runs : (table : Table) (opens : Opens) (reason : Status)
      → ((state : State) → IsHere fs request state → state.opens ≡ opens → does fs.volume.limits state now kind ≡ refused state kind reason)
      → RunsTo now (shared fs table opens) (shared fs table opens) request request kind (Refused (operation_of kind) reason)
  refused_runs table opens reason does_so = tree_runs now fs table opens request request.context kind (Refused (operation_of kind) reason) on_tree
      (λ world rest on. does_so (state_of world (with_rest request rest)) (here world fs table opens request rest on) on.opens)

  pub refused_gives : (table : Table) (opens : Opens) (reason : Status)
      → ((state : State) → IsHere fs request state → state.opens ≡ opens → does fs.volume.limits state now kind ≡ refused state kind reason)
      → GivesIn now (shared fs table opens) (shared fs table opens) request request kind (Refused (operation_of kind) reason)
  refused_gives table opens reason does_so =
      gives_refusal now (shared fs table opens) (shared fs table opens) request kind (operation_of kind) reason (refused_runs table opens reason does_so)

  module _ (room : Bool) (sized : (state : State) → IsHere fs request state → HasThisRoom request room (effect fs.volume.limits state now kind)) where
    room_of : (table : Table) (opens : Opens) (world : World) (rest : List ℕ) → HasState world (shared fs table opens) → (answer : Answer)
        → room ≡ nat_le (length (reply_with request (Done answer))) 16368 → has_room world (with_rest request rest) (Done answer) ≡ room
    room_of table opens world rest on answer is = has_room_by world (shared fs table opens) (with_rest request rest) (Done answer) room on is

    -- it would be done, but its reply has no room
    pub full : (table : Table) (opens : Opens) → room ≡ false
        → ((state : State) → IsHere fs request state → state.opens ≡ opens → is_done (does fs.volume.limits state now kind).outcome ≡ true)
        → GivesIn now (shared fs table opens) (shared fs table opens) request request kind (Refused (operation_of kind) status.RepTooBig)
    unfolding does
    full table opens none done = λ world rest on.
        let state = state_of world (with_rest request rest) in
        let there = here world fs table opens request rest on in
        let size = sized state there in
        ap (in_room world (with_rest request rest) (operation_of kind)) (on_tree world rest)
        ∙ (ap (λ (limits : Limits). in_room world (with_rest request rest) (operation_of kind) (stepped world (with_rest request rest) (does limits state now kind))) on.volume
        ∙ (full_by (first_refusal (refusals fs.volume.limits state kind ++ change_refusals fs.volume.limits state kind (effect fs.volume.limits state now kind).state.tree))
        world (with_rest request rest) state kind (effect fs.volume.limits state now kind) size.0 size.1
        (room_of table opens world rest on size.0 size.2 ∙ none) (done state there on.opens)
        ∙ ap (λ (after : World). refuses after (with_rest request rest) (operation_of kind) status.RepTooBig) (sym (state_same world (shared fs table opens) on))))

    -- with room the tree after it is that of the definition
    pub tree_given : (table : Table) (opens : Opens) (world : World) (rest : List ℕ) → room ≡ true → HasState world (shared fs table opens)
        → tree_by world (run_in_room world (with_rest request rest) now kind) ≡ (does fs.volume.limits (state_of world (with_rest request rest)) now kind).state.tree
    unfolding does
    tree_given table opens world rest some on =
        let state = state_of world (with_rest request rest) in
        let size = sized state (here world fs table opens request rest on) in
        ap (λ ran. tree_by world (in_room world (with_rest request rest) (operation_of kind) ran)) (on_tree world rest)
        ∙ (ap (λ (limits : Limits). tree_by world (in_room world (with_rest request rest) (operation_of kind) (stepped world (with_rest request rest) (does limits state now kind)))) on.volume
        ∙ tree_by_first (first_refusal (refusals fs.volume.limits state kind ++ change_refusals fs.volume.limits state kind (effect fs.volume.limits state now kind).state.tree))
        world (with_rest request rest) state kind (effect fs.volume.limits state now kind) size.0 size.1
        (room_of table opens world rest on size.0 size.2 ∙ some))

    -- and the operation comes to what the definition gives
    pub ran_given : (table : Table) (opens : Opens) (world : World) (rest : List ℕ) → room ≡ true → HasState world (shared fs table opens)
        → run_in_room world (with_rest request rest) now kind
        ≡ stepped world (with_rest request rest) (does fs.volume.limits (state_of world (with_rest request rest)) now kind)
    unfolding does
    ran_given table opens world rest some on =
        let state = state_of world (with_rest request rest) in
        let size = sized state (here world fs table opens request rest on) in
        ap (in_room world (with_rest request rest) (operation_of kind)) (on_tree world rest)
        ∙ (ap (λ (limits : Limits). in_room world (with_rest request rest) (operation_of kind) (stepped world (with_rest request rest) (does limits state now kind))) on.volume
        ∙ ran_by_first (first_refusal (refusals fs.volume.limits state kind ++ change_refusals fs.volume.limits state kind (effect fs.volume.limits state now kind).state.tree))
        world (with_rest request rest) state kind (effect fs.volume.limits state now kind) size.0 size.1
        (room_of table opens world rest on size.0 size.2 ∙ some))

    -- What it comes to that the file system did not do

    module _ (keeps_word : Type 0) (given : Given) (new : FileSystem) (before after : ℕ) (up : fs.volume.is_down ≡ false) where
      pub told_gives : (T : Type 0) (opens left : Opens) (why : FsFault) → left ≡ opens → ((state : State) → IsHere fs request state → state.opens ≡ opens → IsNotDone fs state now kind why) → (IsErrOf {T = T} (Err why) fault.NoRoom → room ≡ false)
          → FsChanges keeps_word given fs new before after (fs_ending {T = T} (Err why))
          → IfOk (fault_result (operation_of kind) why) (ChangesTreeAndOpens fs new opens left now request kind)
      told_gives T opens left (fault.Status reason) stays step no_room changes = λ table.
          let same = left_all keeps_word given fs new before after changes in
          subst (λ (after : Opens). GivesIn now (shared fs table opens) (shared new table after) request request kind (Refused (operation_of kind) reason)) (sym stays)
          (subst (λ (one : FileSystem). GivesIn now (shared fs table opens) (shared one table opens) request request kind (Refused (operation_of kind) reason)) (sym same)
          (refused_gives table opens reason step))
      told_gives T opens left fault.NoRoom stays step no_room changes = λ table.
          let same = left_all keeps_word given fs new before after changes in
          subst (λ (after : Opens). GivesIn now (shared fs table opens) (shared new table after) request request kind (Refused (operation_of kind) status.RepTooBig)) (sym stays)
          (subst (λ (one : FileSystem). GivesIn now (shared fs table opens) (shared one table opens) request request kind (Refused (operation_of kind) status.RepTooBig)) (sym same)
          (full table opens (no_room refl) step))
      told_gives T opens left fault.Memory stays step no_room changes = tt
      told_gives T opens left fault.Device stays step no_room changes = tt
      told_gives T opens left fault.Down stays step no_room changes = tt

      pub told_changes : (T : Type 0) (table : Table) (opens : Opens) (why : FsFault) → ((state : State) → IsHere fs request state → state.opens ≡ opens → IsNotDone fs state now kind why) → IsUp why
          → (IsErrOf {T = T} (Err why) fault.NoRoom → room ≡ false) → (IsErrOf {T = T} (Err why) fault.Device → room ≡ true) → (room ≡ true → (kept : Kept) (lasts : Bool) → OperationGives (shared fs table opens) request now kind kept lasts → given kept lasts)
          → FsChanges keeps_word given fs new before after (fs_ending {T = T} (Err why))
          → FsChanges keeps_word (OperationGives (shared fs table opens) request now kind) fs new before after (ending (fault_result (operation_of kind) why))
      told_changes T table opens (fault.Status reason) step is no_room device_room gives changes =
          let same = left_all keeps_word given fs new before after changes in
          refusal_changes keeps_word fs new table opens before after request now kind (operation_of kind) reason same (changes.volume_changes.none (λ broken. cc)) up
          (subst (λ (one : FileSystem). GivesIn now (shared fs table opens) (shared one table opens) request request kind (Refused (operation_of kind) reason)) (sym same)
          (refused_gives table opens reason step))
      told_changes T table opens fault.NoRoom step is no_room device_room gives changes =
          let same = left_all keeps_word given fs new before after changes in
          refusal_changes keeps_word fs new table opens before after request now kind (operation_of kind) status.RepTooBig same (changes.volume_changes.none (λ broken. cc)) up
          (subst (λ (one : FileSystem). GivesIn now (shared fs table opens) (shared one table opens) request request kind (Refused (operation_of kind) status.RepTooBig)) (sym same)
          (full table opens (no_room refl) step))
      told_changes T table opens fault.Memory step is no_room device_room gives changes =
          leaves_all keeps_word _ fs new before after (left_all keeps_word given fs new before after changes) (changes.volume_changes.none (λ broken. cc))
      told_changes T table opens fault.Device step is no_room device_room gives changes =
          changes_by keeps_word given (OperationGives (shared fs table opens) request now kind) (gives (device_room refl)) fs new before after Broken changes
      told_changes T table opens fault.Down step is no_room device_room gives changes = absurd (is)

-- a fault has a status that refuses, and is not of a device that had failed before
pub is_up : (now : ℕ) (fs : FileSystem) (state : State) (kind : Argument) (why : FsFault) → fs.volume.is_down ≡ false
    → ((reason : Status) → does fs.volume.limits state now kind ≡ refused state kind reason → IsRefusal reason)
    → IsNotDone fs state now kind why → IsUp why
is_up now fs state kind (fault.Status reason) up bad step = bad reason step
is_up now fs state kind fault.NoRoom up bad step = tt
is_up now fs state kind fault.Memory up bad step = tt
is_up now fs state kind fault.Device up bad step = tt
is_up now fs state kind fault.Down up bad step = gone fs.volume.is_down up step
  where
    gone : (is_down : Bool) → is_down ≡ false → is_down ≡ true → ⊥
    gone is_down is other = cc

-- a refusal is encoded, and sends nothing again

refusal_encoded : (request : InProgress) (operation : ℕ) (reason : Status) → operation < 2 ^ 32 → IsRefusal reason → HasResult request (refusal operation reason)
refusal_encoded request operation reason fits bad = record {
  fits = (fits, bad);
  small = omega (arith, refused_length operation reason);
  room = tt;
}

pub fault_is_encoded : (request : InProgress) (operation : ℕ) (why : FsFault) → operation < 2 ^ 32 → IsUp why
    → IfOk (fault_result operation why) (HasResult request)
fault_is_encoded request operation (fault.Status reason) fits is = refusal_encoded request operation reason fits is
fault_is_encoded request operation fault.NoRoom fits is = refusal_encoded request operation status.RepTooBig fits (λ zero. omega (arith, zero))
fault_is_encoded request operation fault.Memory fits is = tt
fault_is_encoded request operation fault.Device fits is = tt
fault_is_encoded request operation fault.Down fits is = tt

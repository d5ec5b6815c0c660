-- A turn of a connection, as the turn of its server.
use Rattle.std.proofs.Common.{◌≡◌, ℕ, true, not, ◌&&◌, List, subst, false, true≢false, Option, Some, Result, Ok, Err, IfOk, OnErr, refl, sym, ap, ap₂, ◌∙◌, ◌⊎◌, ◌≢◌, inl, inr, Bool}
use Rattle.std.specs.Prelude.{map}
use Rattle.disk.specs.Moments.{History, AddsOnly}
use Rattle.disk.proofs.MomentLemmas.{AddsOnly-weaken}
use Rattle.compound.specs.States.{Agrees, SharedState, HasState, with_state}
use Rattle.compound.specs.Volumes.{TurnGives, fault_ending, kept_of_world, lasts, failed_step_ending}
use Rattle.compound.specs.declared.fault.Fault.{Fault}
use Rattle.compound.specs.declared.fault.Fault.TheVariants as faults
use Rattle.compound.specs.declared.step.StepError.{StepError}
use Rattle.compound.specs.declared.step.Stepped.{Stepped}
use Rattle.fs.specs.Changes.{FsChanges, LetsWait, deferred}
use Rattle.fs.specs.FileSystem.{FileSystem}
use Rattle.layout.specs.Stands.{Kept}
use Rattle.layout.specs.declared.versions.VersionNumber.{VersionNumber}
use Rattle.volume.specs.Changes.{Given, Done}
use Rattle.volume.specs.VolumeState.{VolumeState, IsSameVolume, AddsKept, MayAdd, StandsForOne, IsRecent}
use Rattle.model_tree.specs.declared.limits.Limits.{Limits}
use Rattle.model_tree.specs.Trees.Keyed.{Keyed, at, with}
use Rattle.model_tree.specs.Trees.Tree.{Tree}
use Rattle.model_tree.proofs.Trees.KeyedLaws.{at-with_same}
use Rattle.model.specs.Server.Runs as runs
use Rattle.model.specs.Server.Runs.{Serving}
use Rattle.model.specs.Sessions.Session.{Table, Settings}
use Rattle.model.specs.Server.World as world
use Rattle.model.specs.Server.World.{World, one, with_connection}
use Rattle.server.specs.declared.turn.Turn.{Turn}
use Rattle.server.specs.Connections.{ConnectionTurns, IsRising, HasGoneOn, turn_view}
use Rattle.server.specs.Seen.{MayKeepDuring, kept_by}
use Rattle.server.specs.Views.{world_by, server_limits, serving_by}
use Rattle.model.proofs.Sessions.AlteredRuns.{one_settings}
use Rattle.server.proofs.Turning.{one_is, agrees_on}
use Rattle.model.proofs.Sessions.SameSeats.{same_seats}
use Rattle.server.proofs.Pairs.{among_left, lasting_by, has_to_last}
use Rattle.server.proofs.Worlds.{may_be_left_from}

pub has_state : (state : SharedState) (connections : Keyed world.Connection) → HasState (world_by state connections) state
has_state state connections = record {
  volume = refl;
  sessions = refl;
  reply_bytes = refl;
  run = refl;
  tree = refl;
  changes = refl;
  opens = refl;
  table_is = refl;
}

module _ (state left : SharedState) (old new : Keyed world.Connection) (number now : ℕ) (before after : world.Connection)
    (written : new ≡ with old number after) where
  -- the turn, and the world after it
  pub turned : (done : Turn) → ConnectionTurns now state left before after done → IsRising old → at number old ≡ Some before
      → IsSameVolume state.files.volume left.files.volume
      → (turn_view done ≡ (one (world_by state old) number now).turn) × (world_by left new ≡ (one (world_by state old) number now).world)
  turned done turns rises is same =
      let made = turns (world_by state old) number (has_state state old) rises is in
      let stays : left.table.settings ≡ state.table.settings
      = sym (ap (λ (w : World). w.table.settings) made.1) ∙ one_settings (world_by state old) number now in
      let here : world_by left new ≡ with_connection (with_state (world_by state old) left) number after
      = ap (λ (v : VersionNumber). record (world_by left new) { limits = server_limits v left.files.volume.limits left.table.settings }) same.version
      ∙ (ap₂ (λ (l : Limits) (s : Settings). record (world_by left new) { limits = server_limits state.files.volume.version l s }) same.limits stays
      ∙ (ap (λ (r : ℕ). record (world_by left new) { limits = server_limits state.files.volume.version state.files.volume.limits state.table.settings; run = r }) same.run
      ∙ ap (λ (connections : Keyed world.Connection). record (with_state (world_by state old) left) { connections = connections }) written)) in
      (sym made.0, here ∙ sym made.1)

-- a turn that was not done leaves the world
pub failed : (state left : SharedState) (old new : Keyed world.Connection) → left.files ≡ state.files
    → left ≡ record state { files = left.files } → new ≡ old → world_by left new ≡ world_by state old
failed state left old new files stays connections =
    ap (λ (s : SharedState). world_by s new) (stays ∙ ap (λ (f : FileSystem). record state { files = f }) files) ∙ ap (world_by state) connections

-- and if the device failed, all of it except the tree
pub broken : (state left : SharedState) (old new : Keyed world.Connection) → IsSameVolume state.files.volume left.files.volume → left.files.changes ≡ state.files.changes
    → left ≡ record state { files = left.files } → new ≡ old → (tree : Tree) → record (world_by left new) { tree = tree } ≡ record (world_by state old) { tree = tree }
broken state left old new same changes stays connections tree =
    ap (λ (s : SharedState). record (world_by s new) { tree = tree }) stays
    ∙ (ap (λ (v : VersionNumber). record (world_by (record state { files = left.files }) new) { tree = tree; limits = server_limits v left.files.volume.limits state.table.settings }) same.version
    ∙ (ap (λ (l : Limits). record (world_by (record state { files = left.files }) new) { tree = tree; limits = server_limits state.files.volume.version l state.table.settings }) same.limits
    ∙ (ap (λ (r : ℕ). record (world_by (record state { files = left.files }) new) { tree = tree; limits = server_limits state.files.volume.version state.files.volume.limits state.table.settings; run = r })
    same.run
    ∙ (ap (λ (n : ℕ). record (world_by state new) { tree = tree; changes = n }) changes
    ∙ ap (λ (kept : Keyed world.Connection). record (world_by state kept) { tree = tree }) connections))))

-- a request that has begun goes on from its progress
pub gone_on_at : (old new : Keyed world.Connection) (number : ℕ) (before after : world.Connection) → at number old ≡ Some before → new ≡ with old number after
    → HasGoneOn (Some before) (Some after) → HasGoneOn (at number old) (at number new)
gone_on_at old new number before after there written further =
    subst (λ (b : Option world.Connection). HasGoneOn b (at number new)) (sym there)
    (subst (λ (a : Option world.Connection). HasGoneOn (Some before) a) (sym (ap (at number) written ∙ at-with_same old number after)) further)

-- what the turn of a connection gives in the server's world

abbrev pub turn_of : SharedState → Keyed world.Connection → (number now : ℕ) → world.Turned
turn_of state connections number now = one (world_by state connections) number now

-- whether that has to last
abbrev pub turn_lasts : SharedState → Keyed world.Connection → (number now : ℕ) → Bool
turn_lasts state connections number now =
    lasting_by (same_seats (turn_of state connections number now).world.table.seats state.files.volume.seats) (lasts (turn_of state connections number now).executed)

gives_one : (state : SharedState) (connections : Keyed world.Connection) (number now : ℕ) (before : world.Connection) → at number connections ≡ Some before
    → TurnGives state (λ w n. world.turned w n now (Some before)) (kept_of_world (turn_of state connections number now).world) (turn_lasts state connections number now)
gives_one state connections number now before is =
    let same = one_is (world_by state connections) number now before is in
    record {
      world = world_by state connections;
      number = number;
      has = has_state state connections;
      kept = ap (λ (t : world.Turned). kept_of_world t.world) same;
      lasting_is =
          has_to_last state.files.volume (kept_of_world (turn_of state connections number now).world)
          (same_seats (turn_of state connections number now).world.table.seats state.files.volume.seats) (lasts (turn_of state connections number now).executed) _
          (ap (λ (t : world.Turned). lasts t.executed) same);
    }

-- the same by whether the file system defers
pub gives_deferred : (state : SharedState) (connections : Keyed world.Connection) (number now : ℕ) (before : world.Connection) → at number connections ≡ Some before
    → deferred state.files.defers (TurnGives state (λ w n. world.turned w n now (Some before))) (kept_of_world (turn_of state connections number now).world)
    (turn_lasts state connections number now && not state.files.defers)
gives_deferred state connections number now before is = (turn_lasts state connections number now, gives_one state connections number now before is, refl)

-- and what lets something wait
pub gives_waiting : (state : SharedState) (connections : Keyed world.Connection) (number now : ℕ) (before : world.Connection) → at number connections ≡ Some before
    → (keeps_word : Type 0) (new : FileSystem) → LetsWait keeps_word (TurnGives state (λ w n. world.turned w n now (Some before))) state.files new Done → keeps_word
    → state.files.defers ≡ true → turn_lasts state connections number now ≡ true → new.waits ≡ true
gives_waiting state connections number now before is keeps_word new lets keeps defers lasting =
    lets.waits keeps refl defers (kept_of_world (turn_of state connections number now).world)
    (subst (λ (b : Bool). TurnGives state (λ w n. world.turned w n now (Some before)) (kept_of_world (turn_of state connections number now).world) b) lasting
    (gives_one state connections number now before is))

-- what a crash within it may leave

abbrev pub serving_of : SharedState → Keyed world.Connection → List runs.Left → Serving
serving_of state connections recent = serving_by (world_by state connections) recent state.files.volume.is_down state.files.waits

pub turning_moments : (state : SharedState) (old : Keyed world.Connection) (number now : ℕ) (recent : List runs.Left) (new : History) → IsRecent state.files.volume (map kept_by recent) → state.files.volume.is_down ≡ false
    → AddsKept state.files.volume (kept_of_world (turn_of state old number now).world) new
    → AddsOnly (StandsForOne state.files.volume (MayKeepDuring (serving_of state old recent) (runs.Turns number now))) state.files.volume.history new
turning_moments state old number now recent new is up moments =
    AddsOnly-weaken _ (StandsForOne state.files.volume (MayKeepDuring (serving_of state old recent) (runs.Turns number now))) state.files.volume.history new
    (λ image found. (found.0, either found.0 found.1, found.2)) (moments (map kept_by recent) is)
  where
    either : (kept : Kept) → MayAdd (map kept_by recent) (kept_of_world (turn_of state old number now).world) kept
        → MayKeepDuring (serving_of state old recent) (runs.Turns number now) kept
    either kept (inl stays) = inl (among_left recent kept stays)
    either kept (inr goes) =
        subst (MayKeepDuring (serving_of state old recent) (runs.Turns number now)) (sym goes)
        (may_be_left_from (world_by state old) recent state.files.volume.is_down state.files.waits (runs.Turns number now) up)

-- The table agrees with the volume after a step too, unless that is down

not_done : (keeps_word : Type 0) (given : Given) (old new : FileSystem) (before after : ℕ) (was is : Table) (reason : Fault)
    → FsChanges keeps_word given old new before after (fault_ending reason) → is ≡ was → Agrees old was → new.volume.is_down ≡ false → Agrees new is
not_done keeps_word given old new before after was is faults.Device changes same agrees up =
    absurd (true≢false (sym changes.volume_changes.ends.down ∙ up))
not_done keeps_word given old new before after was is faults.Memory changes same agrees up =
    subst (Agrees new) (sym same) (agrees_on old new was changes.volume_changes.same.run (ap (λ (h : VolumeState). h.seats) changes.volume_changes.ends) agrees)

pub agrees_after : (keeps_word : Type 0) (given : Given) (old new : FileSystem) (before after : ℕ) (was is : Table) (others : Type 0) (result : Result Stepped StepError)
    → FsChanges keeps_word given old new before after (failed_step_ending result) → IfOk result (λ done. Agrees new is) → OnErr result ((is ≡ was) × others)
    → Agrees old was → new.volume.is_down ≡ false → Agrees new is
agrees_after keeps_word given old new before after was is others (Ok done) changes agreed same agrees up = agreed
agrees_after keeps_word given old new before after was is others (Err failed) changes agreed same agrees up =
    not_done keeps_word given old new before after was is failed.fault changes same.0 agrees up

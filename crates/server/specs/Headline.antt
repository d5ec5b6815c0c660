-- What users of the server can rely on, from the bytes that arrive to the sectors that a crash
-- leaves.
use Rattle.std.specs.Prelude.{ℕ, List, [], ◌∷◌, slice_get, Some, ◌≡◌, ◌≢◌, ◌<◌, ◌≤◌, ◌+◌, ◌^◌}
use Rattle.disk.specs.Moments.{Image, History, LeftSince, at_rest, moment, seen}
use Rattle.layout.specs.Stands.{Kept, bare_in}
use Rattle.model_tree.specs.Trees.Fresh.{fresh_tree}
use Rattle.model.specs.Server.Runs.{Event, IsGoodPrefix, AreStamped, mounted, executed, done_with, before, stamp_in, Stored, HasAllHeld, replies_with}
use Rattle.model.specs.Sessions.SeatRuns.{AreSeats}
use Rattle.model.specs.Server.AnswerRuns.{IsPermittedAnswer}
use Rattle.model.specs.Server.SoundRuns.{IsStart}
use Rattle.model.specs.Server.StampRuns.{AreGiven}
use Rattle.model_tree.specs.Trees.Tree.{Tree}
use Rattle.model.specs.Server.World.{Entry}
use Rattle.layout.specs.Versions as versions
use Rattle.layout.specs.declared.versions.VersionNumber.{VersionNumber}
use Rattle.volume.specs.Formats.{IsFresh, LeavesFresh}
use Rattle.volume.specs.VolumeState.{VolumeState, kept_of}
use Rattle.volume.specs.MountAnswers.{IsMountRefused}
use Rattle.volume.specs.Remounts.{Remounts, IsFound, LeavesGood}
use Rattle.volume.specs.Stands.{StandsFor}
use Rattle.volume.specs.Superblock.{last_run}
use Rattle.volume.specs.declared.fault.MountFault.TheVariants as mounts
use Rattle.server.specs.Seen.{Seen, ServerCall, Moves, IsServed, world_after, history_of, AreTold, IsSeenReady, MayKeepDuring, left_of}
use Rattle.server.specs.Views.{server_limits, volume_of, seen_with}
use Rattle.server.specs.declared.server.Server.{Server}
use Rattle.disk.specs.declared.device.Device.{Ghosts}
use Rattle.model.specs.Sessions.Session.{Settings}

-- a server that was just mounted, and begins a run with this tree, which is well formed and from
-- before its stamps, and with these seats, which are of sessions of earlier runs: a crash now
-- leaves them
pub record IsMounted (settings : Settings) (run : ℕ) (start : Kept) (first : Seen) : Type 0 where
  pub serves : first.serving
      ≡ mounted (server_limits first.volume.version first.volume.limits settings) run start.tree
      start.seats
  pub counted : first.volume.run ≡ run
  pub few : run < 2 ^ 32
  pub begins : kept_of first.volume ≡ start
  pub seats : AreSeats run start.seats
  pub starts : ∥ IsStart first.volume.limits run start.tree ∥₁
  pub room : first.volume.limits.aces_set + 5 ≤ first.volume.limits.aces
  pub ready : IsSeenReady first

-- so begins a server that a mount gives
abbrev pub BeginsServing : {D : Type 0} {g : Ghosts D} → (settings : Settings) → Server D g → Type 0
BeginsServing settings server =
    IsMounted settings (volume_of server).run (kept_of (volume_of server))
    (seen_with server (left_of (kept_of (volume_of server)) ∷ []))

-- A run that was stopped at some moment of a call, or since its start.
pub record Stopped : Type 0 where
  -- what was chosen for it
  pub settings : Settings
  pub run : ℕ
  pub start : Kept
  pub first : Seen
  pub calls : List ServerCall
  pub old : Seen
  pub event : Event
  pub new : Seen
  pub mounted : IsMounted settings run start first
  pub served : IsServed first calls old
  pub moves : Moves old event new

-- an image that the crash left
abbrev pub LeftBy : Stopped → Image → Type 0
LeftBy stopped image =
    LeftSince stopped.new.volume.history (moment stopped.old.volume.history) image

-- What may have become of its device, and from which moment of it on a crash counts: power came
-- back to such an image, or stayed on, and mounts were begun.
abbrev pub IsMountedAfter : Stopped → History → ℕ → Type 0
IsMountedAfter stopped device from =
    Remounts stopped.first.volume.sectors stopped.new.volume.history
    (moment stopped.old.volume.history) device from

-- the operations that it executed, the one under way too, and the numbers of those whose reply was
-- handed out
abbrev pub executed_in : Stopped → List Entry
executed_in stopped =
    done_with (history_of stopped.first.serving.world stopped.calls)
    (executed stopped.old.serving stopped.event)

abbrev pub handed_out_in : Stopped → List ℕ
handed_out_in stopped = (history_of stopped.first.serving.world stopped.calls).handed_out

-- the replies that its seats held or were to hold, each with the operations that it names
abbrev pub replies_in : Stopped → List (Stored × List ℕ)
replies_in stopped = replies_with (history_of stopped.first.serving.world stopped.calls)
    stopped.old.serving.world stopped.event stopped.old.serving.is_down

-- The tree of a good prefix: each change and COMMIT whose reply was handed out is in it, and each
-- change in it was permitted.
abbrev pub IsGoodTree : Stopped → Tree → Type 0
IsGoodTree stopped tree =
    IsGoodPrefix stopped.start.tree (executed_in stopped) (handed_out_in stopped) tree

-- Such a tree with seats that the machine leaves beside it; and it has each change and COMMIT that a
-- reply in these seats names
pub record IsGoodKept (stopped : Stopped) (kept : Kept) : Type 0 where
  pub tree : IsGoodTree stopped kept.tree
  pub left : MayKeepDuring stopped.old.serving stopped.event kept
  pub held : HasAllHeld (executed_in stopped) (replies_in stopped) kept.seats tree.k

-- What a crash leaves holds exactly such a pair.
pub record IsCrashSafe (stopped : Stopped) (image : Image) : Type 0 where
  pub kept : Kept
  pub good : IsGoodKept stopped kept
  pub stands : StandsFor stopped.first.volume.sectors stopped.first.volume.limits.nodes stopped.run
      kept image
  pub no_other : (nodes run : ℕ) (other : Kept)
      → StandsFor stopped.first.volume.sectors nodes run other image
      → (other ≡ kept) × ((nodes ≡ stopped.first.volume.limits.nodes) × (run ≡ stopped.run))

abbrev pub EveryStop : Type 0
EveryStop = (stopped : Stopped) (image : Image) → LeftBy stopped image → IsCrashSafe stopped image

-- a later mount has such a pair, on a volume with the same number of nodes, under a greater restart
-- count
pub record HasGoodTree (stopped : Stopped) (again : VolumeState) : Type 0 where
  pub good : ∥ IsGoodKept stopped (kept_of again) ∥₁
  pub nodes : again.limits.nodes ≡ stopped.first.volume.limits.nodes
  pub counted : stopped.run < again.run

-- The headline: however often the volume was mounted since, in the same power cycle or after
-- further crashes, the next mount that serves has such a pair.
abbrev pub EveryRun : Type 0
EveryRun =
    (stopped : Stopped) (device : History) (from : ℕ) (again : VolumeState)
    → IsMountedAfter stopped device from
    → IsFound stopped.first.volume.sectors device again → HasGoodTree stopped again

-- A new volume of this version, and from which moment of its device on a crash counts: what a
-- format that returned Ok leaves, or an image that a crash left of one.
pub data IsNewVolume (version : VersionNumber) (sectors nodes : ℕ) : History → ℕ → Type 0 where
  Formatted : {device : History} → versions.IsServed version
      → LeavesFresh version sectors nodes device
      → IsNewVolume version sectors nodes device (moment device)
  Powers : {image : Image} → versions.IsServed version → IsFresh version sectors nodes image
      → IsNewVolume version sectors nodes (at_rest image) 0

-- Before the first run: however often a new volume was mounted, and those mounts refused or
-- stopped, the next one that serves has the empty root and no seats, under a count above 0.
pub record BeginsFresh (version : VersionNumber) (nodes : ℕ) (first : VolumeState)
    : Type 0 where
  pub empty : kept_of first ≡ bare_in version fresh_tree
  pub nodes_are : first.limits.nodes ≡ nodes
  pub counted : 0 < first.run

abbrev pub EveryFirst : Type 0
EveryFirst =
    (version : VersionNumber) (sectors nodes : ℕ) (new : History) (since : ℕ)
    (device : History) (from : ℕ) (first : VolumeState)
    → IsNewVolume version sectors nodes new since → Remounts sectors new since device from
    → IsFound sectors device first → BeginsFresh version nodes first

-- Each image that a crash leaves represents one of these, under this count or a greater one. So a
-- mount that is refused for what is there is refused as Worn, under the greatest count.
pub record IsNotLost (sectors nodes run : ℕ) (good : Kept → Type 0) (device : History)
    (from : ℕ) : Type 0 where
  pub leaves : LeavesGood sectors nodes run good device from
  pub not_volume : (new : History) → IsMountRefused sectors device new mounts.NotVolume → ⊥
  pub not_damaged : (new : History) → IsMountRefused sectors device new mounts.Damaged → ⊥
  pub worn : (new : History) → IsMountRefused sectors device new mounts.Worn
      → ∥ ((kept : Kept) × good kept
      × StandsFor sectors nodes last_run kept (seen device.now)) ∥₁

-- so before the first run, and after each
pub record NeverLost : Type 0 where
  pub first : (version : VersionNumber) (sectors nodes : ℕ) (new : History) (since : ℕ)
      (device : History) (from : ℕ)
      → IsNewVolume version sectors nodes new since → Remounts sectors new since device from
      → IsNotLost sectors nodes 0 (λ kept. kept ≡ bare_in version fresh_tree) device from
  pub later : (stopped : Stopped) (device : History) (from : ℕ)
      → IsMountedAfter stopped device from
      → IsNotLost stopped.first.volume.sectors stopped.first.volume.limits.nodes stopped.run
      (IsGoodKept stopped) device from

-- The runs of a volume: one follows after the crash of another, and however many mounts that did
-- not serve.
pub record Follows (old new : Stopped) : Type 0 where
  pub device : History
  pub from : ℕ
  pub remounts : IsMountedAfter old device from
  pub found : IsFound old.first.volume.sectors device new.first.volume

pub data IsLater (old : Stopped) : Stopped → Type 0 where
  Next : {new : Stopped} → Follows old new → IsLater old new
  Then : {between new : Stopped} → IsLater old between → Follows between new → IsLater old new

-- Each begins with a good tree and good seats of the one before, and its restart count is above
-- those of all before.
pub record EveryLife : Type 0 where
  pub begins : (old new : Stopped) → Follows old new → ∥ IsGoodKept old new.start ∥₁
  pub rises : (old new : Stopped) → IsLater old new → old.run < new.run

-- Each change gives the next stamp of its run to all that it makes or alters, one that a crash
-- takes away and the one under way too. These stamps rise, and those of a later run are above.
pub record EveryStamping : Type 0 where
  pub given : (stopped : Stopped) → ∥ AreGiven stopped.run (executed_in stopped) ∥₁
  pub within : (stopped : Stopped) → AreStamped stopped.run (executed_in stopped)
  pub between : (old new : Stopped) → IsLater old new → (i j : ℕ) (one other : Entry)
      → slice_get (executed_in old) i ≡ Some one
      → slice_get (executed_in new) j ≡ Some other → before one ≢ one.after
      → before other ≢ other.after → stamp_in old.run one < stamp_in new.run other

-- Whatever succeeded, a reading too, was permitted by the lists of the tree that its result came
-- from; so was the operation under way at the crash.
abbrev pub EveryAnswer : Type 0
EveryAnswer = (stopped : Stopped) (i : ℕ) (entry : Entry)
    → slice_get (executed_in stopped) i ≡ Some entry → IsPermittedAnswer entry

-- What a server that isn't stopped is and returns.
abbrev pub EveryTrace : Type 0
EveryTrace = (first last : Seen) (calls : List ServerCall) → IsServed first calls last
    → (last.serving.world ≡ world_after first.serving.world calls)
    × AreTold first.serving.world calls

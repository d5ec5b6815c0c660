-- What the calls of a server do to what a crash may leave.
use Rattle.std.proofs.Common.{◌≡◌, ◌<◌, ◌≤◌, ◌+◌, ◌^◌, ℕ, List, [], ◌∷◌, length, Bool, false, None, refl, sym, ap, ap₂, ◌∙◌, subst, inl, arith, ⊎_elim}
use Rattle.std.specs.List.{IsAmong}
use Rattle.std.specs.Prelude.{map}
use Rattle.std.proofs.Math.Logic.{∥∥₁_elim, ∥∥₁_map, ∥∥₁_prop}
use Rattle.model_tree.specs.declared.limits.Limits.{Limits}
use Rattle.layout.specs.Versions.{limits_by}
use Rattle.model.specs.Server.SoundRuns.{IsStart}
use Rattle.model_tree.specs.Trees.Stamp.{stamp, next_stamp}
use Rattle.model_tree.specs.Trees.WellFormed.{IsWellFormed, IsBefore}
use Rattle.model_tree.proofs.Trees.ChangeLaws.{was_before}
use Rattle.volume.proofs.RemountLaws.{seen_left}
use Rattle.volume.specs.MountAnswers.{FindsSeats}
use Rattle.volume.specs.Remounts.{IsFound}
use Rattle.disk.specs.Moments as moments
use Rattle.disk.specs.Moments.{Image, Moment, Left, LeftWithin, LeftSince, moment}
use Rattle.compound.specs.States.{shared}
use Rattle.compound.proofs.QuietLaws.{same_volume}
use Rattle.fs.specs.FileSystem.{FileSystem}
use Rattle.layout.specs.Stands.{Kept}
use Rattle.volume.specs.VolumeState.{VolumeState, IsSameVolume, IsJustMounted, StandsForOne, LeavesCurrent, LeavesOne, IsRecent, Holds, MayAdd, AddsKept, kept_of}
use Rattle.volume.specs.Stands.{StandsFor}
use Rattle.model.specs.Server.Runs as runs
use Rattle.model.specs.Server.Runs.{Serving, Event, MayBeTaken, executed_of, effect_of}
use Rattle.model.specs.Sessions.Opens.{Opens, no_opens}
use Rattle.model.specs.Sessions.SeatRuns.{AreSeats}
use Rattle.model_tree.specs.Seats.Seats.{Seats}
use Rattle.model_tree.specs.Trees.Keyed.{Keyed}
use Rattle.model.specs.Sessions.Session.{Table, loaded_table, Settings}
use Rattle.model.specs.Server.World.{World, Connection, mounted_world}
use Rattle.server.specs.Headline.{IsMounted}
use Rattle.server.specs.Views.{world_by, server_limits, serving_by}
use Rattle.server.specs.Seen.{Seen, kept_by, left_of, IsReady, LeavesNow, MayKeepDuring, Moves, Said, event_said, Does}
use Rattle.server.proofs.Pairs.{among_left}
use Rattle.server.proofs.Worlds.{happened_quietly}
use Rattle.volume.proofs.PrefixLaws.{among_rest}
use Rattle.disk.proofs.MomentLemmas.{AddsOnly-same}

-- no past moment is as late as the present
none_within : (past : List Moment) (t : ℕ) (image : Image) → length past ≤ t → LeftWithin past t image → ⊥
none_within [] t image late left = left
none_within (m ∷ past) t image late left = ⊎_elim
    (λ (here : (t ≤ length past) × Left m image). absurd (omega (arith, late, here.0)))
    (λ (before : LeftWithin past t image). none_within past t image (omega (arith, late)) before)
    left

-- what may be left since the present moment may be left now
pub left_now : (h : moments.History) (image : Image) → LeftSince h (moment h) image → Left h.now image
left_now h image left = ⊎_elim
    (λ (now : Left h.now image). now)
    (λ (before : LeftWithin h.past (moment h) image). absurd (none_within h.past (moment h) image (omega arith) before))
    left

-- a call that does not touch the device
pub moves_none : (old new : Serving) (event : Event) (held : VolumeState) → LeavesNow (record { serving = new; volume = held })
    → Moves (record { serving = old; volume = held }) event (record { serving = new; volume = held })
moves_none old new event held leaves = record {
  moments = AddsOnly-same (StandsForOne held (MayKeepDuring old event)) held.history;
  leaves = leaves;
  same = same_volume held held refl;
  brief = omega arith;
}

stands_on : (old new : VolumeState) (kept : Kept) (image : Image) → IsSameVolume old new
    → StandsFor old.sectors old.limits.nodes old.run kept image → StandsFor new.sectors new.limits.nodes new.run kept image
stands_on old new kept image same stands =
    subst (λ (s : ℕ). StandsFor s new.limits.nodes new.run kept image) (sym same.sectors)
    (subst (λ (n : ℕ). StandsFor old.sectors n new.run kept image) (sym (ap (λ l. l.nodes) same.limits))
    (subst (λ (r : ℕ). StandsFor old.sectors old.limits.nodes r kept image) (sym same.run) stands))

-- what a volume leaves, the machine leaves
pub leaves_now : (held : VolumeState) (recent : List runs.Left) → LeavesOne held (map kept_by recent)
    → (image : Image) → Left held.history.now image → StandsForOne held (λ kept. IsAmong recent (left_of kept)) image
leaves_now held recent leaves image left =
    let one = leaves image left in
    (one.0, among_left recent one.0 one.1, one.2)

-- after a failure a crash leaves what it might have left before the call, or what is kept after it
pub broken_leaves : (held after_held : VolumeState) (after : Kept) (recent : List runs.Left) → IsRecent held (map kept_by recent) → AddsKept held after after_held.history → IsSameVolume held after_held
    → (image : Image) → Left after_held.history.now image → StandsForOne after_held (λ kept. IsAmong (left_of after ∷ recent) (left_of kept)) image
broken_leaves held after_held after recent is adds same image left = ⊎_elim
    (λ (earlier : LeftSince held.history (moment held.history) image).
    let one = is.leaves image (left_now held.history image earlier) in
    stays one.0 one.1 one.2)
    (λ (added : StandsForOne held (MayAdd (map kept_by recent) after) image). ⊎_elim
    (λ (before : IsAmong (map kept_by recent) added.0). stays added.0 before added.2)
    (λ (behind : added.0 ≡ after). (
      added.0,
      (0, (omega arith, ap left_of behind)),
      stands_on held after_held added.0 image same added.2,
    ))
    added.1)
    ((adds (map kept_by recent) is).added (moment held.history) image (omega arith) (inl left))
  where
    stays : (kept : Kept) → IsAmong (map kept_by recent) kept → StandsFor held.sectors held.limits.nodes held.run kept image
        → StandsForOne after_held (λ kept. IsAmong (left_of after ∷ recent) (left_of kept)) image
    stays kept among stands = (
      kept,
      among_rest (left_of after) recent (left_of kept) (among_left recent kept among),
      stands_on held after_held kept image same stands,
    )

-- a call that does an event without the device
pub does_quietly : (held : VolumeState) (old new : World) (down waits : Bool) (event : Event) (said : Said) → executed_of old event ≡ None → down ≡ false → new ≡ effect_of old event
    → (effect_of old event).table ≡ old.table → said ≡ event_said old event → MayBeTaken waits event → (recent : List runs.Left) → IsReady held recent → (after : List runs.Left)
    × (does : Does (record { serving = serving_by old recent down waits; volume = held }) event said (record { serving = serving_by new after down waits; volume = held }))
    × (does.happens.defers ≡ false)
unfolding happened_quietly
does_quietly held old new down waits event said none up is table says taken recent ready = (
  recent,
  record {
    happens = happened_quietly old new recent down down waits event none table up up is taken;
    says = says;
    moves = moves_none _ _ event held (leaves_now held recent ready.leaves);
    ready = ready;
  },
  refl,
)

-- the run is the restart count that the mount wrote

pub loaded : (count run : ℕ) (settings : Settings) (seats : Seats) → count ≡ run → (table : Table) → table ≡ loaded_table count settings seats → table ≡ loaded_table run settings seats
loaded count run settings seats same table is = is ∙ ap (λ (r : ℕ). loaded_table r settings seats) same

pub few_runs : (count run : ℕ) → count ≡ run → count < 4294967296 → run < 2 ^ 32
few_runs count run same few = subst (λ (r : ℕ). r < 2 ^ 32) same (omega (arith, few))

module _ (fs : FileSystem) (table : Table) (opens : Opens) (connections : Keyed Connection) (settings : Settings) (seats : Seats)
    (tables : table ≡ loaded_table fs.volume.run settings seats) (none_open : opens ≡ no_opens) (none : connections ≡ []) (changes : fs.changes ≡ 0) where
  abbrev begun : Seats → World
  begun found = mounted_world (server_limits fs.volume.version fs.volume.limits settings) fs.volume.run fs.volume.tree found

  begun_with : world_by (shared fs table opens) connections ≡ begun seats
  begun_with =
      ap₂ (λ (t : Table) (o : Opens). world_by (shared fs t o) connections) tables none_open
      ∙ (ap (λ (k : Keyed Connection). world_by (shared fs (loaded_table fs.volume.run settings seats) no_opens) k) none
      ∙ ap (λ (n : ℕ). record (world_by (shared fs (loaded_table fs.volume.run settings seats) no_opens) []) { changes = n }) changes)

  -- the world of a server that was just mounted
  pub world_mounted : world_by (shared fs table opens) connections ≡ begun table.seats
  world_mounted = begun_with ∙ ap begun (sym (ap (λ (t : Table). t.seats) tables))

  -- and the server
  pub mounted_by : {keeps_word : Type 0} → keeps_word → fs.waits ≡ false → FindsSeats keeps_word fs.volume seats → fs.volume.run < 2 ^ 32 → fs.volume.is_down ≡ false → Holds fs.volume
      → ∥ IsStart fs.volume.limits fs.volume.run fs.volume.tree ∥₁ → fs.volume.limits.aces_set + 5 ≤ fs.volume.limits.aces
      → IsMounted settings fs.volume.run (kept_of fs.volume) (record { serving = serving_by (world_by (shared fs table opens) connections) (left_of (kept_of fs.volume) ∷ []) fs.volume.is_down fs.waits; volume = fs.volume })
  mounted_by keeps none_waits finds few up holds starts room = record {
    serves =
        ap (λ (w : World). serving_by w (left_of (kept_of fs.volume) ∷ []) fs.volume.is_down fs.waits) (begun_with ∙ ap begun (finds.are keeps))
        ∙ ap₂ (serving_by (begun fs.volume.seats) (left_of (kept_of fs.volume) ∷ [])) up none_waits;
    counted = refl;
    few = few;
    begins = refl;
    seats = subst (AreSeats fs.volume.run) (finds.are keeps) (record {
      apart = finds.of_runs.apart;
      earlier = λ id has.
          let made = finds.of_runs.made id has in
          let raised = finds.counted in
          omega (arith, made.1, raised);
    });
    starts = starts;
    room = room;
    ready = holds;
  }

-- the tree that was found is one with which this run may begin
-- what a crash leaves of it is well formed in its limits
current_formed : (sectors : ℕ) (held : VolumeState) → IsJustMounted sectors held → LeavesCurrent held → ∥ IsWellFormed held.limits held.tree ∥₁
current_formed sectors held new current = ∥∥₁_elim (current (moments.seen held.history.now) (seen_left held.history.now)) ∥∥₁_prop (λ base.
    ∥∥₁_map base.2.stands.well_formed (λ well.
    subst (λ (l : Limits). IsWellFormed l held.tree) (sym new.limits)
    (subst (λ (s : ℕ). IsWellFormed (limits_by held.version s held.limits.nodes) held.tree) new.on_device well)))

pub found_start : (sectors : ℕ) (old : moments.History) (held : VolumeState) → IsFound sectors old held → IsJustMounted sectors held → LeavesCurrent held
    → ∥ IsStart held.limits held.run held.tree ∥₁
found_start sectors old held found new current = ∥∥₁_elim found.stood ∥∥₁_prop (λ base. ∥∥₁_map (current_formed sectors held new current) (λ well. record {
  well_formed = well;
  before = was_before (stamp held.run 0) (next_stamp held.run 0) held.tree
      (subst (λ (r : ℕ). IsBefore (stamp r 0) held.tree) (sym found.raised) base.stands.stands.before) (omega arith);
}))

pub limits_room : (sectors : ℕ) (held : VolumeState) → IsJustMounted sectors held → held.limits.aces_set + 5 ≤ held.limits.aces
limits_room sectors held new = subst (λ (l : Limits). l.aces_set + 5 ≤ l.aces) (sym new.limits) (omega arith)

pub same_seen : (old new : World) (recent : List runs.Left) (old_held new_held : VolumeState) (old_waits new_waits : Bool) → new ≡ old → new_held ≡ old_held → new_waits ≡ old_waits
    → (let one : Seen = record { serving = serving_by old recent old_held.is_down old_waits; volume = old_held } in one)
    ≡ record { serving = serving_by new recent new_held.is_down new_waits; volume = new_held }
same_seen old new recent old_held new_held old_waits new_waits worlds volumes waits =
    ap (λ (w : World). let one : Seen = record { serving = serving_by w recent old_held.is_down old_waits; volume = old_held } in one) (sym worlds)
    ∙ ap₂ (λ (h : VolumeState) (b : Bool). let one : Seen = record { serving = serving_by new recent h.is_down b; volume = h } in one) (sym volumes) (sym waits)

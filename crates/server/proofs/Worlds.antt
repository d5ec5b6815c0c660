-- Events of a server that keeps each change at once, or lets it wait for the next flush.
use Rattle.std.proofs.Common.{◌≡◌, ◌+◌, ◌<◌, ◌≤◌, ℕ, Bool, true, false, not, ◌&&◌, List, [], ◌∷◌, ◌++◌, length, None, Some, Result, Ok, Err, IfOk, OnOk, OnErr, refl, sym, ap, ◌∙◌, subst, inl, inr, cond, arith, lt-ltb, ◌≢◌}
use Rattle.std.specs.List.{IsAmong}
use Rattle.std.specs.Prelude.{map}
use Rattle.std.proofs.lemmas.Bool.{cases_eq, false≢true}
use Rattle.layout.specs.Stands.{Kept}
use Rattle.model_tree.specs.Trees.Keyed.{Keyed, at, with, without}
use Rattle.model.specs.Wire.Record.{RecordLimits, Prefix, Partial, Refused, Whole, prefix}
use Rattle.model.specs.Wire.Rpc.{is_call_read, read_call}
use Rattle.model.specs.Server.Runs.{Event, Happens, TakesNone, MayBeTaken, DeviceFails, StaysDown, effect_of, executed_of, executed_by, Left, left_after, MayBeLeft, IsAfterEvent, Serving, is_durable}
use Rattle.model.specs.Server.World as world
use Rattle.model.specs.Sessions.Session.{Table}
use Rattle.model.specs.Server.World.{World, Entry, Quiet, Closed, arrives, arrives_at, arrived, takes, without_reply, connects, can_connect, connection_changed, with_connection, hangs_up, is_busy}
use Rattle.model_tree.proofs.Trees.KeyedLaws.{at-with_same, at-with_other, at-without_same, at-without_other}
use Rattle.compound.specs.States.{SharedState}
use Rattle.compound.specs.Volumes.{kept_of_world, lasts}
use Rattle.volume.specs.Changes.{LeavesOnCrash}
use Rattle.volume.specs.VolumeState.{VolumeState}
use Rattle.volume.proofs.PrefixLaws.{among_more}
use Rattle.model.proofs.Server.RuledOutLaws.{dropped}
use Rattle.model.proofs.Server.RunLaws.{EntryFits, event_fits}
use Rattle.rpc.specs.Assembly.{record_limits}
use Rattle.slab.specs.Slab.{Slab, slab_len, Updates}
use Rattle.server.specs.declared.connection.Connection.{Connection}
use Rattle.server.specs.Connections.{IsOfRun, connections_of, connection_view}
use Rattle.server.proofs.SlabLaws.{with_slot, grew, grew_count}
use Rattle.server.specs.Seen.{kept_by, left_of}
use Rattle.server.specs.Views.{world_by, serving_by}
use Rattle.model.proofs.Sessions.SameSeats.{same_seats}
use Rattle.server.proofs.Pairs.{among_kept, among_left, lasting_by, lasting_more, lasting_changed}

-- Events

-- whatever waits, an event that takes no reply may happen
pub may_be : (waits : Bool) (event : Event) → TakesNone event → MayBeTaken waits event
may_be false event none = tt
may_be true event none = none

pub may_take : (waits : Bool) (event : Event) → waits ≡ false → MayBeTaken waits event
may_take false event none = tt
may_take true event none = absurd (false≢true (sym none))

-- an event that executes nothing and keeps the table leaves what might be left
unfoldable pub happened_quietly : (old new : World) (recent : List Left) (old_down new_down waits : Bool) (event : Event) → executed_of old event ≡ None → (effect_of old event).table ≡ old.table → old_down ≡ false → new_down ≡ false
    → new ≡ effect_of old event → MayBeTaken waits event
    → Happens (serving_by old recent old_down waits) event (serving_by new recent new_down waits)
happened_quietly old new recent old_down new_down waits event none table up still is taken = record {
  up = up;
  world = is;
  still_up = still;
  no_others = λ left among. inl among;
  defers = false;
  deferred = λ defers. absurd (false≢true defers);
  waits_on = λ was. was;
  at_once = λ _. refl;
  taken = taken;
  durable = λ at_once entry e lasts left among.
      let done : executed_of old event ≡ Some entry = subst (λ (b : Bool). executed_by old event b ≡ Some entry) up e in
      let never : ⊥ = cc in absurd never;
  seats = λ at_once changed. absurd (changed (ap (λ (w : World). w.table.seats) is ∙ ap (λ (t : Table). t.seats) table));
  seats_deferred = λ defers. absurd (false≢true defers);
}

-- what there is after it may be left
pub may_be_left_from : (old : World) (left : List Left) (down waits : Bool) (event : Event) → down ≡ false → MayBeLeft (serving_by old left down waits) event (left_after (effect_of old event))
may_be_left_from old left down waits event up = inr (subst (λ (b : Bool). IsAfterEvent old event b (left_after (effect_of old event))) (sym up) refl)

-- An event that leaves a crash some of what it might leave before, and what there is after it, and
-- after what has to last only that
module _ (held : VolumeState) (old : World) (recent : List Left) (left : List Kept) (down waits : Bool) (event : Event) (up : down ≡ false) where
  abbrev after : Kept
  after = kept_of_world (effect_of old event)

  abbrev serves : Serving
  serves = serving_by old recent down waits

  after_it : (one : Left) → kept_by one ≡ after → MayBeLeft serves event one
  after_it one is = subst (MayBeLeft serves event) (sym (ap left_of is)) (may_be_left_from old recent down waits event up)

  pub others_left : (lasting : Bool) → LeavesOnCrash held after lasting (map kept_by recent) left → (one : Left) → IsAmong (map left_of left) one → MayBeLeft serves event one
  others_left lasting leaves one among = elim (leaves.no_others (kept_by one) (among_kept left one among)) [
    | inl stays ↦ inl (among_left recent (kept_by one) stays)
    | inr behind ↦ after_it one behind
  ]

-- what has to last is kept at once if the call does not defer
pub kept_at_once : (lasting defers : Bool) → lasting ≡ true → defers ≡ false → (lasting && not defers) ≡ true
kept_at_once true false one other = refl
kept_at_once true true one other = absurd (false≢true (sym other))
kept_at_once false defers one other = absurd (false≢true one)

-- whether what the event leaves has to last
abbrev pub has_to_last_by : (before : VolumeState) → World → Event → Bool
has_to_last_by before old event = lasting_by (same_seats (effect_of old event).table.seats before.seats) (lasts (executed_of old event))

unfoldable pub happened_leaving : (before held : VolumeState) (old new : World) (recent : List Left) (left : List Kept) → old.table.seats ≡ before.seats → (old_down new_down old_waits new_waits its_defers : Bool) (event : Event) → old_down ≡ false → new_down ≡ false
    → new ≡ effect_of old event
    → LeavesOnCrash held (kept_of_world (effect_of old event)) (has_to_last_by before old event && not its_defers) (map kept_by recent) left
    → MayBeTaken old_waits event → (old_waits ≡ true → new_waits ≡ true) → (its_defers ≡ false → new_waits ≡ old_waits)
    → (its_defers ≡ true → has_to_last_by before old event ≡ true → new_waits ≡ true)
    → Happens (serving_by old recent old_down old_waits) event (serving_by new (map left_of left) new_down new_waits)
happened_leaving before held old new recent left seated old_down new_down old_waits new_waits its_defers event up still is leaves taken waits_on at_once owes = record {
  up = up;
  world = is;
  still_up = still;
  no_others = others_left held old recent left old_down old_waits event up (has_to_last_by before old event && not its_defers) leaves;
  defers = its_defers;
  deferred = λ defers entry e durable. owes defers (durable_lasts entry e durable);
  waits_on = waits_on;
  at_once = at_once;
  taken = taken;
  durable = λ once entry e durable one among.
      let fits : EntryFits old.tree (effect_of old event).tree (Some entry) = subst (EntryFits old.tree (effect_of old event).tree) (done entry e) (event_fits old event) in
      ap (λ (k : Kept). k.tree) (leaves.durable (kept_at_once (has_to_last_by before old event) its_defers (durable_lasts entry e durable) once) (kept_by one) (among_kept left one among))
      ∙ fits.1;
  seats = λ once changed one among.
      ap left_of (leaves.durable (kept_at_once (has_to_last_by before old event) its_defers (changed_lasts changed) once) (kept_by one) (among_kept left one among))
      ∙ ap left_after (sym is);
  seats_deferred = λ defers changed. owes defers (changed_lasts changed);
}
  where
    done : (entry : Entry) → executed_by old event old_down ≡ Some entry → executed_of old event ≡ Some entry
    done entry e = subst (λ (b : Bool). executed_by old event b ≡ Some entry) up e

    durable_lasts : (entry : Entry) → executed_by old event old_down ≡ Some entry → is_durable entry ≡ true → has_to_last_by before old event ≡ true
    durable_lasts entry e durable =
        lasting_more (same_seats (effect_of old event).table.seats before.seats) (lasts (executed_of old event)) (ap lasts (done entry e) ∙ durable)

    changed_lasts : new.table.seats ≢ old.table.seats → has_to_last_by before old event ≡ true
    changed_lasts changed =
        lasting_changed (same_seats (effect_of old event).table.seats before.seats) (lasts (executed_of old event))
        (λ stay. changed (ap (λ (w : World). w.table.seats) is ∙ (stay ∙ sym seated)))

pub failed_from : (old new : World) (left : List Left) (old_down new_down old_waits new_waits : Bool) (event : Event) → old_down ≡ false → new_down ≡ true → new ≡ old → new_waits ≡ old_waits
    → DeviceFails (serving_by old left old_down old_waits) event (serving_by new (left_after (effect_of old event) ∷ left) new_down new_waits)
failed_from old new left old_down new_down old_waits new_waits event up down is waits = record {
  up = up;
  world = is;
  down = down;
  waits = waits;
  no_others = λ one among. elim (among_more (left_after (effect_of old event)) left one among) [
    | inl first ↦ subst (MayBeLeft (serving_by old left old_down old_waits) event) (sym first) (may_be_left_from old left old_down old_waits event up)
    | inr rest ↦ inl rest
  ];
}

pub stays_down : (old new : World) (old_down new_down waits : Bool) (left : List Left) (connection : ℕ) → old_down ≡ true → new_down ≡ true → waits ≡ false → new ≡ takes old connection
    → StaysDown (serving_by old left old_down waits) connection (serving_by new left new_down waits)
stays_down old new old_down new_down waits left connection was down none is = record {
  down = was;
  none_waits = none;
  waits = refl;
  world = is;
  still_down = down;
  no_others = λ one among. among;
}

-- What they make of a world

pub arrives_is : (old : World) (number : ℕ) (piece : List ℕ) (connection : world.Connection) → at number old.connections ≡ Some connection
    → arrives old number piece ≡ with_connection old number (arrives_at old.limits.records piece connection)
unfolding arrives
arrives_is old number piece connection is = ap (connection_changed old number (arrives_at old.limits.records piece)) is

pub takes_is : (old : World) (number : ℕ) (connection : world.Connection) → at number old.connections ≡ Some connection
    → takes old number ≡ with_connection old number (without_reply connection)
unfolding takes
takes_is old number connection is = ap (connection_changed old number without_reply) is

pub can_connect_by : (old : World) (number : ℕ) → at number old.connections ≡ None → length old.connections < old.limits.connections → can_connect old number ≡ true
can_connect_by old number free few = rw (free, lt-ltb _ _ few)

pub connects_is : (old : World) (number : ℕ) → can_connect old number ≡ true → connects old number ≡ with_connection old number (Quiet [])
unfolding connects
connects_is old number can = ap (λ (b : Bool). cond b (with_connection old number (Quiet [])) old) can

-- A request that has begun is of this run

abbrev pub AllOfRun : ℕ → Keyed world.Connection → Type 0
AllOfRun run connections = (n : ℕ) (connection : world.Connection) → at n connections ≡ Some connection → IsOfRun run connection

pub all_of_run_with : (run : ℕ) (connections : Keyed world.Connection) (number : ℕ) (connection : world.Connection)
    → AllOfRun run connections → IsOfRun run connection → AllOfRun run (with connections number connection)
all_of_run_with run connections number connection all here n other is = elim (cases_eq n number) [
  | inl same ↦
      let stands : at n (with connections number connection) ≡ Some connection = ap (λ (k : ℕ). at k (with connections number connection)) same ∙ at-with_same connections number connection in
      let e : connection ≡ other = cc in
      subst (IsOfRun run) e here
  | inr apart ↦ all n other (sym (at-with_other connections number n connection apart) ∙ is)
]

pub all_of_run_without : (run : ℕ) (connections : Keyed world.Connection) (number : ℕ) → AllOfRun run connections → AllOfRun run (without connections number)
all_of_run_without run connections number all n other is = elim (cases_eq n number) [
  | inl same ↦
      let gone : at n (without connections number) ≡ None = ap (λ (k : ℕ). at k (without connections number)) same ∙ at-without_same connections number in
      let never : ⊥ = cc in absurd never
  | inr apart ↦ all n other (sym (at-without_other connections number n apart) ∙ is)
]

pub quiet_of_run : (run : ℕ) (bytes : List ℕ) → IsOfRun run (Quiet bytes)
quiet_of_run run bytes request is = let never : ⊥ = cc in absurd never

pub not_busy_of_run : (run : ℕ) (connection : world.Connection) → is_busy (Some connection) ≡ false → IsOfRun run connection
not_busy_of_run run connection quiet request is =
    let busy : is_busy (Some connection) ≡ true = ap (λ (c : world.Connection). is_busy (Some c)) is in
    let never : ⊥ = cc in absurd never

pub taken_of_run : (run : ℕ) (connection : world.Connection) → IsOfRun run connection → IsOfRun run (without_reply connection)
taken_of_run run (world.Quiet bytes) here = here
taken_of_run run (world.Waiting request) here = here
taken_of_run run (world.Busy request) here = here
taken_of_run run (world.Replied reply) here = quiet_of_run run []
taken_of_run run world.Closed here = here

arrived_quiet : (bytes : List ℕ) (found : Prefix) → is_busy (Some (arrived bytes found)) ≡ false
arrived_quiet bytes Partial = refl
arrived_quiet bytes (Refused fault) = refl
arrived_quiet bytes (Whole request rest) = by_call (is_call_read (read_call request))
  where
    by_call : (b : Bool) → is_busy (Some (cond b (world.Waiting request) world.Closed)) ≡ false
    by_call true = refl
    by_call false = refl

pub arrived_of_run : (run : ℕ) (limits : RecordLimits) (piece : List ℕ) (connection : world.Connection) → IsOfRun run connection → IsOfRun run (arrives_at limits piece connection)
arrived_of_run run limits piece (world.Quiet bytes) here = not_busy_of_run run _ (arrived_quiet (bytes ++ piece) (prefix limits (bytes ++ piece)))
arrived_of_run run limits piece (world.Waiting request) here = here
arrived_of_run run limits piece (world.Busy request) here = here
arrived_of_run run limits piece (world.Replied reply) here = here
arrived_of_run run limits piece world.Closed here = here

-- The world after each call

module _ (state : SharedState) (old new : Keyed world.Connection) (number : ℕ) where
  pub took : (before after : world.Connection) → at number old ≡ Some before → new ≡ with old number after → after ≡ without_reply before
      → world_by state new ≡ takes (world_by state old) number
  took before after is written gives =
      ap (world_by state) (written ∙ ap (with old number) gives) ∙ sym (takes_is (world_by state old) number before is)

  pub fed : (piece : List ℕ) (before after : world.Connection) → at number old ≡ Some before → new ≡ with old number after
      → after ≡ arrives_at record_limits piece before → world_by state new ≡ arrives (world_by state old) number piece
  fed piece before after is written gives =
      ap (world_by state) (written ∙ ap (with old number) gives) ∙ sym (arrives_is (world_by state old) number piece before is)

  pub connected : (after : world.Connection) → can_connect (world_by state old) number ≡ true → new ≡ with old number after → after ≡ Quiet []
      → world_by state new ≡ connects (world_by state old) number
  connected after can written gives =
      ap (world_by state) (written ∙ ap (with old number) gives) ∙ sym (connects_is (world_by state old) number can)

  pub hung_up : is_busy (at number old) ≡ false → new ≡ without old number → world_by state new ≡ hangs_up (world_by state old) number
  hung_up quiet written = ap (world_by state) written ∙ sym (dropped (world_by state old) number quiet)

-- A slab after an insert that may have failed

pub inserted_of_run : {E : Type 0} (run : ℕ) (old new : Slab Connection) (value : Connection) (result : Result ℕ E)
    → IfOk result (λ key. Updates old new key (Some value)) → OnErr result (new ≡ record old { capacity = new.capacity })
    → IsOfRun run (connection_view value) → AllOfRun run (connections_of old) → AllOfRun run (connections_of new)
inserted_of_run run old new value (Ok key) updates failed here all =
    subst (AllOfRun run) (sym (with_slot old new key value updates)) (all_of_run_with run (connections_of old) key (connection_view value) all here)
inserted_of_run run old new value (Err fault) updates failed here all = subst (AllOfRun run) (sym (grew old new failed)) all

pub inserted_count : {E : Type 0} (old new : Slab Connection) (result : Result ℕ E)
    → OnOk result (slab_len new ≡ slab_len old + 1) → OnErr result (new ≡ record old { capacity = new.capacity }) → slab_len new ≤ slab_len old + 1
inserted_count old new (Ok key) count failed = omega (arith, count)
inserted_count old new (Err fault) count failed = omega (arith, grew_count old new failed)

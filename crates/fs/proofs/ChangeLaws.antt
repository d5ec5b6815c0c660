-- What calls do to a file system.
use Rattle.std.proofs.Common.{◌≡◌, ◌⊎◌, ℕ, Bool, true, false, not, ◌&&◌, inl, inr, ⊎_elim, refl, sym, ap, ◌∙◌, subst, arith, true≢false}
use Rattle.std.specs.Prelude.{Result, Ok, Err, IfErr, IsErrOf}
use Rattle.disk.specs.Moments.{AddsOnly, moment}
use Rattle.disk.proofs.MomentLemmas.{AddsOnly-same}
use Rattle.layout.specs.Stands.{Kept}
use Rattle.model.specs.declared.not_done.NotDone.{NotDone}
use Rattle.model.specs.declared.not_done.NotDone.TheVariants as refusal
use Rattle.model.specs.Operations.Operation.{Argument}
use Rattle.model.specs.Operations.Step.{State}
use Rattle.fs.specs.declared.fault.FsFault.{FsFault}
use Rattle.fs.specs.declared.fault.FsFault.TheVariants as fault
use Rattle.fs.specs.Changes.{FsChanges, FsFlushes, LetsWait, deferred, fs_ending}
use Rattle.model_tree.specs.Seats.Seats.{Seats}
use Rattle.fs.specs.FileSystem.{FileSystem}
use Rattle.fs.specs.Operations.{IsNotDone}
use Rattle.fs.specs.Refusals.{MindsRoom, fault_of, volume_fault}
use Rattle.volume.specs.Changes.{Given, Ending, Done, Nothing, Broken, EndsAs, IsTree, Stays, VolumeChanges, ending_of}
use Rattle.volume.specs.declared.fault.VolumeFault.{VolumeFault}
use Rattle.volume.specs.declared.fault.VolumeFault.TheVariants as volumes
use Rattle.volume.specs.VolumeState.{VolumeState, IsRecent, StandsForOne, MayAdd, with_tree}
use Rattle.volume.specs.Alike.{ShowsAs}

-- what the definition says may be stated otherwise

module _ (keeps_word : Type 0) (given other : Given) (weaker : (after : Kept) (lasts : Bool) → other after lasts → given after lasts)
    (old new : VolumeState) (before after : ℕ) where
  ends_by : (ending : Ending) → EndsAs keeps_word given old new before after ending → EndsAs keeps_word other old new before after ending
  ends_by Done ends = record { still_up = ends.still_up; seats = λ keeps kept lasts is. ends.seats keeps kept lasts (weaker kept lasts is); leaves = λ keeps kept lasts is. ends.leaves keeps kept lasts (weaker kept lasts is) }
  ends_by Nothing ends = ends
  ends_by Broken ends = record {
    down = ends.down;
    cause = ends.cause;
    shows = ⊎_elim
        (λ (same : ShowsAs old.tree new.tree). inl same)
        (λ (each : (kept : Kept) (lasts : Bool) → given kept lasts → ShowsAs kept.tree new.tree). inr (λ kept lasts is. each kept lasts (weaker kept lasts is)))
        ends.shows;
  }

  pub volume_by : (ending : Ending) → VolumeChanges keeps_word given old new before after ending → VolumeChanges keeps_word other old new before after ending
  volume_by ending changes = record {
    same = changes.same;
    later = changes.later;
    none = changes.none;
    moments = λ keeps kept lasts is. changes.moments keeps kept lasts (weaker kept lasts is);
    ends = ends_by ending changes.ends;
    brief = changes.brief;
  }

-- also if it is deferred
deferred_by : (defers : Bool) (given other : Given) → ((after : Kept) (lasts : Bool) → other after lasts → given after lasts)
    → (after : Kept) (lasting : Bool) → deferred defers other after lasting → deferred defers given after lasting
deferred_by defers given other weaker after lasting is = (is.0, weaker after is.0 is.1, is.2)

pub waits_by : (keeps_word : Type 0) (given other : Given) → (keeps_word → (after : Kept) (lasts : Bool) → other after lasts → given after lasts) → (old new : FileSystem) (ending : Ending)
    → LetsWait keeps_word given old new ending → LetsWait keeps_word other old new ending
waits_by keeps_word given other weaker old new ending lets = record {
  mode = lets.mode;
  waits_on = lets.waits_on;
  at_once = lets.at_once;
  failed = lets.failed;
  waits = λ keeps done defers after is. lets.waits keeps done defers after (weaker keeps after true is);
}

pub changes_by : (keeps_word : Type 0) (given other : Given) (weaker : (after : Kept) (lasts : Bool) → other after lasts → given after lasts) (old new : FileSystem) (before after : ℕ) (ending : Ending)
    → FsChanges keeps_word given old new before after ending → FsChanges keeps_word other old new before after ending
changes_by keeps_word given other weaker old new before after ending changes = record {
  volume_changes = volume_by keeps_word (deferred old.defers given) (deferred old.defers other)
      (deferred_by old.defers given other weaker) old.volume new.volume before after ending
      changes.volume_changes;
  no_count = changes.no_count;
  lets_wait = waits_by keeps_word given other (λ keeps. weaker) old new ending changes.lets_wait;
}

-- What has to last if nothing does by the definition, and if it is deferred

and_false : (b : Bool) → (b && false) ≡ false
and_false true = refl
and_false false = refl

module _ (lasts defers lasting : Bool) (last : lasting ≡ (lasts && not defers)) where
  pub none_and : lasts ≡ false → lasting ≡ false
  none_and none = last ∙ ap (λ (b : Bool). b && not defers) none

  pub and_none : defers ≡ true → lasting ≡ false
  and_none at = last ∙ (ap (λ (b : Bool). lasts && not b) at ∙ and_false lasts)

-- the same file system, except for its volume and what was counted
pub lets_nothing_wait : (keeps_word : Type 0) (given : Given) (old new : FileSystem) (ending : Ending) → new.defers ≡ old.defers → new.waits ≡ old.waits
    → (old.defers ≡ true → (after : Kept) → given after true → ⊥) → LetsWait keeps_word given old new ending
lets_nothing_wait keeps_word given old new ending mode same none = record {
  mode = mode;
  waits_on = λ waits. same ∙ waits;
  at_once = λ at. same;
  failed = λ not_done. same;
  waits = λ keeps done defers after is. absurd (none defers after is);
}

never_true : (b : Bool) → b ≡ true → b ≡ false → ⊥
never_true b one other = true≢false (sym one ∙ other)

-- edits of the tree or of the seats, that are kept at once, or may be lost until the next flush

abbrev pub with_seats : VolumeState → Seats → Kept
with_seats held seats = record { tree = held.tree; seats = seats }

module _ (keeps_word : Type 0) (old new : FileSystem) (before after : ℕ) (ending : Ending) (edited : Kept) (no_count : (ending ≡ Done → ⊥) → new.changes ≡ old.changes)
    (mode : new.defers ≡ old.defers) where
  abbrev Keeps : Given
  Keeps kept lasts = kept ≡ edited

  abbrev Loses : Given
  Loses kept lasts = (kept ≡ edited) × (lasts ≡ false)

  -- an unstable one
  pub unstable : new.waits ≡ old.waits → VolumeChanges keeps_word Loses old.volume new.volume before after ending
      → FsChanges keeps_word Loses old new before after ending
  unstable same changes = record {
    volume_changes = volume_by keeps_word Loses (deferred old.defers Loses)
        (λ kept lasting is. (is.1.0, none_and is.0 old.defers lasting is.2 is.1.1)) old.volume new.volume before after ending changes;
    no_count = no_count;
    lets_wait = lets_nothing_wait keeps_word Loses old new ending mode same (λ defers kept is. true≢false is.1);
  }

  -- one that is kept
  pub at_once : old.defers ≡ false → new.waits ≡ old.waits → VolumeChanges keeps_word Keeps old.volume new.volume before after ending
      → FsChanges keeps_word Keeps old new before after ending
  at_once keeps same changes = record {
    volume_changes = volume_by keeps_word Keeps (deferred old.defers Keeps)
        (λ kept lasting is. is.1) old.volume new.volume before after ending changes;
    no_count = no_count;
    lets_wait = lets_nothing_wait keeps_word Keeps old new ending mode same (λ defers kept is. never_true old.defers defers keeps);
  }

  -- one that waits
  pub later : old.defers ≡ true → new.waits ≡ true → ending ≡ Done → VolumeChanges keeps_word Loses old.volume new.volume before after ending
      → FsChanges keeps_word Keeps old new before after ending
  later defers waits done changes = record {
    volume_changes = volume_by keeps_word Loses (deferred old.defers Keeps)
        (λ kept lasting is. (is.1, and_none is.0 old.defers lasting is.2 defers)) old.volume new.volume before after ending changes;
    no_count = no_count;
    lets_wait = record {
      mode = mode;
      waits_on = λ was. waits;
      at_once = λ at. absurd (never_true old.defers defers at);
      failed = λ not_done. absurd (not_done done);
      waits = λ keeps is_done deferring kept is. waits;
    };
  }

  -- one that was refused
  pub refused_later : old.defers ≡ true → new.waits ≡ old.waits → (ending ≡ Done → ⊥) → VolumeChanges keeps_word Loses old.volume new.volume before after ending
      → FsChanges keeps_word Keeps old new before after ending
  refused_later defers same not_done changes = record {
    volume_changes = volume_by keeps_word Loses (deferred old.defers Keeps)
        (λ kept lasting is. (is.1, and_none is.0 old.defers lasting is.2 defers)) old.volume new.volume before after ending changes;
    no_count = no_count;
    lets_wait = record {
      mode = mode;
      waits_on = λ waits. same ∙ waits;
      at_once = λ at. same;
      failed = λ failed. same;
      waits = λ keeps done deferring kept is. absurd (not_done done);
    };
  }

-- how the volume's fault is passed on

same_ending : (fault : VolumeFault) → fs_ending {T = Unit {0}} (Err (volume_fault fault)) ≡ ending_of {T = Unit {0}} (Err fault)
same_ending volumes.NoSpace = refl
same_ending volumes.Memory = refl
same_ending volumes.Device = refl
same_ending volumes.Down = refl

pub not_done : (fault : VolumeFault) → ending_of {T = Unit {0}} (Err fault) ≡ Done → ⊥
not_done volumes.NoSpace is = cc
not_done volumes.Memory is = cc
not_done volumes.Device is = cc
not_done volumes.Down is = cc

pub told_so : (keeps_word : Type 0) (given : Given) (old new : FileSystem) (before after : ℕ) (fault : VolumeFault)
    → FsChanges keeps_word given old new before after (ending_of {T = Unit {0}} (Err fault))
    → FsChanges keeps_word given old new before after (fs_ending {T = Unit {0}} (Err (volume_fault fault)))
told_so keeps_word given old new before after fault changes =
    subst (FsChanges keeps_word given old new before after) (sym (same_ending fault)) changes

-- a flush that is refused
pub flush_refused : (keeps_word : Type 0) (old new : FileSystem) (before after : ℕ) (fault : VolumeFault) → new.changes ≡ old.changes → new.defers ≡ old.defers → new.waits ≡ old.waits
    → VolumeChanges keeps_word (IsTree old.volume old.volume.tree) old.volume new.volume before after (ending_of {T = Unit {0}} (Err fault))
    → FsFlushes keeps_word old new before after (Err (volume_fault fault))
flush_refused keeps_word old new before after fault counts mode waits changes = record {
  volume_changes = subst (VolumeChanges keeps_word (IsTree old.volume old.volume.tree) old.volume new.volume before after) (sym (same_ending fault)) changes;
  no_count = counts;
  mode = mode;
  waits = waits;
}

-- a checkpoint
pub stays : (keeps_word : Type 0) (old new : FileSystem) (before after : ℕ) (ending : Ending) → ((ending ≡ Done → ⊥) → new.changes ≡ old.changes) → new.defers ≡ old.defers → new.waits ≡ old.waits
    → VolumeChanges keeps_word (Stays old.volume) old.volume new.volume before after ending → FsChanges keeps_word (Stays old.volume) old new before after ending
stays keeps_word old new before after ending no_count mode same changes = record {
  volume_changes = volume_by keeps_word (Stays old.volume) (deferred old.defers (Stays old.volume))
      (λ kept lasting is. (is.1.0, none_and is.0 old.defers lasting is.2 is.1.1)) old.volume new.volume before after ending changes;
  no_count = no_count;
  lets_wait = lets_nothing_wait keeps_word (Stays old.volume) old new ending mode same (λ defers kept is. true≢false is.1);
}

-- nothing was done yet
pub waiting : (keeps_word : Type 0) (old new : FileSystem) (fault_count : ℕ) → new.volume ≡ old.volume → new.changes ≡ old.changes → new.defers ≡ old.defers → old.volume.is_down ≡ false
    → old.defers ≡ true → new.waits ≡ true → FsChanges keeps_word (IsTree old.volume old.volume.tree) old new fault_count fault_count Done
waiting keeps_word old new fault_count same counts mode up defers waits = later keeps_word old new fault_count fault_count Done (with_tree old.volume old.volume.tree) (λ failed. counts) mode defers waits refl (record {
  same = record {
    version = ap (λ (h : VolumeState). h.version) same;
    sectors = ap (λ (h : VolumeState). h.sectors) same;
    limits = ap (λ (h : VolumeState). h.limits) same;
    run = ap (λ (h : VolumeState). h.run) same;
  };
  later = omega arith;
  none = λ other. refl;
  moments = λ keeps after lasts is recent ready.
      subst (λ (h : VolumeState). AddsOnly (StandsForOne old.volume (MayAdd recent after)) old.volume.history h.history) (sym same) (AddsOnly-same _ old.volume.history);
  ends = record {
    still_up = ap (λ (h : VolumeState). h.is_down) same ∙ up;
    seats = λ keeps kept lasts is. ap (λ (h : VolumeState). h.seats) same ∙ sym (ap (λ (k : Kept). k.seats) is.0);
    leaves = λ keeps kept lasts is recent ready. (
      recent,
      record {
        ready = subst (λ (h : VolumeState). IsRecent h recent) (sym same) ready;
        no_others = λ one among. inl among;
        durable = λ durable one among. absurd (never_true lasts durable is.1);
      },
    );
  };
  brief = λ keeps. let moments = ap (λ (h : VolumeState). moment h.history) same in omega (arith, moments);
})

-- a call that ends before its change leaves all as it was
module _ (keeps_word : Type 0) (given : Given) (fs : FileSystem) (fault_count : ℕ) where
  pub left : FsChanges keeps_word given fs fs fault_count fault_count Nothing
  left = record {
    volume_changes = record {
      same = record { version = refl; sectors = refl; limits = refl; run = refl };
      later = omega arith;
      none = λ other. refl;
      moments = λ keeps after lasts is recent ready. AddsOnly-same _ fs.volume.history;
      ends = refl;
      brief = λ keeps. omega arith;
    };
    no_count = λ other. refl;
    lets_wait = record {
      mode = refl;
      waits_on = λ waits. waits;
      at_once = λ at. refl;
      failed = λ failed. refl;
      waits = λ keeps done defers after is. absurd (nothing_is_done done);
    };
  }
    where
      nothing_is_done : Nothing ≡ Done → ⊥
      nothing_is_done is = cc

  pub left_by : (refused : NotDone) → FsChanges keeps_word given fs fs fault_count fault_count (fs_ending {T = Unit {0}} (Err (fault_of refused)))
  left_by (refusal.Status reason) = left
  left_by refusal.Memory = left

-- A plan is refused for nothing that the call itself reports.

pub never_no_room : {T : Type 0} (refused : NotDone) → IsErrOf {T = T} (Err (fault_of refused)) fault.NoRoom → ⊥
never_no_room (refusal.Status reason) same = cc
never_no_room refusal.Memory same = cc

pub never_device : {T : Type 0} (refused : NotDone) → IsErrOf {T = T} (Err (fault_of refused)) fault.Device → ⊥
never_device (refusal.Status reason) same = cc
never_device refusal.Memory same = cc

pub told_memory : {T : Type 0} (refused : NotDone) → IsErrOf {T = T} (Err (fault_of refused)) fault.Memory → refused ≡ refusal.Memory
told_memory (refusal.Status reason) same = absurd (cc)
told_memory refusal.Memory same = refl

pub down_no_room : {T : Type 0} → IsErrOf {T = T} (Err fault.Down) fault.NoRoom → ⊥
down_no_room same = cc

pub down_no_device : {T : Type 0} → IsErrOf {T = T} (Err fault.Down) fault.Device → ⊥
down_no_device same = cc

pub down_no_memory : {T : Type 0} → IsErrOf {T = T} (Err fault.Down) fault.Memory → ⊥
down_no_memory same = cc

full_no_device : {T : Type 0} → IsErrOf {T = T} (Err fault.NoRoom) fault.Device → ⊥
full_no_device same = cc

done_not_refused : {T : Type 0} (value : T) (why : FsFault) → IsErrOf (Ok value) why → ⊥
done_not_refused value why same = cc

pub up_not_down : (told is_down : Bool) → told ≡ is_down → told ≡ false → is_down ≡ true → ⊥
up_not_down told is_down same up down = cc

-- a change that is not known to be kept

pub not_known : (fs : FileSystem) (state : State) (now : ℕ) (operation : Argument) (told : FsFault) → (told ≡ fault.Memory) ⊎ (told ≡ fault.Device)
    → IsNotDone fs state now operation told
not_known fs state now operation told only =
    ⊎_elim (λ (is : told ≡ fault.Memory). rw is tt) (λ (is : told ≡ fault.Device). rw is tt) only

pub kept_no_room : {T : Type 0} (told : FsFault) → (told ≡ fault.Memory) ⊎ (told ≡ fault.Device) → IsErrOf {T = T} (Err told) fault.NoRoom → ⊥
kept_no_room told only same = ⊎_elim (λ (is : told ≡ fault.Memory). cc) (λ (is : told ≡ fault.Device). cc) only

-- What a change says of its reply's room, at each of its exits

pub down_room : {T : Type 0} (has_room is_down : Bool) → MindsRoom {T = T} has_room is_down (Err fault.Down)
down_room has_room is_down = record {
  done = tt;
  refused = λ same. absurd (down_no_room same);
  device = λ same. absurd (down_no_device same);
  down = λ is. refl;
}

module _ {T : Type 0} (has_room is_down told : Bool) (same : told ≡ is_down) (up : told ≡ false) where
  pub planned_room : (refused : NotDone) → MindsRoom {T = T} has_room is_down (Err (fault_of refused))
  planned_room refused = record {
    done = tt;
    refused = λ is. absurd (never_no_room refused is);
    device = λ is. absurd (never_device refused is);
    down = λ is. absurd (up_not_down told is_down same up is);
  }

  pub full_room : has_room ≡ false → MindsRoom {T = T} has_room is_down (Err fault.NoRoom)
  full_room none = record {
    done = tt;
    refused = λ is. none;
    device = λ is. absurd (full_no_device is);
    down = λ is. absurd (up_not_down told is_down same up is);
  }

  pub kept_room : (why : FsFault) → (why ≡ fault.Memory) ⊎ (why ≡ fault.Device) → has_room ≡ true
      → MindsRoom {T = T} has_room is_down (Err why)
  kept_room why only some = record {
    done = tt;
    refused = λ is. absurd (kept_no_room why only is);
    device = λ is. some;
    down = λ is. absurd (up_not_down told is_down same up is);
  }

  pub done_room : (value : T) → has_room ≡ true → MindsRoom has_room is_down (Ok value)
  done_room value some = record {
    done = some;
    refused = λ is. absurd (done_not_refused value fault.NoRoom is);
    device = λ is. absurd (done_not_refused value fault.Device is);
    down = λ is. absurd (up_not_down told is_down same up is);
  }

  -- whether it was kept
  pub told_room : (result : Result T FsFault) → IfErr result (λ why. (why ≡ fault.Memory) ⊎ (why ≡ fault.Device))
      → has_room ≡ true → MindsRoom has_room is_down result
  told_room (Ok value) only some = done_room value some
  told_room (Err why) only some = kept_room why only some

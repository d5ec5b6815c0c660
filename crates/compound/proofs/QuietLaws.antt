-- Calls that leave the tree as it is.
use Rattle.std.proofs.Common.{◌≡◌, ℕ, Bool, true, false, refl, sym, ap, ap₂, ◌∙◌, subst, inl, inr, ⊎_elim, arith}
use Rattle.layout.specs.Stands.{Kept}
use Rattle.volume.specs.Changes.{Given, Ending, Done, Nothing, Broken, EndsAs}
use Rattle.volume.specs.VolumeState.{VolumeState, IsSameVolume, IsRecent, AddsKept, MakesAtMost, call_cost}
use Rattle.volume.specs.Alike.{ShowsAs}
use Rattle.model_tree.specs.Trees.Tree.{Tree}
use Rattle.fs.specs.Changes.{FsChanges, LetsWait, deferred}
use Rattle.fs.proofs.ChangeLaws.{none_and, waits_by}
use Rattle.fs.specs.FileSystem.{FileSystem}

pub same_volume : (old new : VolumeState) → new ≡ old → IsSameVolume old new
same_volume old new is = record {
  version = ap (λ (h : VolumeState). h.version) is;
  sectors = ap (λ (h : VolumeState). h.sectors) is;
  limits = ap (λ (h : VolumeState). h.limits) is;
  run = ap (λ (h : VolumeState). h.run) is;
}

adds_nothing : (old new : VolumeState) (after : Kept) → new ≡ old → AddsKept old after new.history
adds_nothing old new after same =
    subst (λ (held : VolumeState). AddsKept old after held.history) (sym same) (λ recent is. record { later = omega arith; added = λ t image l left. inl left })

no_calls : (old new : VolumeState) → new ≡ old → MakesAtMost (call_cost old) old new
no_calls old new same = subst (λ (held : VolumeState). MakesAtMost (call_cost old) old held) (sym same) (omega arith)

nothing_done : Nothing ≡ Done → ⊥
nothing_done is = cc

-- the same file system lets nothing more wait
lets_nothing : (keeps_word : Type 0) (given : Given) (old new : FileSystem) (ending : Ending) → new ≡ old → (keeps_word → ending ≡ Done → (kept : Kept) → given kept true → ⊥)
    → LetsWait keeps_word given old new ending
lets_nothing keeps_word given old new ending same none =
    let waits : new.waits ≡ old.waits = ap (λ (f : FileSystem). f.waits) same in
    record {
      mode = ap (λ (f : FileSystem). f.defers) same;
      waits_on = λ was. waits ∙ was;
      at_once = λ at. waits;
      failed = λ failed. waits;
      waits = λ keeps done defers kept is. absurd (none keeps done kept is);
    }

-- a call that was refused, and left all as it was
pub leaves_all : (keeps_word : Type 0) (given : Given) (old new : FileSystem) (before after : ℕ) → new ≡ old → after ≡ before → FsChanges keeps_word given old new before after Nothing
leaves_all keeps_word given old new before after same told =
    let held : new.volume ≡ old.volume = ap (λ (f : FileSystem). f.volume) same in
    record {
      volume_changes = record {
        same = same_volume old.volume new.volume held;
        later = omega (arith, told);
        none = λ other. told;
        moments = λ keeps kept lasts is. adds_nothing old.volume new.volume kept held;
        ends = held;
        brief = λ keeps. no_calls old.volume new.volume held;
      };
      no_count = λ failed. ap (λ (f : FileSystem). f.changes) same;
      lets_wait = lets_nothing keeps_word given old new Nothing same (λ keeps done. absurd (nothing_done done));
    }

-- one that succeeded, neither changed the volume nor, if the device keeps its word, has to last
pub answers_still : (keeps_word : Type 0) (given : Given) (old new : FileSystem) (before after : ℕ) → new ≡ old → after ≡ before → old.volume.is_down ≡ false
    → (keeps_word → (kept : Kept) (lasts : Bool) → given kept lasts → kept.seats ≡ old.volume.seats)
    → (keeps_word → (kept : Kept) (lasts : Bool) → given kept lasts → kept.seats ≡ old.volume.seats → lasts ≡ false)
    → FsChanges keeps_word given old new before after Done
answers_still keeps_word given old new before after same told up stays quiet =
    let held : new.volume ≡ old.volume = ap (λ (f : FileSystem). f.volume) same in
    record {
      volume_changes = record {
        same = same_volume old.volume new.volume held;
        later = omega (arith, told);
        none = λ other. told;
        moments = λ keeps kept lasts is. adds_nothing old.volume new.volume kept held;
        ends = record {
          still_up = ap (λ (h : VolumeState). h.is_down) held ∙ up;
          seats = λ keeps kept lasts is. ap (λ (h : VolumeState). h.seats) held ∙ sym (stays keeps kept is.0 is.1);
          leaves = λ keeps kept lasts is recent ready. (
            recent,
            record {
              ready = subst (λ (h : VolumeState). IsRecent h recent) (sym held) ready;
              no_others = λ one among. inl among;
              durable = λ durable one among. absurd (never lasts (none_lasts keeps kept lasts is) durable);
            },
          );
        };
        brief = λ keeps. no_calls old.volume new.volume held;
      };
      no_count = λ failed. ap (λ (f : FileSystem). f.changes) same;
      lets_wait = lets_nothing keeps_word given old new Done same (λ keeps done kept is. never true (quiet keeps kept true is (stays keeps kept true is)) refl);
    }
  where
    never : (b : Bool) → b ≡ false → b ≡ true → ⊥
    never b is other = cc

    none_lasts : keeps_word → (kept : Kept) (lasting : Bool) → deferred old.defers given kept lasting → lasting ≡ false
    none_lasts keeps kept lasting is =
        let seats = stays keeps kept is.0 is.1 in
        none_and is.0 old.defers lasting is.2 (quiet keeps kept is.0 is.1 seats)

-- and on no device
pub answers_quietly : (keeps_word : Type 0) (given : Given) (old new : FileSystem) (before after : ℕ) → new ≡ old → after ≡ before → old.volume.is_down ≡ false
    → (keeps_word → (kept : Kept) (lasts : Bool) → given kept lasts → kept.seats ≡ old.volume.seats) → ((kept : Kept) (lasts : Bool) → given kept lasts → lasts ≡ false)
    → FsChanges keeps_word given old new before after Done
answers_quietly keeps_word given old new before after same told up stays quiet = answers_still keeps_word given old new before after same told up stays (λ keeps kept lasts is seats. quiet kept lasts is)

pub broken≢done : Broken ≡ Done → ⊥
broken≢done is = cc

-- what a call that did nothing left
pub left_all : (keeps_word : Type 0) (given : Given) (old new : FileSystem) (before after : ℕ) → FsChanges keeps_word given old new before after Nothing → new ≡ old
left_all keeps_word given old new before after changes =
    ap₂ (λ (held : VolumeState) (count : ℕ). let fs : FileSystem = record new { volume = held; changes = count } in fs) changes.volume_changes.ends (changes.no_count nothing_done)
    ∙ ap₂ (λ (defers waits : Bool). let fs : FileSystem = record old { defers = defers; waits = waits } in fs) changes.lets_wait.mode (changes.lets_wait.failed nothing_done)

-- The definition may be given otherwise if the device keeps its word, as long as its trees are the
-- same on any device
module _ (keeps_word : Type 0) (given other : Given) (weaker : keeps_word → (after : Kept) (lasts : Bool) → other after lasts → given after lasts)
    (alike : (after : Kept) (lasts : Bool) → other after lasts → (kept : Kept) × (lasting : Bool) × given kept lasting × (kept.tree ≡ after.tree))
    (old new : FileSystem) (before after : ℕ) where
  ends_when : (ending : Ending) → EndsAs keeps_word (deferred old.defers given) old.volume new.volume before after ending
      → EndsAs keeps_word (deferred old.defers other) old.volume new.volume before after ending
  ends_when Done ends = record {
    still_up = ends.still_up;
    seats = λ keeps kept lasts is. ends.seats keeps kept lasts (is.0, weaker keeps kept is.0 is.1, is.2);
    leaves = λ keeps kept lasts is. ends.leaves keeps kept lasts (is.0, weaker keeps kept is.0 is.1, is.2);
  }
  ends_when Nothing ends = ends
  ends_when Broken ends = record {
    down = ends.down;
    cause = ends.cause;
    shows = ⊎_elim
        (λ (same : ShowsAs old.volume.tree new.volume.tree). inl same)
        (λ (each : (kept : Kept) (lasts : Bool) → deferred old.defers given kept lasts → ShowsAs kept.tree new.volume.tree).
        inr (λ kept lasts is.
        let so = alike kept is.0 is.1 in
        subst (λ (tree : Tree). ShowsAs tree new.volume.tree) so.3 (each so.0 _ (so.1, so.2, refl))))
        ends.shows;
  }

  pub changes_when : (ending : Ending) → FsChanges keeps_word given old new before after ending → FsChanges keeps_word other old new before after ending
  changes_when ending changes = record {
    volume_changes = record {
      same = changes.volume_changes.same;
      later = changes.volume_changes.later;
      none = changes.volume_changes.none;
      moments = λ keeps kept lasts is. changes.volume_changes.moments keeps kept lasts (is.0, weaker keeps kept is.0 is.1, is.2);
      ends = ends_when ending changes.volume_changes.ends;
      brief = changes.volume_changes.brief;
    };
    no_count = changes.no_count;
    lets_wait = waits_by keeps_word given other weaker old new ending changes.lets_wait;
  }

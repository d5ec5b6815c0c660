-- A volume between two runs of a server.
use Rattle.std.proofs.Common.{◌≡◌, ◌+◌, ◌≤◌, ◌⊎◌, ℕ, [], ◌∷◌, sym, subst, inl, inr, ⊎_elim, arith}
use Rattle.std.specs.List.{IsAmong}
use Rattle.std.proofs.Props.{props}
use Rattle.std.proofs.Math.Logic.{∥∥₁_elim, ∥∥₁_map, ∥∥₁_prop}
use Rattle.std.proofs.Math.Path.{fun_ext}
use Rattle.journal.proofs.Moments.{seen-may_hold}
use Rattle.disk.specs.Moments.{Image, Moment, History, Left, LeftSince, LeftWithin, at_rest, moment, seen}
use Rattle.layout.specs.Stands.{Kept, served_number}
use Rattle.volume.specs.Stands.{StandsFor, StandsForIn}
use Rattle.volume.specs.VolumeState.{VolumeState, kept_of}
use Rattle.volume.specs.Remounts.{AddsMount, IsFound, IsMomentOf, Now, Before, Remounts, Stays, Mounts, Ends, Stops, StandsForGood, LeavesGood, ServesGood, EveryRemount, StillStands}
use Rattle.volume.proofs.OneTree.{one_stands}

pub seen_left : (m : Moment) → Left m (seen m)
seen_left m n = seen-may_hold m.unsynced m.fixed n

-- a crash of a device at rest leaves what it holds
pub rests_left : (first image : Image) → LeftSince (at_rest first) 0 image → image ≡ first
rests_left first image left = ⊎_elim
    (λ (now : Left (at_rest first).now image). fun_ext (λ n. ⊎_elim (λ (same : image n ≡ first n). same) (λ (never : ⊥). absurd never) (now n)))
    (λ (never : LeftWithin [] 0 image). absurd never)
    left

-- what a crash may leave of a device as it was at one of its moments, it may leave of the device
prefix_left : (device earlier : History) (t : ℕ) (image : Image) → IsMomentOf device earlier → t ≤ moment earlier → LeftSince earlier t image → LeftSince device t image
prefix_left device earlier t image Now late left = left
prefix_left device earlier t image (Before {now = now} {before = before} {past = past} prefix) late left =
    prefix_left device (record { now = now; past = before ∷ past }) t image prefix (omega (arith, late)) (⊎_elim
    (λ (here : Left before image). inr (inl (late, here)))
    (λ (was : LeftWithin past t image). inr (inr was))
    left)

-- what is represented in a version is represented
in_version : (number sectors nodes run : ℕ) (kept : Kept) (image : Image) → StandsForIn number sectors nodes run kept image → StandsFor sectors nodes run kept image
in_version number sectors nodes run kept image stands = ∥∥₁_map stands (λ is. is.0)

module _ (sectors nodes run : ℕ) (good : Kept → Type 0) where
  abbrev Good : Image → Type 0
  Good image = StandsForGood sectors nodes run good image

  mounted_on : (old new : History) (from : ℕ) → LeavesGood sectors nodes run good old from → AddsMount sectors old new → LeavesGood sectors nodes run good new from
  mounted_on old new from was adds =
      let now : Good (seen old.now) = was.leaves (seen old.now) (inl (seen_left old.now)) in
      record {
        within = ∥∥₁_elim now (Prim.hlevel props) (λ stood. ∥∥₁_elim stood.3 (Prim.hlevel props) (λ base.
            let only = adds nodes (run + stood.2) stood.0 base in
            let before = was.within in
            let later = only.later in
            omega (arith, before, later)));
        leaves = λ image left. ∥∥₁_elim now ∥∥₁_prop (λ stood. ∥∥₁_elim stood.3 ∥∥₁_prop (λ base. ⊎_elim
            (λ (before : LeftSince old from image). was.leaves image before)
            (λ (either : StandsForIn base.stands.version.number sectors nodes (run + stood.2) stood.0 image
            ⊎ StandsForIn (served_number base.stands.version.number) sectors nodes (run + stood.2 + 1) stood.0 image). ⊎_elim
            (λ (same : StandsForIn base.stands.version.number sectors nodes (run + stood.2) stood.0 image).
            ∣ (stood.0, stood.1, stood.2, in_version base.stands.version.number sectors nodes (run + stood.2) stood.0 image same) ∣₁)
            (λ (more : StandsForIn (served_number base.stands.version.number) sectors nodes (run + stood.2 + 1) stood.0 image).
            ∣ (
              stood.0,
              stood.1,
              stood.2 + 1,
              subst (λ (r : ℕ). StandsFor sectors nodes r stood.0 image) (omega arith)
                  (in_version (served_number base.stands.version.number) sectors nodes (run + stood.2 + 1) stood.0 image more),
            ) ∣₁)
            either)
            ((adds nodes (run + stood.2) stood.0 base).added from image was.within left)));
      }

  pub lasting : (first : History) (since : ℕ) (device : History) (from : ℕ) → LeavesGood sectors nodes run good first since → Remounts sectors first since device from
      → LeavesGood sectors nodes run good device from
  lasting first since device from good Stays = good
  lasting first since device from good (Mounts {old = old} {new = new} {from = at} before adds) =
      mounted_on old new at (lasting first since old at good before) adds
  lasting first since device from good (Ends {old = old} {new = new} {from = at} before prefix late) =
      record { within = late; leaves = λ image left. (lasting first since old at good before).leaves image (prefix_left old new at image prefix late left) }
  lasting first since device from good (Stops {old = old} {image = stopped} {from = at} before was) =
      record {
        within = omega arith;
        leaves = λ image left. subst Good (sym (rests_left stopped image left)) ((lasting first since old at good before).leaves stopped was);
      }

  pub served_good : (first : History) (since : ℕ) (device : History) (from : ℕ) (held : VolumeState) → LeavesGood sectors nodes run good first since
      → Remounts sectors first since device from → IsFound sectors device held → ServesGood nodes run good held
  served_good first since device from held leaves remounts found =
      let now = (lasting first since device from leaves remounts).leaves (seen device.now) (inl (seen_left device.now)) in
      ∥∥₁_elim now (Prim.hlevel (props, ∥∥₁_prop)) (λ stood.
      let one = one_stands sectors held.limits.nodes found.run nodes (run + stood.2) (kept_of held) stood.0 (seen device.now) found.stood stood.3 in
      record {
        kept_is = ∣ subst good (sym one.kept_is) stood.1 ∣₁;
        nodes_are = one.nodes_are;
        greater = omega (arith, one.run_is, found.raised);
      })

pub still_stands : StillStands
still_stands sectors nodes run keeps first since device from leaves remounts = lasting sectors nodes run (IsAmong keeps) first since device from leaves remounts

pub every_remount : EveryRemount
every_remount sectors nodes run keeps first since device from held leaves remounts found =
    served_good sectors nodes run (IsAmong keeps) first since device from held leaves remounts found

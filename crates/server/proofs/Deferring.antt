-- A server before a turn: what has to last is to be kept at once, or may wait. A caller cannot see
-- a difference.
use Rattle.std.proofs.Common.{◌≡◌, ℕ, Bool, List, Result, Ok, Err, IfOk, refl, sym, ap, ◌∙◌, subst}
use Rattle.disk.specs.declared.device.Device.{Ghosts}
use Rattle.model.specs.Server.Runs.{Event, Left}
use Rattle.volume.specs.VolumeState.{VolumeState}
use Rattle.server.specs.declared.fault.ServerFault.{ServerFault}
use Rattle.server.specs.declared.server.Server.{Server}
use Rattle.server.specs.Refused.{View, view}
use Rattle.server.specs.Seen.{Seen, Said, IsReady, Does, Breaks}
use Rattle.server.specs.Views.{world_of, files_of, volume_of, waits_of, server_failures, seen_with, seen_down, ServesAs, ServerFails}

pub if_ok : {T : Type 0} (P Q : T → Type 0) (result : Result T ServerFault) → ((value : T) → P value → Q value) → IfOk result P → IfOk result Q
if_ok P Q (Ok value) map is = map value is
if_ok P Q (Err fault) map is = tt

module _ {D : Type 0} {g : Ghosts D} (old mid : Server D g) (world : world_of mid ≡ world_of old) (volume : volume_of mid ≡ volume_of old) (waits : waits_of mid ≡ waits_of old)
    (failures : server_failures mid ≡ server_failures old) where
  pub same_view : view mid ≡ view old
  same_view = rw (world, volume, failures, waits) refl

  same_seen : (recent : List Left) → seen_with mid recent ≡ seen_with old recent
  same_seen recent = rw (world, volume, waits) refl

  still_ready : (recent : List Left) → IsReady (volume_of old) recent → IsReady (volume_of mid) recent
  still_ready recent ready = subst (λ (h : VolumeState). IsReady h recent) (sym volume) ready

  pub serves_so : (defers : Bool) (new : Server D g) (event : Event) (said : Said) → (files_of mid).defers ≡ defers → ServesAs (files_of mid).defers mid new event said → ServesAs defers old new event said
  serves_so defers new event said mode serves recent ready =
      let made = serves recent (still_ready recent ready) in
      let does = subst (λ (s : Seen). (does : Does s event said (seen_with new made.0)) × (does.happens.defers ≡ defers)) (same_seen recent) (made.1, made.2 ∙ mode) in
      (made.0, does.0, does.1)

  pub fails_so : (new : Server D g) (event : Event) → ServerFails mid new event → ServerFails old new event
  fails_so new event fails recent ready =
      let made = fails recent (still_ready recent ready) in (
        made.0,
        subst (λ (s : Seen). Breaks s event (seen_down new (volume_of old).tree made.0)) (same_seen recent)
            (subst (λ (h : VolumeState). Breaks (seen_with mid recent) event (seen_down new h.tree made.0)) volume made.1),
      )

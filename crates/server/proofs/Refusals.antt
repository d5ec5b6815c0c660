-- How a connection's refusals are reported.
use Rattle.std.proofs.Common.{◌≡◌, ◌≤◌, ℕ, true, false, Result, Ok, Err, None, inr, ⊎_elim, refl, sym, ap, ◌∙◌}
use Rattle.disk.specs.Cause.{IsCounted}
use Rattle.model_tree.specs.Trees.Keyed.{at}
use Rattle.model.specs.Server.World.{World, is_busy}
use Rattle.std.specs.Result.{IsErrAnd}
use Rattle.volume.specs.VolumeState.{VolumeState, IsSameVolume}
use Rattle.volume.proofs.KeepLaws.{counted_later}
use Rattle.compound.specs.declared.fault.Fault.{Fault}
use Rattle.compound.specs.declared.fault.Fault.TheVariants as turns
use Rattle.server.specs.declared.fault.ServerFault.{ServerFault}
use Rattle.server.specs.declared.fault.ServerFault.TheVariants as faults
use Rattle.server.specs.Faults.{turn_fault}
use Rattle.server.specs.Refused.{View, IsUntouched, KeepsWorld, HasCause, HasTurned, HasRunOn, RefusesTurn, RefusesHangUp, connection_at}

-- what a `?` hands on
pub told_by : {T : Type 0} (result : Result T ServerFault) (fault : ServerFault) → IsErrAnd result (λ told. told ≡ fault) → result ≡ Err fault
told_by (Ok done) fault is = absurd is
told_by (Err told) fault is = ap Err is

pub device_told : (fault : Fault) → turn_fault fault ≡ faults.Device → fault ≡ turns.Device
device_told turns.Memory is = let never : ⊥ = cc in absurd never
device_told turns.Device is = refl

-- a turn that a connection does not do
pub turn_refused : (old new : View) (number : ℕ) (fault : Fault) → (fault ≡ turns.Memory → IsUntouched old new)
    → (fault ≡ turns.Device → KeepsWorld old new × HasCause old new × (new.volume.is_down ≡ true)) → RefusesTurn old new number (turn_fault fault)
turn_refused old new number turns.Memory untouched broken = untouched refl
turn_refused old new number turns.Device untouched broken = broken refl

-- turns of a hang-up

pub begins_on : (view : View) (number : ℕ) → view.volume.is_down ≡ false → HasRunOn view view number
begins_on view number up = record { still_up = up; none_failed = refl; same = record { version = refl; sectors = refl; limits = refl; run = refl }; others = λ other apart. refl }

same_on : (first old new : View) (number : ℕ) → new.volume.is_down ≡ false → new.failures ≡ old.failures → IsSameVolume old.volume new.volume
    → ((other : ℕ) → (other ≡ number → ⊥) → connection_at new other ≡ connection_at old other)
    → HasRunOn first old number → HasRunOn first new number
same_on first old new number up failed same others was = record {
  still_up = up;
  none_failed = failed ∙ was.none_failed;
  same = record { version = same.version ∙ was.same.version; sectors = same.sectors ∙ was.same.sectors; limits = same.limits ∙ was.same.limits; run = same.run ∙ was.same.run };
  others = λ other apart. others other apart ∙ was.others other apart;
}

pub runs_on : {keeps_word : Type 0} (first old new : View) (number now : ℕ) → HasTurned keeps_word old new number now → HasRunOn first old number → HasRunOn first new number
runs_on first old new number now turned was = same_on first old new number turned.still_up turned.none_failed turned.same turned.others was

-- the request has begun, so it has a connection, and one that is not closed
pub hang_up_refused : (first old new : View) (number : ℕ) (fault : ServerFault) → HasRunOn first old number → first.failures ≤ old.failures
    → is_busy (connection_at old number) ≡ true → RefusesTurn old new number fault → RefusesHangUp first new number fault
hang_up_refused first old new number faults.NoConnection on later busy refused =
    let none : is_busy (connection_at old number) ≡ false = ap is_busy refused.0 in
    let never : ⊥ = cc in absurd never
hang_up_refused first old new number faults.Closed on later busy refused =
    let none : is_busy (connection_at old number) ≡ false = ap is_busy refused.0 in
    let never : ⊥ = cc in absurd never
hang_up_refused first old new number faults.Memory on later busy refused =
    let world : new.world ≡ old.world = refused.0 in
    let volume : new.volume ≡ old.volume = refused.1 in (
      same_on first old new number (ap (λ (held : VolumeState). held.is_down) volume ∙ on.still_up) refused.2
          (record { version = ap (λ (held : VolumeState). held.version) volume; sectors = ap (λ (held : VolumeState). held.sectors) volume; limits = ap (λ (held : VolumeState). held.limits) volume; run = ap (λ (held : VolumeState). held.run) volume })
          (λ other apart. ap (λ (w : World). at other w.connections) world) on,
      λ none.
          let gone : connection_at old number ≡ None = sym (ap (λ (w : World). at number w.connections) world) ∙ none in
          let idle : is_busy (connection_at old number) ≡ false = ap is_busy gone in
          let never : ⊥ = cc in absurd never,
    )
hang_up_refused first old new number faults.Full on later busy refused = refused
hang_up_refused first old new number faults.Device on later busy refused = (
  ⊎_elim
      (λ (down : old.volume.is_down ≡ true). let up = on.still_up in let never : ⊥ = cc in absurd never)
      (λ (counted : IsCounted old.failures new.failures). inr (counted_later first.failures old.failures new.failures later counted))
      refused.1,
  refused.2,
)

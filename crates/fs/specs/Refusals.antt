-- The fault that is returned for a refusal of a layer below, and what each change says of its
-- reply's room.
use Rattle.std.specs.Prelude.{◌≡◌, Bool, true, false, Result, OnOk, IsErrOf}
use Rattle.fs.specs.declared.fault.FsFault.{FsFault}
use Rattle.fs.specs.declared.fault.FsFault.TheVariants as fault
use Rattle.model_tree.specs.declared.status.Status.TheVariants as status
use Rattle.model.specs.declared.not_done.NotDone.{NotDone}
use Rattle.model.specs.declared.not_done.NotDone.TheVariants as refusal
use Rattle.volume.specs.declared.fault.VolumeFault.{VolumeFault}
use Rattle.volume.specs.declared.fault.VolumeFault.TheVariants as volumes

abbrev pub fault_of : NotDone → FsFault
fault_of (refusal.Status reason) = fault.Status reason
fault_of refusal.Memory = fault.Memory

abbrev pub volume_fault : VolumeFault → FsFault
volume_fault volumes.NoSpace = fault.Status status.NoSpc
volume_fault volumes.Memory = fault.Memory
volume_fault volumes.Device = fault.Device
volume_fault volumes.Down = fault.Down

-- A caller says whether the reply to a change has room: only if it has is the change made, or the
-- device used. A file system that is down returns Down.
pub record MindsRoom {T : Type 0} (has_room is_down : Bool) (result : Result T FsFault)
    : Type 0 where
  pub done : OnOk result (has_room ≡ true)
  pub refused : IsErrOf result fault.NoRoom → has_room ≡ false
  pub device : IsErrOf result fault.Device → has_room ≡ true
  pub down : is_down ≡ true → IsErrOf result fault.Down

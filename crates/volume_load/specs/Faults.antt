-- The fault of the whole for each fault of a part.
use Rattle.inode.specs.declared.fault.InodeFault.{InodeFault}
use Rattle.inode.specs.declared.fault.InodeFault.TheVariants as inode
use Rattle.extents.specs.declared.fault.ExtentsFault.{ExtentsFault}
use Rattle.extents.specs.declared.fault.ExtentsFault.TheVariants as extents
use Rattle.directory.specs.declared.fault.RecordsFault.{RecordsFault}
use Rattle.directory.specs.declared.fault.RecordsFault.TheVariants as records
use Rattle.seats.specs.declared.fault.SeatFault.{SeatFault}
use Rattle.seats.specs.declared.fault.SeatFault.TheVariants as seats
use Rattle.volume_load.specs.declared.fault.ScanFault.{ScanFault}
use Rattle.volume_load.specs.declared.fault.ScanFault.TheVariants.{Damaged, Memory}

abbrev pub of_inode : InodeFault → ScanFault
of_inode inode.NotInode = Damaged
of_inode inode.Memory = Memory

abbrev pub of_extents : ExtentsFault → ScanFault
of_extents extents.NotRuns = Damaged
of_extents extents.Memory = Memory

abbrev pub of_records : RecordsFault → ScanFault
of_records records.NotRecords = Damaged
of_records records.Memory = Memory

abbrev pub of_seat : SeatFault → ScanFault
of_seat seats.NotSeat = Damaged
of_seat seats.Memory = Memory

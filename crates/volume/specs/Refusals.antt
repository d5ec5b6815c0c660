-- The fault that is returned for a refusal of a layer below.
use Rattle.node_table.specs.declared.fault.TableFault.{TableFault}
use Rattle.node_table.specs.declared.fault.TableFault.TheVariants as tables
use Rattle.tree_transaction.specs.declared.fault.TransactionFault.{TransactionFault}
use Rattle.tree_transaction.specs.declared.fault.TransactionFault.TheVariants as transactions
use Rattle.journal.specs.declared.fault.JournalFault.{JournalFault}
use Rattle.journal.specs.declared.fault.JournalFault.TheVariants as journals
use Rattle.migration.specs.declared.fault.MigrationFault.{MigrationFault}
use Rattle.migration.specs.declared.fault.MigrationFault.TheVariants as migrations
use Rattle.volume_load.specs.declared.fault.ScanFault.{ScanFault}
use Rattle.volume_load.specs.declared.fault.ScanFault.TheVariants as scans
use Rattle.volume.specs.declared.fault.MountFault.{MountFault}
use Rattle.volume.specs.declared.fault.MountFault.TheVariants as mounts
use Rattle.volume.specs.declared.fault.VolumeFault.{VolumeFault}
use Rattle.volume.specs.declared.fault.VolumeFault.TheVariants as faults

-- Damaged and TooMany never come to a mounted volume
abbrev pub fault_of : JournalFault → VolumeFault
fault_of journals.Memory = faults.Memory
fault_of journals.Down = faults.Down
fault_of journals.Fault = faults.Device
fault_of journals.Damaged = faults.Device
fault_of journals.TooMany = faults.Device

abbrev pub mount_fault : ScanFault → MountFault
mount_fault scans.Device = mounts.Device
mount_fault scans.Damaged = mounts.Damaged
mount_fault scans.Memory = mounts.Memory

-- TooMany and Down never come to a mount
abbrev pub gate_fault : JournalFault → MountFault
gate_fault journals.Memory = mounts.Memory
gate_fault journals.Damaged = mounts.Damaged
gate_fault journals.Fault = mounts.Device
gate_fault journals.TooMany = mounts.Device
gate_fault journals.Down = mounts.Device

abbrev pub migration_fault : MigrationFault → MountFault
migration_fault migrations.Device = mounts.Device
migration_fault migrations.Memory = mounts.Memory

abbrev pub table_fault : TableFault → MountFault
table_fault tables.SameNumber = mounts.Damaged
table_fault tables.Memory = mounts.Memory

-- Full never comes if each prefix of a change has room
abbrev pub transaction_fault : TransactionFault → VolumeFault
transaction_fault transactions.Device = faults.Device
transaction_fault transactions.Memory = faults.Memory
transaction_fault transactions.Full = faults.NoSpace

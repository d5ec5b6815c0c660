-- The fault for each fault of the journal.
use Rattle.journal.specs.declared.fault.JournalFault.{JournalFault}
use Rattle.journal.specs.declared.fault.JournalFault.TheVariants as journals
use Rattle.migration.specs.declared.fault.MigrationFault.{MigrationFault}
use Rattle.migration.specs.declared.fault.MigrationFault.TheVariants as faults

-- a transaction that is flushed never gives Memory, Damaged, TooMany or Down
abbrev pub fault_of : JournalFault → MigrationFault
fault_of journals.Memory = faults.Memory
fault_of journals.Fault = faults.Device
fault_of journals.Damaged = faults.Device
fault_of journals.TooMany = faults.Device
fault_of journals.Down = faults.Device

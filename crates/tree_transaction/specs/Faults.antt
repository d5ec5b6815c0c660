-- Why a transaction that reads nothing failed, as a fault of any transaction, and why a place was
-- not allocated, as a fault of a transaction that reads nothing.
use Rattle.freemap.specs.declared.fault.TakeFault.{TakeFault}
use Rattle.freemap.specs.declared.fault.TakeFault.TheVariants as take
use Rattle.tree_transaction.specs.declared.fault.TransactionFault.{TransactionFault}
use Rattle.tree_transaction.specs.declared.fault.TransactionFault.TheVariants as fault
use Rattle.tree_transaction.specs.declared.fault.SpaceFault.{SpaceFault}
use Rattle.tree_transaction.specs.declared.fault.SpaceFault.TheVariants as space

abbrev pub fault_of : SpaceFault → TransactionFault
fault_of space.Memory = fault.Memory
fault_of space.Full = fault.Full

abbrev pub space_fault_of : TakeFault → SpaceFault
space_fault_of take.Memory = space.Memory
space_fault_of take.Full = space.Full

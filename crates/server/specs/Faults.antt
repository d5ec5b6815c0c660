-- How a connection's refusal is reported.
use Rattle.compound.specs.declared.fault.Fault.{Fault}
use Rattle.compound.specs.declared.fault.Fault.TheVariants as turns
use Rattle.server.specs.declared.fault.ServerFault.{ServerFault}
use Rattle.server.specs.declared.fault.ServerFault.TheVariants as faults

abbrev pub turn_fault : Fault → ServerFault
turn_fault turns.Memory = faults.Memory
turn_fault turns.Device = faults.Device

-- Why a peer is not served on.
use Rattle.server.specs.declared.fault.ServerFault.{ServerFault}
use Rattle.server.specs.declared.fault.ServerFault.TheVariants as faults
use Rattle.peer.specs.declared.peer.Parting.{Parting}
use Rattle.peer.specs.declared.peer.Parting.TheVariants as partings

-- by what the server refuses
abbrev pub parting_of : ServerFault → Parting
parting_of faults.Device = partings.Device
parting_of faults.Memory = partings.Memory
parting_of faults.NoConnection = partings.Peer
parting_of faults.Closed = partings.Peer
parting_of faults.Full = partings.Peer

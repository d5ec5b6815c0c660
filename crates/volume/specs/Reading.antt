-- What a call that only reads the sectors of a volume does to it.
use Rattle.std.specs.Prelude.{◌≡◌, ℕ, Result, Ok, Err, Some}
use Rattle.model_tree.specs.declared.node.NodeKind.TheVariants as kind
use Rattle.model_tree.specs.Trees.Keyed.{at}
use Rattle.model_tree.specs.Trees.Tree.{Tree, Node, kind_of}
use Rattle.volume.specs.declared.fault.ReadingFault.{ReadingFault}
use Rattle.volume.specs.declared.fault.ReadingFault.TheVariants as readings
use Rattle.volume.specs.Changes.{Ending, Nothing, Broken}
use Rattle.volume.specs.declared.fault.VolumeFault.{VolumeFault}
use Rattle.volume.specs.declared.fault.VolumeFault.TheVariants as fault

-- a file has this number
pub record HasFile (tree : Tree) (number : ℕ) : Type 0 where
  pub node : Node
  pub there : at number tree ≡ Some node
  pub file : kind_of node.content ≡ kind.File

-- It leaves all as it was, even if it succeeds: what waits for a flush still waits. Only a failure
-- of the device changes the volume.
abbrev pub ending_of_reading : {T : Type 0} → Result T VolumeFault → Ending
ending_of_reading (Ok done) = Nothing
ending_of_reading (Err fault.NoSpace) = Nothing
ending_of_reading (Err fault.Memory) = Nothing
ending_of_reading (Err fault.Device) = Broken
ending_of_reading (Err fault.Down) = Nothing

abbrev pub reading_fault : ReadingFault → VolumeFault
reading_fault readings.Device = fault.Device
reading_fault readings.Memory = fault.Memory

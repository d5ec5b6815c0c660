-- How a call ends that is refused only for memory.
use Rattle.std.specs.Prelude.{◌≡◌, Result, Ok, Err}
use Rattle.compound.specs.declared.fault.Fault.{Fault}
use Rattle.compound.specs.declared.fault.Fault.TheVariants.{Memory}

abbrev pub OrMemory : {T : Type 0} → Result T Fault → (T → Type 0) → Type 0
OrMemory (Ok done) Holds = Holds done
OrMemory (Err reason) Holds = reason ≡ Memory

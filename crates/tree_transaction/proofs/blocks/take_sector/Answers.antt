use Rattle.std.proofs.Common.{ap}
use Rattle.std.specs.Prelude.{Err}
use Rattle.freemap.specs.declared.fault.TakeFault.{TakeFault}
use Rattle.tree_transaction.specs.Faults.{space_fault_of}
use Rattle.tree_transaction.specs.declared.fault.SpaceFault.TheVariants as space
use Rattle.tree_transaction.proofs.CountLaws.{none_free}
use Rattle.tree_transaction.proofs.FaultLaws.{told, full_take_of}
use Rattle.tree_transaction.proofs.blocks.take_sector.Goals as goal

pub returns-in_err-place-clause-full : goal.returns-in_err-place-clause-full
returns-in_err-place-clause-full c full =
    let cause = c.in_err-place.field-0.0 in
    let is_full = full_take_of cause (told c.from_residual.result (space_fault_of cause) space.Full c.from_residual.ensures.1 full) in
    none_free c.args.places.now (c.in_err-place.ensures.full (ap (λ (f : TakeFault). Err f) is_full))

-- Which fault a result had.
use Rattle.std.proofs.Common.{◌≡◌, sym, ◌∙◌}
use Rattle.std.specs.Prelude.{Result, Ok, Err}
use Rattle.std.specs.Result.{IsErrAnd}
use Rattle.tree_transaction.specs.declared.fault.TransactionFault.TheVariants as fault
use Rattle.tree_transaction.specs.declared.fault.SpaceFault.{SpaceFault}
use Rattle.tree_transaction.specs.declared.fault.SpaceFault.TheVariants as space
use Rattle.freemap.specs.declared.fault.TakeFault.{TakeFault}
use Rattle.freemap.specs.declared.fault.TakeFault.TheVariants as take
use Rattle.tree_transaction.specs.Faults.{fault_of, space_fault_of}

pub told : {A E : Type 0} (r : Result A E) (f e : E) → IsErrAnd r (λ x. x ≡ f) → r ≡ Err e → f ≡ e
told (Ok x) f e is at = absurd is
told (Err x) f e is at = let same : x ≡ e = cc in sym is ∙ same

pub full_of : (cause : SpaceFault) → fault_of cause ≡ fault.Full → cause ≡ space.Full
full_of space.Memory e = absurd (cc)
full_of space.Full e = let same : space.Full ≡ space.Full = cc in same

pub full_take_of : (cause : TakeFault) → space_fault_of cause ≡ space.Full → cause ≡ take.Full
full_take_of take.Memory e = absurd (cc)
full_take_of take.Full e = let same : take.Full ≡ take.Full = cc in same

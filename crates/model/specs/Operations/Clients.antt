-- The operations on clients and sessions: RFC 8881, sections 18.35 (EXCHANGE_ID), 18.36
-- (CREATE_SESSION), 18.37 (DESTROY_SESSION), 18.46 (SEQUENCE), 18.50 (DESTROY_CLIENTID) and 18.51
-- (RECLAIM_COMPLETE). They are not on the tree: `World` defines what they do.
use Rattle.model_tree.specs.declared.status.Status.TheVariants as status
use Rattle.model.specs.Operations.Definition.{Definition, only, needs_nothing}
use Rattle.model.specs.Operations.Operation.{Argument}
use Rattle.model.specs.Operations.State.{State, Stepped, refused}

-- nothing on the tree
abbrev pub not_here : State → Argument → Stepped
not_here state operation = refused state operation status.NotSupp

abbrev pub off_tree : Argument → Definition
off_tree operation = only needs_nothing (λ limits state now. not_here state operation)

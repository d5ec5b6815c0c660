use Rattle.std.proofs.Common.{refl, ap, arith}
use Rattle.std.specs.Prelude.{Err}
use Rattle.tree_transaction.specs.declared.fault.TransactionFault.TheVariants as fault
use Rattle.tree_transaction.specs.declared.fault.SpaceFault.{SpaceFault}
use Rattle.tree_transaction.specs.Faults.{fault_of}
use Rattle.tree_transaction.proofs.CountLaws.{set_most}
use Rattle.tree_transaction.proofs.FaultLaws.{told, full_of}
use Rattle.tree_transaction.proofs.WrittenLaws.{within_now, can_now, few_now, full_now, runs_now, known_now, cached_nodes_now, tree_now}
use Rattle.tree_transaction.proofs.transaction.Transaction.write.Goals as goal

pub store_written-requires-clause-can : goal.store_written-requires-clause-can
store_written-requires-clause-can g c = can_now _ _ _ _ _ _ c.requires.known.0 c.requires.file c.in_ok-written.ensures.written

pub store_written-requires-clause-within : goal.store_written-requires-clause-within
store_written-requires-clause-within g c = within_now _ _ _ _ _ _ c.requires.known.0 c.requires.file c.in_ok-written.ensures.written

pub store_written-requires-clause-same : goal.store_written-requires-clause-same
store_written-requires-clause-same g c = runs_now _ _ _ _ _ _ c.requires.known.0 c.requires.file c.in_ok-written.ensures.written

pub returns-in_err-store_written-clause-full : goal.returns-in_err-store_written-clause-full
returns-in_err-store_written-clause-full g c full =
    let more = c.in_err-store_written.ensures.full (ap (λ (f : SpaceFault). Err f) (full_of c.in_err-store_written.field-0.0 (told c.from_residual-in_err-store_written.result (fault_of c.in_err-store_written.field-0.0) fault.Full c.from_residual-in_err-store_written.ensures.1 full))) in
    full_now _ _ _ _ _ _ c.requires.known.0 c.requires.file c.in_ok-written.ensures.written more

pub returns-clause-known : goal.returns-clause-known
returns-clause-known g c = known_now _ _ _ _ _ _ c.requires.known.0 c.requires.file c.in_ok-written.ensures.written c.store_written.new.self c.in_ok-store_written.ensures.stands

pub returns-clause-cached_nodes : goal.returns-clause-cached_nodes
returns-clause-cached_nodes g c = cached_nodes_now _ _ _ _ _ _ c.requires.known.0 c.requires.file c.in_ok-written.ensures.written c.store_written.new.self c.in_ok-store_written.ensures.stands

pub returns-clause-tree : goal.returns-clause-tree
returns-clause-tree g c word =
    let written = c.in_ok-written.ensures.written in
    tree_now _ _ _ _ _ _ c.requires.known.0 c.requires.file written c.store_written.new.self c.in_ok-store_written.ensures.stands
    (g.S.Sectors.image (g.S.Sectors.kept c.args.base.now)) (g.S.Sectors.size (g.S.Sectors.kept c.args.base.now)) c.args.offset c.args.bytes.now refl (c.in_ok-written.ensures.bytes word written.was written.there)

pub returns-clause-count : goal.returns-clause-count
returns-clause-count g c =
    let few = few_now _ _ _ _ _ _ c.requires.known.0 c.requires.file c.in_ok-written.ensures.written in
    omega (arith, few, set_most c.in_ok-written.written.cached.blocks, c.in_ok-written.ensures.count, c.store_written.ensures.count)

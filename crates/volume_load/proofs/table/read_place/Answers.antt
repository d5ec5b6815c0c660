use Rattle.std.proofs.Common.{Option, Some, option_map, sym, ap, subst}
use Rattle.std.specs.Prelude.{Err}
use Rattle.inode.specs.declared.node.Inode.{Inode}
use Rattle.inode.specs.Fields.{fields_of}
use Rattle.layout.specs.CachedNodes.{CachedNode, node_sector}
use Rattle.layout.specs.Marks.{namings_of}
use Rattle.volume_load.specs.Places.{FindsFields}
use Rattle.volume_load.specs.CachedNodes.{FindsRest}
use Rattle.volume_load.specs.Marking.{AreMarked}
use Rattle.volume_load.specs.declared.fault.ScanFault.{ScanFault}
use Rattle.volume_load.proofs.CachedNodeLaws.{fields_there, found_there, none_there, marked_cached}
use Rattle.volume_load.proofs.CachedNodeLaws.{marked_free}
use Rattle.volume_load.proofs.SectorLaws.{same_fault}
use Rattle.volume_load.proofs.table.read_place.Goals as goal

pub returns-in_err-inode-clause-damaged : goal.returns-in_err-inode-clause-damaged
returns-in_err-inode-clause-damaged g c = λ word is cached_node found can.
    let image = g.S.Sectors.image (g.S.Sectors.kept c.args.sectors.now) in
    c.in_err-inode.ensures.damaged word (ap (λ (e : ScanFault). Err e) (same_fault c.from_residual.result c.in_err-inode.field-0.0 c.from_residual.ensures.1 is)) (fields_there cached_node)
    (found_there g.S.Sectors.keeps_word c.args.form image c.args.place cached_node found)

pub returns-in_default-clause-marked : goal.returns-in_default-clause-marked
returns-in_default-clause-marked g c = marked_free c.args.first c.args.places.now

pub returns-in_err-cached-clause-damaged : goal.returns-in_err-cached-clause-damaged
returns-in_err-cached-clause-damaged g c = λ word is cached_node found can.
    let image = g.S.Sectors.image (g.S.Sectors.kept c.args.sectors.now) in
    let inode = c.in-Some.inode in
    let node = subst (λ (o : Option Inode). FindsFields g.S.Sectors.keeps_word c.args.form (image (node_sector c.args.place)) (option_map fields_of o)) c.in-Some.is c.in_ok-inode.ensures.found in
    none_there g.S.Sectors.keeps_word c.args.form image c.args.place c.args.first c.args.places.now (fields_of inode) word node (λ one same rest marks.
    c.in_err-cached.ensures.damaged word (ap (λ (e : ScanFault). Err e) (same_fault c.from_residual-in_err-cached.result c.in_err-cached.field-0.0 c.from_residual-in_err-cached.ensures.1 is)) one same
    (subst (λ kept. FindsRest g.S.Sectors.keeps_word (g.S.Sectors.image kept) one) (sym c.in_ok-inode.ensures.kept) rest) marks) cached_node found can

pub returns-clause-marked : goal.returns-clause-marked
returns-clause-marked g c =
    subst (λ (cached_node : CachedNode). AreMarked c.args.first c.args.places.now c.read_cached.new.places (λ n. namings_of n (Some cached_node))) (sym c.in_ok-boxed.ensures)
    (marked_cached c.args.first c.args.places.now c.read_cached.new.places c.in_ok-cached.cached c.in_ok-cached.ensures.marked)

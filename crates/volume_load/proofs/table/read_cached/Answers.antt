use Rattle.std.proofs.Common.{ap, sym}
use Rattle.std.specs.Prelude.{Err}
use Rattle.inode.specs.Fields.{fields_of}
use Rattle.volume_load.specs.declared.fault.ScanFault.{ScanFault}
use Rattle.volume_load.proofs.CachedNodeLaws.{content_there}
use Rattle.volume_load.proofs.SectorLaws.{same_fault}
use Rattle.volume_load.proofs.table.read_cached.Goals as goal

pub returns-in_err-names-clause-damaged : goal.returns-in_err-names-clause-damaged
returns-in_err-names-clause-damaged g c = λ word is cached same found can.
    let image = g.S.Sectors.image (g.S.Sectors.kept c.args.sectors.now) in
    let moved = ap (λ kept. g.S.Sectors.image kept) (sym c.in_ok-laid.ensures.kept) in
    c.in_err-names.ensures.damaged word (ap (λ (e : ScanFault). Err e) (same_fault c.from_residual-in_err-names.result c.in_err-names.field-0.0 c.from_residual-in_err-names.ensures.1 is)) cached.names
    (content_there g.S.Sectors.keeps_word image _ (fields_of c.args.inode) cached _ _ word moved c.requires.fits.run_sectors same found c.in_ok-laid.ensures.found)

use Rattle.std.proofs.Common.{◌≡◌, map, subst}
use Rattle.directory.specs.Records.{record_of, IsDirectory, NamesStamped}
use Rattle.volume_load.proofs.NameLaws.{one_names, as_records}
use Rattle.volume_load.proofs.names.read_names.Goals as goal

pub returns-clause-damaged : goal.returns-clause-damaged
returns-clause-damaged g c = λ word is names found.
    let image = g.S.Sectors.image (g.S.Sectors.kept c.args.sectors.now) in
    let same : names ≡ map record_of c.in_ok-entries.entries.items = one_names g.S.Sectors.keeps_word image c.args.blocks.now c.args.size names (map record_of c.in_ok-entries.entries.items) word
    (as_records g.S.Sectors.keeps_word image c.args.blocks.now c.args.size names found) c.in_ok-entries.ensures.found c.requires.enough in
    c.names_from.ensures.damaged is (subst IsDirectory same found.directory) (subst NamesStamped same found.stamped)

use Rattle.std.proofs.Common.{map, set, ap, ◌∙◌}
use Rattle.std.proofs.lemmas.List.{map-set}
use Rattle.directory.specs.Records.{record_of}
use Rattle.directory.proofs.records.with_changed.Goals as goal

pub returns : goal.returns
returns c =
    ap (λ v. map record_of v.items) c.in_ok-new.ensures.ok
    ∙ (map-set record_of c.in_ok-made.made.items c.args.at c.args.changed
    ∙ ap (λ records. set records c.args.at (record_of c.args.changed)) c.in_ok-made.ensures)

use Rattle.std.proofs.Common.{◌++◌, ◌∷◌, [], map, sym, ap, ◌∙◌}
use Rattle.std.proofs.lemmas.List.{map_push, take-map}
use Rattle.directory.specs.Records.{record_of}
use Rattle.directory.proofs.records.with_last.Goals as goal

pub returns : goal.returns
returns c =
    let last = record_of c.args.last in
    ap (λ v. map record_of v.items) c.in_ok-new.ensures.ok
    ∙ (ap (map record_of) c.in_ok-push.ensures.items
    ∙ (map_push record_of c.in_ok-made.made.items c.args.last
    ∙ ap (λ records. records ++ last ∷ []) (c.in_ok-made.ensures ∙ sym (take-map record_of c.args.count c.args.entries.now))))

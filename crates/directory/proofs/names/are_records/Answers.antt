use Rattle.std.proofs.Common.{◌≡◌, ◌∙◌, map, get_or, true, false, ap, sym, subst, arith}
use Rattle.std.proofs.lemmas.List.{length-map, get_or-map}
use Rattle.sector.specs.Written.{each_at}
use Rattle.directory.specs.Records.{record_of, IsRecord}
use Rattle.directory.proofs.names.are_records.Goals as goal

pub returns-then-not-is_record : goal.returns-then-not-is_record
returns-then-not-is_record c =
    let entries = c.args.entries.now in
    let i = c.loop-entry.entry-index in
    let here = c.entry-item.result in
    let at : record_of here ≡ get_or (map record_of entries) i (record_of here) =
    sym (get_or-map record_of entries i here (record_of here) c.loop-entry-test.true ∙ ap record_of (sym c.entry-item.is)) in
    let is_none : IsRecord (record_of here) → true ≡ false = λ is. sym (c.is_record.ensures.1 is) ∙ c.if-not-is_record.true in
    (λ yes. cc, λ all. sym (is_none (subst IsRecord (sym at) (each_at IsRecord (map record_of entries) i (record_of here) all (omega (arith, length-map entries record_of))))))

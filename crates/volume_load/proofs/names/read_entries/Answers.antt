use Rattle.std.proofs.Common.{◌≡◌, ◌<◌, ◌+◌, ◌-◌, ◌*◌, ◌∙◌, List, length, min, map, sym, ap, subst, arith}
use Rattle.std.proofs.lemmas.List.{length-map, map-append}
use Rattle.directory.specs.declared.entry.Entry.{Entry}
use Rattle.directory.specs.Records.{Record, record_of}
use Rattle.volume_load.specs.Names.{FindsPart}
use Rattle.volume_load.proofs.NameLaws.{AreReadTo, read_more, no_hole}
use Rattle.volume_load.proofs.names.read_entries.Goals as goal

pub returns-in_default-clause-damaged : goal.returns-in_default-clause-damaged
returns-in_default-clause-damaged g c = λ word is names found.
    no_hole g.S.Sectors.keeps_word (g.S.Sectors.image (g.S.Sectors.kept c.args.sectors.now)) c.args.blocks.now c.args.count c.loop-block.block names word found
    (omega (arith, c.loop-block-test.true, c.len-block-end.ensures.count)) (sym c.at.ensures ∙ c.in_default.is)

pub loop-block-preserved : goal.loop-block-preserved
loop-block-preserved g c =
    let inv = c.loop-block.invariant in
    let i = c.loop-block.block in
    let blocks = c.args.blocks.now in
    let image = g.S.Sectors.image (g.S.Sectors.kept c.args.sectors.now) in
    let read : List Entry = c.loop-block.entries.items in
    let part : List Entry = c.in_ok-part.part.items in
    let found = subst (λ kept. FindsPart g.S.Sectors.keeps_word (g.S.Sectors.image kept c.in-Some.sector) c.min.result (map record_of part)) inv.kept c.in_ok-part.ensures.found in
    let at : i < length blocks = omega (arith, c.loop-block-test.true, c.len-block-end.ensures.count) in
    let within : 15 * i < c.args.count = omega (arith, c.requires.enough) in
    let wide : c.min.result ≡ min (c.args.count - length (map record_of read)) 15 = omega (arith, c.min.ensures, c.len.ensures, c.loop-block.entries.ok.0, length-map read record_of) in
    let more = read_more g.S.Sectors.keeps_word image blocks c.args.count i (map record_of read) (map record_of part) inv.far within c.min.result c.in-Some.sector wide (sym c.at.ensures ∙ c.in-Some.is) found in
    record {
      far = subst (λ (names : List Record). AreReadTo g.S.Sectors.keeps_word image blocks c.args.count (i + 1) names) (sym (ap (map record_of) c.in_ok-append.ensures.items ∙ map-append record_of read part)) more;
      kept = c.read_part.ensures.kept ∙ inv.kept;
      health = c.in_ok-part.ensures.health.stays (λ e. cc) ∙ inv.health;
    }

use Rattle.std.proofs.Common.{◌<◌, ◌%◌, length, map, set, ap, ◌∙◌, arith}
use Rattle.std.proofs.lemmas.List.{length-map}
use Rattle.directory.specs.Records.{record_of}
use Rattle.directory.proofs.Blocks.{counted, block_there, record_there, record_set, record_set_filled}
use Rattle.directory.proofs.records.Records.set.Goals as goal

pub index-requires : goal.index-requires
index-requires c =
    let inside = c.self.inside in
    let within : c.args.place < inside.count = omega (arith, counted _ inside.count c.self.invariant, ap length c.self.view_is, c.requires) in
    omega (arith, block_there _ inside.blocks.items inside.count c.self.invariant c.args.place within, inside.blocks.ok.0)

pub with_changed-requires : goal.with_changed-requires
with_changed-requires c =
    let inside = c.self.inside in
    let within : c.args.place < inside.count = omega (arith, counted _ inside.count c.self.invariant, ap length c.self.view_is, c.requires) in
    let block = c.index.result.now in
    let there = record_there _ inside.blocks.items inside.count c.self.invariant c.args.place within block c.index.ensures in
    let same = c.deref-2.ensures.value ∙ ap (λ v. v.items) c.deref.ensures in
    omega (arith, there, length-map block.value.items record_of, ap length same)

pub index_mut-requires : goal.index_mut-requires
index_mut-requires c =
    let inside = c.self.inside in
    let within : c.args.place < inside.count = omega (arith, counted _ inside.count c.self.invariant, ap length c.self.view_is, c.requires) in
    omega (arith, block_there _ inside.blocks.items inside.count c.self.invariant c.args.place within, inside.blocks.ok.0)

pub invariant_of-self : goal.invariant_of-self
invariant_of-self c =
    let inside = c.self.inside in
    let within : c.args.place < inside.count = omega (arith, counted _ inside.count c.self.invariant, ap length c.self.view_is, c.requires) in
    let block = c.index.result.now in
    let same = c.deref-2.ensures.value ∙ ap (λ v. v.items) c.deref.ensures in
    let made_is = c.in_ok-made.ensures ∙ ap (λ es. set (map record_of es) (c.args.place % 15) (record_of c.args.entry)) same in
    record_set_filled _ inside.blocks.items inside.count c.self.invariant c.args.place within block c.index.ensures c.in_ok-made.made (record_of c.args.entry) made_is

pub returns-clause-ok : goal.returns-clause-ok
returns-clause-ok c =
    let inside = c.self.inside in
    let within : c.args.place < inside.count = omega (arith, counted _ inside.count c.self.invariant, ap length c.self.view_is, c.requires) in
    let block = c.index.result.now in
    let same = c.deref-2.ensures.value ∙ ap (λ v. v.items) c.deref.ensures in
    let made_is = c.in_ok-made.ensures ∙ ap (λ es. set (map record_of es) (c.args.place % 15) (record_of c.args.entry)) same in
    record_set _ inside.blocks.items inside.count c.self.invariant c.args.place within block c.index.ensures c.in_ok-made.made (record_of c.args.entry) made_is
    ∙ ap (λ names. set names c.args.place (record_of c.args.entry)) c.self.view_is

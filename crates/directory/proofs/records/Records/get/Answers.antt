use Rattle.std.proofs.Common.{◌≡◌, ◌<◌, ◌%◌, length, sym, ap, subst, ◌∙◌, get_or, arith}
use Rattle.std.proofs.lemmas.List.{length-map, get_or-map}
use Rattle.directory.specs.Records.{record_of}
use Rattle.directory.proofs.Blocks.{counted, block_there, record_there, record_read}
use Rattle.directory.proofs.records.Records.get.Goals as goal

pub index-requires : goal.index-requires
index-requires c =
    let inside = c.self.inside in
    let within : c.args.place < inside.count = omega (arith, counted _ inside.count c.self.invariant, ap length c.self.view_is, c.requires) in
    omega (arith, block_there _ inside.blocks.items inside.count c.self.invariant c.args.place within, inside.blocks.ok.0)

pub index-requires-2 : goal.index-requires-2
index-requires-2 c =
    let inside = c.self.inside in
    let within : c.args.place < inside.count = omega (arith, counted _ inside.count c.self.invariant, ap length c.self.view_is, c.requires) in
    let block = c.index.result.now in
    let there = record_there _ inside.blocks.items inside.count c.self.invariant c.args.place within block c.index.ensures in
    let found : c.args.place % 15 < length c.deref.result.now.items = subst (λ v. c.args.place % 15 < length v.items) (sym c.deref.ensures) (omega (arith, there, length-map block.value.items record_of)) in
    omega (arith, found, c.deref.result.now.ok.0)

pub returns : goal.returns
returns c = λ default.
    let inside = c.self.inside in
    let within : c.args.place < inside.count = omega (arith, counted _ inside.count c.self.invariant, ap length c.self.view_is, c.requires) in
    let block = c.index.result.now in
    let there = record_there _ inside.blocks.items inside.count c.self.invariant c.args.place within block c.index.ensures in
    let at : c.args.place % 15 < length block.value.items = omega (arith, there, length-map block.value.items record_of) in
    let found = subst (λ v. c.index-2.result.now ≡ get_or v.items (c.args.place % 15) c.index-2.result.now) c.deref.ensures c.index-2.ensures in
    ap (λ names. get_or names c.args.place default) (sym c.self.view_is)
    ∙ (record_read _ inside.blocks.items inside.count c.self.invariant c.args.place within block c.index.ensures default
    ∙ (get_or-map record_of block.value.items (c.args.place % 15) c.index-2.result.now default at ∙ ap record_of (sym found)))

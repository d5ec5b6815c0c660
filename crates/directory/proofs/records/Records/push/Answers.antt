use Rattle.std.proofs.Common.{◌<◌, ◌≤◌, ◌+◌, ◌++◌, ◌∷◌, [], ◌/◌, ◌%◌, length, map, take, sym, ap, subst, ◌∙◌, arith}
use Rattle.std.proofs.lemmas.List.{length-map}
use Rattle.directory.specs.Records.{record_of}
use Rattle.directory.specs.Blocks.{joined, AreFilled}
use Rattle.directory.proofs.Blocks.{counted, last_room, end_filled, end_is, push_filled, push_is}
use Rattle.directory.proofs.records.Records.push.Goals as goal

pub with_last-requires : goal.with_last-requires
with_last-requires c =
    let inside = c.self.inside in
    let block = c.index.result.now in
    let within : inside.count / 15 < length inside.blocks.items = omega (arith, c.if-block-len.true, c.len.ensures, inside.blocks.ok.0) in
    let same = c.deref-then-block-len.ensures.value ∙ ap (λ v. v.items) c.deref.ensures in
    omega (arith, last_room _ inside.blocks.items inside.count c.self.invariant within block c.index.ensures, length-map block.value.items record_of, ap length same)

pub invariant_of-self : goal.invariant_of-self
invariant_of-self c =
    let inside = c.self.inside in
    let within : inside.count / 15 < length inside.blocks.items = omega (arith, c.if-block-len.true, c.len.ensures, inside.blocks.ok.0) in
    let same = c.deref-then-block-len.ensures.value ∙ ap (λ v. v.items) c.deref.ensures in
    let made_is = c.in_ok-made.ensures ∙ ap (λ es. take (inside.count % 15) (map record_of es) ++ record_of c.args.entry ∷ []) same in
    end_filled _ inside.blocks.items inside.count c.self.invariant within c.index.result.now c.index.ensures c.in_ok-made.made (record_of c.args.entry) made_is

pub returns-then-block-len-clause-ok : goal.returns-then-block-len-clause-ok
returns-then-block-len-clause-ok c =
    let inside = c.self.inside in
    let within : inside.count / 15 < length inside.blocks.items = omega (arith, c.if-block-len.true, c.len.ensures, inside.blocks.ok.0) in
    let same = c.deref-then-block-len.ensures.value ∙ ap (λ v. v.items) c.deref.ensures in
    let made_is = c.in_ok-made.ensures ∙ ap (λ es. take (inside.count % 15) (map record_of es) ++ record_of c.args.entry ∷ []) same in
    end_is _ inside.blocks.items inside.count c.self.invariant within c.index.result.now c.index.ensures c.in_ok-made.made (record_of c.args.entry) made_is
    ∙ ap (λ names. names ++ record_of c.args.entry ∷ []) c.self.view_is

pub overflow_add-self-2 : goal.overflow_add-self-2
overflow_add-self-2 c =
    omega (arith, counted _ c.self.inside.count c.self.invariant, ap length c.self.view_is, c.requires)

pub invariant_of-self-2 : goal.invariant_of-self-2
invariant_of-self-2 c =
    let inside = c.self.inside in
    let past : length inside.blocks.items ≤ inside.count / 15 = omega (arith, c.if-block-len.false, c.len.ensures, inside.blocks.ok.0) in
    subst (λ items. AreFilled (inside.count + 1) (map (λ block. map record_of block.value.items) items)) (sym c.in_ok-push.ensures.items)
    (push_filled _ inside.blocks.items inside.count c.self.invariant past c.in_ok-made-2.made (record_of c.args.entry) c.in_ok-made-2.ensures)

pub returns-clause-ok : goal.returns-clause-ok
returns-clause-ok c =
    let inside = c.self.inside in
    let past : length inside.blocks.items ≤ inside.count / 15 = omega (arith, c.if-block-len.false, c.len.ensures, inside.blocks.ok.0) in
    ap (λ items. take (inside.count + 1) (joined (map (λ block. map record_of block.value.items) items))) c.in_ok-push.ensures.items
    ∙ (push_is _ inside.blocks.items inside.count c.self.invariant past c.in_ok-made-2.made (record_of c.args.entry) c.in_ok-made-2.ensures
    ∙ ap (λ names. names ++ record_of c.args.entry ∷ []) c.self.view_is)

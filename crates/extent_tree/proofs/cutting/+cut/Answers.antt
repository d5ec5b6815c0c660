use Rattle.std.proofs.Common.{◌≡◌, ◌∙◌, ◌++◌, ◌∷◌, ◌<◌, ◌+◌, ◌-◌, ◌/◌, ◌%◌, List, ap, sym, refl, subst, true, length, take, drop, replicate, arith}
use Rattle.extent_tree.specs.declared.entry.Entry.{Entry}
use Rattle.extent_tree.specs.Held.{entries_by, hole}
use Rattle.extent_tree.specs.Tree.{is_index, indexes_in}
use Rattle.extent_tree.specs.Cutting.{AreCut}
use Rattle.extent_tree.proofs.Charges.{span_pos}
use Rattle.extent_tree.proofs.Maps.{items_of}
use Rattle.extent_tree.proofs.Cuts.{IsCutting, cut_place, cut_all, cut_tail, cut_plain, cut_deep, cut_deep_kept, deep_cut_above, deep_cut_trees, deep_cut_long, deep_once, tail_slice, tail_trees, moved_requires, kept_twice}
use Rattle.extent_tree.proofs.cutting.+cut.Goals as goal

pub nonzero_div-at : goal.nonzero_div-at
nonzero_div-at t c = omega (arith, span_pos c.args.depth, c.span-span.ensures)

pub nonzero_rem-keep : goal.nonzero_rem-keep
nonzero_rem-keep t c = omega (arith, span_pos c.args.depth, c.span-span.ensures)

pub nonzero_rem-keep-2 : goal.nonzero_rem-keep-2
nonzero_rem-keep-2 t c = omega (arith, span_pos c.args.depth, c.span-span.ensures)

pub returns-then-at-len-clause-cut : goal.returns-then-at-len-clause-cut
returns-then-at-len-clause-cut t c =
    let index = entries_by items_of c.args.nodes.now in
    let xs = c.args.entries.items in
    let w = c.span-span.result in
    let at = c.args.keep / w in
    let h : IsCutting index c.args.depth c.args.keep w xs = record { trees = c.requires.trees; once = c.requires.once; long = c.requires.keep; span = c.span-span.ensures } in
    cut_all index c.args.depth c.args.keep w xs h c.args.freed.now.items (omega (arith, c.if-at-len.true, c.len.ensures, c.args.entries.ok.0))

pub give_back-requires-clause-trees : goal.give_back-requires-clause-trees
give_back-requires-clause-trees t c =
    let index = entries_by items_of c.args.nodes.now in
    let xs = c.args.entries.items in
    let w = c.span-span.result in
    let at = c.args.keep / w in
    let h : IsCutting index c.args.depth c.args.keep w xs = record { trees = c.requires.trees; once = c.requires.once; long = c.requires.keep; span = c.span-span.ensures } in
    tail_trees index c.args.depth (at + 1) xs c.deref.result.now c.deref.ensures.value (cut_tail index c.args.depth c.args.keep w xs h)

pub returns-then-not-is_index-clause-cut : goal.returns-then-not-is_index-clause-cut
returns-then-not-is_index-clause-cut t c =
    let index = entries_by items_of c.args.nodes.now in
    let xs = c.args.entries.items in
    let w = c.span-span.result in
    let at = c.args.keep / w in
    let h : IsCutting index c.args.depth c.args.keep w xs = record { trees = c.requires.trees; once = c.requires.once; long = c.requires.keep; span = c.span-span.ensures } in
    let at_lt : at < length xs = omega (arith, cut_place index c.args.depth c.args.keep w xs h, c.if-at-len.false, c.len.ensures, c.args.entries.ok.0) in
    let y = c.index-entry.result.now in
    let mid = c.give_back.new.freed.items in
    let back : mid ≡ c.args.freed.now.items ++ indexes_in index c.args.depth (drop (at + 1) xs) = tail_slice index c.args.depth (at + 1) xs c.deref.result.now c.args.freed.now.items mid c.deref.ensures.value c.in_ok-give_back.ensures in
    let made = cut_plain index c.args.depth c.args.keep w xs h at_lt y c.index-entry.ensures c.args.freed.now.items mid back (sym c.is_index.ensures ∙ c.if-not-is_index.true) in
    subst (λ (zs : List Entry). AreCut index index c.args.depth c.args.keep xs zs c.args.freed.now.items mid) (sym (c.in_ok-made.ensures ∙ ap (λ (x : Entry). take at xs ++ x ∷ replicate (length xs - at - 1) hole) c.shortened.ensures)) made

pub overflow_sub-depth : goal.overflow_sub-depth
overflow_sub-depth t c =
    let index = entries_by items_of c.args.nodes.now in
    let xs = c.args.entries.items in
    let w = c.span-span.result in
    let at = c.args.keep / w in
    let h : IsCutting index c.args.depth c.args.keep w xs = record { trees = c.requires.trees; once = c.requires.once; long = c.requires.keep; span = c.span-span.ensures } in
    let at_lt : at < length xs = omega (arith, cut_place index c.args.depth c.args.keep w xs h, c.if-at-len.false, c.len.ensures, c.args.entries.ok.0) in
    let y = c.index-entry.result.now in
    let mid = c.give_back.new.freed.items in
    let back : mid ≡ c.args.freed.now.items ++ indexes_in index c.args.depth (drop (at + 1) xs) = tail_slice index c.args.depth (at + 1) xs c.deref.result.now c.args.freed.now.items mid c.deref.ensures.value c.in_ok-give_back.ensures in
    let test : is_index y ≡ true = sym c.is_index.ensures ∙ c.if-not-is_index.false in
    omega (arith, deep_cut_above index c.args.depth c.args.keep w xs h at_lt y c.index-entry.ensures c.args.freed.now.items mid back (c.args.depth - 1) test refl)

pub cut-requires : goal.cut-requires
cut-requires t c =
    let index = entries_by items_of c.args.nodes.now in
    let xs = c.args.entries.items in
    let w = c.span-span.result in
    let at = c.args.keep / w in
    let h : IsCutting index c.args.depth c.args.keep w xs = record { trees = c.requires.trees; once = c.requires.once; long = c.requires.keep; span = c.span-span.ensures } in
    let at_lt : at < length xs = omega (arith, cut_place index c.args.depth c.args.keep w xs h, c.if-at-len.false, c.len.ensures, c.args.entries.ok.0) in
    let y = c.index-entry.result.now in
    let mid = c.give_back.new.freed.items in
    let back : mid ≡ c.args.freed.now.items ++ indexes_in index c.args.depth (drop (at + 1) xs) = tail_slice index c.args.depth (at + 1) xs c.deref.result.now c.args.freed.now.items mid c.deref.ensures.value c.in_ok-give_back.ensures in
    let test : is_index y ≡ true = sym c.is_index.ensures ∙ c.if-not-is_index.false in
    let above = deep_cut_above index c.args.depth c.args.keep w xs h at_lt y c.index-entry.ensures c.args.freed.now.items mid back (c.args.depth - 1) test refl in
    let copied : c.in_ok-copy.copy.items ≡ index y.sector = c.in_ok-copy.ensures.items ∙ c.entries_of.ensures in
    let all = moved_requires index (c.args.depth - 1) (c.args.keep % w) c.in_ok-copy.copy.items (index y.sector) copied (deep_cut_trees index c.args.depth c.args.keep w xs h at_lt y c.index-entry.ensures c.args.freed.now.items mid back (c.args.depth - 1) test refl) (deep_once index c.args.depth c.args.keep w xs h at_lt y c.index-entry.ensures c.args.freed.now.items mid back (c.args.depth - 1) test refl) (deep_cut_long index c.args.depth c.args.keep w xs h at_lt y c.index-entry.ensures c.args.freed.now.items mid back (c.args.depth - 1) test refl) in
    (omega (arith, c.decreases), (omega arith, (all.0, (all.1, all.2))))

pub returns-clause-cut : goal.returns-clause-cut
returns-clause-cut t c =
    let index = entries_by items_of c.args.nodes.now in
    let xs = c.args.entries.items in
    let w = c.span-span.result in
    let at = c.args.keep / w in
    let h : IsCutting index c.args.depth c.args.keep w xs = record { trees = c.requires.trees; once = c.requires.once; long = c.requires.keep; span = c.span-span.ensures } in
    let at_lt : at < length xs = omega (arith, cut_place index c.args.depth c.args.keep w xs h, c.if-at-len.false, c.len.ensures, c.args.entries.ok.0) in
    let y = c.index-entry.result.now in
    let mid = c.give_back.new.freed.items in
    let back : mid ≡ c.args.freed.now.items ++ indexes_in index c.args.depth (drop (at + 1) xs) = tail_slice index c.args.depth (at + 1) xs c.deref.result.now c.args.freed.now.items mid c.deref.ensures.value c.in_ok-give_back.ensures in
    let test : is_index y ≡ true = sym c.is_index.ensures ∙ c.if-not-is_index.false in
    let copied : c.in_ok-copy.copy.items ≡ index y.sector = c.in_ok-copy.ensures.items ∙ c.entries_of.ensures in
    subst (λ (zs : List Entry). AreCut index (entries_by items_of c.keep_index.new.nodes) c.args.depth c.args.keep xs zs c.args.freed.now.items c.keep_index.new.freed.items) (sym c.in_ok-made-2.ensures)
    (cut_deep index c.args.depth c.args.keep w xs h at_lt y c.index-entry.ensures c.args.freed.now.items mid back (c.args.depth - 1) test refl (entries_by items_of c.cut.new.nodes) (entries_by items_of c.keep_index.new.nodes) c.in_ok-copy.copy.items c.in_ok-below.below.items c.in_ok-new.new c.cut.new.freed.items c.keep_index.new.freed.items copied c.in_ok-below.ensures.cut c.in_ok-below.ensures.kept c.in_ok-new.ensures.new)

pub returns-clause-kept : goal.returns-clause-kept
returns-clause-kept t c =
    let index = entries_by items_of c.args.nodes.now in
    let xs = c.args.entries.items in
    let w = c.span-span.result in
    let at = c.args.keep / w in
    let h : IsCutting index c.args.depth c.args.keep w xs = record { trees = c.requires.trees; once = c.requires.once; long = c.requires.keep; span = c.span-span.ensures } in
    let at_lt : at < length xs = omega (arith, cut_place index c.args.depth c.args.keep w xs h, c.if-at-len.false, c.len.ensures, c.args.entries.ok.0) in
    let y = c.index-entry.result.now in
    let mid = c.give_back.new.freed.items in
    let back : mid ≡ c.args.freed.now.items ++ indexes_in index c.args.depth (drop (at + 1) xs) = tail_slice index c.args.depth (at + 1) xs c.deref.result.now c.args.freed.now.items mid c.deref.ensures.value c.in_ok-give_back.ensures in
    let test : is_index y ≡ true = sym c.is_index.ensures ∙ c.if-not-is_index.false in
    let copied : c.in_ok-copy.copy.items ≡ index y.sector = c.in_ok-copy.ensures.items ∙ c.entries_of.ensures in
    cut_deep_kept index c.args.depth c.args.keep w xs h at_lt y c.index-entry.ensures c.args.freed.now.items mid back (c.args.depth - 1) test refl (entries_by items_of c.cut.new.nodes) (entries_by items_of c.keep_index.new.nodes) c.in_ok-copy.copy.items c.in_ok-below.below.items c.in_ok-new.new c.cut.new.freed.items c.keep_index.new.freed.items copied c.in_ok-below.ensures.cut c.in_ok-below.ensures.kept c.in_ok-new.ensures.new

pub returns-clause-changed : goal.returns-clause-changed
returns-clause-changed t c = kept_twice (entries_by items_of c.args.nodes.now) (entries_by items_of c.cut.new.nodes) (entries_by items_of c.keep_index.new.nodes) c.cut.new.changed.items c.keep_index.new.changed.items c.in_ok-below.ensures.changed c.in_ok-new.ensures.changed c.in_ok-new.ensures.grows

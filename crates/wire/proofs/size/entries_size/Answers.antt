use Rattle.std.proofs.Common.{◌+◌, ◌≡◌, ◌<◌, ◌≤◌, length, take, ap, arith}
use Rattle.std.proofs.lemmas.List.{take_all}
use Rattle.wire.specs.AnswerViews.{links_of}
use Rattle.wire.proofs.Sizes.{chain_length, links_more, links_part}
use Rattle.wire.proofs.size.entries_size.Goals as goal

pub overflow_add-size-in-loop-entry : goal.overflow_add-size-in-loop-entry
overflow_add-size-in-loop-entry c =
    let entries = c.args.entries.now in
    let i = c.loop-entry.entry-index in
    let lt : i < length entries = omega arith in
    let more = links_more entries i c.entry-item.result lt c.entry-item.is in
    let part = links_part entries (i + 1) in
    let so_far : c.loop-entry.size ≡ length (links_of (take i entries)) = c.loop-entry.invariant in
    omega (arith, more, part, so_far, chain_length entries, c.requires.small)

pub loop-entry-preserved : goal.loop-entry-preserved
loop-entry-preserved c =
    let entries = c.args.entries.now in
    let i = c.loop-entry.entry-index in
    let lt : i < length entries = omega arith in
    let more = links_more entries i c.entry-item.result lt c.entry-item.is in
    let so_far : c.loop-entry.size ≡ length (links_of (take i entries)) = c.loop-entry.invariant in
    let next : c.loop-entry.size + (4 + c.size.result) ≡ length (links_of (take (i + 1) entries)) = omega (arith, more, so_far) in
    next

pub overflow_add-result : goal.overflow_add-result
overflow_add-result c =
    let entries = c.args.entries.now in
    let part = links_part entries c.loop-entry.entry-index in
    let so_far : c.loop-entry.size ≡ length (links_of (take c.loop-entry.entry-index entries)) = c.loop-entry.invariant in
    omega (arith, part, so_far, chain_length entries, c.requires.small)

pub returns : goal.returns
returns c =
    let entries = c.args.entries.now in
    let le : length entries ≤ c.loop-entry.entry-index = omega arith in
    let all = ap length (ap links_of (take_all c.loop-entry.entry-index entries le)) in
    let so_far : c.loop-entry.size ≡ length (links_of (take c.loop-entry.entry-index entries)) = c.loop-entry.invariant in
    omega (arith, all, so_far, chain_length entries)

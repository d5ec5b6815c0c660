use Rattle.std.proofs.Common.{◌≡◌, true, arith, length}
use Rattle.extent_tree.proofs.Bytes.{none_there}
use Rattle.extent_tree.proofs.encoding.checked_at.Goals as goal

pub returns-then-not-are_entries-clause-not_entries :
    goal.returns-then-not-are_entries-clause-not_entries
returns-then-not-are_entries-clause-not_entries c = λ is entries len are.
    let found = c.in_ok-entries.entries in
    let many : length found.items ≡ length entries = omega (arith, c.in_ok-entries.ensures.len, found.ok.0) in
    none_there c.args.depth c.args.count _ found.items entries many c.in_ok-entries.ensures.encodable c.in_ok-entries.ensures.found
    (λ these. let yes : c.are_entries.result ≡ true = c.are_entries.ensures.1 (rw c.deref.ensures.value these) in absurd (cc)) are

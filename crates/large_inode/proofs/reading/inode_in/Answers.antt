use Rattle.std.proofs.Common.{◌≡◌, ◌∙◌, true, arith, ap, Err, slice_index_or, ◌≤◌, ◌<◌}
use Rattle.std.proofs.lemmas.Result.{err_from_is_err_and}
use Rattle.inode.proofs.EntryLemmas.{some_is, err_is}
use Rattle.large_inode.proofs.Parts.{kind_there, depth_there, count_there, number_there, owner_there, group_there, change_there, modified_there, size_there, changed_there, created_there, acl_there, extents_there, rest_of_acl, rest_of_extents, same_fields}
use Rattle.large_inode.proofs.ReadBack.{verifier-there}
use Rattle.large_inode.proofs.reading.inode_in.Goals as goal

pub returns-in_default-clause-err : goal.returns-in_default-clause-err
returns-in_default-clause-err c = λ is fields fits e.
    c.in_default.not-Some fields.kind (c.kind_from.ensures fields.kind (kind_there fields c.args.sector.now e))

pub returns-then-not-are_in_range-clause-err : goal.returns-then-not-are_in_range-clause-err
returns-then-not-are_in_range-clause-err c = λ is fields fits e.
    let sector = c.args.sector.now in
    let depth : slice_index_or sector 5 0 ≤ 3 = omega (arith, depth_there fields sector e, fits.head.depth) in
    let number = number_there fields sector e fits c.u64_at-number.result c.u64_at-number.ensures.only in
    let count = count_there fields sector e fits c.u16_at.result c.u16_at.ensures.only in
    let some : 0 < c.u64_at-number.result = omega (arith, fits.head.some) in
    let few : c.from-aces.result ≤ 72 = omega (arith, fits.acl, c.from-aces.ensures) in
    let yes : c.are_in_range.result ≡ true = c.are_in_range.ensures.1 (depth, some, few) in
    absurd cc

pub returns-in_err-acl-clause-err : goal.returns-in_err-acl-clause-err
returns-in_err-acl-clause-err c = λ is fields fits e.
    let sector = c.args.sector.now in
    let p = err_from_is_err_and c.from_residual.result c.from_residual.ensures.1 in
    let fault = err_is _ _ (rw (p.1, p.2) at is) in
    let count = count_there fields sector e fits c.u16_at.result c.u16_at.ensures.only in
    c.in_err-acl.ensures.err (ap (λ x. Err x) fault) fields.acl (rest_of_acl fields) fits.each_ace (omega (arith, c.from-aces.ensures)) (acl_there fields sector e fits)

pub returns-clause-only : goal.returns-clause-only
returns-clause-only c = λ fields fits e.
    let sector = c.args.sector.now in
    let kind = some_is c.in-Some.kind fields.kind (c.in-Some.ensures fields.kind (kind_there fields sector e)) in
    let count = count_there fields sector e fits c.u16_at.result c.u16_at.ensures.only in
    let verifier = c.verifier_of.ensures ∙ verifier-there fields sector e fits in
    let acl = c.in_ok-acl.ensures.only fields.acl (rest_of_acl fields) fits.each_ace (omega (arith, c.from-aces.ensures)) (acl_there fields sector e fits) in
    let extents = c.in_ok-extents_in.ensures.only fields.extents rest_of_extents fits.each_extent fits.extents (extents_there fields sector e fits) in
    same_fields c.in-Some.kind _ c.u64_at-number.result c.u32_at.result c.u32_at-2.result c.u64_at.result c.u64_at-2.result c.u64_at-3.result c.u64_at-4.result c.u64_at-5.result c.verifier_of.result c.in_ok-acl.acl c.in_ok-extents_in.field-0.items fields kind
    (depth_there fields sector e) (number_there fields sector e fits c.u64_at-number.result c.u64_at-number.ensures.only)
    (owner_there fields sector e fits c.u32_at.result c.u32_at.ensures.only) (group_there fields sector e fits c.u32_at-2.result c.u32_at-2.ensures.only)
    (change_there fields sector e fits c.u64_at.result c.u64_at.ensures.only) (modified_there fields sector e fits c.u64_at-2.result c.u64_at-2.ensures.only)
    (size_there fields sector e fits c.u64_at-3.result c.u64_at-3.ensures.only) (changed_there fields sector e fits c.u64_at-4.result c.u64_at-4.ensures.only)
    (created_there fields sector e fits c.u64_at-5.result c.u64_at-5.ensures.only) verifier acl extents

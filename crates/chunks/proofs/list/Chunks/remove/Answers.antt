use Rattle.std.proofs.Common.{◌≡◌, ◌<◌, ◌+◌, length, vec_len, slice_get, sym, ap, ◌∙◌, arith}
use Rattle.std.specs.List.{flat_map, remove}
use Rattle.std.proofs.lemmas.List.{with_items_is}
use Rattle.std.proofs.lemmas.List.Edits.{length-remove}
use Rattle.std.proofs.lemmas.Option.{get_or_from_slice_get}
use Rattle.chunks.proofs.Exits.{on_err}
use Rattle.chunks.proofs.Places.{as_many, end_some, chunk_len, found_entry}
use Rattle.chunks.proofs.Replacing.{kept_set, kept_lowered, kept_dropped, unchanged, edited_by, dropped, removes}
use Rattle.chunks.proofs.list.Chunks.remove.Goals as goal

pub find-chunk-requires-clause-kept : goal.find-chunk-requires-clause-kept
find-chunk-requires-clause-kept g c = rw (c.deref.ensures.value, c.deref-2.ensures.value) c.self.invariant

pub find-chunk-requires-clause-within : goal.find-chunk-requires-clause-within
find-chunk-requires-clause-within g c = rw (c.deref.ensures.value, c.self.view_is) c.requires

pub index-requires : goal.index-requires
index-requires g c =
    let found = rw c.deref.ensures.value at c.find-chunk.ensures in
    omega (arith, found.chunk_in, c.self.inside.chunks.ok.0)

-- the last entry of a chunk is removed

pub index-requires-then-len-eq1 : goal.index-requires-then-len-eq1
index-requires-then-len-eq1 g c =
    let found = rw c.deref.ensures.value at c.find-chunk.ensures in
    omega (arith, found.chunk_in, c.self.inside.chunks.ok.0)

pub index-removed-requires : goal.index-removed-requires
index-removed-requires g c =
    let found = rw c.deref.ensures.value at c.find-chunk.ensures in
    let chunk = c.index-then-len-eq1.result.now in
    omega (arith, found.at_in chunk, ap (λ r. length r.value.items) c.index-then-len-eq1.ensures, ap (λ v. vec_len v) c.deref-then-len-eq1.ensures, chunk.value.ok.0)

pub remove-requires : goal.remove-requires
remove-requires g c =
    let found = rw c.deref.ensures.value at c.find-chunk.ensures in
    omega (arith, found.chunk_in, c.self.inside.chunks.ok.0)

pub lower-requires-clause-within : goal.lower-requires-clause-within
lower-requires-clause-within g c =
    let found = rw c.deref.ensures.value at c.find-chunk.ensures in
    omega (arith, found.chunk_in, as_many _ _ _ c.self.invariant, ap length c.deref_mut.ensures.value)

pub lower-requires-clause-some : goal.lower-requires-clause-some
lower-requires-clause-some g c = rw c.deref_mut.ensures.value (λ k d low. end_some _ _ _ c.self.invariant k d low)

pub remove-requires-then-len-eq1 : goal.remove-requires-then-len-eq1
remove-requires-then-len-eq1 g c =
    let found = rw c.deref.ensures.value at c.find-chunk.ensures in
    omega (arith, found.chunk_in, as_many _ _ _ c.self.invariant, c.self.inside.ends.ok.0)

pub invariant_of-self : goal.invariant_of-self
invariant_of-self g c =
    let inside = c.self.inside in
    let k = c.find-chunk.result.0 in
    let chunk = c.index.result.now in
    let found = rw c.deref.ensures.value at c.find-chunk.ensures in
    let lowered = rw c.deref_mut.ensures.value at c.lower.ensures in
    let len : length c.lower.new.ends ≡ inside.ends.len = omega (arith, c.lower.auto.ends, ap length c.deref_mut.ensures.value, inside.ends.ok.0) in
    let one : length chunk.value.items ≡ 1 = omega (arith, c.if-len-eq1.true, c.len.ensures, ap (λ v. vec_len v) c.deref-3.ensures, chunk.value.ok.0) in
    rw c.remove.ensures.items
    (kept_dropped _ _ _ c.self.invariant k chunk found.chunk_in c.remove-then-len-eq1.new.self.items
    (sym (chunk_len _ _ _ c.self.invariant k chunk chunk c.index.ensures found.chunk_in) ∙ one)
    (c.remove-then-len-eq1.ensures.items ∙ ap (λ l. remove l k) (with_items_is inside.ends c.lower.new.ends len ∙ lowered)))

pub returns-then-len-eq1-clause-removed : goal.returns-then-len-eq1-clause-removed
returns-then-len-eq1-clause-removed g c =
    let found = rw c.deref.ensures.value at c.find-chunk.ensures in
    sym (found_entry _ _ _ c.self.invariant _ _ _ found c.index-then-len-eq1.result.now c.index-removed.result.now c.index-then-len-eq1.ensures
    (rw c.deref-then-len-eq1.ensures at c.index-removed.ensures)
    ∙ ap (λ l. slice_get l c.args.place) c.self.view_is)

pub returns-then-len-eq1-clause-ok : goal.returns-then-len-eq1-clause-ok
returns-then-len-eq1-clause-ok g c =
    let k = c.find-chunk.result.0 in
    let chunk = c.index.result.now in
    let found = rw c.deref.ensures.value at c.find-chunk.ensures in
    let one : length chunk.value.items ≡ 1 = omega (arith, c.if-len-eq1.true, c.len.ensures, ap (λ v. vec_len v) c.deref-3.ensures, chunk.value.ok.0) in
    ap (λ l. flat_map (λ r. r.value.items) l) c.remove.ensures.items
    ∙ (dropped _ _ _ c.self.invariant k chunk found.chunk_in _ _ (found.at_in chunk) found.same
    (sym (chunk_len _ _ _ c.self.invariant k chunk chunk c.index.ensures found.chunk_in) ∙ one)
    ∙ ap (λ l. remove l c.args.place) c.self.view_is)

-- another one

pub index_mut-requires : goal.index_mut-requires
index_mut-requires g c =
    let found = rw c.deref.ensures.value at c.find-chunk.ensures in
    omega (arith, found.chunk_in, c.self.inside.chunks.ok.0)

pub remove-requires-2 : goal.remove-requires-2
remove-requires-2 g c =
    let found = rw c.deref.ensures.value at c.find-chunk.ensures in
    let chunk = c.index_mut.result.now in
    omega (arith, found.at_in chunk, ap (λ r. length r.value.items) c.index_mut.ensures.value)

pub invariant_of-self-in_err-removed : goal.invariant_of-self-in_err-removed
invariant_of-self-in_err-removed g c =
    let found = rw c.deref.ensures.value at c.find-chunk.ensures in
    kept_set _ _ _ c.self.invariant _ c.index_mut.result.now found.chunk_in c.remove-2.new.chunk
    (ap length c.in_err-removed.ensures.err ∙ ap (λ r. length r.value.items) c.index_mut.ensures.value)

pub returns-in_err-removed-clause-err : goal.returns-in_err-removed-clause-err
returns-in_err-removed-clause-err g c =
    let found = rw c.deref.ensures.value at c.find-chunk.ensures in
    on_err c.from_residual.result
    (unchanged _ _ _ c.self.invariant _ c.index_mut.result.now found.chunk_in c.remove-2.new.chunk
    (c.in_err-removed.ensures.err ∙ ap (λ r. r.value.items) c.index_mut.ensures.value)
    ∙ c.self.view_is)

pub lower-requires-2-clause-within : goal.lower-requires-2-clause-within
lower-requires-2-clause-within g c =
    let found = rw c.deref.ensures.value at c.find-chunk.ensures in
    omega (arith, found.chunk_in, as_many _ _ _ c.self.invariant, ap length c.deref_mut-2.ensures.value)

pub lower-requires-2-clause-some : goal.lower-requires-2-clause-some
lower-requires-2-clause-some g c = rw c.deref_mut-2.ensures.value (λ k d low. end_some _ _ _ c.self.invariant k d low)

pub invariant_of-self-2 : goal.invariant_of-self-2
invariant_of-self-2 g c =
    let inside = c.self.inside in
    let k = c.find-chunk.result.0 in
    let at = c.find-chunk.result.1 in
    let before = c.index.result.now in
    let chunk = c.index_mut.result.now in
    let found = rw c.deref.ensures.value at c.find-chunk.ensures in
    let lowered = rw c.deref_mut-2.ensures.value at c.lower-2.ensures in
    let len : length c.lower-2.new.ends ≡ inside.ends.len = omega (arith, c.lower-2.auto.ends, ap length c.deref_mut-2.ensures.value, inside.ends.ok.0) in
    let same = ap (λ r. length r.value.items) c.index_mut.ensures.value in
    let low : at < length chunk.value.items = omega (arith, found.at_in chunk, same) in
    let fewer : length c.remove-2.new.chunk.value.items + 1 ≡ length chunk.value.items =
    omega (arith, ap length c.in_ok-removed.ensures.ok, length-remove chunk.value.items at low) in
    let others : length before.value.items ≡ length chunk.value.items =
    chunk_len _ _ _ c.self.invariant k before chunk c.index.ensures found.chunk_in ∙ sym same in
    let some : 0 < length c.remove-2.new.chunk.value.items =
    omega (arith, fewer, others, c.if-len-eq1.false, c.len.ensures, ap (λ v. vec_len v) c.deref-3.ensures, before.value.ok.0, low) in
    kept_lowered _ _ _ c.self.invariant k chunk found.chunk_in c.remove-2.new.chunk _ (fewer ∙ same) some
    (with_items_is inside.ends c.lower-2.new.ends len ∙ lowered)

pub returns-clause-removed : goal.returns-clause-removed
returns-clause-removed g c =
    let chunk = c.index_mut.result.now in
    let removed = c.in_ok-removed.removed in
    let found = rw c.deref.ensures.value at c.find-chunk.ensures in
    sym (found_entry _ _ _ c.self.invariant _ _ _ found chunk removed c.index_mut.ensures.value
    (sym (get_or_from_slice_get chunk.value.items c.find-chunk.result.1 removed removed c.in_ok-removed.ensures.removed))
    ∙ ap (λ l. slice_get l c.args.place) c.self.view_is)

pub returns-clause-ok : goal.returns-clause-ok
returns-clause-ok g c =
    let found = rw c.deref.ensures.value at c.find-chunk.ensures in
    let chunk = c.index_mut.result.now in
    let at = c.find-chunk.result.1 in
    edited_by _ _ _ c.self.invariant _ chunk found.chunk_in _ _ (found.at_in chunk) found.same (λ xs i. remove xs i) (removes _) c.remove-2.new.chunk
    (c.in_ok-removed.ensures.ok ∙ ap (λ r. remove r.value.items at) c.index_mut.ensures.value)
    ∙ ap (λ l. remove l c.args.place) c.self.view_is

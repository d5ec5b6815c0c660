use Rattle.std.proofs.Common.{◌≡◌, ◌≤◌, ◌+◌, ◌-◌, length, vec_len, set, suc, ap, ◌∙◌, arith, length-append}
use Rattle.std.specs.List.{flat_map, insert}
use Rattle.std.proofs.lemmas.List.{with_items_is}
use Rattle.std.proofs.lemmas.List.Edits.{length-insert}
use Rattle.chunks.proofs.Exits.{on_err}
use Rattle.chunks.proofs.Places.{as_many, end_small, good_chunk}
use Rattle.chunks.proofs.Replacing.{kept_split, split_in}
use Rattle.chunks.proofs.list.insert_in_halves.Goals as goal

pub find-chunk-requires-clause-kept : goal.find-chunk-requires-clause-kept
find-chunk-requires-clause-kept g c = rw (c.deref.ensures.value, c.deref-2.ensures.value) c.requires.kept

pub find-chunk-requires-clause-within : goal.find-chunk-requires-clause-within
find-chunk-requires-clause-within g c = rw c.deref.ensures.value c.requires.within

pub index-requires : goal.index-requires
index-requires g c =
    let found = rw c.deref.ensures.value at c.find-chunk.ensures in
    omega (arith, found.chunk_in, c.args.chunks.now.ok.0)

pub split-requires-clause-kept : goal.split-requires-clause-kept
split-requires-clause-kept g c =
    let found = rw c.deref.ensures.value at c.find-chunk.ensures in
    rw (c.deref-4.ensures.value, c.deref-3.ensures) (good_chunk _ _ _ c.requires.kept _ c.index.result.now c.index.ensures found.chunk_in)

pub split-requires-clause-within : goal.split-requires-clause-within
split-requires-clause-within g c =
    let found = rw c.deref.ensures.value at c.find-chunk.ensures in
    rw (c.deref-4.ensures.value, c.deref-3.ensures)
    (omega (arith, found.at_in c.index.result.now, ap (λ r. length r.value.items) c.index.ensures))

pub overflow_sub-middle : goal.overflow_sub-middle
overflow_sub-middle g c =
    let found = rw c.deref.ensures.value at c.find-chunk.ensures in
    omega (arith, found.same)

pub overflow_add-middle : goal.overflow_add-middle
overflow_add-middle g c =
    let left = c.in_ok-left.left in
    omega (arith, c.requires.within, c.requires.room, c.len.ensures, ap (λ v. vec_len v) c.deref-5.ensures, left.value.ok.0, c.in_ok-left.ensures.left.few)

pub returns-in_err-reserve-clause-ends : goal.returns-in_err-reserve-clause-ends
returns-in_err-reserve-clause-ends g c = on_err c.from_residual-in_err-reserve.result c.reserve.ensures.items

pub overflow_add-chunk : goal.overflow_add-chunk
overflow_add-chunk g c =
    let found = rw c.deref.ensures.value at c.find-chunk.ensures in
    omega (arith, found.chunk_in, c.args.chunks.now.ok.0, c.args.chunks.now.small)

pub insert-requires : goal.insert-requires
insert-requires g c =
    let found = rw c.deref.ensures.value at c.find-chunk.ensures in
    omega (arith, found.chunk_in, c.args.chunks.now.ok.0)

pub returns-in_err-insert-clause-chunks : goal.returns-in_err-insert-clause-chunks
returns-in_err-insert-clause-chunks g c = on_err c.from_residual-in_err-insert.result c.in_err-insert.ensures.items

pub returns-in_err-insert-clause-ends : goal.returns-in_err-insert-clause-ends
returns-in_err-insert-clause-ends g c = on_err c.from_residual-in_err-insert.result c.reserve.ensures.items

pub index_mut-requires : goal.index_mut-requires
index_mut-requires g c =
    let found = rw c.deref.ensures.value at c.find-chunk.ensures in
    omega (arith, found.chunk_in, c.args.chunks.now.ok.0, c.in_ok-insert.ensures.len)

pub raise-requires-clause-within : goal.raise-requires-clause-within
raise-requires-clause-within g c =
    let found = rw c.deref.ensures.value at c.find-chunk.ensures in
    omega (arith, found.chunk_in, as_many _ _ _ c.requires.kept, ap length c.deref_mut.ensures.value, ap length c.reserve.ensures.items)

pub raise-requires-clause-fits : goal.raise-requires-clause-fits
raise-requires-clause-fits g c =
    rw (c.deref_mut.ensures.value, c.reserve.ensures.items) (λ k d low. omega (arith, end_small _ _ _ c.requires.kept k d low))

pub insert-requires-2 : goal.insert-requires-2
insert-requires-2 g c =
    let found = rw c.deref.ensures.value at c.find-chunk.ensures in
    omega (arith, found.chunk_in, as_many _ _ _ c.requires.kept, c.reserve.new.self.ok.0, ap length c.reserve.ensures.items)

pub unreachable-requires : goal.unreachable-requires
unreachable-requires g c = omega (arith, c.in-Err.ensures.full, c.in_ok-reserve.ensures.ok)

pub returns-clause-ok : goal.returns-clause-ok
returns-clause-ok g c =
    let k = c.find-chunk.result.0 in
    let at = c.find-chunk.result.1 in
    let entry = c.args.entry in
    let left = c.in_ok-left.left in
    let right = c.in_ok-left.right in
    let chunk = c.index.result.now in
    let middle = c.args.place - at + c.len.result in
    let now = c.insert-2.new.self.items in
    let found = rw c.deref.ensures.value at c.find-chunk.ensures in
    let all = rw (c.deref-4.ensures.value, c.deref-3.ensures) at c.in_ok-left.ensures.all in
    let raised = rw (c.deref_mut.ensures.value, c.reserve.ensures.items) at c.raise.ensures in
    let len : length c.raise.new.ends ≡ c.reserve.new.self.len = omega (arith, c.raise.auto.ends, ap length c.deref_mut.ensures.value, c.reserve.new.self.ok.0) in
    let next : k + 1 ≡ suc k = omega arith in
    let low : at ≤ length chunk.value.items = omega (arith, found.at_in chunk, ap (λ r. length r.value.items) c.index.ensures) in
    let both : length left.value.items + length right.value.items ≡ length chunk.value.items + 1 =
    omega (arith, length-append left.value.items right.value.items, ap length all, length-insert chunk.value.items at entry low) in
    let same = ap (λ r. length r.value.items) c.index.ensures in
    let left_len : c.len.result ≡ length left.value.items = omega (arith, c.len.ensures, ap (λ v. vec_len v) c.deref-5.ensures, left.value.ok.0) in
    record {
      kept = rw c.in_ok-insert.ensures.items
          (kept_split _ _ _ c.requires.kept k chunk found.chunk_in left right (k + 1) middle now next c.in_ok-left.ensures.left c.in_ok-left.ensures.right
          (omega (arith, both, same)) (omega (arith, c.requires.room)) (omega (arith, found.same, left_len))
          (c.in-Ok.ensures.items ∙ ap (λ l. insert l k middle) (with_items_is c.reserve.new.self c.raise.new.ends len ∙ raised)));
      same = ap (λ l. flat_map (λ r. r.value.items) (set l k left)) c.in_ok-insert.ensures.items
          ∙ split_in _ _ _ c.requires.kept k chunk found.chunk_in at c.args.place (found.at_in chunk) found.same left right (k + 1) entry next
          (all ∙ ap (λ r. insert r.value.items at entry) c.index.ensures);
    }

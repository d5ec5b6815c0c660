use Rattle.std.proofs.Common.{◌≡◌, ◌≤◌, ◌+◌, [], ◌∷◌, ◌++◌, length, vec_len, ℕ, List, sym, ap, ◌∙◌, arith}
use Rattle.std.specs.List.{flat_map, insert}
use Rattle.std.proofs.lemmas.List.{with_items_is}
use Rattle.std.proofs.lemmas.List.Edits.{length-insert, insert_end}
use Rattle.std.proofs.lemmas.Result.{on_ok_weaker}
use Rattle.chunks.proofs.Exits.{on_err}
use Rattle.chunks.proofs.Places.{as_many, end_small, chunk_len, good_chunk}
use Rattle.chunks.proofs.Replacing.{kept_set, kept_raised, unchanged, edited_by, inserts}
use Rattle.chunks.proofs.list.Chunks.insert.Goals as goal

end_insert : {X : Type 0} (xs : List X) (place len : ℕ) (x : X) → place ≡ len → len ≡ length xs → xs ++ x ∷ [] ≡ insert xs place x
end_insert xs place len x is len_is = sym (ap (λ n. insert xs n x) (is ∙ len_is) ∙ insert_end xs x)

pub returns-then-place-len-clause-ok : goal.returns-then-place-len-clause-ok
returns-then-place-len-clause-ok g c =
    let now = c.args.self.now in
    on_ok_weaker c.push.result (λ (is : c.push.new.self ≡ now ++ c.args.entry ∷ []). is ∙ end_insert now c.args.place c.len-len.result c.args.entry c.if-place-len.true c.len-len.ensures)
    c.push.ensures.ok

pub find-chunk-requires-clause-kept : goal.find-chunk-requires-clause-kept
find-chunk-requires-clause-kept g c = rw (c.deref.ensures.value, c.deref-2.ensures.value) c.self.invariant

pub find-chunk-requires-clause-within : goal.find-chunk-requires-clause-within
find-chunk-requires-clause-within g c = rw (c.deref.ensures.value, c.self.view_is) (omega (arith, c.requires, c.if-place-len.false, c.len-len.ensures))

pub index-requires : goal.index-requires
index-requires g c =
    let found = rw c.deref.ensures.value at c.find-chunk.ensures in
    omega (arith, found.chunk_in, c.self.inside.chunks.ok.0)

-- the chunk is full

pub insert_in_halves-requires-clause-kept : goal.insert_in_halves-requires-clause-kept
insert_in_halves-requires-clause-kept g c = c.self.invariant

pub insert_in_halves-requires-clause-within : goal.insert_in_halves-requires-clause-within
insert_in_halves-requires-clause-within g c = rw c.self.view_is (omega (arith, c.requires, c.if-place-len.false, c.len-len.ensures))

pub insert_in_halves-requires-clause-room : goal.insert_in_halves-requires-clause-room
insert_in_halves-requires-clause-room g c = omega (arith, ap length c.self.view_is, c.self.invariant.few, c.if-len-eq-MAX_LEN.false, c.len-len.ensures)

pub invariant_of-self : goal.invariant_of-self
invariant_of-self g c = c.in_ok-insert_in_halves.ensures.ok.kept

pub invariant_of-self-in_err-insert_in_halves : goal.invariant_of-self-in_err-insert_in_halves
invariant_of-self-in_err-insert_in_halves g c = rw (c.in_err-insert_in_halves.ensures.chunks, c.in_err-insert_in_halves.ensures.ends) c.self.invariant

pub returns-in_err-insert_in_halves-clause-err : goal.returns-in_err-insert_in_halves-clause-err
returns-in_err-insert_in_halves-clause-err g c =
    on_err c.from_residual.result (ap (λ l. flat_map (λ r. r.value.items) l) c.in_err-insert_in_halves.ensures.chunks ∙ c.self.view_is)

pub returns-in_ok-insert_in_halves-clause-ok : goal.returns-in_ok-insert_in_halves-clause-ok
returns-in_ok-insert_in_halves-clause-ok g c = c.in_ok-insert_in_halves.ensures.ok.same ∙ ap (λ l. insert l c.args.place c.args.entry) c.self.view_is

-- the chunk has room

pub index_mut-requires : goal.index_mut-requires
index_mut-requires g c =
    let found = rw c.deref.ensures.value at c.find-chunk.ensures in
    omega (arith, found.chunk_in, c.self.inside.chunks.ok.0)

pub insert-requires-clause-within : goal.insert-requires-clause-within
insert-requires-clause-within g c =
    let found = rw c.deref.ensures.value at c.find-chunk.ensures in
    let chunk = c.index_mut.result.now in
    omega (arith, found.at_in chunk, ap (λ r. length r.value.items) c.index_mut.ensures.value)

pub insert-requires-clause-room : goal.insert-requires-clause-room
insert-requires-clause-room g c =
    let k = c.find-chunk.result.0 in
    let before = c.index.result.now in
    let chunk = c.index_mut.result.now in
    let found = rw c.deref.ensures.value at c.find-chunk.ensures in
    let others : length before.value.items ≡ length chunk.value.items =
    chunk_len _ _ _ c.self.invariant k before chunk c.index.ensures found.chunk_in ∙ sym (ap (λ r. length r.value.items) c.index_mut.ensures.value) in
    omega (
      arith,
      others,
      c.if-len-eq-CHUNK_LEN.false,
      c.len.ensures,
      ap (λ v. vec_len v) c.deref-3.ensures,
      before.value.ok.0,
      (good_chunk _ _ _ c.self.invariant k chunk c.index_mut.ensures.value found.chunk_in).few,
    )

pub invariant_of-self-in_err-insert : goal.invariant_of-self-in_err-insert
invariant_of-self-in_err-insert g c =
    let found = rw c.deref.ensures.value at c.find-chunk.ensures in
    kept_set _ _ _ c.self.invariant _ c.index_mut.result.now found.chunk_in c.insert.new.chunk
    (ap length c.in_err-insert.ensures.err ∙ ap (λ r. length r.value.items) c.index_mut.ensures.value)

pub returns-in_err-insert-clause-err : goal.returns-in_err-insert-clause-err
returns-in_err-insert-clause-err g c =
    let found = rw c.deref.ensures.value at c.find-chunk.ensures in
    on_err c.from_residual-in_err-insert.result
    (unchanged _ _ _ c.self.invariant _ c.index_mut.result.now found.chunk_in c.insert.new.chunk
    (c.in_err-insert.ensures.err ∙ ap (λ r. r.value.items) c.index_mut.ensures.value)
    ∙ c.self.view_is)

pub raise-requires-clause-within : goal.raise-requires-clause-within
raise-requires-clause-within g c =
    let found = rw c.deref.ensures.value at c.find-chunk.ensures in
    omega (arith, found.chunk_in, as_many _ _ _ c.self.invariant, ap length c.deref_mut.ensures.value)

pub raise-requires-clause-fits : goal.raise-requires-clause-fits
raise-requires-clause-fits g c = rw c.deref_mut.ensures.value (λ k d low. omega (arith, end_small _ _ _ c.self.invariant k d low))

pub invariant_of-self-else-len-eq-CHUNK_LEN : goal.invariant_of-self-else-len-eq-CHUNK_LEN
invariant_of-self-else-len-eq-CHUNK_LEN g c =
    let inside = c.self.inside in
    let k = c.find-chunk.result.0 in
    let at = c.find-chunk.result.1 in
    let before = c.index.result.now in
    let chunk = c.index_mut.result.now in
    let found = rw c.deref.ensures.value at c.find-chunk.ensures in
    let raised = rw c.deref_mut.ensures.value at c.raise.ensures in
    let len : length c.raise.new.ends ≡ inside.ends.len = omega (arith, c.raise.auto.ends, ap length c.deref_mut.ensures.value, inside.ends.ok.0) in
    let same = ap (λ r. length r.value.items) c.index_mut.ensures.value in
    let low : at ≤ length chunk.value.items = omega (arith, found.at_in chunk, same) in
    let more : length c.insert.new.chunk.value.items ≡ length chunk.value.items + 1 =
    ap length c.in_ok-insert.ensures.ok ∙ length-insert chunk.value.items at c.args.entry low in
    let others = chunk_len _ _ _ c.self.invariant k before chunk c.index.ensures found.chunk_in in
    let few = (good_chunk _ _ _ c.self.invariant k before c.index.ensures found.chunk_in).few in
    kept_raised _ _ _ c.self.invariant k chunk found.chunk_in c.insert.new.chunk _ (omega (arith, more, same))
    (omega (arith, others, few, c.if-len-eq-CHUNK_LEN.false, c.len.ensures, ap (λ v. vec_len v) c.deref-3.ensures, before.value.ok.0))
    (omega (arith, ap length c.self.view_is, c.self.invariant.few, c.if-len-eq-MAX_LEN.false, c.len-len.ensures))
    (with_items_is inside.ends c.raise.new.ends len ∙ raised)

pub returns-in_ok-insert-clause-ok : goal.returns-in_ok-insert-clause-ok
returns-in_ok-insert-clause-ok g c =
    let found = rw c.deref.ensures.value at c.find-chunk.ensures in
    let chunk = c.index_mut.result.now in
    let at = c.find-chunk.result.1 in
    let entry = c.args.entry in
    edited_by _ _ _ c.self.invariant _ chunk found.chunk_in _ _ (found.at_in chunk) found.same (λ xs i. insert xs i entry) (inserts _ entry) c.insert.new.chunk
    (c.in_ok-insert.ensures.ok ∙ ap (λ r. insert r.value.items at entry) c.index_mut.ensures.value)
    ∙ ap (λ l. insert l c.args.place entry) c.self.view_is

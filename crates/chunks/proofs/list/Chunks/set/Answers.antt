use Rattle.std.proofs.Common.{length, set, ap, ◌∙◌, arith}
use Rattle.std.proofs.lemmas.List.{length-set}
use Rattle.chunks.proofs.Exits.{on_err}
use Rattle.chunks.proofs.Replacing.{kept_set, edited_by, keeps, sets}
use Rattle.chunks.proofs.list.Chunks.set.Goals as goal

pub find-chunk-requires-clause-kept : goal.find-chunk-requires-clause-kept
find-chunk-requires-clause-kept g c = rw (c.deref.ensures.value, c.deref-2.ensures.value) c.self.invariant

pub find-chunk-requires-clause-within : goal.find-chunk-requires-clause-within
find-chunk-requires-clause-within g c = rw (c.deref.ensures.value, c.self.view_is) c.requires

pub index_mut-requires : goal.index_mut-requires
index_mut-requires g c =
    let found = rw c.deref.ensures.value at c.find-chunk.ensures in
    omega (arith, found.chunk_in, c.self.inside.chunks.ok.0)

pub set-requires : goal.set-requires
set-requires g c =
    let found = rw c.deref.ensures.value at c.find-chunk.ensures in
    let chunk = c.index_mut.result.now in
    omega (arith, found.at_in chunk, ap (λ r. length r.value.items) c.index_mut.ensures.value)

pub invariant_of-self : goal.invariant_of-self
invariant_of-self g c =
    let found = rw c.deref.ensures.value at c.find-chunk.ensures in
    kept_set _ _ _ c.self.invariant _ c.index_mut.result.now found.chunk_in c.set.new.chunk
    (ap length c.in_err-set.ensures.err ∙ ap (λ r. length r.value.items) c.index_mut.ensures.value)

pub returns-in_err-set-clause-err : goal.returns-in_err-set-clause-err
returns-in_err-set-clause-err g c =
    let found = rw c.deref.ensures.value at c.find-chunk.ensures in
    let chunk = c.index_mut.result.now in
    on_err c.from_residual.result
    (edited_by _ _ _ c.self.invariant _ chunk found.chunk_in _ _ (found.at_in chunk) found.same (λ xs i. xs) (keeps _) c.set.new.chunk
    (c.in_err-set.ensures.err ∙ ap (λ r. r.value.items) c.index_mut.ensures.value)
    ∙ c.self.view_is)

pub invariant_of-self-2 : goal.invariant_of-self-2
invariant_of-self-2 g c =
    let found = rw c.deref.ensures.value at c.find-chunk.ensures in
    let chunk = c.index_mut.result.now in
    kept_set _ _ _ c.self.invariant _ chunk found.chunk_in c.set.new.chunk
    (ap length c.in_ok-set.ensures.ok ∙ (length-set chunk.value.items c.find-chunk.result.1 c.args.entry ∙ ap (λ r. length r.value.items) c.index_mut.ensures.value))

pub returns-clause-ok : goal.returns-clause-ok
returns-clause-ok g c =
    let found = rw c.deref.ensures.value at c.find-chunk.ensures in
    let chunk = c.index_mut.result.now in
    let at = c.find-chunk.result.1 in
    let entry = c.args.entry in
    edited_by _ _ _ c.self.invariant _ chunk found.chunk_in _ _ (found.at_in chunk) found.same (λ xs i. set xs i entry) (sets _ entry) c.set.new.chunk
    (c.in_ok-set.ensures.ok ∙ ap (λ r. set r.value.items at entry) c.index_mut.ensures.value)
    ∙ ap (λ l. set l c.args.place entry) c.self.view_is

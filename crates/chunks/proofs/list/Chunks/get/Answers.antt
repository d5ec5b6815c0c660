use Rattle.std.proofs.Common.{length, slice_get, vec_len, sym, ap, ◌∙◌, arith}
use Rattle.std.proofs.lemmas.Option.{slice_get_past}
use Rattle.chunks.proofs.Places.{found_entry}
use Rattle.chunks.proofs.list.Chunks.get.Goals as goal

pub returns-then-place-len : goal.returns-then-place-len
returns-then-place-len g c = sym (slice_get_past c.args.self.now c.args.place (omega arith))

pub find-chunk-requires-clause-kept : goal.find-chunk-requires-clause-kept
find-chunk-requires-clause-kept g c = rw (c.deref.ensures.value, c.deref-2.ensures.value) c.self.invariant

pub find-chunk-requires-clause-within : goal.find-chunk-requires-clause-within
find-chunk-requires-clause-within g c = rw (c.deref.ensures.value, c.self.view_is) (omega arith)

pub index-entries-requires : goal.index-entries-requires
index-entries-requires g c =
    let found = rw c.deref.ensures.value at c.find-chunk.ensures in
    omega (arith, found.chunk_in, c.self.inside.chunks.ok.0)

pub index-requires : goal.index-requires
index-requires g c =
    let found = rw c.deref.ensures.value at c.find-chunk.ensures in
    let chunk = c.index-entries.result.now in
    omega (arith, found.at_in chunk, ap (λ r. length r.value.items) c.index-entries.ensures, ap (λ v. vec_len v) c.deref-3.ensures, chunk.value.ok.0)

pub returns : goal.returns
returns g c =
    let found = rw c.deref.ensures.value at c.find-chunk.ensures in
    found_entry _ _ _ c.self.invariant _ _ _ found c.index-entries.result.now c.index.result.now c.index-entries.ensures (rw c.deref-3.ensures at c.index.ensures)
    ∙ ap (λ l. slice_get l c.args.place) c.self.view_is

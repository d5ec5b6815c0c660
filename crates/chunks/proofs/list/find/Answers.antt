use Rattle.std.proofs.Common.{◌≡◌, ◌≤◌, length, vec_len, ap, arith}
use Rattle.chunks.proofs.Places.{as_many, chunk_there, end_low, is_found}
use Rattle.chunks.proofs.list.find.Goals as goal

pub bounds-chunks-chunk : goal.bounds-chunks-chunk
bounds-chunks-chunk g c =
    let found = c.chunk_at-chunk in
    let within : found.result ≤ length c.args.chunks.now = omega (arith, found.ensures.within, as_many _ _ _ c.requires.kept) in
    chunk_there _ _ _ c.requires.kept found.result c.args.place within found.ensures.before c.requires.within

pub bounds-ends-chunk : goal.bounds-ends-chunk
bounds-ends-chunk g c =
    let found = c.chunk_at-chunk in
    let within : found.result ≤ length c.args.chunks.now = omega (arith, found.ensures.within, as_many _ _ _ c.requires.kept) in
    omega (arith, as_many _ _ _ c.requires.kept, chunk_there _ _ _ c.requires.kept found.result c.args.place within found.ensures.before c.requires.within)

pub overflow_sub-at : goal.overflow_sub-at
overflow_sub-at g c =
    let found = c.chunk_at-chunk in
    let chunk = c.index-chunks-chunk.result in
    let len_is : c.len.result ≡ length chunk.value.items = omega (arith, c.len.ensures, ap (λ v. vec_len v) c.deref.ensures, chunk.value.ok.0) in
    end_low _ _ _ c.requires.kept found.result c.args.place c.len.result chunk c.index-chunks-chunk.is len_is found.ensures.within found.ensures.before
    found.ensures.here c.requires.within

pub returns : goal.returns
returns g c =
    let found = c.chunk_at-chunk in
    let chunk = c.index-chunks-chunk.result in
    let len_is : c.len.result ≡ length chunk.value.items = omega (arith, c.len.ensures, ap (λ v. vec_len v) c.deref.ensures, chunk.value.ok.0) in
    is_found _ _ _ c.requires.kept found.result c.args.place c.len.result chunk c.index-chunks-chunk.is len_is found.ensures.within found.ensures.before
    found.ensures.here c.requires.within

use Rattle.std.proofs.Common.{◌<◌, ◌≤◌, ◌≡◌, length, vec_len, ap, ◌∙◌, arith}
use Rattle.chunks.proofs.Places.{as_many, end_more, end_small, chunk_len}
use Rattle.chunks.proofs.Turning.{all_in, all_of, all_some, past_position, found_position}
use Rattle.chunks.proofs.list.Chunks.position.Goals as goal

pub chunk_position-chunk-requires-clause-some : goal.chunk_position-chunk-requires-clause-some
chunk_position-chunk-requires-clause-some g c = rw c.deref.ensures.value (all_some _ _ _ c.self.invariant)

pub chunk_position-chunk-requires-clause-each : goal.chunk_position-chunk-requires-clause-each
chunk_position-chunk-requires-clause-each g c =
    rw c.deref.ensures.value (all_in _ _ _ c.self.invariant (g.S.Test.can_test c.args.test.now) c.args.self.now c.self.view_is c.requires.each)

pub returns-then-chunk-len : goal.returns-then-chunk-len
returns-then-chunk-len g c =
    let inside = c.self.inside in
    let turn = rw c.deref.ensures.value at c.chunk_position-chunk.ensures.turn in
    let past : length inside.chunks.items ≤ c.chunk_position-chunk.result = omega (arith, c.if-chunk-len.true, c.len.ensures, inside.chunks.ok.0) in
    c.len-then-chunk-len.ensures
    ∙ past_position _ _ _ c.self.invariant (g.S.Test.passes c.args.test.now) c.chunk_position-chunk.result turn past c.args.self.now c.self.view_is
    c.requires.monotone

pub index-entries-requires : goal.index-entries-requires
index-entries-requires g c =
    omega (arith, c.chunk_position-chunk.ensures.within, ap length c.deref.ensures.value, c.if-chunk-len.false, c.len.ensures, c.self.inside.chunks.ok.0)

pub index-requires : goal.index-requires
index-requires g c =
    omega (arith, c.chunk_position-chunk.ensures.within, ap length c.deref.ensures.value, c.if-chunk-len.false, c.len.ensures, c.self.inside.chunks.ok.0, as_many _ _ _ c.self.invariant, c.self.inside.ends.ok.0)

pub overflow_sub-result : goal.overflow_sub-result
overflow_sub-result g c =
    let inside = c.self.inside in
    let k = c.chunk_position-chunk.result in
    let chunk = c.index-entries.result.now in
    let within : k < length inside.chunks.items =
    omega (arith, c.chunk_position-chunk.ensures.within, ap length c.deref.ensures.value, c.if-chunk-len.false, c.len.ensures, inside.chunks.ok.0) in
    let len_is : c.len-2.result ≡ length chunk.value.items = omega (arith, c.len-2.ensures, ap (λ v. vec_len v) c.deref-2.ensures, chunk.value.ok.0) in
    omega (arith, len_is, c.index.ensures, end_more _ _ _ c.self.invariant k c.index.result.now chunk within, chunk_len _ _ _ c.self.invariant k chunk chunk c.index-entries.ensures within)

pub position-requires : goal.position-requires
position-requires g c =
    let inside = c.self.inside in
    let k = c.chunk_position-chunk.result in
    let within : k < length inside.chunks.items =
    omega (arith, c.chunk_position-chunk.ensures.within, ap length c.deref.ensures.value, c.if-chunk-len.false, c.len.ensures, inside.chunks.ok.0) in
    rw (c.as_slice.ensures.value, c.deref-3.ensures)
    (all_of _ _ _ c.self.invariant (g.S.Test.can_test c.args.test.now) c.args.self.now c.self.view_is c.requires.each k c.index-entries.result.now c.index-entries.ensures within)

pub overflow_add-result : goal.overflow_add-result
overflow_add-result g c =
    let inside = c.self.inside in
    let k = c.chunk_position-chunk.result in
    let chunk = c.index-entries.result.now in
    let within : k < length inside.ends.items =
    omega (arith, c.chunk_position-chunk.ensures.within, ap length c.deref.ensures.value, c.if-chunk-len.false, c.len.ensures, inside.chunks.ok.0, as_many _ _ _ c.self.invariant) in
    let inner = rw (c.as_slice.ensures.value, c.deref-3.ensures) at c.position.ensures in
    let len_is : c.len-2.result ≡ length chunk.value.items = omega (arith, c.len-2.ensures, ap (λ v. vec_len v) c.deref-2.ensures, chunk.value.ok.0) in
    let few : c.index.result.now ≤ 4294967295 = omega (arith, c.index.ensures, end_small _ _ _ c.self.invariant k c.index.result.now within) in
    let low : c.position.result ≤ length chunk.value.items = inner.within in
    omega (arith, few, low, len_is, c.len-2.type_inv, chunk.value.ok.0)

pub returns : goal.returns
returns g c =
    let inside = c.self.inside in
    let k = c.chunk_position-chunk.result in
    let chunk = c.index-entries.result.now in
    let turn = rw c.deref.ensures.value at c.chunk_position-chunk.ensures.turn in
    let within : k < length inside.chunks.items =
    omega (arith, c.chunk_position-chunk.ensures.within, ap length c.deref.ensures.value, c.if-chunk-len.false, c.len.ensures, inside.chunks.ok.0) in
    let inner = rw (c.as_slice.ensures.value, c.deref-3.ensures) at c.position.ensures in
    let len_is : c.len-2.result ≡ length chunk.value.items = omega (arith, c.len-2.ensures, ap (λ v. vec_len v) c.deref-2.ensures, chunk.value.ok.0) in
    found_position _ _ _ c.self.invariant (g.S.Test.passes c.args.test.now) k turn c.position.result c.index.result.now c.len-2.result chunk c.index-entries.ensures within
    inner c.index.ensures len_is c.args.self.now c.self.view_is c.requires.monotone

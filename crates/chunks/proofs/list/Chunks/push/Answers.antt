use Rattle.std.proofs.Common.{◌≡◌, ◌<◌, ◌≤◌, ◌+◌, ◌-◌, [], ◌∷◌, ◌++◌, length, vec_len, ap, ◌∙◌, arith}
use Rattle.std.specs.List.{flat_map, insert}
use Rattle.std.proofs.lemmas.List.{with_items_is}
use Rattle.std.proofs.lemmas.List.Edits.{length-insert, insert_end}
use Rattle.chunks.proofs.Exits.{on_err}
use Rattle.chunks.proofs.Places.{as_many, end_small, chunk_len}
use Rattle.chunks.proofs.Replacing.{kept_set, kept_raised, kept_one, unchanged, last_pushed, pushed}
use Rattle.chunks.proofs.list.Chunks.push.Goals as goal

-- the last chunk has room

pub insert-requires-clause-within : goal.insert-requires-clause-within
insert-requires-clause-within g c =
    let inside = c.self.inside in
    let k = c.len-count.result - 1 in
    let before = c.index-then-len-lt-CHUNK_LEN.result.now in
    let chunk = c.index_mut.result.now in
    let there : k < length inside.chunks.items = omega (arith, c.if-count-gt0.true, c.len-count.ensures, inside.chunks.ok.0) in
    omega (
      arith,
      chunk_len _ _ _ c.self.invariant k before chunk c.index-then-len-lt-CHUNK_LEN.ensures there,
      ap (λ r. length r.value.items) c.index_mut.ensures.value,
      c.len-at.ensures,
      ap (λ v. vec_len v) c.deref-then-len-lt-CHUNK_LEN.ensures,
      before.value.ok.0,
    )

pub insert-requires-clause-room : goal.insert-requires-clause-room
insert-requires-clause-room g c =
    let inside = c.self.inside in
    let k = c.len-count.result - 1 in
    let before = c.index.result.now in
    let chunk = c.index_mut.result.now in
    let there : k < length inside.chunks.items = omega (arith, c.if-count-gt0.true, c.len-count.ensures, inside.chunks.ok.0) in
    omega (
      arith,
      chunk_len _ _ _ c.self.invariant k before chunk c.index.ensures there,
      ap (λ r. length r.value.items) c.index_mut.ensures.value,
      c.if-len-lt-CHUNK_LEN.true,
      c.len.ensures,
      ap (λ v. vec_len v) c.deref.ensures,
      before.value.ok.0,
    )

pub invariant_of-self : goal.invariant_of-self
invariant_of-self g c =
    let inside = c.self.inside in
    let k = c.len-count.result - 1 in
    let there : k < length inside.chunks.items = omega (arith, c.if-count-gt0.true, c.len-count.ensures, inside.chunks.ok.0) in
    kept_set _ _ _ c.self.invariant k c.index_mut.result.now there c.insert.new.chunk
    (ap length c.in_err-insert.ensures.err ∙ ap (λ r. length r.value.items) c.index_mut.ensures.value)

pub returns-in_err-insert-clause-err : goal.returns-in_err-insert-clause-err
returns-in_err-insert-clause-err g c =
    let inside = c.self.inside in
    let k = c.len-count.result - 1 in
    let there : k < length inside.chunks.items = omega (arith, c.if-count-gt0.true, c.len-count.ensures, inside.chunks.ok.0) in
    on_err c.from_residual.result
    (unchanged _ _ _ c.self.invariant k c.index_mut.result.now there c.insert.new.chunk
    (c.in_err-insert.ensures.err ∙ ap (λ r. r.value.items) c.index_mut.ensures.value)
    ∙ c.self.view_is)

pub raise-requires-clause-within : goal.raise-requires-clause-within
raise-requires-clause-within g c =
    let inside = c.self.inside in
    omega (arith, c.len-count.ensures, inside.chunks.ok.0, as_many _ _ _ c.self.invariant, ap length c.deref_mut.ensures.value)

pub raise-requires-clause-fits : goal.raise-requires-clause-fits
raise-requires-clause-fits g c = rw c.deref_mut.ensures.value (λ k d low. omega (arith, end_small _ _ _ c.self.invariant k d low))

pub invariant_of-self-then-len-lt-CHUNK_LEN : goal.invariant_of-self-then-len-lt-CHUNK_LEN
invariant_of-self-then-len-lt-CHUNK_LEN g c =
    let inside = c.self.inside in
    let k = c.len-count.result - 1 in
    let before = c.index.result.now in
    let counted = c.index-then-len-lt-CHUNK_LEN.result.now in
    let chunk = c.index_mut.result.now in
    let there : k < length inside.chunks.items = omega (arith, c.if-count-gt0.true, c.len-count.ensures, inside.chunks.ok.0) in
    let raised = rw c.deref_mut.ensures.value at c.raise.ensures in
    let len : length c.raise.new.ends ≡ inside.ends.len = omega (arith, c.raise.auto.ends, ap length c.deref_mut.ensures.value, inside.ends.ok.0) in
    let same = ap (λ r. length r.value.items) c.index_mut.ensures.value in
    let low : c.len-at.result ≤ length chunk.value.items =
    omega (
      arith,
      chunk_len _ _ _ c.self.invariant k counted chunk c.index-then-len-lt-CHUNK_LEN.ensures there,
      same,
      c.len-at.ensures,
      ap (λ v. vec_len v) c.deref-then-len-lt-CHUNK_LEN.ensures,
      counted.value.ok.0,
    ) in
    let more : length c.insert.new.chunk.value.items ≡ length chunk.value.items + 1 =
    ap length c.in_ok-insert.ensures.ok ∙ length-insert chunk.value.items c.len-at.result c.args.entry low in
    kept_raised _ _ _ c.self.invariant k chunk there c.insert.new.chunk _ (omega (arith, more, same))
    (omega (
      arith,
      chunk_len _ _ _ c.self.invariant k before chunk c.index.ensures there,
      c.if-len-lt-CHUNK_LEN.true,
      c.len.ensures,
      ap (λ v. vec_len v) c.deref.ensures,
      before.value.ok.0,
    ))
    (omega (arith, ap length c.self.view_is, c.self.invariant.few, c.if-len-eq-MAX_LEN.false, c.len-len.ensures))
    (with_items_is inside.ends c.raise.new.ends len ∙ raised)

pub returns-then-len-lt-CHUNK_LEN-clause-ok : goal.returns-then-len-lt-CHUNK_LEN-clause-ok
returns-then-len-lt-CHUNK_LEN-clause-ok g c =
    let inside = c.self.inside in
    let k = c.len-count.result - 1 in
    let counted = c.index-then-len-lt-CHUNK_LEN.result.now in
    let chunk = c.index_mut.result.now in
    let entry = c.args.entry in
    let there : k < length inside.chunks.items = omega (arith, c.if-count-gt0.true, c.len-count.ensures, inside.chunks.ok.0) in
    let last : k + 1 ≡ length inside.chunks.items = omega (arith, c.if-count-gt0.true, c.len-count.ensures, inside.chunks.ok.0) in
    let at_end : c.len-at.result ≡ length chunk.value.items =
    omega (
      arith,
      chunk_len _ _ _ c.self.invariant k counted chunk c.index-then-len-lt-CHUNK_LEN.ensures there,
      ap (λ r. length r.value.items) c.index_mut.ensures.value,
      c.len-at.ensures,
      ap (λ v. vec_len v) c.deref-then-len-lt-CHUNK_LEN.ensures,
      counted.value.ok.0,
    ) in
    last_pushed _ _ _ c.self.invariant k c.insert.new.chunk chunk entry last
    (c.in_ok-insert.ensures.ok ∙ (ap (λ n. insert chunk.value.items n entry) at_end
    ∙ (insert_end chunk.value.items entry ∙ ap (λ r. r.value.items ++ entry ∷ []) c.index_mut.ensures.value)))
    ∙ ap (λ l. l ++ entry ∷ []) c.self.view_is

-- one more chunk

pub invariant_of-self-in_err-reserve : goal.invariant_of-self-in_err-reserve
invariant_of-self-in_err-reserve g c = rw c.reserve.ensures.items c.self.invariant

pub returns-in_err-reserve-clause-err : goal.returns-in_err-reserve-clause-err
returns-in_err-reserve-clause-err g c = on_err c.from_residual-in_err-reserve.result c.self.view_is

pub invariant_of-self-in_err-push : goal.invariant_of-self-in_err-push
invariant_of-self-in_err-push g c = rw (c.in_err-push.ensures.items, c.reserve.ensures.items) c.self.invariant

pub returns-in_err-push-clause-err : goal.returns-in_err-push-clause-err
returns-in_err-push-clause-err g c =
    on_err c.from_residual-in_err-push.result (ap (λ l. flat_map (λ r. r.value.items) l) c.in_err-push.ensures.items ∙ c.self.view_is)

pub overflow_add-len : goal.overflow_add-len
overflow_add-len g c = omega (arith, c.len-len.ensures, ap length c.self.view_is, c.self.invariant.few)

pub unreachable-requires : goal.unreachable-requires
unreachable-requires g c = omega (arith, c.in-Err.ensures.full, c.in_ok-reserve.ensures.ok)

pub invariant_of-self-2 : goal.invariant_of-self-2
invariant_of-self-2 g c =
    let inside = c.self.inside in
    rw c.in_ok-push.ensures.items
    (kept_one _ inside.chunks.items inside.ends.items c.in_ok-made.made c.push-2.new.self.items c.self.invariant c.args.entry c.in_ok-made.ensures
    c.args.self.now c.self.view_is c.len-len.result c.len-len.ensures c.if-len-eq-MAX_LEN.false
    (c.in-Ok.ensures.items ∙ ap (λ l. l ++ (c.len-len.result + 1) ∷ []) c.reserve.ensures.items))

pub returns-clause-ok : goal.returns-clause-ok
returns-clause-ok g c =
    let inside = c.self.inside in
    let made = c.in_ok-made.made in
    ap (λ l. flat_map (λ r. r.value.items) l) c.in_ok-push.ensures.items
    ∙ (pushed _ inside.chunks.items made
    ∙ (ap (λ l. flat_map (λ r. r.value.items) inside.chunks.items ++ l) c.in_ok-made.ensures
    ∙ ap (λ l. l ++ c.args.entry ∷ []) c.self.view_is))

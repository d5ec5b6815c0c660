use Rattle.std.proofs.Common.{◌≡◌, ◌∙◌, ◌+◌, ◌∷◌, [], ℕ, List, ap, sym, arith, length, drop, get_or, drop_of_length-le}
use Rattle.std.proofs.lemmas.List.{drop_more}
use Rattle.disk.specs.declared.update.Update.{Update}
use Rattle.disk.specs.Moments.{applied, put}
use Rattle.journal.specs.Layout.{targets}
use Rattle.journal.specs.Transactions.{gathered}
use Rattle.journal.proofs.Lists.{applied_at, gathered_grows, no_update}
use Rattle.journal.proofs.list.merge_into.Goals as goal

pub put-requires-clause-room : goal.put-requires-clause-room
put-requires-clause-room c =
    let pending = c.loop-update.pending.items in
    let us = c.args.updates.now in
    let i = c.loop-update.update-index in
    let t = (get_or us i no_update).target in
    let rest : List Update = drop (i + 1) us in
    omega (
      arith,
      c.requires.room,
      c.loop-update.invariant.capacity,
      ap (λ (xs : List ℕ). length (gathered xs (targets us))) c.requires.sectors_are,
      ap (λ (xs : List ℕ). length xs) c.loop-update.invariant.sectors,
      ap (λ (vs : List Update). length (gathered (targets pending) (targets vs))) (drop_more us i no_update (omega arith)),
      gathered_grows (gathered (targets pending) (t ∷ [])) (targets rest),
      ap (λ (xs : List ℕ). length (gathered xs (t ∷ []))) c.loop-update.invariant.sectors_are,
    )

pub put-requires-clause-sectors_room : goal.put-requires-clause-sectors_room
put-requires-clause-sectors_room c =
    let pending = c.loop-update.pending.items in
    let us = c.args.updates.now in
    let i = c.loop-update.update-index in
    let t = (get_or us i no_update).target in
    let rest : List Update = drop (i + 1) us in
    omega (
      arith,
      c.requires.sectors_room,
      c.loop-update.invariant.named_capacity,
      ap (λ (xs : List ℕ). length (gathered xs (targets us))) c.requires.sectors_are,
      ap (λ (xs : List ℕ). length xs) c.loop-update.invariant.sectors,
      ap (λ (vs : List Update). length (gathered (targets pending) (targets vs))) (drop_more us i no_update (omega arith)),
      gathered_grows (gathered (targets pending) (t ∷ [])) (targets rest),
      ap (λ (xs : List ℕ). length (gathered xs (t ∷ []))) c.loop-update.invariant.sectors_are,
    )

pub loop-update-preserved : goal.loop-update-preserved
loop-update-preserved c =
    let pending = c.loop-update.pending.items in
    let us = c.args.updates.now in
    let i = c.loop-update.update-index in
    let u = get_or us i no_update in
    let rest : List Update = drop (i + 1) us in
    let next : drop i us ≡ u ∷ rest = drop_more us i no_update (omega arith) in
    record {
      rest = λ image n.
          applied_at rest (applied c.put.new.pending.items image) (put (applied pending image) u) n (c.put.ensures.applied image n)
          ∙ ap (λ (vs : List Update). applied vs (applied pending image) n) (sym next)
          ∙ c.loop-update.invariant.rest image n;
      sectors = ap (λ (xs : List ℕ). gathered xs (targets rest)) c.put.ensures.targets
          ∙ ap (λ (vs : List Update). gathered (targets pending) (targets vs)) (sym next)
          ∙ c.loop-update.invariant.sectors;
      sectors_are = c.put.ensures.sectors_are;
      capacity = c.put.ensures.capacity ∙ c.loop-update.invariant.capacity;
      named_capacity = c.put.ensures.named_capacity ∙ c.loop-update.invariant.named_capacity;
    }

pub returns-clause-applied : goal.returns-clause-applied
returns-clause-applied c = λ image n.
    ap (λ (vs : List Update). applied vs (applied c.loop-update.pending.items image) n)
    (sym (drop_of_length-le c.args.updates.now (omega arith)))
    ∙ c.loop-update.invariant.rest image n

pub returns-clause-targets : goal.returns-clause-targets
returns-clause-targets c =
    ap (λ (vs : List Update). gathered (targets c.loop-update.pending.items) (targets vs))
    (sym (drop_of_length-le c.args.updates.now (omega arith)))
    ∙ c.loop-update.invariant.sectors

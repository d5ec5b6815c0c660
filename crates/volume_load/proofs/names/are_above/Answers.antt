use Rattle.std.proofs.Common.{◌<◌, ℕ, zero, suc, List, [], ◌∷◌, length, map, get_or, ap, arith}
use Rattle.std.proofs.lemmas.Bool.{false≢true}
use Rattle.std.specs.List.{AllByRecursion}
use Rattle.directory.specs.declared.entry.Entry.{Entry}
use Rattle.directory.specs.Records.{Record, record_of}
use Rattle.volume_load.proofs.names.are_above.Goals as goal

stamp_above : (entries : List Entry) (i : ℕ) (d : Entry) → i < length entries → AllByRecursion (λ (entry : Record). 0 < entry.0) (map record_of entries) → 0 < (get_or entries i d).stamp
stamp_above [] i d h all = absurd (omega arith)
stamp_above (entry ∷ entries) zero d h all = all.0
stamp_above (entry ∷ entries) (suc i) d h all = stamp_above entries i d (omega arith) all.1

pub returns-then-entry-eq0 : goal.returns-then-entry-eq0
returns-then-entry-eq0 c = (
  λ is. absurd (false≢true is),
  λ all. absurd (
      let some = stamp_above c.args.entries.now c.loop-entry.entry-index c.entry-item.result c.loop-entry-test.true all in
      let same = ap (λ (entry : Entry). entry.stamp) c.entry-item.is in
      omega (arith, c.if-entry-eq0.true)),
)

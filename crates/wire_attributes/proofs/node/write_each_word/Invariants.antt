use Rattle.std.proofs.Common.{Ok, take}
use Rattle.std.specs.Int.{w32}
use Rattle.std.specs.List.{flat_map}
use Rattle.xdr.specs.Grammar.{number}
use Rattle.xdr.specs.Clauses.{Wrote}
use Rattle.wire_attributes.proofs.node.write_each_word.Given as goal

abbrev pub invariant-loop-word : goal.invariant-loop-word
invariant-loop-word l = Wrote l.fn.w l.w (Ok tt) (flat_map (λ n. number w32 n) (take l.word-index l.words))

use Rattle.std.proofs.Common.{Ok, take}
use Rattle.std.specs.List.{flat_map}
use Rattle.std.specs.Int.{w32}
use Rattle.xdr.specs.Grammar.{number}
use Rattle.xdr.specs.Clauses.{Wrote}
use Rattle.client.proofs.call.write_numbers.Given as goal

abbrev pub invariant-loop-number : goal.invariant-loop-number
invariant-loop-number l = Wrote l.fn.w l.w (Ok tt) (flat_map (λ n. number w32 n) (take l.number-index l.numbers))

-- How long a result of EXCHANGE_ID is.
use Rattle.std.proofs.Common.{ℕ, ◌+◌, ◌≤◌, length, arith}
use Rattle.std.proofs.lemmas.List.{length-append}
use Rattle.xdr.proofs.Sizes.{counted_length}
use Rattle.xdr.proofs.Numbers.{length-number_32, length-number_64}
use Rattle.model.specs.Operations.Answer.{ExchangeIdAnswer}
use Rattle.model.specs.Wire.WireAnswers.{exchange_id_answer}

pub identity_short : (answer : ExchangeIdAnswer) → length answer.major_id ≤ 1024 → length answer.scope ≤ 1024 → length (exchange_id_answer.encoding answer) ≤ 2088
identity_short answer major scope = simp (length-append, length-number_32, length-number_64, counted_length) (omega (arith, major, scope))

-- The result of a COMPOUND is exact, and it encodes what the server makes.
use Rattle.std.proofs.Common.{◌≡◌, ℕ, List, [], ◌∷◌, ◌++◌, refl, sym, ap, ◌∙◌, arith, length-append}
use Rattle.std.specs.Prelude.{flat_map}
use Rattle.std.specs.Int.{w32}
use Rattle.std.proofs.lemmas.List.{append-nil}
use Rattle.std.proofs.lemmas.List.Concat.{flat_map-append, flat_map-cons}
use Rattle.xdr.specs.Grammar.{number}
use Rattle.xdr.specs.Forms.{counted, elements}
use Rattle.xdr.specs.Laws.{Exact, OneEncoding}
use Rattle.xdr.proofs.Numbers.{int_exact}
use Rattle.xdr.proofs.Sequences.{then_exact, one_encoding}
use Rattle.xdr.proofs.Opaques.{opaque_exact}
use Rattle.xdr.proofs.Arrays.{array_exact}
use Rattle.model_tree.specs.declared.status.Status.{Status}
use Rattle.model.specs.Operations.Answer.{Outcome}
use Rattle.model.specs.Wire.Rpc.{compound_text}
use Rattle.model.specs.Wire.Results.{compound_result, AreResults, EncodesResults}
use Rattle.model_tree.specs.Refusals.Status.{code_of}
use Rattle.model.specs.Wire.WireAnswers.{outcome}
use Rattle.model.specs.Server.World.{InProgress, outcome_text, result_of, with_result}
use Rattle.model.proofs.Wire.ExactAnswers.{outcome_exact}

pub result_exact : Exact compound_result
result_exact = then_exact int_exact (then_exact (opaque_exact 255 (omega arith)) (array_exact _ outcome (omega arith) outcome_exact))

pub one_result : OneEncoding compound_result
one_result = one_encoding compound_result result_exact

pub one_more : (request : InProgress) (results : List Outcome) (next : Outcome) → AreResults request results
    → AreResults (with_result request next) (results ++ next ∷ [])
one_more request results next are = record {
  answered = omega (arith, are.answered, length-append results (next ∷ []));
  encoded = ap (λ (r : List ℕ). r ++ outcome_text next) are.encoded
      ∙ sym (flat_map-append outcome_text results (next ∷ []) ∙ ap (λ (r : List ℕ). flat_map outcome_text results ++ r)
      (flat_map-cons outcome_text next [] ∙ append-nil (outcome_text next)));
}

ended : (request : InProgress) (results : List Outcome) (last : Status) → AreResults request results
    → result_of request last ≡ compound_result.encoding (code_of last, (request.tag, results))
unfolding compound_text elements outcome_text
ended request results last are =
    ap (λ (r : List ℕ). number w32 (code_of last) ++ (counted request.tag ++ (number w32 request.answered ++ r))) are.encoded
    ∙ ap (λ (n : ℕ). number w32 (code_of last) ++ (counted request.tag ++ (number w32 n ++ flat_map outcome.encoding results))) are.answered

pub encodes_results : EncodesResults
encodes_results = record {
  begins = λ world xid cred compound. record { answered = refl; encoded = refl };
  goes_on = one_more;
  ends = ended;
}

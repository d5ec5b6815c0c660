-- Results that are read are exactly their encodings; a number that no operation has begins none.
use Rattle.std.proofs.Common.{◌≡◌, ◌≢◌, ℕ, List, Result, Err, refl, sym}
use Rattle.std.proofs.lemmas.Bool.{ne_eqb}
use Rattle.xdr.specs.declared.refusal.Refusal.{Refusal}
use Rattle.xdr.specs.declared.refusal.Refusal.TheVariants.{Value}
use Rattle.xdr.specs.Laws.{IsBytes}
use Rattle.xdr.specs.Clauses.{ReadsBy, Accepts}
use Rattle.xdr.proofs.Accepting.{accepts}
use Rattle.model.specs.Wire.WireAnswers.{outcome}
use Rattle.wire.specs.declared.argument.Operation.{Operation}
use Rattle.wire.specs.declared.argument.Operation.TheVariants as operation
use Rattle.wire.specs.declared.outcome.Outcome.{Outcome}
use Rattle.wire.specs.Numbers.{number_of}
use Rattle.wire.specs.OutcomeView.{outcome_view}
use Rattle.model.proofs.Wire.ExactAnswers.{outcome_exact}
use Rattle.wire_client.specs.Reading.{answers_at}

pub outcome_accepted : (old new : List ℕ) (result : Result Outcome Refusal) → IsBytes old → ReadsBy outcome_view outcome.read old new result → Accepts outcome_view outcome old new result
outcome_accepted old new result bytes reads = accepts outcome_view outcome outcome_exact old new result bytes reads

pub no_answer : (n : ℕ) (bytes : List ℕ) → ((o : Operation) → number_of o ≢ n) → answers_at n bytes ≡ Err Value
unfolding answers_at
no_answer n bytes other =
    let differs : (k : ℕ) → k ≢ n → n ≢ k = λ k h e. h (sym e) in
    rw (ne_eqb n 3 (differs 3 (other operation.Access)), ne_eqb n 4 (differs 4 (other operation.Close)), ne_eqb n 5 (differs 5 (other operation.Commit)), ne_eqb n 6 (differs 6 (other operation.Create)), ne_eqb n 9 (differs 9 (other operation.GetAttr)), ne_eqb n 10 (differs 10 (other operation.GetFh)), ne_eqb n 15 (differs 15 (other operation.Lookup)), ne_eqb n 16 (differs 16 (other operation.LookupParent)), ne_eqb n 18 (differs 18 (other operation.Open)), ne_eqb n 22 (differs 22 (other operation.PutFh)), ne_eqb n 24 (differs 24 (other operation.PutRootFh)), ne_eqb n 25 (differs 25 (other operation.Read)), ne_eqb n 26 (differs 26 (other operation.ReadDir)), ne_eqb n 28 (differs 28 (other operation.Remove)), ne_eqb n 29 (differs 29 (other operation.Rename)), ne_eqb n 31 (differs 31 (other operation.RestoreFh)), ne_eqb n 32 (differs 32 (other operation.SaveFh)), ne_eqb n 34 (differs 34 (other operation.SetAttr)), ne_eqb n 38 (differs 38 (other operation.Write)), ne_eqb n 42 (differs 42 (other operation.ExchangeId)), ne_eqb n 43 (differs 43 (other operation.CreateSession)), ne_eqb n 44 (differs 44 (other operation.DestroySession)), ne_eqb n 53 (differs 53 (other operation.Sequence)), ne_eqb n 57 (differs 57 (other operation.DestroyClientId)), ne_eqb n 58 (differs 58 (other operation.ReclaimComplete))) refl

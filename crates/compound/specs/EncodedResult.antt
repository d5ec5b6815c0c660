-- A result on its way into the reply.
use Rattle.std.specs.Prelude.{◌≡◌, ◌+◌, Bool, true, List, ℕ, ◌++◌, Some, ⊤}
use Rattle.model.specs.Operations.Answer as model
use Rattle.model.specs.Server.Runs.{is_done}
use Rattle.model.specs.Wire.WireAnswers as answers
use Rattle.model.specs.Server.World.{InProgress, outcome_text, status_of}
use Rattle.model_tree.specs.declared.status.Status.{Status}
use Rattle.model_tree.specs.declared.status.Status.TheVariants as status
use Rattle.wire.specs.Numbers.{number_of}
use Rattle.wire.specs.OutcomeView.{outcome_view}
use Rattle.compound.specs.Operates.{IsEncoded, EncodesAnswer, HasRoomFor, encoded_text}
use Rattle.compound.specs.declared.encoded_result.EncodedResult.{EncodedResult}
use Rattle.compound.specs.declared.encoded_result.EncodedResult.TheVariants as encoded

-- the encoded part of it
abbrev pub text_of_result : EncodedResult → List ℕ
text_of_result (encoded.Whole outcome) = outcome_text (outcome_view outcome.now)
text_of_result (encoded.Values operation values) = encoded_text (number_of operation) values.now

abbrev pub status_of_result : EncodedResult → Status
status_of_result (encoded.Whole outcome) = status_of (outcome_view outcome.now)
status_of_result (encoded.Values operation values) = status.Ok

abbrev pub is_ok : EncodedResult → Bool
is_ok (encoded.Whole outcome) = is_done (outcome_view outcome.now)
is_ok (encoded.Values operation values) = true

-- it is this result of the definition
abbrev pub Tells : EncodedResult → model.Outcome → Type 0
Tells (encoded.Whole outcome) result = result ≡ outcome_view outcome.now
Tells (encoded.Values operation values) result =
    (answer : model.Answer) × (result ≡ model.Done answer)
    × EncodesAnswer (number_of operation) values.now answer

-- it has an encoding
abbrev pub CanBeEncoded : EncodedResult → Type 0
CanBeEncoded (encoded.Whole outcome) = answers.outcome.Fits (outcome_view outcome.now)
CanBeEncoded (encoded.Values operation values) = ⊤

-- the reply has room for it
abbrev pub CanBeAdded : InProgress → EncodedResult → Type 0
CanBeAdded request (encoded.Whole outcome) = IsEncoded request (outcome_view outcome.now)
CanBeAdded request (encoded.Values operation values) =
    HasRoomFor request (encoded_text (number_of operation) values.now)

-- the request after it
abbrev pub with_encoded : InProgress → EncodedResult → InProgress
with_encoded request result =
    record request {
      answered = request.answered + 1;
      results = request.results ++ text_of_result result;
    }

-- if it is the last one
abbrev pub with_last : InProgress → EncodedResult → InProgress
with_last request result =
    record (with_encoded request result) { ended = Some (status_of_result result) }

-- What a result leaves, whole or encoded.
use Rattle.std.proofs.Common.{◌≡◌, ℕ, ◌+◌, ◌≤◌, Bool, true, false, not, ◌&&◌, if◌then◌else◌, List, [], ◌++◌, length, Option, Some, refl, sym, ap, ap₂, subst, ◌∙◌, arith, length-append, nat_le, leb-true}
use Rattle.std.specs.Global.{Vec}
use Rattle.std.specs.Int.{w32}
use Rattle.xdr.specs.Forms.{counted}
use Rattle.xdr.specs.Grammar.{number}
use Rattle.xdr.proofs.Numbers.{length-number_32}
use Rattle.wire.specs.Numbers.{number_of}
use Rattle.model.specs.Operations.Answer.{Answer, Outcome, Done, Refused}
use Rattle.model.specs.Wire.Record.{framed}
use Rattle.model.specs.Wire.Rpc.{Success, reply_text}
use Rattle.model.specs.Server.Runs.{is_done}
use Rattle.model.specs.Sessions.Session.{Table}
use Rattle.model.specs.Wire.WireAnswers as answers
use Rattle.model.specs.Server.World.{World, InProgress, Entry, Turned, Busy, Replied, behind, closes, ends, goes_on, is_to_hold, is_last, kept_by, outcome_text, reply_with, result_of, status_of, with_connection, with_result, with_table}
use Rattle.model_tree.specs.declared.status.Status.{Status}
use Rattle.model_tree.specs.declared.status.Status.TheVariants as status
use Rattle.wire.specs.OutcomeView.{outcome_view}
use Rattle.compound.specs.Operates.{HasRoom, HasRoomFor, EncodesAnswer, encoded_text}
use Rattle.compound.specs.EncodedResult.{CanBeAdded, Tells, is_ok, status_of_result, text_of_result, with_last, with_encoded}
use Rattle.compound.specs.Turns.{ResultLeaves}
use Rattle.compound.specs.Views.{Asked, resumed}
use Rattle.compound.specs.declared.progress.Progress.{Progress}
use Rattle.compound.specs.declared.step.Stepped.TheVariants as stepped
use Rattle.compound.specs.declared.encoded_result.EncodedResult.{EncodedResult}
use Rattle.compound.specs.declared.encoded_result.EncodedResult.TheVariants as encoded
use Rattle.compound.proofs.Replies.{room_length, encoded_short, tag_brief}
use Rattle.compound.proofs.Resuming.{more_follow}

-- its encoding is that of the definition

done_text : (answer : Answer) → encoded_text (answers.encoded_answer answer).number (answers.encoded_answer answer).text ≡ outcome_text (Done answer)
unfolding outcome_text
done_text answer = refl

encoded_is : (operation : ℕ) (values : List ℕ) (answer : Answer) → EncodesAnswer operation values answer → encoded_text operation values ≡ outcome_text (Done answer)
encoded_is operation values answer is = ap₂ encoded_text (sym is.number_is) (sym is.values_are) ∙ done_text answer

encoded_length : (operation : ℕ) (values : List ℕ) → length (encoded_text operation values) ≡ 8 + length values
encoded_length operation values = omega (
  arith,
  length-append (number w32 operation) (number w32 0 ++ values),
  length-append (number w32 0) values,
  length-number_32 operation,
  length-number_32 0,
)

-- how much room it needs
room_encoded : (request : InProgress) (operation : ℕ) (values : List ℕ) (answer : Answer) → EncodesAnswer operation values answer
    → length (reply_with request (Done answer)) ≡ 32 + length (counted request.tag) + length request.results + (8 + length values)
room_encoded request operation values answer is =
    omega (arith, room_length request (Done answer), ap length (encoded_is operation values answer is), encoded_length operation values)

pub room_for_encoded : (request : InProgress) (operation : ℕ) (values : List ℕ) (answer : Answer) (size : ℕ) (room : Bool) → EncodesAnswer operation values answer
    → size ≡ length values → room ≡ nat_le (32 + length (counted request.tag) + length request.results + (8 + size)) 16368
    → room ≡ nat_le (length (reply_with request (Done answer))) 16368
room_for_encoded request operation values answer size room is same has =
    has ∙ (ap (λ (n : ℕ). nat_le (32 + length (counted request.tag) + length request.results + (8 + n)) 16368) same
    ∙ ap (λ (n : ℕ). nat_le n 16368) (sym (room_encoded request operation values answer is)))

pub has_room_for : (request : InProgress) (operation : ℕ) (values : List ℕ) (size : ℕ) → size ≡ length values
    → nat_le (32 + length (counted request.tag) + length request.results + (8 + size)) 16368 ≡ true
    → HasRoomFor request (encoded_text operation values)
has_room_for request operation values size same has =
    omega (arith, same, encoded_length operation values, leb-true (32 + length (counted request.tag) + length request.results + (8 + size)) 16368 has)

-- the first result has room, if its values are few
pub first_has_room : (request : InProgress) (operation : ℕ) (values : List ℕ) → length request.tag ≤ 255 → request.results ≡ [] → length values ≤ 4096
    → HasRoomFor request (encoded_text operation values)
first_has_room request operation values short none few =
    omega (arith, tag_brief request.tag short, ap length none, encoded_length operation values)

pub first_encoded_room : (request : InProgress) (operation : ℕ) (values : List ℕ) (answer : Answer) → EncodesAnswer operation values answer → length request.tag ≤ 255 → request.results ≡ []
    → length values ≤ 4096 → length (reply_with request (Done answer)) ≤ 16368
first_encoded_room request operation values answer encodes short none few =
    omega (arith, room_encoded request operation values answer encodes, tag_brief request.tag short, ap length none)

pub text_is : (result : EncodedResult) (outcome : Outcome) → Tells result outcome → text_of_result result ≡ outcome_text outcome
text_is (encoded.Whole whole) outcome is = ap outcome_text (sym is)
text_is (encoded.Values operation values) outcome is = encoded_is (number_of operation) values.now is.0 is.2 ∙ ap outcome_text (sym is.1)

pub status_is : (result : EncodedResult) (outcome : Outcome) → Tells result outcome → status_of_result result ≡ status_of outcome
status_is (encoded.Whole whole) outcome is = ap status_of (sym is)
status_is (encoded.Values operation values) outcome is = ap status_of (sym is.1)

pub ok_is : (result : EncodedResult) (outcome : Outcome) → Tells result outcome → is_ok result ≡ is_done outcome
ok_is (encoded.Whole whole) outcome is = ap is_done (sym is)
ok_is (encoded.Values operation values) outcome is = ap is_done (sym is.1)

pub request_is : (request : InProgress) (result : EncodedResult) (outcome : Outcome) → Tells result outcome → with_encoded request result ≡ with_result request outcome
request_is request result outcome is =
    ap (λ (text : List ℕ). record request { answered = request.answered + 1; results = request.results ++ text }) (text_is result outcome is)

pub last_is : (request : InProgress) (result : EncodedResult) (outcome : Outcome)
    → Tells result outcome
    → with_last request result ≡ record (with_result request outcome) { ended = Some (status_of outcome) }
last_is request result outcome is =
    ap₂ (λ (r : InProgress) (status : Status). let after : InProgress = record r { ended = Some status } in after) (request_is request result outcome is) (status_is result outcome is)

-- How long the reply is

pub told_short : (request : InProgress) (result : EncodedResult) → CanBeAdded request result
    → 32 + length (counted request.tag) + length request.results ≤ 16368
    → 32 + length (counted request.tag) + length request.results + length (text_of_result result) ≤ 16380
told_short request (encoded.Whole outcome) can brief = encoded_short request (outcome_view outcome.now) can brief
told_short request (encoded.Values operation values) can brief = omega (arith, can)

pub ok_room : (request : InProgress) (result : EncodedResult) → CanBeAdded request result → is_ok result ≡ true
    → 32 + length (counted request.tag) + length request.results + length (text_of_result result) ≤ 16368
ok_room request (encoded.Whole outcome) can ok = by_outcome (outcome_view outcome.now) refl
  where
    by_outcome : (of : Outcome) → outcome_view outcome.now ≡ of → 32 + length (counted request.tag) + length request.results + length (outcome_text (outcome_view outcome.now)) ≤ 16368
    by_outcome (Done answer) is = omega (arith, room_length request (outcome_view outcome.now), room)
      where
        room : length (reply_with request (outcome_view outcome.now)) ≤ 16368
        room = subst (λ (o : Outcome). length (reply_with request o) ≤ 16368) (sym is) (subst (HasRoom request) is can.room)
    by_outcome (Refused n reason) is = let never : ⊥ = cc in absurd never
ok_room request (encoded.Values operation values) can ok = can

-- After an OK result that is not the last one the COMPOUND goes on

goes_on_by : (table : Table) (asked : Asked) (request : InProgress) (outcome : Outcome) (progress : Progress) → is_done outcome ≡ true → is_last request ≡ false
    → resumed asked progress ≡ with_result request outcome → ResultLeaves table table asked request outcome (stepped.Ran progress)
goes_on_by table asked request (Done answer) progress done more pushed = more_follow table asked request answer progress more pushed
goes_on_by table asked request (Refused n reason) progress done more pushed = let never : ⊥ = cc in absurd never

pub goes_on_told : (table : Table) (asked : Asked) (request : InProgress) (result : EncodedResult) (outcome : Outcome) (progress : Progress) → is_ok result ≡ true → is_last request ≡ false
    → resumed asked progress ≡ with_encoded request result → Tells result outcome → ResultLeaves table table asked request outcome (stepped.Ran progress)
goes_on_told table asked request result outcome progress ok more pushed is =
    goes_on_by table asked request outcome progress (sym (ok_is result outcome is) ∙ ok) more (pushed ∙ request_is request result outcome is)

-- The last one

closes_holding : (world : World) (number : ℕ) (request : InProgress) (last : Status) (executed : Option Entry) → is_to_hold request world.table ≡ true
    → closes world number request last executed ≡ goes_on world number (record request { ended = Some last }) executed
closes_holding world number request last executed holds =
    ap (λ (b : Bool). if b then goes_on world number (record request { ended = Some last }) executed else ends world number request last false executed) holds

closes_unseated : (world : World) (number : ℕ) (request : InProgress) (last : Status) (executed : Option Entry) → is_to_hold request world.table ≡ false
    → closes world number request last executed ≡ ends world number request last false executed
closes_unseated world number request last executed none =
    ap (λ (b : Bool). if b then goes_on world number (record request { ended = Some last }) executed else ends world number request last false executed) none

behind_last : (world : World) (number : ℕ) (request : InProgress) (outcome : Outcome) (executed : Option Entry) → (is_done outcome && not (is_last request)) ≡ false
    → behind world number request outcome executed ≡ closes world number (with_result request outcome) (status_of outcome) executed
behind_last world number request (Refused n reason) executed last = refl
behind_last world number request (Done answer) executed last =
    ap (λ (b : Bool). if b then closes world number (with_result request (Done answer)) status.Ok executed else goes_on world number (with_result request (Done answer)) executed)
    (is_end (is_last request) last)
  where
    is_end : (last : Bool) → (true && not last) ≡ false → last ≡ true
    is_end true is = refl
    is_end false is = absurd cc

-- a seat is to hold the reply
pub holds_told : (table : Table) (asked : Asked) (request : InProgress) (result : EncodedResult) (outcome : Outcome) (progress : Progress) → (is_ok result && not (is_last request)) ≡ false
    → is_to_hold request table ≡ true → resumed asked progress ≡ with_last request result → Tells result outcome
    → ResultLeaves table table asked request outcome (stepped.Ran progress)
holds_told table asked request result outcome progress last holds pushed is = λ world number executed here.
    let ended = behind_last world number request outcome executed (ap (λ (b : Bool). b && not (is_last request)) (sym (ok_is result outcome is)) ∙ last) in
    let held = closes_holding world number (with_result request outcome) (status_of outcome) executed (ap (is_to_hold request) here ∙ holds) in
    let turn = ended ∙ held in (
      ap (λ (t : Turned). t.turn) turn,
      ap (λ (t : Turned). t.world) turn
          ∙ ap₂ (λ (t : Table) (r : InProgress). with_connection (with_table world t) number (Busy r)) here (sym (pushed ∙ last_is request result outcome is)),
    )

-- or the reply is there
pub ends_told : (old new : Table) (asked : Asked) (request : InProgress) (result : EncodedResult) (outcome : Outcome) (reply : Vec ℕ) → (is_ok result && not (is_last request)) ≡ false
    → is_to_hold request old ≡ false
    → reply.items ≡ framed (reply_text request.xid (Success (result_of (with_last request result) (status_of_result result))))
    → new ≡ kept_by request.slot false (result_of (with_last request result) (status_of_result result)) old → Tells result outcome
    → ResultLeaves old new asked request outcome (stepped.Answered reply)
ends_told old new asked request result outcome reply last none reply_is kept is = λ world number executed here.
    let ended = behind_last world number request outcome executed (ap (λ (b : Bool). b && not (is_last request)) (sym (ok_is result outcome is)) ∙ last) in
    let made = closes_unseated world number (with_result request outcome) (status_of outcome) executed (ap (is_to_hold request) here ∙ none) in
    let text : result_of (with_last request result) (status_of_result result) ≡ result_of (with_result request outcome) (status_of outcome) =
    ap₂ result_of (last_is request result outcome is) (status_is result outcome is) in
    let turn = ended ∙ made in (
      ap (λ (t : Turned). t.turn) turn,
      ap (λ (t : Turned). t.world) turn
          ∙ ap₂ (λ (t : Table) (bytes : List ℕ). with_connection (with_table world t) number (Replied bytes))
          (sym (kept ∙ ap₂ (λ (bytes : List ℕ) (t : Table). kept_by request.slot false bytes t) text (sym here)))
          (sym (reply_is ∙ ap (λ (bytes : List ℕ). framed (reply_text request.xid (Success bytes))) text)),
    )

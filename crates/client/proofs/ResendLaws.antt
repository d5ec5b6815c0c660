-- What happens to a record that is sent again.
use Rattle.std.proofs.Common.{◌≡◌, ◌==◌, ◌&&◌, not, ℕ, suc, Bool, true, cond, List, [], ◌∷◌, ◌++◌, length, Option, None, Some, Result, Ok, refl, sym, ap, ap₂, ◌∙◌, subst, append_assoc, ne_eqb, arith}
use Rattle.std.proofs.lemmas.Bool.{eq-eqb}
use Rattle.std.specs.Int.{w32}
use Rattle.xdr.specs.declared.refusal.Refusal.{Refusal}
use Rattle.xdr.specs.Grammar.{number, number_at}
use Rattle.xdr.proofs.Numbers.{int_again}
use Rattle.model_tree.specs.Seats.Seats.{Seat, held_in, seat_of}
use Rattle.model_tree.specs.Trees.Keyed.{at}
use Rattle.model_tree.specs.declared.acl.Cred.{Cred}
use Rattle.model_tree.specs.declared.status.Status.TheVariants as status
use Rattle.model.specs.Operations.Operation.{Argument, SequenceArguments}
use Rattle.model.specs.Server.RuledOut.{request_at}
use Rattle.model.specs.Server.World.{World, InProgress, Reads, Refuses, HasRun, Replays, Turned, Waiting, in_room, run, begun, one, operates, has_run, in_progress, next_operation, by_number, by_arguments, first_or, first_tests, with_connection}
use Rattle.model.specs.Sessions.Session as sessions
use Rattle.model.specs.Sessions.Session.{Begun, Session, begin, begin_by, begin_dead, begin_held, is_session}
use Rattle.model.specs.Wire.Record.{framed}
use Rattle.model.specs.Server.Served.{looks_no_further}
use Rattle.model.specs.Wire.Rpc.{Success, reply_text, is_empty}
use Rattle.model.specs.Wire.WireArguments.{argument, encoded_argument, arguments_at}
use Rattle.wire.proofs.ExactArguments.{argument_again}
use Rattle.client.specs.Joined.{compound_sent}
use Rattle.client.specs.Requests.{operations_text}
use Rattle.client.specs.Resends.{IsReplayed, EveryResendIsReplayed, EveryHeldIsFound, EveryOutcomeIsToldAgain}
use Rattle.client.proofs.JoinedLaws.{text, waits, after_is}
use Rattle.client.proofs.Operates.{one_operates}
use Rattle.client.proofs.WholeLaws.{every_exchange}

-- SEQUENCE is read

module _ (world : World) (xid : ℕ) (cred : Cred) (tag : List ℕ) (sequence : SequenceArguments) where
  abbrev asked : Argument
  asked = Argument.Sequence sequence

  abbrev begins : List Argument → InProgress
  begins others = in_progress world xid cred (compound_sent tag (asked ∷ others))

  read_first : (others : List Argument) → by_arguments (begins others) 53 (Ok (asked, operations_text others)) ≡ Reads asked (operations_text others)
  unfolding operations_text
  read_first [] = refl
  read_first (other ∷ others) =
      ap (λ (last : Bool). cond (last && (not (looks_no_further asked) && not (is_empty (operations_text (other ∷ others))))) (Refuses 53 status.BadXdr)
      (Reads asked (operations_text (other ∷ others)))) (ne_eqb 1 (suc (suc (length others))) (λ same. absurd (omega (arith, same))))

  reads_sequence : (others : List Argument) → argument.Fits asked → next_operation (begins others) ≡ Reads asked (operations_text others)
  unfolding next_operation arguments_at operations_text
  reads_sequence others fits =
      let encoded : List ℕ = (encoded_argument asked).text in
      let rest : List ℕ = operations_text others in
      let at_prefix : number_at w32 (begins others).rest ≡ Ok (53, encoded ++ rest) =
      ap (number_at w32) (append_assoc (number w32 53) encoded rest) ∙ int_again 53 (encoded ++ rest) fits.0 in
      let whole : arguments_at 53 (encoded ++ rest) ≡ Ok (asked, rest) = argument_again asked rest fits.0 fits.1 in
      ap (by_number (begins others)) at_prefix
      ∙ (ap (λ (r : Result (Argument × List ℕ) Refusal). first_or (first_tests (suc (length others)) 53) (by_arguments (begins others) 53 r)) whole
      ∙ read_first others)

-- and its turn sends the result again

replays : (world : World) (number now : ℕ) (request : InProgress) (sequence : SequenceArguments) (rest result : List ℕ)
    → request_at world (at number world.connections) ≡ Some request → next_operation request ≡ Reads (Argument.Sequence sequence) rest
    → begin request.context.cred.uid request.count sequence world.table ≡ sessions.Replays result
    → IsReplayed request.xid world number result (one world number now)
unfolding run
replays world number now request sequence rest result asks reads found =
    subst (λ (turned : Turned). IsReplayed request.xid world number result turned)
    (sym (one_operates world number now request asks ∙ (ap (operates world number now request) reads ∙ ap by_run ran)))
    (record { runs_nothing = refl; replies = refl })
  where
    by_run : HasRun → Turned
    by_run result = has_run world number (record request { rest = rest }) (Argument.Sequence sequence) (in_room world (record request { rest = rest }) 53 result)

    ran : run world (record request { rest = rest }) now (Argument.Sequence sequence) ≡ Replays result sequence.session sequence.slot
    ran = ap (begun world (record request { rest = rest }) sequence) found

pub every_resend_is_replayed : EveryResendIsReplayed
unfolding text
every_resend_is_replayed xid cred tag sequence others world number now piece result sent =
    let operations : List Argument = Argument.Sequence sequence ∷ others in
    let there = with_connection world number (Waiting (text xid cred tag operations sent.can)) in
    subst (λ (w : World). IsReplayed xid w number result (one w number now))
    (sym (after_is xid cred tag operations sent.can world number sent.within piece sent.whole))
    (replays there number now (in_progress there xid cred (compound_sent tag operations)) sequence (operations_text others) result
    (waits xid cred tag operations sent.can world number sent.within piece sent.whole) (reads_sequence there xid cred tag sequence others sent.fits) sent.found)

-- A seat's reply is found

pub every_held_is_found : EveryHeldIsFound
unfolding begin
every_held_is_found uid count sequence table result is =
    ap (begin_by uid count sequence table.seats) is.ended ∙ by_seat (seat_of sequence.session table.seats) is.held
  where
    same : (sequence.sequence == sequence.sequence) ≡ true
    same = eq-eqb sequence.sequence sequence.sequence refl

    user : (uid == uid) ≡ true
    user = eq-eqb uid uid refl

    by_seat : (seat : Option Seat) → held_in sequence.slot seat ≡ Some (record { number = sequence.sequence; uid = uid; result = result })
        → begin_dead uid sequence seat ≡ sessions.Replays result
    by_seat None none = absurd (cc)
    by_seat (Some seat) held =
        ap (begin_held uid sequence) held
        ∙ ap₂ (λ (number caller : Bool). cond (number && caller) (sessions.Replays result) (sessions.Refuses status.DeadSession)) same user

-- The client returns the same again

pub every_outcome_is_told_again : EveryOutcomeIsToldAgain
every_outcome_is_told_again client cred sequence others xid first place outcomes result later number now piece exchange sent = (
  every_resend_is_replayed xid cred client.tag sequence others later number now piece result sent,
  every_exchange client cred (Argument.Sequence sequence ∷ others) xid first place outcomes (framed (reply_text xid (Success result))) exchange,
)

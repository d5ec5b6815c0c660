-- The client returns the outcomes of its record's operations: by induction over the turns.
use Rattle.std.proofs.Common.{◌≡◌, ◌+◌, ◌<◌, ◌≤◌, ◌^◌, ◌||◌, not, ◌⊎◌, inl, inr, ℕ, Bool, true, false, cond, List, [], ◌∷◌, ◌++◌, length, Option, None, Some, refl, sym, ap, ◌∙◌, subst, arith, append_assoc, length-append}
use Rattle.std.specs.Int.{w32, to_be_bytes}
use Rattle.std.specs.List.{AllByRecursion}
use Rattle.std.specs.Prelude.{map}
use Rattle.std.proofs.lemmas.Bool.{eq-eqb}
use Rattle.std.proofs.lemmas.Option.{same_Some}
use Rattle.model_tree.specs.declared.status.Status.{Status}
use Rattle.model_tree.specs.declared.status.Status.TheVariants as status
use Rattle.model.specs.Operations.Answer.{Outcome}
use Rattle.model_tree.specs.Trees.Keyed.{at}
use Rattle.model.specs.Operations.Operation.{Argument, operation_of}
use Rattle.model.specs.Wire.Record.{framed}
use Rattle.model.specs.Wire.Results.{compound_result, AreResults}
use Rattle.model.specs.Wire.Rpc.{CallRead, NoCall, OtherVersion, Calls, Request, Answers, Runs, Success, is_empty, read_call, request_of, reply_text}
use Rattle.model.specs.Server.RuledOut.{IsOutcome, IsBehind, HasOneMore, HasLast, IsAnswered, IsRepeated, IsOneFurther, request_at, request_in, request_by, with_operations}
use Rattle.model.specs.Server.Runs.{Event, effect_of, is_done}
use Rattle.model_tree.specs.Refusals.Status.{code_of}
use Rattle.model_tree.specs.Trees.Tree.{Tree}
use Rattle.model.specs.Wire.WireArguments.{argument}
use Rattle.model.specs.Server.World as worlds
use Rattle.model.specs.Server.World.{World, InProgress, Connection, Quiet, Waiting, Busy, Replied, Closed, Entry, Next, Refuses, Reads, next_operation, in_progress, with_result, result_of, Turned, one, arrives}
use Rattle.model_tree.proofs.Trees.KeyedLaws.{at-with_same}
use Rattle.model.proofs.Wire.ResultLaws.{one_more}
use Rattle.model.proofs.Server.RuledOutLaws.{one_a_turn, ends_by_holding}
use Rattle.client.specs.Client.{Client, Sent}
use Rattle.client.specs.Replies.{Gives, outcome_number, status_of, is_ok, ending, reply_read, reply_to, reply_to_sent}
use Rattle.client.specs.Requests.{operations_text, credential_text, new_record}
use Rattle.client.specs.Joined.{compound_sent}
use Rattle.client.specs.Whole.{IsElsewhere, IsAnsweredBy, Elsewhere, Goes_on, Ends, Holds, EveryExchange}
use Rattle.client.proofs.Elsewhere.{IsAsked, connection_stays}
use Rattle.client.proofs.Ending.{none_left, goes_on}
use Rattle.client.proofs.JoinedLaws.{every_record_is_asked, every_reply_is_told}
use Rattle.client.proofs.Nexts.{IsNext, next_is}
use Rattle.client.proofs.Outcomes.{EntryNumbered, one_well}

code_small : (reason : Status) → code_of reason < 2 ^ 32
code_small status.Ok = omega arith
code_small reason = omega arith

-- What comes next, and its outcome

behind_is : (asked : Argument) (rest bytes : List ℕ) (next : Next) → IsNext asked rest next → IsBehind next bytes → bytes ≡ rest
behind_is asked rest bytes (Refuses operation reason) is_next behind = absurd behind
behind_is asked rest bytes (Reads operation others) is_next behind = behind ∙ is_next.1

module _ (world : World) (request : InProgress) (executed : Option Entry) (tree : Tree) where
  outcome_numbered : (asked : Argument) (rest : List ℕ) (next : Next) (given : Outcome) → EntryNumbered executed → IsNext asked rest next
      → IsOutcome world request next given executed tree → outcome_number given ≡ operation_of asked
  outcome_numbered asked rest (Refuses operation reason) given numbered is_next is = ap outcome_number is.0 ∙ is_next
  outcome_numbered asked rest (Reads operation behind) given numbered is_next is = subst EntryNumbered is numbered ∙ ap operation_of is_next.0

  same_outcome : (next : Next) (a b : Outcome) → IsOutcome world request next a executed tree → IsOutcome world request next b executed tree → a ≡ b
  same_outcome (Refuses operation reason) a b is also = is.0 ∙ sym also.0
  same_outcome (Reads operation rest) a b is also = ap outcome_in (sym is ∙ also)
    where
      outcome_in : Option Entry → Outcome
      outcome_in None = a
      outcome_in (Some entry) = entry.outcome

-- What the client makes of it

some_told : (operations : List ℕ) (outcomes : List Outcome) (last : Status) → ending operations outcomes ≡ Some last → 0 < length outcomes
some_told operations [] last is = absurd (cc (none_left operations, is))
some_told operations (first ∷ outcomes) last is = omega arith

same_end : (given : Outcome) → is_ok given ≡ is_done given
same_end (Outcome.Done answer) = refl
same_end (Outcome.Refused operation reason) = refl

same_status : (given : Outcome) → status_of given ≡ worlds.status_of given
same_status (Outcome.Done answer) = refl
same_status (Outcome.Refused operation reason) = refl

none_more : (left : List Argument) → length left ≡ 0 → is_empty (map operation_of left) ≡ true
none_more [] none = refl
none_more (asked ∷ left) none = absurd (omega arith)

last_told : (asked : Argument) (left : List Argument) (last : Outcome) → outcome_number last ≡ operation_of asked → (is_done last ≡ false) ⊎ (length left ≡ 0)
    → ending (map operation_of (asked ∷ left)) (last ∷ []) ≡ Some (status_of last)
last_told asked left last same (inl not_done) =
    let not_ok : is_ok last ≡ false = same_end last ∙ not_done in
    rw (eq-eqb (outcome_number last) (operation_of asked) same, not_ok) refl
last_told asked left last same (inr none) = rw (eq-eqb (outcome_number last) (operation_of asked) same, none_more left none) (either (is_ok last))
  where
    either : (b : Bool) → cond (not b || true) (Some (status_of last)) None ≡ Some (status_of last)
    either true = refl
    either false = refl

module _ (xid : ℕ) (tag : List ℕ) where
  -- the request has these outcomes, and these operations are left
  record IsOn (done : List Outcome) (left : List Argument) (request : InProgress) : Type 0 where
    xid_is : request.xid ≡ xid
    tag_is : request.tag ≡ tag
    count : request.count ≡ length done + length left
    rest : request.rest ≡ operations_text left
    results : AreResults request done

  abbrev Goes : (InProgress → Type 0) → Option InProgress → Type 0
  Goes P going = (request : InProgress) × (going ≡ Some request) × P request

  -- the request of the client's connection
  abbrev StandsAt : ℕ → World → List Outcome → List Argument → Type 0
  StandsAt number world done left = Goes (IsOn done left) (request_at world (at number world.connections))

  -- the reply has these outcomes after the others, of which the last has this status
  record IsEnd (done : List Outcome) (left : List Argument) (outcomes : List Outcome) (reply : List ℕ) : Type 0 where
    request : InProgress
    last : Status
    xid_is : request.xid ≡ xid
    tag_is : request.tag ≡ tag
    results : AreResults request (done ++ outcomes)
    few : length outcomes ≤ length left
    ends : ending (map operation_of left) outcomes ≡ Some last
    says : reply ≡ framed (reply_text request.xid (Success (result_of request last)))

  -- Something happens elsewhere

  module _ (old new : World) (done : List Outcome) (left : List Argument) where
    begun_again : (other : ℕ) (asked : Request) → Goes (IsOn done left) (request_by old other asked) → Goes (IsOn done left) (request_by new other asked)
    begun_again other (Answers reply) goes = let never : ⊥ = cc goes.1 in absurd never
    begun_again other (Runs cred compound) goes =
        let on = subst (IsOn done left) (sym (same_Some (in_progress old other cred compound) goes.0 goes.1)) goes.2 in (
          in_progress new other cred compound,
          refl,
          record {
            xid_is = on.xid_is;
            tag_is = on.tag_is;
            count = on.count;
            rest = on.rest;
            results = record { answered = on.results.answered; encoded = on.results.encoded };
          },
        )

    read_again : (read : CallRead) → Goes (IsOn done left) (request_in old read) → Goes (IsOn done left) (request_in new read)
    read_again NoCall goes = let never : ⊥ = cc goes.1 in absurd never
    read_again (OtherVersion other) goes = let never : ⊥ = cc goes.1 in absurd never
    read_again (Calls call) goes = begun_again call.xid (request_of call) goes

    asked_again : (connection : Connection) → Goes (IsOn done left) (request_at old (Some connection))
        → Goes (IsOn done left) (request_at new (Some connection)) × IsAsked connection
    asked_again (Quiet bytes) goes = let never : ⊥ = cc goes.1 in absurd never
    asked_again (Waiting bytes) goes = (read_again (read_call bytes) goes, tt)
    asked_again (Busy request) goes = (goes, tt)
    asked_again (Replied reply) goes = let never : ⊥ = cc goes.1 in absurd never
    asked_again Closed goes = let never : ⊥ = cc goes.1 in absurd never

  module _ (number : ℕ) where
    found_again : (world : World) (event : Event) (done : List Outcome) (left : List Argument) → IsElsewhere number event
        → (found : Option Connection) → at number world.connections ≡ found → Goes (IsOn done left) (request_at world found) → StandsAt number (effect_of world event) done left
    found_again world event done left apart None is goes = let never : ⊥ = cc goes.1 in absurd never
    found_again world event done left apart (Some connection) is goes =
        let again = asked_again world (effect_of world event) done left connection goes in
        subst (λ (there : Option Connection). Goes (IsOn done left) (request_at (effect_of world event) there))
        (sym (connection_stays world number connection event is again.1 apart)) again.0

    stays : (world : World) (event : Event) (done : List Outcome) (left : List Argument) → IsElsewhere number event → StandsAt number world done left
        → StandsAt number (effect_of world event) done left
    stays world event done left apart stands = found_again world event done left apart (at number world.connections) refl stands

    -- A turn

    module _ (world : World) (now : ℕ) (request : InProgress) (asks : request_at world (at number world.connections) ≡ Some request)
        (done : List Outcome) (asked : Argument) (left : List Argument) (on : IsOn done (asked ∷ left) request) (fits : argument.Fits asked) where
      abbrev turned : worlds.Turned
      turned = one world number now

      abbrev Came : Outcome → Type 0
      Came given = IsOutcome world request (next_operation request) given turned.executed turned.world.tree

      own : IsNext asked (operations_text left) (next_operation request)
      unfolding operations_text
      own = next_is request asked (operations_text left) fits on.rest

      numbered : (given : Outcome) → Came given → outcome_number given ≡ operation_of asked
      numbered given came =
          outcome_numbered world request turned.executed turned.world.tree asked (operations_text left) (next_operation request) given
          (one_well world number now).numbered own came

      -- operations are left

      record IsFurther (given : Outcome) : Type 0 where
        stands : StandsAt number turned.world (done ++ given ∷ []) left
        ok : is_ok given ≡ true
        some : 0 < length left

      further_done : (after : InProgress) → at number turned.world.connections ≡ Some (Busy after)
          → (more : HasOneMore world request (next_operation request) turned after) → IsFurther (Outcome.Done more.answer)
      further_done after busy more =
          let results = one_more request done (Outcome.Done more.answer) on.results in
          record {
            stands = (
              after,
              ap (request_at turned.world) busy ∙ ap (with_operations after) more.ended,
              record {
                xid_is = more.xid ∙ on.xid_is;
                tag_is = more.tag ∙ on.tag_is;
                count = omega (arith, more.count, on.count, length-append done (Outcome.Done more.answer ∷ []));
                rest = behind_is asked (operations_text left) after.rest (next_operation request) own more.rest;
                results = record { answered = more.answered ∙ results.answered; encoded = more.results ∙ results.encoded };
              },
            );
            ok = refl;
            some = omega (arith, more.others, on.count, on.results.answered);
          }

      -- none is left, and the reply is to be held

      record IsLast (after : InProgress) (given : Outcome) : Type 0 where
        ended : after.ended ≡ Some (worlds.status_of given)
        xid_is : after.xid ≡ xid
        tag_is : after.tag ≡ tag
        results : AreResults after (done ++ given ∷ [])
        ends : ending (map operation_of (asked ∷ left)) (given ∷ []) ≡ Some (worlds.status_of given)

      none_left_behind : (given : Outcome) → Came given → (is_done given ≡ false) ⊎ (request.answered + 1 ≡ request.count)
          → ending (map operation_of (asked ∷ left)) (given ∷ []) ≡ Some (worlds.status_of given)
      none_left_behind given came last =
          let why : (is_done given ≡ false) ⊎ (length left ≡ 0) =
          elim last [ inl not_done ↦ inl not_done | inr last ↦ inr (omega (arith, last, on.count, on.results.answered)) ] in
          last_told asked left given (numbered given came) why ∙ ap (λ (s : Status). Some s) (same_status given)

      last_done : (after : InProgress) (last : HasLast world request (next_operation request) turned after) → IsLast after last.outcome
      last_done after last =
          let results = one_more request done last.outcome on.results in
          record {
            ended = last.ended;
            xid_is = last.xid ∙ on.xid_is;
            tag_is = last.tag ∙ on.tag_is;
            results = record { answered = last.answered ∙ results.answered; encoded = last.results ∙ results.encoded };
            ends = none_left_behind last.outcome last.executes last.last;
          }

      further : (after : InProgress) (given : Outcome) → at number turned.world.connections ≡ Some (Busy after) → Came given → IsFurther given ⊎ IsLast after given
      further after given busy came =
          let so : HasOneMore world request (next_operation request) turned after ⊎ HasLast world request (next_operation request) turned after =
          subst (IsOneFurther world request (next_operation request) turned) busy (one_a_turn world number now request asks) in
          elim so [
            | inl more ↦ inl (subst IsFurther (same_outcome world request turned.executed turned.world.tree (next_operation request) (Outcome.Done more.answer) given more.executes came)
                (further_done after busy more))
            | inr last ↦ inr (subst (IsLast after) (same_outcome world request turned.executed turned.world.tree (next_operation request) last.outcome given last.executes came)
                (last_done after last))
          ]

      -- it is the last one, and the reply is there

      ended_so : (reply : List ℕ) (answered : IsAnswered world request (next_operation request) turned reply) → IsEnd done (asked ∷ left) (answered.outcome ∷ []) reply
      ended_so reply answered =
          let given = answered.outcome in
          record {
            request = with_result request given;
            last = worlds.status_of given;
            xid_is = on.xid_is;
            tag_is = on.tag_is;
            results = one_more request done given on.results;
            few = omega arith;
            ends = none_left_behind given answered.executes answered.last;
            says = answered.says;
          }

      ended : (reply : List ℕ) (given : Outcome) → at number turned.world.connections ≡ Some (Replied reply) → turned.replays ≡ None → Came given
          → IsEnd done (asked ∷ left) (given ∷ []) reply
      ended reply given there none came =
          let so : IsAnswered world request (next_operation request) turned reply ⊎ IsRepeated world request (next_operation request) turned reply =
          subst (IsOneFurther world request (next_operation request) turned) there (one_a_turn world number now request asks) in
          elim so [
            | inl answered ↦ subst (λ (o : Outcome). IsEnd done (asked ∷ left) (o ∷ []) reply)
                (same_outcome world request turned.executed turned.world.tree (next_operation request) answered.outcome given answered.executes came) (ended_so reply answered)
            | inr repeated ↦ let never : ⊥ = cc (repeated.slot, none) in absurd never
          ]

    -- The reply is to be held

    not_asked : (world : World) (going request : InProgress) (last : Status) → at number world.connections ≡ Some (Busy going) → going.ended ≡ Some last
        → request_at world (at number world.connections) ≡ Some request → ⊥
    not_asked world going request last there ended asks =
        let none : request_at world (at number world.connections) ≡ None = ap (request_at world) there ∙ ap (with_operations going) ended in
        let never : ⊥ = cc (asks, none) in never

    held_reply : (world : World) (now : ℕ) (going : InProgress) (last : Status) (reply : List ℕ) → at number world.connections ≡ Some (Busy going) → going.ended ≡ Some last
        → at number (one world number now).world.connections ≡ Some (Replied reply) → reply ≡ framed (reply_text going.xid (Success (result_of going last)))
    held_reply world now going last reply there ended replied =
        let made = ap (λ (t : Turned). at number t.world.connections) (ends_by_holding world number now going last there ended) in
        ap reply_in (sym replied ∙ (made ∙ at-with_same world.connections number (Replied (framed (reply_text going.xid (Success (result_of going last)))))))
      where
        reply_in : Option Connection → List ℕ
        reply_in (Some (Replied bytes)) = bytes
        reply_in _ = reply

    record IsHeld (going : InProgress) (last : Status) (outcomes : List Outcome) (reply : List ℕ) : Type 0 where
      no_more : outcomes ≡ []
      says : reply ≡ framed (reply_text going.xid (Success (result_of going last)))

    held : (world : World) (outcomes : List Outcome) (reply : List ℕ) → IsAnsweredBy number world outcomes reply → (going : InProgress) (last : Status)
        → at number world.connections ≡ Some (Busy going) → going.ended ≡ Some last → IsHeld going last outcomes reply
    held world outcomes reply (Elsewhere event apart later) going last there ended =
        held (effect_of world event) outcomes reply later going last (connection_stays world number (Busy going) event there tt apart) ended
    held world _ reply (Goes_on now request after first asks busy came later) going last there ended = absurd (not_asked world going request last there ended asks)
    held world _ reply (Ends now request first asks replied none came) going last there ended = absurd (not_asked world going request last there ended asks)
    held world _ reply (Holds now other status there_too ended_too replied) going last there ended =
        record { no_more = refl; says = held_reply world now going last reply there ended replied }

    -- All of it

    same_request : (world : World) (request : InProgress) (done : List Outcome) (left : List Argument) → request_at world (at number world.connections) ≡ Some request
        → StandsAt number world done left → IsOn done left request
    same_request world request done left asks stands = subst (IsOn done left) (same_Some stands.0 request (sym stands.1 ∙ asks)) stands.2

    whole : (world : World) (outcomes : List Outcome) (reply : List ℕ) → IsAnsweredBy number world outcomes reply
        → (done : List Outcome) (left : List Argument) → 0 < length left → AllByRecursion argument.Fits left → StandsAt number world done left → IsEnd done left outcomes reply
    whole world outcomes reply (Elsewhere event apart later) done left some fits stands =
        whole (effect_of world event) outcomes reply later done left some fits (stays world event done left apart stands)
    whole world _ reply (Goes_on {outcomes = outcomes} now request after first asks busy came later) done [] some fits stands = absurd (omega arith)
    whole world _ reply (Goes_on {outcomes = outcomes} now request after first asks busy came later) done (asked ∷ left) some fits stands =
        let on = same_request world request done (asked ∷ left) asks stands in
        let is = numbered world now request asks done asked left on fits.0 first came in
        elim (further world now request asks done asked left on fits.0 after first busy came) [
          | inl more ↦
              let end = whole (one world number now).world outcomes reply later (done ++ first ∷ []) left more.some fits.1 more.stands in
              record {
                request = end.request;
                last = end.last;
                xid_is = end.xid_is;
                tag_is = end.tag_is;
                results = subst (AreResults end.request) (append_assoc done (first ∷ []) outcomes) end.results;
                few = omega (arith, end.few);
                ends = goes_on (operation_of asked) (map operation_of left) first outcomes (some_told (map operation_of left) outcomes end.last end.ends) is more.ok ∙ end.ends;
                says = end.says;
              }
          | inr last ↦
              let end = held (one world number now).world outcomes reply later after (worlds.status_of first) busy last.ended in
              subst (λ (others : List Outcome). IsEnd done (asked ∷ left) (first ∷ others) reply) (sym end.no_more) (record {
                request = after;
                last = worlds.status_of first;
                xid_is = last.xid_is;
                tag_is = last.tag_is;
                results = last.results;
                few = omega arith;
                ends = last.ends;
                says = end.says;
              })
        ]
    whole world _ reply (Ends now request last asks there none came) done [] some fits stands = absurd (omega arith)
    whole world _ reply (Ends now request last asks there none came) done (asked ∷ left) some fits stands =
        ended world now request asks done asked left (same_request world request done (asked ∷ left) asks stands) fits.0 reply last there none came
    whole world _ reply (Holds now request last there ended replied) done left some fits stands = absurd (not_asked world request stands.0 last there ended stands.1)

told : (client : Client) (sent : Sent) (message reply : List ℕ) (outcomes : List Outcome) (last : Status) → client.sent ≡ Some sent → reply ≡ framed message
    → reply_read client.tag sent (framed message) ≡ Gives outcomes last → reply_to client reply ≡ Gives outcomes last
told client sent message reply outcomes last sends says reads =
    ap (λ (s : Option Sent). reply_to_sent client.tag s reply) sends ∙ (ap (reply_read client.tag sent) says ∙ reads)

message_short : (message reply : List ℕ) → reply ≡ framed message → length reply < 2 ^ 31 → length message < 2 ^ 31
unfolding framed
message_short message reply says short = omega (arith, ap length says, length-append (to_be_bytes w32 (2 ^ 31 + length message)) message)

pub every_exchange : EveryExchange
every_exchange client cred operations xid world number outcomes reply exchange =
    let can = exchange.can in
    let sent = new_record xid (credential_text cred) client.tag operations in
    let after = arrives world number exchange.piece in
    let begun = in_progress after xid cred (compound_sent client.tag operations) in
    let stands : StandsAt xid client.tag number after [] operations = (
      begun,
      every_record_is_asked world number xid cred client.tag operations exchange.piece can exchange.within exchange.whole,
      record { xid_is = refl; tag_is = refl; count = omega arith; rest = refl; results = record { answered = refl; encoded = refl } },
    ) in
    let end = whole xid client.tag number after outcomes reply exchange.answered [] operations can.some exchange.fits stands in
    let message = reply_text end.request.xid (Success (result_of end.request end.last)) in
    let short : length message < 2 ^ 31 = message_short message reply end.says exchange.short in
    let encoded : compound_result.Fits (code_of end.last, (end.request.tag, outcomes)) =
    (code_small end.last, (omega (arith, ap length end.tag_is, can.tag_short), (omega (arith, end.few, can.counted), exchange.told))) in (
      end.last,
      told client sent message reply outcomes end.last exchange.sent end.says
          (every_reply_is_told client.tag sent end.request outcomes end.last end.xid_is end.tag_is can.xid_fits end.results end.ends encoded short),
    )

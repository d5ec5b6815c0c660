-- No reply is there before the seat of its slot's session holds it.
use Rattle.std.proofs.Common.{◌≡◌, ◌≢◌, ℕ, ◌<◌, ◌⊎◌, inl, inr, Bool, true, false, List, ◌++◌, length, option_to_list, find, Option, None, Some, Result, Ok, Err, refl, sym, ap, ◌∙◌, subst, arith}
use Rattle.std.specs.List.{IsAmong}
use Rattle.std.proofs.lemmas.Bool.{true≢false, and_from}
use Rattle.model_tree.specs.declared.status.Status.{Status}
use Rattle.model_tree.specs.declared.status.Status.TheVariants as status
use Rattle.model.specs.Operations.Answer.{Answer, Outcome, Done, Refused, ExchangeIdAnswer, CreateSessionAnswer}
use Rattle.model_tree.specs.Trees.Keyed.{at}
use Rattle.model.specs.Operations.Operation.{Argument, SequenceArguments, operation_of}
use Rattle.model.specs.Wire.Record.{framed}
use Rattle.model.specs.Wire.Rpc.{Success, reply_text}
use Rattle.model.specs.declared.holding.Holding.{Holding}
use Rattle.model.specs.declared.holding.Holding.TheVariants as holdings
use Rattle.model.specs.Server.Runs.{RunHistory, Stored, is_done, done_with, names_by, names_after, named_so_far, numbers_of}
use Rattle.model.specs.Sessions.SeatRuns.{IsHeldReply, IsToBeHeld, GivesHeld, KeepsOrNone, TakesItsSlot, request_in, EveryReplyIsStored}
use Rattle.model_tree.specs.Seats.Seats.{has_seat, held_at}
use Rattle.model.specs.Sessions.Session as sessions
use Rattle.model.specs.Sessions.Session.{Settings, Table, Session, is_session, holds_reply, finish}
use Rattle.model.specs.Sessions.SlotsHeld.{is_slot_running, is_on, is_busy_on}
use Rattle.model.specs.Server.World.{ServerLimits, World, InProgress, Connection, Quiet, Busy, Waiting, Replied, Closed, HasRun, Gives, Replays, Entry, Answered, Turned, exchanged, created_by, tabled, started_in, begun, reclaimed, run, executed_entry, with_connection, with_table, with_result, result_of, kept_by, is_seated, is_to_hold, noting, closes, behind, is_last, next_operation, Reads, reply_in, reply_at, one}
use Rattle.model_tree.proofs.Trees.KeyedLaws.{at-with_same}
use Rattle.model.proofs.Operations.ReadOperations.{is_first, first_read}
use Rattle.model.proofs.Sessions.AlteredRuns.{Notes, unread_notes, big_notes, gave_notes, is_behind, ran_settings, run_notes}
use Rattle.model.proofs.Sessions.SeatRunLaws.{stop_seated}
use Rattle.model.proofs.Sessions.SeatTables.{Seated, its_held, seats_are, stored_is, held_now}
use Rattle.model.proofs.Sessions.StoringTurns.{same_seats}
use Rattle.model.proofs.Sessions.SeatWorlds.{runs_there, on_itself}
use Rattle.model.proofs.Sessions.SlotsHeld.{Held, run_held}
use Rattle.model.proofs.Sessions.TableCalls.{either}
use Rattle.model.proofs.Server.TurnCases.{GoesWith, Begun, New, IsTurn, Idles, Says, Closes, Unread, TooBig, Gave, Repeats, turn_is, read_of}

-- An operation goes on with its request's slot, or the request had none

abbrev SlotLeft : InProgress → HasRun → Type 0
SlotLeft request (Gives outcome after left) = (left.slot ≡ request.slot) ⊎ (request.slot ≡ None)
SlotLeft request (Replays result session slot) = request.slot ≡ None

module _ (world : World) (request : InProgress) where
  exchanged_slot : (r : Result ExchangeIdAnswer Status × Table) → SlotLeft request (exchanged world request r)
  exchanged_slot (Err reason, table) = inl refl
  exchanged_slot (Ok answer, table) = inl refl

  created_slot : (o : sessions.CreateSessionOutcome) (answer : Result CreateSessionAnswer Status) → SlotLeft request (created_by world request o answer)
  created_slot o (Err reason) = inl refl
  created_slot o (Ok answer) = inl refl

  tabled_slot : (operation : ℕ) (answer : Answer) (r : Option Status × Table) → SlotLeft request (tabled world request operation answer r)
  tabled_slot operation answer (Some reason, table) = inl refl
  tabled_slot operation answer (None, table) = inl refl

  reclaimed_slot : (refusal : Option Status) → SlotLeft request (reclaimed world request refusal)
  reclaimed_slot None = inl refl
  reclaimed_slot (Some reason) = inl refl

  begun_slot : request.slot ≡ None → (arguments : SequenceArguments) (b : sessions.Begun) → SlotLeft request (begun world request arguments b)
  begun_slot none arguments (sessions.Refuses reason) = inl refl
  begun_slot none arguments (sessions.Replays reply) = none
  begun_slot none arguments sessions.Runs = by_session (find (is_session arguments.session) world.table.sessions)
    where
      by_session : (known : Option Session) → SlotLeft request (started_in world request arguments known)
      by_session None = inl refl
      by_session (Some session) = inr none

  run_slot : (now : ℕ) (operation : Argument) → (is_first (operation_of operation) ≡ true → request.slot ≡ None)
      → SlotLeft request (run world request now operation)
  unfolding run
  run_slot now (Argument.ExchangeId arguments) first = exchanged_slot _
  run_slot now (Argument.CreateSession arguments) first =
      created_slot (sessions.create_session world.limits.sessions request.context.cred.uid arguments world.table) _
  run_slot now (Argument.DestroySession id) first = tabled_slot _ _ _
  run_slot now (Argument.DestroyClientId client) first = tabled_slot _ _ _
  run_slot now (Argument.Sequence arguments) first = begun_slot (first refl) arguments _
  run_slot now (Argument.ReclaimComplete true) first = reclaimed_slot _
  run_slot now (Argument.ReclaimComplete false) first = tabled_slot _ _ _
  run_slot now operation first = inl refl

-- What is put on a connection is there

put_there : (world : World) (number : ℕ) (connection : Connection) → reply_at (with_connection world number connection) number ≡ reply_in (Some connection)
put_there world number connection = ap reply_in (at-with_same world.connections number connection)

-- A SEQUENCE that is done leaves its request with the slot

abbrev TakesSlot : SequenceArguments → HasRun → Type 0
TakesSlot arguments (Gives outcome after left) = is_done outcome ≡ true → left.slot ≡ Some (arguments.session, arguments.slot)
TakesSlot arguments (Replays result session slot) = Unit {0}

module _ (world : World) (request : InProgress) (arguments : SequenceArguments) where
  begun_takes : (b : sessions.Begun) → TakesSlot arguments (begun world request arguments b)
  begun_takes (sessions.Refuses reason) = λ done. absurd (cc)
  begun_takes (sessions.Replays reply) = tt
  begun_takes sessions.Runs = by_session (find (is_session arguments.session) world.table.sessions)
    where
      by_session : (known : Option Session) → TakesSlot arguments (started_in world request arguments known)
      by_session None = λ done. absurd (cc)
      by_session (Some session) = λ done. refl

  run_takes : (now : ℕ) → TakesSlot arguments (run world request now (Argument.Sequence arguments))
  unfolding run
  run_takes now = begun_takes _

-- A turn behind a result keeps its request's slot, or gives no reply

abbrev KeepsOr : ℕ → Option (List ℕ × ℕ) → Turned → Type 0
KeepsOr number slot t = KeepsOrNone t number slot

closes_keeps : (number : ℕ) (after : World) (request : InProgress) (last : Status) (executed : Option Entry)
    → KeepsOr number request.slot (closes after number request last executed)
closes_keeps number after request last executed =
    either (KeepsOr number request.slot) (is_to_hold request after.table) _ _
    (λ seated. inl (put_there after number (Busy (record request { ended = Some last }))))
    (λ none. inr refl)

behind_keeps : (number : ℕ) (after : World) (request : InProgress) (outcome : Outcome) (executed : Option Entry)
    → KeepsOr number request.slot (behind after number request outcome executed)
behind_keeps number after request (Refused operation reason) executed = closes_keeps number after (with_result request (Refused operation reason)) reason executed
behind_keeps number after request (Done answer) executed =
    either (KeepsOr number request.slot) (is_last request) _ _
    (λ last. closes_keeps number after (with_result request (Done answer)) status.Ok executed)
    (λ more. inl (put_there after number (Busy (with_result request (Done answer)))))

-- and what was executed is as it was

closes_executed : (number : ℕ) (after : World) (request : InProgress) (last : Status) (executed : Option Entry)
    → (closes after number request last executed).executed ≡ executed
closes_executed number after request last executed =
    either (λ (t : Turned). t.executed ≡ executed) (is_to_hold request after.table) _ _ (λ seated. refl) (λ none. refl)

behind_executed : (number : ℕ) (after : World) (request : InProgress) (outcome : Outcome) (executed : Option Entry)
    → (behind after number request outcome executed).executed ≡ executed
behind_executed number after request (Refused operation reason) executed = closes_executed number after (with_result request (Refused operation reason)) reason executed
behind_executed number after request (Done answer) executed =
    either (λ (t : Turned). t.executed ≡ executed) (is_last request) _ _
    (λ last. closes_executed number after (with_result request (Done answer)) status.Ok executed)
    (λ more. refl)

-- and a seat that is to hold it has not been passed by

abbrev HoldsSo : Type 0 → ℕ → Turned → Type 0
HoldsSo must number t =
    (id : List ℕ) (slot : ℕ) → t.keeps ≡ Some (id, slot) → has_seat id t.world.table.seats ≡ true → must → IsHeldReply t number id slot

never_held : (must : Type 0) (request : InProgress) (result : List ℕ) (table : Table) → is_to_hold request table ≡ false
    → (must → holds_reply table.settings.holding request.altered ≡ true) → (id : List ℕ) (place : ℕ) → request.slot ≡ Some (id, place)
    → has_seat id (kept_by request.slot false result table).seats ≡ true → must → ⊥
unfolding finish
never_held must request result table none noted id place same has it =
    let there : has_seat id table.seats ≡ true = subst (λ (s : Option (List ℕ × ℕ)). has_seat id (kept_by s false result table).seats ≡ true) same has in
    let seated : is_seated request.slot table.seats ≡ true = ap (λ (s : Option (List ℕ × ℕ)). is_seated s table.seats) same ∙ there in
    true≢false (sym (and_from (holds_reply table.settings.holding request.altered) (is_seated request.slot table.seats) (noted it) seated) ∙ none)

closes_holds : (must : Type 0) (number : ℕ) (after : World) (request : InProgress) (last : Status) (executed : Option Entry)
    → (must → holds_reply after.table.settings.holding request.altered ≡ true) → HoldsSo must number (closes after number request last executed)
closes_holds must number after request last executed noted =
    either (HoldsSo must number) (is_to_hold request after.table) _ _
    (λ seated id slot same has it. absurd (cc))
    (λ none id slot same has it. absurd (never_held must request (result_of request last) after.table none noted id slot same has it))

behind_holds : (must : Type 0) (number : ℕ) (after : World) (request : InProgress) (outcome : Outcome) (executed : Option Entry)
    → (must → holds_reply after.table.settings.holding request.altered ≡ true) → HoldsSo must number (behind after number request outcome executed)
behind_holds must number after request (Refused operation reason) executed noted =
    closes_holds must number after (with_result request (Refused operation reason)) reason executed noted
behind_holds must number after request (Done answer) executed noted =
    either (HoldsSo must number) (is_last request) _ _
    (λ last. closes_holds must number after (with_result request (Done answer)) status.Ok executed noted)
    (λ more id slot same has it. absurd (cc))

-- A turn

module _ (limits : ServerLimits) (world : World) (held : Held limits world) (its_run : ℕ) (run_is : world.table.run ≡ its_run)
    (stored : List Stored) (gone : List (List ℕ)) (is : Seated its_run world.table stored gone) (number now : ℕ) where
  -- a request that has ended
  abbrev ended_by : (xid : ℕ) (result : List ℕ) → Option (List ℕ × ℕ) → Turned
  ended_by xid result slot = record {
    turn = Answered;
    world = with_connection (with_table world (kept_by slot true result world.table)) number (Replied (framed (reply_text xid (Success result))));
    executed = None;
    keeps = slot;
    holds = true;
    replays = None;
  }

  ended_here : (xid : ℕ) (result id : List ℕ) (place : ℕ) → is_slot_running id place world.table ≡ true
      → has_seat id (finish id place true result world.table).seats ≡ true → IsHeldReply (ended_by xid result (Some (id, place))) number id place
  ended_here xid result id place running has = by_seat (has_seat id world.table.seats) refl
    where
      by_seat : (b : Bool) → has_seat id world.table.seats ≡ b → IsHeldReply (ended_by xid result (Some (id, place))) number id place
      by_seat false none = absurd (true≢false (sym has ∙ (ap (has_seat id) (same_seats id place result world.table none) ∙ none)))
      by_seat true there =
          let runs = runs_there limits world held its_run run_is stored gone is id place running in
          record {
            held = its_held id place result its_run world.table stored gone is runs.session runs.found runs.within;
            xid = xid;
            stands = ap (held_at id place) (seats_are id place result its_run world.table stored gone is runs.session runs.found runs.within)
                ∙ held_now id place result its_run world.table stored gone is runs.session runs.found runs.within there;
            stored = stored_is id place result its_run world.table stored gone is runs.session runs.found runs.within there;
            gives = put_there (with_table world (finish id place true result world.table)) number (Replied (framed (reply_text xid (Success result))));
            alone = refl;
          }

  ended_holds : (xid : ℕ) (result : List ℕ) (slot : Option (List ℕ × ℕ))
      → ((id : List ℕ) (place : ℕ) → is_on slot id place ≡ true → is_slot_running id place world.table ≡ true) → (must : Type 0)
      → HoldsSo must number (ended_by xid result slot)
  ended_holds xid result slot runs must id place same has it =
      subst (λ (s : Option (List ℕ × ℕ)). IsHeldReply (ended_by xid result s) number id place) (sym same)
      (ended_here xid result id place (runs id place (ap (λ (s : Option (List ℕ × ℕ)). is_on s id place) same ∙ on_itself id place))
      (subst (λ (s : Option (List ℕ × ℕ)). has_seat id (kept_by s true result world.table).seats ≡ true) same has))

  -- what a turn names, of a run
  module _ (history : RunHistory) (set : world.table.settings ≡ limits.settings) (below : (other i : ℕ) → IsAmong (history.named other) i → i < length history.done)
      (notes : (other : ℕ) (request : InProgress) → at other world.connections ≡ Some (Busy request) → Notes request.altered history.done (history.named other)) where
    abbrev Must : Option Entry → Type 0
    Must executed =
        IsToBeHeld limits.settings.holding (history.done ++ option_to_list executed) (named_so_far history world number ++ numbers_of history executed)

    noted_so : (holding : Holding) (done : List Entry) (names : List ℕ) (altered : Bool) → Notes altered done names → IsToBeHeld holding done names
        → holds_reply holding altered ≡ true
    noted_so holdings.Nothing done names altered notes it = absurd it
    noted_so holdings.Changes done names altered notes it = notes it
    noted_so holdings.All done names altered notes it = refl

    of_settings : (settings : Settings) (altered : Bool) → settings ≡ limits.settings → holds_reply limits.settings.holding altered ≡ true
        → holds_reply settings.holding altered ≡ true
    of_settings settings altered same holds = ap (λ (s : Settings). holds_reply s.holding altered) same ∙ holds

    MustOf : Turned → Type 0
    MustOf t = IsToBeHeld limits.settings.holding (history.done ++ option_to_list t.executed) (names_after history world number t)

    -- of a turn behind a result, which repeats none
    behind_so : (after : World) (request : InProgress) (outcome : Outcome) (executed : Option Entry) → after.table.settings ≡ world.table.settings
        → Notes request.altered (history.done ++ option_to_list executed) (named_so_far history world number ++ numbers_of history executed)
        → HoldsSo (MustOf (behind after number request outcome executed)) number (behind after number request outcome executed)
    unfolding MustOf
    behind_so after request outcome executed settled noted =
        let t = behind after number request outcome executed in
        let is = is_behind number after request outcome executed in
        behind_holds (MustOf t) number after request outcome executed (λ it.
        of_settings after.table.settings request.altered (settled ∙ set)
        (noted_so limits.settings.holding _ _ request.altered noted
        (subst (λ (e : Option Entry). IsToBeHeld limits.settings.holding (history.done ++ option_to_list e) (named_so_far history world number ++ numbers_of history e)) is.executed_is
        (subst (λ (r : Option (List ℕ × ℕ)). IsToBeHeld limits.settings.holding (history.done ++ option_to_list t.executed) (names_by history world number t r)) is.replays it))))

    turned_holds : (t : Turned) → IsTurn world number now t → HoldsSo (MustOf t) number t
    turned_holds _ Idles = λ id slot same has it. absurd (cc)
    turned_holds _ (Says bytes xid reply waits) = λ id slot same has it. absurd (cc)
    turned_holds _ (Closes request last there ended) =
        ended_holds request.xid (result_of request last) request.slot
        (λ name place on. held.law.runs name place number (ap (is_busy_on name place) there ∙ on)) _
    turned_holds _ (Unread request operation reason goes) =
        behind_so world request (Refused operation reason) None refl (unread_notes history world number now below notes request goes)
    turned_holds _ (TooBig request operation rest goes reads) =
        let outcome : Outcome = Refused (operation_of operation) status.RepTooBig in
        behind_so world (noting world world operation (read_of request rest)) outcome _ refl (big_notes history world number now below notes request operation rest outcome goes)
    turned_holds _ (Gave request operation rest outcome after left goes reads ran) =
        behind_so after (noting world after operation left) outcome _ (ran_settings world (read_of request rest) now operation outcome after left ran)
        (gave_notes history world number now below notes request operation rest outcome after left goes ran)
    turned_holds _ (Repeats request operation rest result session slot goes reads ran) = λ id place same has it. absurd (cc)

  -- of a request that had begun

  busy_one : (a b : InProgress) → at number world.connections ≡ Some (Busy a) → at number world.connections ≡ Some (Busy b) → a ≡ b
  busy_one a b first second = let both : Some (Busy a) ≡ Some (Busy b) = sym first ∙ second in cc

  not_waiting : (bytes : List ℕ) (a : InProgress) → at number world.connections ≡ Some (Waiting bytes) → at number world.connections ≡ Some (Busy a) → ⊥
  not_waiting bytes a first second = let both : Some (Waiting bytes) ≡ Some (Busy a) = sym first ∙ second in cc

  goes_so : (request other : InProgress) → GoesWith world number other → at number world.connections ≡ Some (Busy request) → other ≡ request
  goes_so request other (Begun _ there) busy = busy_one other request there busy
  goes_so request _ (New bytes xid cred compound waits some) busy = absurd (not_waiting bytes request waits busy)

  module _ (request : InProgress) (busy : at number world.connections ≡ Some (Busy request)) (some : request.slot ≢ None) where
    same_slot : (other : InProgress) → GoesWith world number other → other.slot ≡ request.slot
    same_slot other goes = ap (λ (r : InProgress). r.slot) (goes_so request other goes busy)

    as_its : (slot : Option (List ℕ × ℕ)) (t : Turned) → slot ≡ request.slot → KeepsOr number slot t → KeepsOr number request.slot t
    as_its slot t same keeps = subst (λ (s : Option (List ℕ × ℕ)). KeepsOr number s t) same keeps

    run_left : (other : InProgress) (operation : Argument) (rest : List ℕ) (left : HasRun) → GoesWith world number other → next_operation other ≡ Reads operation rest
        → run world (read_of other rest) now operation ≡ left → SlotLeft (read_of other rest) left
    run_left other operation rest left goes reads ran =
        subst (SlotLeft (read_of other rest)) ran (run_slot world (read_of other rest) now operation (λ first. absurd (no_first first)))
      where
        no_first : is_first (operation_of operation) ≡ true → ⊥
        no_first first =
            let begun = held.begun number request busy in
            let none = first_read other operation rest reads first in
            let answered : other.answered ≡ request.answered = ap (λ (r : InProgress). r.answered) (goes_so request other goes busy) in
            omega (arith, begun, none, answered)

    turned_keeps : (t : Turned) → IsTurn world number now t → KeepsOr number request.slot t
    turned_keeps _ Idles = inl (ap reply_in busy)
    turned_keeps _ (Says bytes xid reply waits) = absurd (not_waiting bytes request waits busy)
    turned_keeps _ (Closes other last there ended) = inr (ap (λ (r : InProgress). r.slot) (busy_one other request there busy))
    turned_keeps _ (Unread other operation reason goes) =
        as_its other.slot (behind world number other (Refused operation reason) None) (same_slot other goes)
        (behind_keeps number world other (Refused operation reason) None)
    turned_keeps _ (TooBig other operation rest goes reads) =
        let reason = Refused (operation_of operation) status.RepTooBig in
        let executed = Some (executed_entry world (read_of other rest) operation reason world) in
        let noted : InProgress = noting world world operation (read_of other rest) in
        as_its other.slot (behind world number noted reason executed) (same_slot other goes) (behind_keeps number world noted reason executed)
    turned_keeps _ (Gave other operation rest outcome after left goes reads ran) = elim (run_left other operation rest (Gives outcome after left) goes reads ran) [
      | inl same ↦
          let noted : InProgress = noting world after operation left in
          as_its left.slot (behind after number noted outcome (Some (executed_entry world (read_of other rest) operation outcome after))) (same ∙ same_slot other goes)
          (behind_keeps number after noted outcome (Some (executed_entry world (read_of other rest) operation outcome after)))
      | inr none ↦ absurd (some (sym (same_slot other goes) ∙ none))
    ]
    turned_keeps _ (Repeats other operation rest result session slot goes reads ran) =
        absurd (some (sym (same_slot other goes) ∙ run_left other operation rest (Replays result session slot) goes reads ran))

  -- of a SEQUENCE that begins one

  module _ (entry : Entry) (arguments : SequenceArguments) (takes : TakesItsSlot entry arguments) where
    -- what the entry of a result says of it
    one_entry : (done : Entry) (given : Option Entry) → given ≡ Some done → given ≡ Some entry → done ≡ entry
    one_entry done given first second = let both : Some done ≡ Some entry = sym first ∙ second in cc

    turned_begins : (t : Turned) → IsTurn world number now t → t.executed ≡ Some entry → KeepsOr number (Some (arguments.session, arguments.slot)) t
    turned_begins _ Idles executed = absurd (cc)
    turned_begins _ (Says bytes xid reply waits) executed = absurd (cc)
    turned_begins _ (Closes other last there ended) executed = absurd (cc)
    turned_begins _ (Unread other operation reason goes) executed =
        let none : None ≡ Some entry = sym (behind_executed number world other (Refused operation reason) None) ∙ executed in absurd (cc)
    turned_begins _ (TooBig other operation rest goes reads) executed =
        let reason = Refused (operation_of operation) status.RepTooBig in
        let its = executed_entry world (read_of other rest) operation reason world in
        let same : its ≡ entry = one_entry its _ (behind_executed number world (noting world world operation (read_of other rest)) reason (Some its)) executed in
        absurd (true≢false (sym (ap (λ (e : Entry). is_done e.outcome) same ∙ takes.1)))
    turned_begins _ (Gave other operation rest outcome after left goes reads ran) executed =
        let its = executed_entry world (read_of other rest) operation outcome after in
        let same : its ≡ entry = one_entry its _ (behind_executed number after (noting world after operation left) outcome (Some its)) executed in
        let asks : operation ≡ Argument.Sequence arguments = ap (λ (e : Entry). e.operation) same ∙ takes.0 in
        let done : is_done outcome ≡ true = ap (λ (e : Entry). is_done e.outcome) same ∙ takes.1 in
        let ran_so : run world (read_of other rest) now (Argument.Sequence arguments) ≡ Gives outcome after left =
        subst (λ (o : Argument). run world (read_of other rest) now o ≡ Gives outcome after left) asks ran in
        let slot : left.slot ≡ Some (arguments.session, arguments.slot) =
        subst (TakesSlot arguments) ran_so (run_takes world (read_of other rest) arguments now) done in
        let noted : InProgress = noting world after operation left in
        subst (λ (s : Option (List ℕ × ℕ)). KeepsOr number s (behind after number noted outcome (Some its))) slot (behind_keeps number after noted outcome (Some its))
    turned_begins _ (Repeats other operation rest result session slot goes reads ran) executed = absurd (cc)

  request_there : (request : InProgress) (there : Option Connection) → request_in there ≡ Some request → there ≡ Some (Busy request)
  request_there request None same = absurd (cc)
  request_there request (Some (Quiet bytes)) same = absurd (cc)
  request_there request (Some (Waiting bytes)) same = absurd (cc)
  request_there request (Some (Busy other)) same = let one : other ≡ request = cc in ap (λ (r : InProgress). Some (Busy r)) one
  request_there request (Some (Replied reply)) same = absurd (cc)
  request_there request (Some Closed) same = absurd (cc)

  module _ (history : RunHistory) (set : world.table.settings ≡ limits.settings) (below : (other i : ℕ) → IsAmong (history.named other) i → i < length history.done)
      (notes : (other : ℕ) (request : InProgress) → at other world.connections ≡ Some (Busy request) → Notes request.altered history.done (history.named other)) where
    one_held : GivesHeld limits.settings.holding (done_with history (one world number now).executed) (names_after history world number (one world number now)) (one world number now) number
        (request_in (at number world.connections))
    unfolding MustOf
    one_held = record {
      held = turned_holds history set below notes (one world number now) (turn_is world number now);
      kept = λ request there some. turned_keeps request (request_there request (at number world.connections) there) some (one world number now) (turn_is world number now);
      begun = λ entry arguments executed takes. turned_begins entry arguments takes (one world number now) (turn_is world number now) executed;
    }

pub every_reply_is_stored : EveryReplyIsStored
every_reply_is_stored limits stop up connection now =
    let seated = (stop_seated stop).up up in
    let noted = run_notes limits stop.run stop.start stop.seats stop.serving stop.history stop.is_run in
    one_held limits stop.serving.world (run_held limits stop.run stop.start stop.seats stop.serving stop.history stop.is_run) stop.run seated.1 stop.history.stored stop.history.freed seated.0 connection now
    stop.history noted.settings noted.below (noted.notes up)

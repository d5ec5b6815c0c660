-- A session has a seat exactly if its CREATE_SESSION returned flag 1.
use Rattle.std.proofs.Common.{◌≡◌, ◌≢◌, ◌↔◌, ℕ, ◌+◌, ◌<◌, ◌^◌, ◌==◌, Bool, true, false, cond, List, [], ◌∷◌, find, Option, None, Some, is_some, Result, Ok, Err, refl, sym, ap, ◌∙◌, subst, arith}
use Rattle.std.proofs.lemmas.Bool.{true≢false, and_parts}
use Rattle.model_tree.specs.declared.status.Status.{Status}
use Rattle.model_tree.specs.declared.status.Status.TheVariants as status
use Rattle.model.specs.Operations.Answer.{Answer, Outcome, Done, Refused, CreateSessionAnswer}
use Rattle.model.specs.Operations.Operation.{Argument, CreateSessionArguments, operation_of}
use Rattle.model_tree.specs.Refusals.Refusal.{first_refusal}
use Rattle.model.specs.Server.Runs.{Event, Arrives, Turns, HangsUp, Connects, Takes, Stored, effect_of, executed_of}
use Rattle.model.specs.Sessions.SeatRuns.{MakesSession, EverySessionSits}
use Rattle.model_tree.specs.Seats.Seats.{Seat, Seats, is_seat_of, seat_of, has_seat, has_free, seated}
use Rattle.model.specs.Sessions.Session.{SessionLimits, Client, Table, is_client, gives_way, seats_staying, new_seat, new_session, persists, create_refusals, create_session_answer, with_new_session, create_unless, create_again, create_by, create_session, create_refused, CreateSessionOutcome, next_number, finish, asks_seat}
use Rattle.model.specs.Server.World.{ServerLimits, World, InProgress, HasRun, Gives, Replays, Entry, created_by, run, executed_entry, Turned, with_result, result_of, kept_by, is_to_hold, closes, behind, is_last, one, noting}
use Rattle.model.proofs.Sessions.SeatLaws.{has_freed}
use Rattle.model_tree.proofs.Facts.BytesLaws.{bytes_same}
use Rattle.model.proofs.Sessions.SeatRunLaws.{stop_seated}
use Rattle.model.proofs.Sessions.SeatsFreed.{behind_has}
use Rattle.model.proofs.Sessions.SeatTables.{Seated, client_in_run, all_below, new_has_none}
use Rattle.model.proofs.Sessions.SlotLaw.{serial_left}
use Rattle.model.proofs.Sessions.SlotsHeld.{Held, run_held}
use Rattle.model.proofs.Sessions.TableCalls.{Holds, either}
use Rattle.model.proofs.Server.TurnCases.{IsTurn, Idles, Says, Closes, Unread, TooBig, Gave, Repeats, turn_is, read_of}

-- Only seats: a seat that finds a free place is there

seated_there : (new : Seat) (seats : Seats) → has_free seats ≡ true → has_seat new.session (seated new seats) ≡ true
seated_there new [] free = absurd (true≢false (sym free))
seated_there new (None ∷ seats) free =
    ap (λ (b : Bool). is_some (cond b (Some new) (seat_of new.session seats))) (bytes_same new.session new.session refl)
seated_there new (Some other ∷ seats) free = by_test (is_seat_of new.session other) (seated_there new seats free)
  where
    by_test : (b : Bool) → has_seat new.session (seated new seats) ≡ true → is_some (cond b (Some other) (seat_of new.session (seated new seats))) ≡ true
    by_test true there = refl
    by_test false there = there

-- What a turn does behind a result makes no session

kept_serial : (slot : Option (List ℕ × ℕ)) (holds : Bool) (result : List ℕ) (table : Table) → (kept_by slot holds result table).session_serial ≡ table.session_serial
unfolding finish
kept_serial None holds result table = refl
kept_serial (Some slot) holds result table = refl

abbrev SameSerial : World → Turned → Type 0
SameSerial after t = t.world.table.session_serial ≡ after.table.session_serial

closes_serial : (number : ℕ) (after : World) (request : InProgress) (last : Status) (executed : Option Entry) → SameSerial after (closes after number request last executed)
closes_serial number after request last executed =
    either (SameSerial after) (is_to_hold request after.table) _ _ (λ seated. refl) (λ none. kept_serial request.slot false (result_of request last) after.table)

behind_serial : (number : ℕ) (after : World) (request : InProgress) (outcome : Outcome) (executed : Option Entry) → SameSerial after (behind after number request outcome executed)
behind_serial number after request (Refused operation reason) executed = closes_serial number after (with_result request (Refused operation reason)) reason executed
behind_serial number after request (Done answer) executed =
    either (SameSerial after) (is_last request) _ _ (λ last. closes_serial number after (with_result request (Done answer)) status.Ok executed) (λ more. refl)

-- CREATE_SESSION

abbrev SitsIn : Table → CreateSessionAnswer → Type 0
SitsIn table answer = (answer.flags ≡ 1) ↔ (has_seat answer.session table.seats ≡ true)

-- what it returns, if it makes a session
abbrev Sits : Table → CreateSessionOutcome → Type 0
Sits old o = (answer : CreateSessionAnswer) → o.answer ≡ Ok answer → o.table.session_serial ≢ old.session_serial → SitsIn o.table answer

module _ (limits : SessionLimits) (stored : List Stored) (gone : List (List ℕ)) (arguments : CreateSessionArguments) (table : Table)
    (holds : Holds limits table) (is : Seated table.run table stored gone) where
  refused_sits : (reason : Status) → Sits table (create_refused reason table)
  refused_sits reason answer same made = absurd (made refl)

  module _ (number : ℕ) (client : Client) (found : find (is_client number) table.clients ≡ Some client) where
    abbrev its_seat : Seat
    its_seat = new_seat limits arguments client table

    not_there : table.session_serial + 1 < 2 ^ 64 → has_seat its_seat.session table.seats ≡ false
    not_there small =
        new_has_none table.run table stored gone is (new_session limits arguments client table) refl
        (client_in_run limits table.run table.client_serial table.clients holds.0 number client found) small
        (all_below limits table.session_serial table.sessions holds.1)

    by_flag : table.session_serial + 1 < 2 ^ 64 → (b : Bool) → persists arguments client table ≡ b
        → (let flags : ℕ = cond b 1 0 in
        (flags ≡ 1) ↔ (has_seat its_seat.session (cond b (seated its_seat (seats_staying arguments client table)) (seats_staying arguments client table)) ≡ true))
    by_flag small true flag =
        let free = (and_parts (asks_seat arguments table) (has_free (seats_staying arguments client table)) flag).1 in
        (λ _. seated_there its_seat (seats_staying arguments client table) free, λ _. refl)
    by_flag small false flag =
        let none = has_freed (gives_way arguments client table) its_seat.session table.seats is.apart (not_there small) in
        (λ zero. absurd (omega (arith, zero)), λ has. absurd (true≢false (sym has ∙ none)))

    unless_sits : (refusal : Option Status) → first_refusal (create_refusals limits arguments client table) ≡ refusal → Sits table (create_unless limits arguments client table refusal)
    unless_sits (Some reason) e answer same made = refused_sits reason answer same made
    unless_sits None e answer same made =
        let room = serial_left limits arguments client table e in
        let it : create_session_answer limits arguments client table ≡ answer = cc in
        subst (SitsIn (with_new_session limits arguments client table)) it (by_flag (omega (arith, room)) (persists arguments client table) refl)

    again_sits : (kept : Option CreateSessionAnswer) → Sits table (create_again limits arguments client table kept)
    again_sits None = unless_sits (first_refusal (create_refusals limits arguments client table)) refl
    again_sits (Some answer) =
        either (Sits table) (next_number arguments.sequence == client.sequence) _ _
        (λ same other told made. absurd (made refl)) (λ other. unless_sits (first_refusal (create_refusals limits arguments client table)) refl)

  create_sits : (uid : ℕ) → Sits table (create_session limits uid arguments table)
  unfolding create_session
  create_sits uid = by_client (find (is_client arguments.client) table.clients) refl
    where
      by_client : (known : Option Client) → find (is_client arguments.client) table.clients ≡ known → Sits table (create_by limits uid arguments table known)
      by_client None found = refused_sits status.StaleClientId
      by_client (Some client) found =
          either (Sits table) (client.principal == uid) _ _ (λ own. again_sits arguments.client client found client.kept) (λ other. refused_sits status.ClidInUse)

-- A turn

module _ (limits : ServerLimits) (world : World) (held : Held limits world) (its_run : ℕ) (run_is : world.table.run ≡ its_run)
    (stored : List Stored) (gone : List (List ℕ)) (is : Seated its_run world.table stored gone) where
  abbrev RanSits : HasRun → Type 0
  RanSits (Gives outcome after left) =
      (answer : CreateSessionAnswer) → outcome ≡ Done (Answer.CreateSession answer) → after.table.session_serial ≢ world.table.session_serial → SitsIn after.table answer
  RanSits (Replays result session slot) = Unit {0}

  created_sits : (request : InProgress) (o : CreateSessionOutcome) → Sits world.table o → (told : Result CreateSessionAnswer Status) → o.answer ≡ told → RanSits (created_by world request o told)
  created_sits request o sits (Err reason) told = λ answer same made. absurd (made refl)
  created_sits request o sits (Ok given) told = λ answer same made. let it : given ≡ answer = cc in subst (SitsIn o.table) it (sits given told made)

  run_sits : (request : InProgress) (now : ℕ) (arguments : CreateSessionArguments) → RanSits (run world request now (Argument.CreateSession arguments))
  unfolding run
  run_sits request now arguments =
      let outcome = create_session world.limits.sessions request.context.cred.uid arguments world.table in
      created_sits request outcome
      (create_sits world.limits.sessions stored gone arguments world.table
      (subst (λ (l : ServerLimits). Holds l.sessions world.table) (sym held.limits_are) held.holds)
      (subst (λ (r : ℕ). Seated r world.table stored gone) (sym run_is) is) request.context.cred.uid)
      outcome.answer refl

  abbrev TurnSits : Turned → Type 0
  TurnSits t = (answer : CreateSessionAnswer) → MakesSession world.table t.world.table t.executed answer → SitsIn t.world.table answer

  one_entry : (done entry : Entry) (executed : Option Entry) → executed ≡ Some done → executed ≡ Some entry → done ≡ entry
  one_entry done entry executed first second = let both : Some done ≡ Some entry = sym first ∙ second in cc

  turned_sits : (number now : ℕ) (t : Turned) → IsTurn world number now t → TurnSits t
  turned_sits number now _ Idles answer makes = absurd (makes.made refl)
  turned_sits number now _ (Says bytes xid reply waits) answer makes = absurd (makes.made refl)
  turned_sits number now _ (Closes request last begins ended) answer makes = absurd (makes.made (kept_serial request.slot true (result_of request last) world.table))
  turned_sits number now _ (Unread request operation reason goes) answer makes = absurd (makes.made (behind_serial number world request (Refused operation reason) None))
  turned_sits number now _ (TooBig request operation rest goes reads) answer makes =
      let outcome = Refused (operation_of operation) status.RepTooBig in
      absurd (makes.made (behind_serial number world (noting world world operation (read_of request rest)) outcome (Some (executed_entry world (read_of request rest) operation outcome world))))
  turned_sits number now _ (Gave request operation rest outcome after left goes reads ran) answer makes =
      let entry : Entry = executed_entry world (read_of request rest) operation outcome after in
      let noted : InProgress = noting world after operation left in
      let has = behind_has answer.session number after noted outcome (Some entry) in
      let serial = behind_serial number after noted outcome (Some entry) in
      let same : entry ≡ makes.entry = one_entry entry makes.entry _ has.1 makes.is in
      let asks : operation ≡ Argument.CreateSession makes.arguments = ap (λ (e : Entry). e.operation) same ∙ makes.asked in
      let told : outcome ≡ Done (Answer.CreateSession answer) = ap (λ (e : Entry). e.outcome) same ∙ makes.answered in
      let ran_so : run world (read_of request rest) now (Argument.CreateSession makes.arguments) ≡ Gives outcome after left =
      subst (λ (o : Argument). run world (read_of request rest) now o ≡ Gives outcome after left) asks ran in
      let sits : SitsIn after.table answer = (subst RanSits ran_so (run_sits (read_of request rest) now makes.arguments)) answer told (λ e. makes.made (serial ∙ e)) in
      subst (λ (b : Bool). (answer.flags ≡ 1) ↔ (b ≡ true)) (sym has.0) sits
  turned_sits number now _ (Repeats request operation rest result session slot goes reads ran) answer makes = absurd (makes.made refl)

  no_entry : {T : Type 0} (entry : Entry) → None ≡ Some entry → T
  no_entry entry e = absurd (cc)

  event_sits : (event : Event) (answer : CreateSessionAnswer) → MakesSession world.table (effect_of world event).table (executed_of world event) answer
      → SitsIn (effect_of world event).table answer
  event_sits (Arrives connection piece) answer makes = no_entry makes.entry makes.is
  event_sits (Turns connection now) answer makes = turned_sits connection now (one world connection now) (turn_is world connection now) answer makes
  event_sits (HangsUp connection) answer makes = no_entry makes.entry makes.is
  event_sits (Connects connection) answer makes = no_entry makes.entry makes.is
  event_sits (Takes connection) answer makes = no_entry makes.entry makes.is

pub every_session_sits : EverySessionSits
every_session_sits limits stop up event answer makes =
    let seated = (stop_seated stop).up up in
    event_sits limits stop.serving.world (run_held limits stop.run stop.start stop.seats stop.serving stop.history stop.is_run) stop.run seated.1
    stop.history.stored stop.history.freed seated.0 event answer makes

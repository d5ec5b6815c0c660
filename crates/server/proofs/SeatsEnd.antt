-- A session that ends frees its seat: by what an event may be.
use Rattle.std.proofs.Common.{◌≡◌, ◌≢◌, ◌||◌, ◌&&◌, ℕ, ◌+◌, ◌<◌, ◌^◌, ◌==◌, Bool, true, false, not, cond, List, [], ◌∷◌, ◌++◌, map, filter, find, Option, None, Some, is_some, Result, Ok, Err, refl, sym, ap, ap₂, ◌∙◌, subst, arith, bytes_eq}
use Rattle.std.specs.List.{list_any}
use Rattle.std.proofs.lemmas.Bool.{true≢false, or_parts, or_right}
use Rattle.std.proofs.lemmas.Slice.Eq.{bytes_eq-Decides}
use Rattle.model_tree.proofs.Facts.BytesLaws.{bytes_apart, bytes_same}
use Rattle.model_tree.specs.Refusals.Refusal.{first_refusal}
use Rattle.model_tree.specs.Seats.Seats.{Seat, Seats, is_seat_of, seat_of, has_seat, freed_if, freed, seated, SeatsApart}
use Rattle.model_tree.specs.declared.status.Status.{Status}
use Rattle.model_tree.specs.declared.status.Status.TheVariants as status
use Rattle.model.specs.Operations.Answer.{Answer, Outcome, Done, Refused, ExchangeIdAnswer, CreateSessionAnswer}
use Rattle.model.specs.Operations.Operation.{Argument, CreateSessionArguments, SequenceArguments, operation_of}
use Rattle.model.specs.Server.Runs.{Event, Arrives, Turns, HangsUp, Connects, Takes, Stored, effect_of, executed_of, is_done}
use Rattle.model.specs.Server.World.{ServerLimits, World, InProgress, HasRun, Gives, Replays, Entry, exchanged, created_by, tabled, started_in, begun, reclaimed, run, executed_entry, Turned, with_result, result_of, kept_by, is_to_hold, closes, behind, is_last, one, arrives, takes, connects, hangs_up, noting}
use Rattle.model.specs.Sessions.SeatRuns.{MakesSession, Stop}
use Rattle.model.specs.Sessions.Session as sessions
use Rattle.model.specs.Sessions.Session.{SessionLimits, Client, Session, Table, is_session, is_client, is_running, is_seat_among, is_done_with, is_oldest_dead, lacks_seat, gives_way, staying, seats_staying, new_seat, new_session, persists, with_slot, changed_where, create_refusals, create_unless, create_again, create_by, create_session, CreateSessionOutcome, next_number, destroy_by, destroy_session, exchange_id, destroy_client_id, reclaim_complete, finish, finished_slot, started}
use Rattle.model.specs.Sessions.StateIds.{has_opens}
use Rattle.model.proofs.Server.ServedOnceLaws.{arrives_table, takes_table, connects_table, hangs_up_table}
use Rattle.model.proofs.Server.TurnCases.{IsTurn, Idles, Says, Closes, Unread, TooBig, Gave, Repeats, turn_is, read_of}
use Rattle.model.proofs.Sessions.SeatLaws.{seat_found, freed_seat, seated_other}
use Rattle.model.proofs.Sessions.SeatRunLaws.{stop_seated}
use Rattle.model.proofs.Sessions.SeatsFreed.{behind_has}
use Rattle.model.proofs.Sessions.SeatTables.{Seated, client_in_run, all_below, new_has_none}
use Rattle.model.proofs.Sessions.SlotLaw.{exchange_same, destroy_client_same, reclaim_same, serial_left}
use Rattle.model.proofs.Sessions.SlotsHeld.{Held, run_held}
use Rattle.model.proofs.Sessions.TableCalls.{Holds, either}
use Rattle.server.specs.LifeLaws.{IsNoMore, FreesEnded}

-- Lists

module _ {A : Type 0} (p : A → Bool) where
  any_mapped : (f : A → A) → ((x : A) → p (f x) ≡ p x) → (xs : List A) → list_any p (map f xs) ≡ list_any p xs
  any_mapped f same [] = refl
  any_mapped f same (x ∷ xs) = ap₂ (λ (a b : Bool). a || b) (same x) (any_mapped f same xs)

  none_ended : (xs : List A) (last : A) → list_any p (xs ++ last ∷ []) ≡ false → (list_any p xs ≡ false) × (p last ≡ false)
  none_ended [] last none = (refl, (or_parts (p last) false none).0)
  none_ended (x ∷ xs) last none =
      let parts = or_parts (p x) (list_any p (xs ++ last ∷ [])) none in
      let rest = none_ended xs last parts.1 in
      (ap (λ (b : Bool). b || list_any p xs) parts.0 ∙ rest.0, rest.1)

  none_found : (xs : List A) → find p xs ≡ None → list_any p xs ≡ false
  none_found [] none = refl
  none_found (x ∷ xs) none = by_test (p x) (none_found xs) none
    where
      by_test : (b : Bool) → (find p xs ≡ None → list_any p xs ≡ false) → cond b (Some x) (find p xs) ≡ None → (b || list_any p xs) ≡ false
      by_test true rest none = absurd (cc)
      by_test false rest none = rest none

  none_left : (xs : List A) → list_any p (filter (λ x. not (p x)) xs) ≡ false
  none_left [] = refl
  none_left (x ∷ xs) = by_test (none_left xs) (p x) refl
    where
      by_test : list_any p (filter (λ x. not (p x)) xs) ≡ false → (b : Bool) → p x ≡ b
          → list_any p (cond (not b) (x ∷ filter (λ x. not (p x)) xs) (filter (λ x. not (p x)) xs)) ≡ false
      by_test rest true is = rest
      by_test rest false is = ap (λ (b : Bool). b || list_any p (filter (λ x. not (p x)) xs)) is ∙ rest

-- of the sessions that a name takes away each has that name
named_so : (id name : List ℕ) (all : List Session) → list_any (is_session id) all ≡ true → list_any (is_session id) (filter (λ x. not (is_session name x)) all) ≡ false → name ≡ id
named_so id name [] was gone = absurd (true≢false (sym was))
named_so id name (first ∷ all) was gone = by_tests (named_so id name all) (is_session name first) (is_session id first) refl refl was gone
  where
    rest : List Session
    rest = filter (λ x. not (is_session name x)) all

    by_tests : (list_any (is_session id) all ≡ true → list_any (is_session id) rest ≡ false → name ≡ id) → (n i : Bool) → is_session name first ≡ n → is_session id first ≡ i
        → (i || list_any (is_session id) all) ≡ true → list_any (is_session id) (cond (not n) (first ∷ rest) rest) ≡ false → name ≡ id
    by_tests later true true names is was gone =
        let bytes = sessions.session_id first.client first.serial in
        sym ((bytes_eq-Decides bytes name).0 names) ∙ (bytes_eq-Decides bytes id).0 is
    by_tests later true false names is was gone = later was gone
    by_tests later false true names is was gone = absurd (true≢false (sym is ∙ (or_parts (is_session id first) (list_any (is_session id) rest) gone).0))
    by_tests later false false names is was gone = later was (or_parts (is_session id first) (list_any (is_session id) rest) gone).1

-- What a turn does after a result keeps the sessions

abbrev any_of : List ℕ → Table → Bool
any_of id table = list_any (is_session id) table.sessions

slot_any : (id name : List ℕ) (change : Session → Session) → ((x : Session) → is_session id (change x) ≡ is_session id x) → (all : List Session)
    → list_any (is_session id) (changed_where (is_session name) change all) ≡ list_any (is_session id) all
slot_any id name change same all = any_mapped (is_session id) (λ x. cond (is_session name x) (change x) x) (λ x. by_test x (is_session name x)) all
  where
    by_test : (x : Session) (b : Bool) → is_session id (cond b (change x) x) ≡ is_session id x
    by_test x true = same x
    by_test x false = refl

-- the same sessions are there, and none was made
record IsSameTable (old new : Table) : Type 0 where
  any : (id : List ℕ) → any_of id new ≡ any_of id old
  serial : new.session_serial ≡ old.session_serial

kept_same : (slot : Option (List ℕ × ℕ)) (holds : Bool) (result : List ℕ) (table : Table) → IsSameTable table (kept_by slot holds result table)
unfolding finish
kept_same None holds result table = record { any = λ id. refl; serial = refl }
kept_same (Some slot) holds result table = record { any = λ id. slot_any id slot.0 (finished_slot slot.1 result) (λ x. refl) table.sessions; serial = refl }

closes_same : (number : ℕ) (after : World) (request : InProgress) (last : Status) (executed : Option Entry)
    → IsSameTable after.table (closes after number request last executed).world.table
closes_same number after request last executed =
    either (λ (t : Turned). IsSameTable after.table t.world.table) (is_to_hold request after.table) _ _
    (λ held. record { any = λ id. refl; serial = refl }) (λ none. kept_same request.slot false (result_of request last) after.table)

behind_same : (number : ℕ) (after : World) (request : InProgress) (outcome : Outcome) (executed : Option Entry)
    → IsSameTable after.table (behind after number request outcome executed).world.table
behind_same number after request (Refused operation reason) executed = closes_same number after (with_result request (Refused operation reason)) reason executed
behind_same number after request (Done answer) executed =
    either (λ (t : Turned). IsSameTable after.table t.world.table) (is_last request) _ _
    (λ last. closes_same number after (with_result request (Done answer)) status.Ok executed) (λ more. record { any = λ id. refl; serial = refl })

-- A seat that is freed

gone_of : (goes : Seat → Bool) (id : List ℕ) (seats : Seats) → SeatsApart seats → ((seat : Seat) → seat_of id seats ≡ Some seat → goes seat ≡ true)
    → has_seat id (freed goes seats) ≡ false
gone_of goes id seats apart each = ap is_some (freed_seat goes id seats apart) ∙ by_option (seat_of id seats) refl
  where
    by_option : (o : Option Seat) → seat_of id seats ≡ o → is_some (freed_if goes o) ≡ false
    by_option None is = refl
    by_option (Some seat) is = ap (λ (b : Bool). is_some (cond b None (Some seat))) (each seat is)

named_gone : (name : List ℕ) (seats : Seats) → SeatsApart seats → has_seat name (freed (is_seat_of name) seats) ≡ false
named_gone name seats apart = gone_of (is_seat_of name) name seats apart (λ seat is. bytes_same seat.session name (seat_found name seats seat is))

-- One entry

no_entry : {T : Type 0} (entry : Entry) → None ≡ Some entry → T
no_entry entry e = absurd (cc)

one_entry : (done entry : Entry) (executed : Option Entry) → executed ≡ Some done → executed ≡ Some entry → done ≡ entry
one_entry done entry executed first second = let both : Some done ≡ Some entry = sym first ∙ second in cc

-- What an operation ends

module _ (world : World) (apart : SeatsApart world.table.seats) where
  abbrev Ends : Table → Type 0
  Ends new = (id : List ℕ) → any_of id world.table ≡ true → any_of id new ≡ false → has_seat id new.seats ≡ false

  ends_none : (new : Table) → ((id : List ℕ) → any_of id new ≡ any_of id world.table) → Ends new
  ends_none new same id was gone = absurd (true≢false (sym was ∙ (sym (same id) ∙ gone)))

  ends_same : (new : Table) → new.sessions ≡ world.table.sessions → Ends new
  ends_same new same = ends_none new (λ id. ap (list_any (is_session id)) same)

  abbrev RanEnds : HasRun → Type 0
  RanEnds (Gives outcome after left) = Ends after.table
  RanEnds (Replays result session slot) = Unit {0}

  exchanged_ends : (request : InProgress) (r : Result ExchangeIdAnswer Status × Table) → Ends r.1 → RanEnds (exchanged world request r)
  exchanged_ends request (Err reason, table) ends = ends
  exchanged_ends request (Ok answer, table) ends = ends

  tabled_ends : (request : InProgress) (number : ℕ) (answer : Answer) (r : Option Status × Table) → Ends r.1 → RanEnds (tabled world request number answer r)
  tabled_ends request number answer (Some reason, table) ends = ends
  tabled_ends request number answer (None, table) ends = ends

  created_ends : (request : InProgress) (o : CreateSessionOutcome) (answer : Result CreateSessionAnswer Status) → Ends o.table → RanEnds (created_by world request o answer)
  created_ends request o (Err reason) ends = ends_same world.table refl
  created_ends request o (Ok answer) ends = ends

  reclaimed_ends : (request : InProgress) (refusal : Option Status) → RanEnds (reclaimed world request refusal)
  reclaimed_ends request None = ends_same world.table refl
  reclaimed_ends request (Some reason) = ends_same world.table refl

  begun_ends : (request : InProgress) (arguments : SequenceArguments) (b : sessions.Begun) → RanEnds (begun world request arguments b)
  unfolding started
  begun_ends request arguments (sessions.Refuses reason) = ends_same world.table refl
  begun_ends request arguments (sessions.Replays reply) = tt
  begun_ends request arguments sessions.Runs = by_session (find (is_session arguments.session) world.table.sessions)
    where
      by_session : (known : Option Session) → RanEnds (started_in world request arguments known)
      by_session None = ends_same world.table refl
      by_session (Some session) = ends_none (started request.context.cred.uid arguments world.table)
          (λ id. slot_any id arguments.session (with_slot arguments.slot (record { last = arguments.sequence; uid = request.context.cred.uid; state = sessions.Running })) (λ x. refl) world.table.sessions)

  -- DESTROY_SESSION

  destroy_ends : (name : List ℕ) (known : Option Session) → Ends (destroy_by name world.table known).1
  destroy_ends name None =
      either (λ (r : Option Status × Table). Ends r.1) (has_seat name world.table.seats) _ _ (λ has. ends_same (sessions.without_seat name world.table) refl) (λ none. ends_same world.table refl)
  destroy_ends name (Some session) =
      either (λ (r : Option Status × Table). Ends r.1) (is_running session) _ _
      (λ runs. ends_same world.table refl)
      (λ rests id was gone.
      subst (λ (n : List ℕ). has_seat n (freed (is_seat_of name) world.table.seats) ≡ false) (named_so id name world.table.sessions was gone) (named_gone name world.table.seats apart))

  abbrev Destroys : List ℕ → Option Status × Table → Type 0
  Destroys name r = r.0 ≡ None → IsNoMore name r.1

  refused_not : {T : Type 0} (reason : Status) → Some reason ≡ None → T
  refused_not reason e = absurd (cc)

  destroy_leaves : (name : List ℕ) (known : Option Session) → find (is_session name) world.table.sessions ≡ known → Destroys name (destroy_by name world.table known)
  destroy_leaves name None found =
      either (Destroys name) (has_seat name world.table.seats) _ _
      (λ has done. (none_found (is_session name) world.table.sessions found, named_gone name world.table.seats apart)) (λ none done. refused_not status.BadSession done)
  destroy_leaves name (Some session) found =
      either (Destroys name) (is_running session) _ _
      (λ runs done. refused_not status.Delay done)
      (λ rests done. (none_left (is_session name) world.table.sessions, named_gone name world.table.seats apart))

  abbrev RanDestroys : List ℕ → HasRun → Type 0
  RanDestroys name (Gives outcome after left) = is_done outcome ≡ true → IsNoMore name after.table
  RanDestroys name (Replays result session slot) = Unit {0}

  tabled_destroys : (name : List ℕ) (request : InProgress) (number : ℕ) (answer : Answer) (r : Option Status × Table) → Destroys name r → RanDestroys name (tabled world request number answer r)
  tabled_destroys name request number answer (Some reason, table) leaves = λ done. absurd (true≢false (sym done))
  tabled_destroys name request number answer (None, table) leaves = λ done. leaves refl

  run_destroys : (request : InProgress) (now : ℕ) (name : List ℕ) → RanDestroys name (run world request now (Argument.DestroySession name))
  unfolding run destroy_session
  run_destroys request now name = tabled_destroys name request _ _ _ (destroy_leaves name (find (is_session name) world.table.sessions) refl)

  -- CREATE_SESSION

  module _ (limits : SessionLimits) (arguments : CreateSessionArguments) where
    abbrev CreatesSo : CreateSessionOutcome → Type 0
    CreatesSo o = Ends o.table

    module _ (client : Client) where
      abbrev left_there : Seats
      left_there = seats_staying arguments client world.table

      -- the client is done with the seat of a session that ends
      done_with : (id : List ℕ) (seat : Seat) → seat_of id world.table.seats ≡ Some seat → any_of id world.table ≡ true → list_any (is_session id) (staying client world.table) ≡ false
          → is_done_with client world.table seat ≡ true
      done_with id seat there was gone =
          let named = seat_found id world.table.seats seat there in
          ap (λ (b : Bool). cond b (not (is_seat_among (staying client world.table) seat)) (bytes_eq seat.owner client.owner && seat.principal == client.principal))
          (ap (λ (name : List ℕ). any_of name world.table) named ∙ was)
          ∙ ap not (ap (λ (name : List ℕ). list_any (is_session name) (staying client world.table)) named ∙ gone)

      gives_done : (seat : Seat) → is_done_with client world.table seat ≡ true → gives_way arguments client world.table seat ≡ true
      gives_done seat done = or_right (lacks_seat arguments client world.table && is_oldest_dead world.table seat) (is_done_with client world.table seat) done

      none_seated : (id : List ℕ) → has_seat id left_there ≡ false → bytes_eq (new_seat limits arguments client world.table).session id ≡ false → (b : Bool)
          → has_seat id (cond b (seated (new_seat limits arguments client world.table) left_there) left_there) ≡ false
      none_seated id none other true = ap is_some (seated_other (new_seat limits arguments client world.table) id left_there other) ∙ none
      none_seated id none other false = none

      unless_ends : (refusal : Option Status) → CreatesSo (create_unless limits arguments client world.table refusal)
      unless_ends (Some reason) id was gone = ends_same world.table refl id was gone
      unless_ends None id was gone =
          let parts = none_ended (is_session id) (staying client world.table) (new_session limits arguments client world.table) gone in
          none_seated id
          (gone_of (gives_way arguments client world.table) id world.table.seats apart (λ seat there. gives_done seat (done_with id seat there was parts.0)))
          parts.1 (persists arguments client world.table)

      again_ends : (kept : Option CreateSessionAnswer) → CreatesSo (create_again limits arguments client world.table kept)
      again_ends None = unless_ends (first_refusal (create_refusals limits arguments client world.table))
      again_ends (Some answer) =
          either CreatesSo (next_number arguments.sequence == client.sequence) _ _
          (λ same. ends_same world.table refl) (λ other. unless_ends (first_refusal (create_refusals limits arguments client world.table)))

    create_ends : (uid : ℕ) → CreatesSo (create_session limits uid arguments world.table)
    unfolding create_session
    create_ends uid = by_client (find (is_client arguments.client) world.table.clients)
      where
        by_client : (known : Option Client) → CreatesSo (create_by limits uid arguments world.table known)
        by_client None = ends_same world.table refl
        by_client (Some client) = either CreatesSo (client.principal == uid) _ _ (λ own. again_ends client client.kept) (λ other. ends_same world.table refl)

  run_ends : (request : InProgress) (now : ℕ) (operation : Argument) → RanEnds (run world request now operation)
  unfolding run destroy_session
  run_ends request now (Argument.ExchangeId arguments) =
      let opens = has_opens world.opens in
      let uid = request.context.cred.uid in
      exchanged_ends request _ (ends_same (exchange_id world.limits.sessions opens uid arguments world.table).1 (exchange_same world.limits.sessions opens uid arguments world.table).sessions)
  run_ends request now (Argument.CreateSession arguments) =
      created_ends request (create_session world.limits.sessions request.context.cred.uid arguments world.table) _ (create_ends world.limits.sessions arguments request.context.cred.uid)
  run_ends request now (Argument.DestroySession name) = tabled_ends request _ _ _ (destroy_ends name (find (is_session name) world.table.sessions))
  run_ends request now (Argument.DestroyClientId client) = tabled_ends request _ _ _ (ends_same (destroy_client_id (has_opens world.opens) client world.table).1 (destroy_client_same (has_opens world.opens) client world.table).sessions)
  run_ends request now (Argument.Sequence arguments) = begun_ends request arguments _
  run_ends request now (Argument.ReclaimComplete true) = reclaimed_ends request _
  run_ends request now (Argument.ReclaimComplete false) = tabled_ends request _ _ _ (ends_same (reclaim_complete request.context.client world.table).1 (reclaim_same request.context.client world.table).sessions)
  run_ends request now operation = ends_same world.table refl

  -- An event

  turned_ends : (number now : ℕ) (t : Turned) → IsTurn world number now t → Ends t.world.table
  turned_ends number now _ Idles = ends_same world.table refl
  turned_ends number now _ (Says bytes xid reply waits) = ends_same world.table refl
  turned_ends number now _ (Closes request last begins ended) =
      ends_none (kept_by request.slot true (result_of request last) world.table) (kept_same request.slot true (result_of request last) world.table).any
  turned_ends number now _ (Unread request operation reason goes) =
      ends_none (behind world number request (Refused operation reason) None).world.table (behind_same number world request (Refused operation reason) None).any
  turned_ends number now _ (TooBig request operation rest goes reads) =
      let outcome = Refused (operation_of operation) status.RepTooBig in
      let executed = Some (executed_entry world (read_of request rest) operation outcome world) in
      let noted : InProgress = noting world world operation (read_of request rest) in
      ends_none (behind world number noted outcome executed).world.table (behind_same number world noted outcome executed).any
  turned_ends number now _ (Gave request operation rest outcome after left goes reads ran) =
      let entry : Entry = executed_entry world (read_of request rest) operation outcome after in λ id was gone.
      (behind_has id number after (noting world after operation left) outcome (Some entry)).0
      ∙ (subst RanEnds ran (run_ends (read_of request rest) now operation)) id was (sym ((behind_same number after (noting world after operation left) outcome (Some entry)).any id) ∙ gone)
  turned_ends number now _ (Repeats request operation rest result session slot goes reads ran) = ends_same world.table refl

  ends_table : (after : World) → after.table ≡ world.table → Ends after.table
  ends_table after same = ends_same after.table (ap (λ (t : Table). t.sessions) same)

  event_ends : (event : Event) → Ends (effect_of world event).table
  event_ends (Arrives connection piece) = ends_table (arrives world connection piece) (arrives_table world connection piece)
  event_ends (Turns connection now) = turned_ends connection now (one world connection now) (turn_is world connection now)
  event_ends (HangsUp connection) = ends_table (hangs_up world connection) (hangs_up_table world connection)
  event_ends (Connects connection) = ends_table (connects world connection) (connects_table world connection)
  event_ends (Takes connection) = ends_table (takes world connection) (takes_table world connection)

  -- .. that destroys one

  abbrev TurnDestroys : Turned → Type 0
  TurnDestroys t = (entry : Entry) (id : List ℕ) → t.executed ≡ Some entry → entry.operation ≡ Argument.DestroySession id → is_done entry.outcome ≡ true → IsNoMore id t.world.table

  turned_destroys : (number now : ℕ) (t : Turned) → IsTurn world number now t → TurnDestroys t
  turned_destroys number now _ Idles entry id is asked done = no_entry entry is
  turned_destroys number now _ (Says bytes xid reply waits) entry id is asked done = no_entry entry is
  turned_destroys number now _ (Closes request last begins ended) entry id is asked done = no_entry entry is
  turned_destroys number now _ (Unread request operation reason goes) entry id is asked done =
      no_entry entry (sym (behind_has id number world request (Refused operation reason) None).1 ∙ is)
  turned_destroys number now _ (TooBig request operation rest goes reads) entry id is asked done =
      let outcome = Refused (operation_of operation) status.RepTooBig in
      let ran : Entry = executed_entry world (read_of request rest) operation outcome world in
      let same = one_entry ran entry _ (behind_has id number world (noting world world operation (read_of request rest)) outcome (Some ran)).1 is in
      absurd (true≢false (sym done ∙ ap (λ (e : Entry). is_done e.outcome) (sym same)))
  turned_destroys number now _ (Gave request operation rest outcome after left goes reads ran) entry id is asked done =
      let made : Entry = executed_entry world (read_of request rest) operation outcome after in
      let has = behind_has id number after (noting world after operation left) outcome (Some made) in
      let same = one_entry made entry _ has.1 is in
      let asks : operation ≡ Argument.DestroySession id = ap (λ (e : Entry). e.operation) same ∙ asked in
      let ran_so : run world (read_of request rest) now (Argument.DestroySession id) ≡ Gives outcome after left =
      subst (λ (o : Argument). run world (read_of request rest) now o ≡ Gives outcome after left) asks ran in
      let leaves = (subst (RanDestroys id) ran_so (run_destroys (read_of request rest) now id)) (ap (λ (e : Entry). is_done e.outcome) same ∙ done) in
      ((behind_same number after (noting world after operation left) outcome (Some made)).any id ∙ leaves.0, has.0 ∙ leaves.1)
  turned_destroys number now _ (Repeats request operation rest result session slot goes reads ran) entry id is asked done = no_entry entry is

  event_destroys : (event : Event) (entry : Entry) (id : List ℕ) → executed_of world event ≡ Some entry → entry.operation ≡ Argument.DestroySession id → is_done entry.outcome ≡ true
      → IsNoMore id (effect_of world event).table
  event_destroys (Arrives connection piece) entry id is asked done = no_entry entry is
  event_destroys (Turns connection now) entry id is asked done = turned_destroys connection now (one world connection now) (turn_is world connection now) entry id is asked done
  event_destroys (HangsUp connection) entry id is asked done = no_entry entry is
  event_destroys (Connects connection) entry id is asked done = no_entry entry is
  event_destroys (Takes connection) entry id is asked done = no_entry entry is

-- What a new session takes the place of

module _ (limits : SessionLimits) (stored : List Stored) (gone : List (List ℕ)) (world : World) (holds : Holds limits world.table) (is : Seated world.table.run world.table stored gone)
    (arguments : CreateSessionArguments) (client : Client) (found : find (is_client arguments.client) world.table.clients ≡ Some client) where
  abbrev Replaces : Table → Type 0
  Replaces new = new.session_serial ≢ world.table.session_serial → (id : List ℕ) (seat : Seat) → seat_of id world.table.seats ≡ Some seat → is_done_with client world.table seat ≡ true
      → has_seat id new.seats ≡ false

  makes_none : (new : Table) → new.session_serial ≡ world.table.session_serial → Replaces new
  makes_none new same made id seat there done = absurd (made same)

  other_seat : world.table.session_serial + 1 < 2 ^ 64 → (id : List ℕ) (seat : Seat) → seat_of id world.table.seats ≡ Some seat
      → bytes_eq (new_seat limits arguments client world.table).session id ≡ false
  other_seat small id seat there =
      let new = (new_seat limits arguments client world.table).session in
      let none : has_seat new world.table.seats ≡ false =
      new_has_none world.table.run world.table stored gone is (new_session limits arguments client world.table) refl
      (client_in_run limits world.table.run world.table.client_serial world.table.clients holds.0 arguments.client client found) small
      (all_below limits world.table.session_serial world.table.sessions holds.1) in
      bytes_apart new id (λ same. true≢false (sym (ap is_some there) ∙ (ap (λ (name : List ℕ). has_seat name world.table.seats) (sym same) ∙ none)))

  unless_replaces : (refusal : Option Status) → first_refusal (create_refusals limits arguments client world.table) ≡ refusal
      → Replaces (create_unless limits arguments client world.table refusal).table
  unless_replaces (Some reason) e made id seat there done = makes_none world.table refl made id seat there done
  unless_replaces None e made id seat there done =
      let room = serial_left limits arguments client world.table e in
      none_seated world is.apart limits arguments client id
      (gone_of (gives_way arguments client world.table) id world.table.seats is.apart
      (λ other also. gives_done world is.apart limits arguments client other
      (ap (is_done_with client world.table) (same_of (seat_of id world.table.seats) other seat also there) ∙ done)))
      (other_seat (omega (arith, room)) id seat there) (persists arguments client world.table)
    where
      same_of : (o : Option Seat) (first second : Seat) → o ≡ Some first → o ≡ Some second → first ≡ second
      same_of o first second a b = let both : Some first ≡ Some second = sym a ∙ b in cc

  again_replaces : (kept : Option CreateSessionAnswer) → Replaces (create_again limits arguments client world.table kept).table
  again_replaces None = unless_replaces (first_refusal (create_refusals limits arguments client world.table)) refl
  again_replaces (Some answer) =
      either (λ (o : CreateSessionOutcome). Replaces o.table) (next_number arguments.sequence == client.sequence) _ _
      (λ same. makes_none world.table refl) (λ other. unless_replaces (first_refusal (create_refusals limits arguments client world.table)) refl)

  create_replaces : (uid : ℕ) → Replaces (create_session limits uid arguments world.table).table
  unfolding create_session
  create_replaces uid =
      subst (λ (known : Option Client). Replaces (create_by limits uid arguments world.table known).table) (sym found)
      (either (λ (o : CreateSessionOutcome). Replaces o.table) (client.principal == uid) _ _ (λ own. again_replaces client.kept) (λ other. makes_none world.table refl))

  abbrev RanReplaces : HasRun → Type 0
  RanReplaces (Gives outcome after left) = Replaces after.table
  RanReplaces (Replays result session slot) = Unit {0}

  created_replaces : (request : InProgress) (o : CreateSessionOutcome) (answer : Result CreateSessionAnswer Status) → Replaces o.table → RanReplaces (created_by world request o answer)
  created_replaces request o (Err reason) replaces = makes_none world.table refl
  created_replaces request o (Ok answer) replaces = replaces

module _ (limits : ServerLimits) (world : World) (held : Held limits world) (its_run : ℕ) (run_is : world.table.run ≡ its_run)
    (stored : List Stored) (gone : List (List ℕ)) (is : Seated its_run world.table stored gone) where
  abbrev TurnReplaces : Turned → Type 0
  TurnReplaces t = (answer : CreateSessionAnswer) (makes : MakesSession world.table t.world.table t.executed answer) (client : Client)
      → find (is_client makes.arguments.client) world.table.clients ≡ Some client → (id : List ℕ) (seat : Seat) → seat_of id world.table.seats ≡ Some seat
      → is_done_with client world.table seat ≡ true → has_seat id t.world.table.seats ≡ false

  holds_now : Holds world.limits.sessions world.table
  holds_now = subst (λ (l : ServerLimits). Holds l.sessions world.table) (sym held.limits_are) held.holds

  seated_now : Seated world.table.run world.table stored gone
  seated_now = subst (λ (r : ℕ). Seated r world.table stored gone) (sym run_is) is

  abbrev Replaced : (arguments : CreateSessionArguments) (client : Client) → find (is_client arguments.client) world.table.clients ≡ Some client → HasRun → Type 0
  Replaced = RanReplaces world.limits.sessions stored gone world holds_now seated_now

  run_replaces : (request : InProgress) (now : ℕ) (arguments : CreateSessionArguments) (client : Client) (found : find (is_client arguments.client) world.table.clients ≡ Some client)
      → Replaced arguments client found (run world request now (Argument.CreateSession arguments))
  unfolding run
  run_replaces request now arguments client found =
      let outcome = create_session world.limits.sessions request.context.cred.uid arguments world.table in
      created_replaces world.limits.sessions stored gone world holds_now seated_now arguments client found request outcome outcome.answer
      (create_replaces world.limits.sessions stored gone world holds_now seated_now arguments client found request.context.cred.uid)

  turned_replaces : (number now : ℕ) (t : Turned) → IsTurn world number now t → TurnReplaces t
  turned_replaces number now _ Idles answer makes client found id seat there done = absurd (makes.made refl)
  turned_replaces number now _ (Says bytes xid reply waits) answer makes client found id seat there done = absurd (makes.made refl)
  turned_replaces number now _ (Closes request last begins ended) answer makes client found id seat there done =
      absurd (makes.made (kept_same request.slot true (result_of request last) world.table).serial)
  turned_replaces number now _ (Unread request operation reason goes) answer makes client found id seat there done =
      absurd (makes.made (behind_same number world request (Refused operation reason) None).serial)
  turned_replaces number now _ (TooBig request operation rest goes reads) answer makes client found id seat there done =
      let outcome = Refused (operation_of operation) status.RepTooBig in
      absurd (makes.made (behind_same number world (noting world world operation (read_of request rest)) outcome (Some (executed_entry world (read_of request rest) operation outcome world))).serial)
  turned_replaces number now _ (Gave request operation rest outcome after left goes reads ran) answer makes client found id seat there done =
      let entry : Entry = executed_entry world (read_of request rest) operation outcome after in
      let has = behind_has id number after (noting world after operation left) outcome (Some entry) in
      let serial = (behind_same number after (noting world after operation left) outcome (Some entry)).serial in
      let same : entry ≡ makes.entry = one_entry entry makes.entry _ has.1 makes.is in
      let asks : operation ≡ Argument.CreateSession makes.arguments = ap (λ (e : Entry). e.operation) same ∙ makes.asked in
      let ran_so : run world (read_of request rest) now (Argument.CreateSession makes.arguments) ≡ Gives outcome after left =
      subst (λ (o : Argument). run world (read_of request rest) now o ≡ Gives outcome after left) asks ran in
      has.0 ∙ (subst (Replaced makes.arguments client found) ran_so (run_replaces (read_of request rest) now makes.arguments client found)) (λ e. makes.made (serial ∙ e)) id seat there done
  turned_replaces number now _ (Repeats request operation rest result session slot goes reads ran) answer makes client found id seat there done = absurd (makes.made refl)

  event_replaces : (event : Event) (answer : CreateSessionAnswer) (makes : MakesSession world.table (effect_of world event).table (executed_of world event) answer) (client : Client)
      → find (is_client makes.arguments.client) world.table.clients ≡ Some client → (id : List ℕ) (seat : Seat) → seat_of id world.table.seats ≡ Some seat
      → is_done_with client world.table seat ≡ true → has_seat id (effect_of world event).table.seats ≡ false
  event_replaces (Arrives connection piece) answer makes client found id seat there done = no_entry makes.entry makes.is
  event_replaces (Turns connection now) answer makes client found id seat there done =
      turned_replaces connection now (one world connection now) (turn_is world connection now) answer makes client found id seat there done
  event_replaces (HangsUp connection) answer makes client found id seat there done = no_entry makes.entry makes.is
  event_replaces (Connects connection) answer makes client found id seat there done = no_entry makes.entry makes.is
  event_replaces (Takes connection) answer makes client found id seat there done = no_entry makes.entry makes.is

pub frees_ended : (limits : ServerLimits) (stop : Stop limits) → stop.serving.is_down ≡ false → (event : Event)
    → FreesEnded stop.serving.world.table (effect_of stop.serving.world event).table (executed_of stop.serving.world event)
frees_ended limits stop up event =
    let seated_now = (stop_seated stop).up up in
    let world = stop.serving.world in
    let held = run_held limits stop.run stop.start stop.seats stop.serving stop.history stop.is_run in
    record {
      destroyed = event_destroys world seated_now.0.apart event;
      ended = event_ends world seated_now.0.apart event;
      replaced = event_replaces limits world held stop.run seated_now.1 stop.history.stored stop.history.freed seated_now.0 event;
    }

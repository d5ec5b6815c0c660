-- One event makes the same of what somebody sees of a world.
use Rattle.std.proofs.Common.{◌≡◌, ◌+◌, ◌-◌, ◌^◌, ◌++◌, ◌==◌, ℕ, suc, Bool, true, false, cond, not, ◌&&◌, ◌||◌, nat_lt, nat_le, List, [], ◌∷◌, Option, Some, None, Result, Ok, Err, find, length, replicate, refl, sym, ap, ap₂, ◌∙◌, subst, inl, inr, eqb-true}
use Rattle.std.specs.Prelude.{option_map, is_some}
use Rattle.std.specs.Int.{w32, to_be_bytes}
use Rattle.std.proofs.lemmas.List.{length-append, length-map}
use Rattle.xdr.specs.Forms.{counted, padded, padding, code_of}
use Rattle.xdr.specs.Grammar.{number, number_at}
use Rattle.xdr.specs.declared.refusal.Refusal.{Refusal}
use Rattle.model.specs.Wire.WireArguments.{arguments_at}
use Rattle.model_tree.specs.declared.status.Status.{Status}
use Rattle.model_tree.specs.declared.status.Status.TheVariants as status
use Rattle.model_tree.specs.Refusals.Status.{code_of as status_code}
use Rattle.model_tree.specs.Seats.Seats.{has_seat}
use Rattle.model_tree.specs.Trees.Keyed.{Keyed, at, with, without, here_or, before_or_behind, in_place_of, kept_or_not}
use Rattle.model_tree.specs.Trees.Tree.{Tree}
use Rattle.model.specs.Operations.Answer.{Answer, Outcome, ExchangeIdAnswer, CreateSessionAnswer}
use Rattle.model.specs.Operations.Operation.{Argument, SequenceArguments, operation_of}
use Rattle.model.specs.Operations.OperationNumber.{OP_READ, OP_EXCHANGE_ID, OP_CREATE_SESSION, OP_DESTROY_SESSION, OP_SEQUENCE, OP_DESTROY_CLIENTID, OP_RECLAIM_COMPLETE}
use Rattle.model.specs.Operations.Step.{State, Stepped, does}
use Rattle.model_tree.specs.Refusals.Refusal.{Refusals, first_refusal}
use Rattle.model.specs.Server.Runs.{Event, Arrives, Turns, HangsUp, Connects, Takes, effect_of}
use Rattle.model.specs.Server.RuledOut.{request_in, request_by}
use Rattle.model.specs.Server.World.{World, InProgress, Connection, Quiet, Waiting, Busy, Replied, Closed, Next, Refuses, Reads, next_operation, by_number, by_arguments, first_or, tests_of, is_last, HasRun, Gives, Replays, status_of, refuses, exchanged, created_by, session_created, tabled, started_in, begun, reclaimed, state_of, stepped, run, outcome_text, has_room, in_room, Entry, Turned, with_result, kept_by, ends, goes_on, is_seated, is_to_hold, closes, behind, has_run, executed_entry, operates, in_progress, requested, called, further, turned, one, arrives_at, connection_changed, arrives, reply_in, reply_at, without_reply, takes, can_connect, connects, is_busy, without_connection, hangs_up, with_connection, with_table, is_unstable}
use Rattle.model.specs.Sessions.Session as sessions
use Rattle.model.specs.Sessions.Session.{Session, Slot, Table, holds_reply}
use Rattle.model.specs.Sessions.StateIds.{has_opens, without_clients}
use Rattle.model.specs.Wire.Record.{prefix, framed}
use Rattle.model.specs.Wire.Rpc.{CallRead, NoCall, OtherVersion, Calls, read_call, Request, Answers, Runs, request_of, Success, compound_text, reply_text, words}
use Rattle.secrecy.specs.Blind.{hidden, MayReadNone}
use Rattle.model_tree.specs.Rights.Acl.{read_data}
use Rattle.model.specs.Operations.Need.{granted_on}
use Rattle.secrecy.proofs.Alike.{same_grant}
use Rattle.secrecy.specs.Onlookers.{TurnIsApart, after, EveryRunIsBlind, EveryReplyIsBlind, Onlooker, seen_bytes, seen_session, seen_table, seen_connection, seen_connections, seen_world, going_on, IsApart}
use Rattle.secrecy.proofs.BlindLaws.{AreAlike, ReadsAlike, Near, each_is_near, each_is_blind, current_same}
use Rattle.secrecy.proofs.Hiding.{hidden-twice}
use Rattle.secrecy.proofs.SeenTables.{seen-length, seen-same, seen-twice, table-twice, lifted, with_table_in, exchange-seen, create-seen, destroy-seen, destroy-client-seen, reclaim-seen, seen_begun, begin-seen, started-seen, finished-seen, has-seat-seen, find-seen}

-- Lengths

pub appended : {A : Type 0} (a b c d : List A) → length a ≡ length c → length b ≡ length d → length (a ++ b) ≡ length (c ++ d)
appended a b c d first second = length-append a b ∙ (ap₂ (λ (n m : ℕ). n + m) first second ∙ sym (length-append c d))

long-behind : {A : Type 0} (prefix one other : List A) → length one ≡ length other → length (prefix ++ one) ≡ length (prefix ++ other)
long-behind prefix one other long = appended prefix one prefix other refl long

counted-long : (one other : List ℕ) → length one ≡ length other → length (counted one) ≡ length (counted other)
unfolding counted padded
counted-long one other long =
    let none : ℕ = 0 in
    appended (number w32 (length one)) (one ++ replicate (padding (length one)) none) (number w32 (length other)) (other ++ replicate (padding (length other)) none)
    (ap (λ (n : ℕ). length (number w32 n)) long)
    (appended one (replicate (padding (length one)) none) other (replicate (padding (length other)) none) long (ap (λ (n : ℕ). length (replicate (padding n) none)) long))

read-long : (is_end : Bool) (one other : List ℕ) → length one ≡ length other
    → length (outcome_text (Outcome.Done (Answer.Read (record { is_end = is_end; data_bytes = one }))))
    ≡ length (outcome_text (Outcome.Done (Answer.Read (record { is_end = is_end; data_bytes = other }))))
unfolding outcome_text
read-long is_end one other long =
    long-behind (number w32 OP_READ) _ _ (long-behind (number w32 0) _ _ (long-behind (number w32 (code_of is_end)) _ _ (counted-long one other long)))

pub text-long : (one other : Outcome) → AreAlike one other → length (outcome_text one) ≡ length (outcome_text other)
text-long one other (inl same) = ap (λ (o : Outcome). length (outcome_text o)) same
text-long one other (inr reads) =
    ap (λ (o : Outcome). length (outcome_text o)) reads.one_is
    ∙ (read-long reads.is_end reads.first reads.second reads.long ∙ sym (ap (λ (o : Outcome). length (outcome_text o)) reads.other_is))

status-same : (one other : Outcome) → AreAlike one other → status_of one ≡ status_of other
status-same one other (inl same) = ap status_of same
status-same one other (inr reads) = ap status_of reads.one_is ∙ sym (ap status_of reads.other_is)

compound-long : (last : Status) (tag : List ℕ) (count : ℕ) (one other : List ℕ) → length one ≡ length other
    → length (compound_text last tag count one) ≡ length (compound_text last tag count other)
unfolding compound_text
compound-long last tag count one other long =
    long-behind (number w32 (status_code last)) _ _ (long-behind (counted tag) _ _ (long-behind (number w32 count) one other long))

reply-long : (xid : ℕ) (one other : List ℕ) → length one ≡ length other → length (reply_text xid (Success one)) ≡ length (reply_text xid (Success other))
unfolding reply_text
reply-long xid one other long = long-behind (words (xid ∷ 1 ∷ [])) _ _ (long-behind (words (0 ∷ 0 ∷ 0 ∷ 0 ∷ [])) one other long)

framed-long : (one other : List ℕ) → length one ≡ length other → length (framed one) ≡ length (framed other)
unfolding framed
framed-long one other long = appended (to_be_bytes w32 (2 ^ 31 + length one)) one (to_be_bytes w32 (2 ^ 31 + length other)) other (ap (λ (n : ℕ). length (to_be_bytes w32 (2 ^ 31 + n))) long) long

-- Connections

connection-twice : (his : Bool) (connection : Connection) → seen_connection his (seen_connection his connection) ≡ seen_connection his connection
connection-twice his (Quiet bytes) = refl
connection-twice his (Waiting request) = refl
connection-twice his (Busy request) = ap (λ (bytes : List ℕ). Busy (record request { results = bytes })) (seen-twice his request.results)
connection-twice his (Replied reply) = ap Replied (seen-twice his reply)
connection-twice his Closed = refl

module _ (who : Onlooker) where
  abbrev pub look : World → World
  look = seen_world who

  abbrev pub shown : ℕ → Connection → Connection
  shown number connection = seen_connection (who.has_connection number) connection

  pub at-seen : (connections : Keyed Connection) (number : ℕ) → at number (seen_connections who connections) ≡ option_map (shown number) (at number connections)
  at-seen [] number = refl
  at-seen (entry ∷ rest) number = by_key (at-seen rest number) (number == entry.0) refl
    where
      by_key : at number (seen_connections who rest) ≡ option_map (shown number) (at number rest) → (b : Bool) → (number == entry.0) ≡ b
          → here_or b (shown entry.0 entry.1) (at number (seen_connections who rest)) ≡ option_map (shown number) (here_or b entry.1 (at number rest))
      by_key others true same = ap (λ (n : ℕ). Some (shown n entry.1)) (sym (eqb-true number entry.0 same))
      by_key others false apart = others

  with-seen : (connections : Keyed Connection) (number : ℕ) (new : Connection)
      → seen_connections who (with connections number new) ≡ with (seen_connections who connections) number (shown number new)
  with-seen [] number new = refl
  with-seen (entry ∷ rest) number new = by_key (with-seen rest number new) (number == entry.0) (nat_lt number entry.0)
    where
      by_key : seen_connections who (with rest number new) ≡ with (seen_connections who rest) number (shown number new) → (same less : Bool)
          → seen_connections who (in_place_of same (number, new) rest (before_or_behind less (number, new) entry rest (with rest number new)))
          ≡ in_place_of same (number, shown number new) (seen_connections who rest)
          (before_or_behind less (number, shown number new) (entry.0, shown entry.0 entry.1) (seen_connections who rest) (with (seen_connections who rest) number (shown number new)))
      by_key others true less = refl
      by_key others false true = refl
      by_key others false false = ap (λ (t : Keyed Connection). (entry.0, shown entry.0 entry.1) ∷ t) others

  without-seen : (connections : Keyed Connection) (number : ℕ) → seen_connections who (without connections number) ≡ without (seen_connections who connections) number
  without-seen [] number = refl
  without-seen (entry ∷ rest) number = by_key (without-seen rest number) (number == entry.0)
    where
      by_key : seen_connections who (without rest number) ≡ without (seen_connections who rest) number → (same : Bool)
          → seen_connections who (kept_or_not same entry (without rest number))
          ≡ kept_or_not same (entry.0, shown entry.0 entry.1) (without (seen_connections who rest) number)
      by_key others true = others
      by_key others false = ap (λ (t : Keyed Connection). (entry.0, shown entry.0 entry.1) ∷ t) others

  length-seen : (connections : Keyed Connection) → length (seen_connections who connections) ≡ length connections
  length-seen [] = refl
  length-seen (entry ∷ rest) = ap suc (length-seen rest)

  connections-twice : (connections : Keyed Connection) → seen_connections who (seen_connections who connections) ≡ seen_connections who connections
  connections-twice [] = refl
  connections-twice (entry ∷ rest) =
      ap₂ (λ (c : Connection) (t : Keyed Connection). (entry.0, c) ∷ t) (connection-twice (who.has_connection entry.0) entry.1) (connections-twice rest)

  pub world-twice : (world : World) → look (look world) ≡ look world
  world-twice world =
      ap₂ (λ (table : Table) (connections : Keyed Connection). record (look (look world)) { table = table; connections = connections })
      (table-twice who world.table) (connections-twice world.connections)
      ∙ ap (λ (tree : Tree). record (look world) { tree = tree }) (hidden-twice who.secret world.tree)

  -- Two worlds of which he sees the same

  set-connection : (one other : World) (number : ℕ) (new last : Connection) → look one ≡ look other → shown number new ≡ shown number last
      → look (with_connection one number new) ≡ look (with_connection other number last)
  set-connection one other number new last same seen =
      ap (λ (connections : Keyed Connection). record (look one) { connections = connections }) (with-seen one.connections number new)
      ∙ (ap₂ (λ (world : World) (c : Connection). record world { connections = with world.connections number c }) same seen
      ∙ ap (λ (connections : Keyed Connection). record (look other) { connections = connections }) (sym (with-seen other.connections number last)))

  set-table : (one other : World) (new last : Table) → look one ≡ look other → seen_table who new ≡ seen_table who last → look (with_table one new) ≡ look (with_table other last)
  set-table one other new last same seen = ap₂ (λ (world : World) (table : Table). record world { table = table }) same seen

  seat-same : (one other : World) → look one ≡ look other → (id : List ℕ) → has_seat id one.table.seats ≡ has_seat id other.table.seats
  seat-same one other same id =
      sym (has-seat-seen who id one.table.seats) ∙ (ap (λ (w : World). has_seat id w.table.seats) same ∙ has-seat-seen who id other.table.seats)

  replied-same : (number : ℕ) (one other : List ℕ) → (who.has_connection number ≡ true → one ≡ other) → length one ≡ length other → shown number (Replied one) ≡ shown number (Replied other)
  replied-same number one other same long = ap Replied (seen-same (who.has_connection number) one other same long)

  -- A turn on this connection

  module _ (number now : ℕ) where
    abbrev pub his : Bool
    his = who.has_connection number

    abbrev pub IsOwn : InProgress → Type 0
    IsOwn request = (slot : List ℕ × ℕ) → request.slot ≡ Some slot → who.has_session slot.0 ≡ his

    -- a request with other results, of the same number of bytes
    abbrev pub but : List ℕ → InProgress → InProgress
    but bytes request = record request { results = bytes }

    record AsMany (bytes : List ℕ) (request : InProgress) : Type 0 where
      same : his ≡ true → bytes ≡ request.results
      long : length bytes ≡ length request.results
      own : IsOwn request

    replies-as : (one other : World) (left right : List ℕ) (xid : ℕ) → look one ≡ look other → (his ≡ true → left ≡ right) → length left ≡ length right
        → look (with_connection one number (Replied (framed (reply_text xid (Success left))))) ≡ look (with_connection other number (Replied (framed (reply_text xid (Success right)))))
    replies-as one other left right xid worlds same long =
        set-connection one other number _ _ worlds
        (replied-same number _ _ (λ is. ap (λ (bytes : List ℕ). framed (reply_text xid (Success bytes))) (same is)) (framed-long _ _ (reply-long xid left right long)))

    goes-on-as : (one other : World) (bytes : List ℕ) (request : InProgress) → AsMany bytes request → look one ≡ look other
        → look (with_connection one number (Busy (but bytes request))) ≡ look (with_connection other number (Busy request))
    goes-on-as one other bytes request are worlds =
        set-connection one other number _ _ worlds (ap (λ (b : List ℕ). Busy (but b request)) (seen-same his bytes request.results are.same are.long))

    kept-as : (one other : Table) (holds : Bool) (slot : Option (List ℕ × ℕ)) (left right : List ℕ) → seen_table who one ≡ seen_table who other
        → ((its : List ℕ × ℕ) → slot ≡ Some its → who.has_session its.0 ≡ his) → (his ≡ true → left ≡ right) → length left ≡ length right
        → seen_table who (kept_by slot holds left one) ≡ seen_table who (kept_by slot holds right other)
    kept-as one other holds None left right tables own same long = tables
    kept-as one other holds (Some slot) left right tables own same long =
        let by : who.has_session slot.0 ≡ true → left ≡ right = λ is. same (sym (own slot refl) ∙ is) in
        sym (finished-seen who slot.0 slot.1 left left (λ _. refl) refl holds one)
        ∙ (ap (λ (table : Table). seen_table who (sessions.finish slot.0 slot.1 holds left table)) tables
        ∙ finished-seen who slot.0 slot.1 left right by long holds other)

    ends-as : (one other : World) (bytes : List ℕ) (request : InProgress) (last : Status) (holds : Bool) (before after : Option Entry) → AsMany bytes request → look one ≡ look other
        → look (ends one number (but bytes request) last holds before).world ≡ look (ends other number request last holds after).world
    ends-as one other bytes request last holds before after are worlds =
        let left = compound_text last request.tag request.answered bytes in
        let right = compound_text last request.tag request.answered request.results in
        let same : his ≡ true → left ≡ right = λ is. ap (compound_text last request.tag request.answered) (are.same is) in
        let long : length left ≡ length right = compound-long last request.tag request.answered bytes request.results are.long in
        replies-as (with_table one (kept_by request.slot holds left one.table)) (with_table other (kept_by request.slot holds right other.table)) left right request.xid
        (set-table one other _ _ worlds (kept-as one.table other.table holds request.slot left right (ap (λ (w : World). w.table) worlds) are.own same long)) same long

    hold-same : (one other : World) (bytes : List ℕ) (request : InProgress) → look one ≡ look other → is_to_hold (but bytes request) one.table ≡ is_to_hold request other.table
    hold-same one other bytes request worlds =
        ap₂ (λ (a b : Bool). a && b) (ap (λ (w : World). holds_reply w.table.settings.holding request.altered) worlds) (by_slot request.slot)
      where
        by_slot : (slot : Option (List ℕ × ℕ)) → is_seated slot one.table.seats ≡ is_seated slot other.table.seats
        by_slot None = refl
        by_slot (Some slot) = seat-same one other worlds slot.0

    abbrev closing : World → ℕ → InProgress → Status → Option Entry → Bool → Turned
    closing world place asked last entry b =
        cond b (goes_on world place (record asked { ended = Some last }) entry) (ends world place asked last false entry)

    closes-as : (one other : World) (bytes : List ℕ) (request : InProgress) (last : Status) (before after : Option Entry) → AsMany bytes request → look one ≡ look other
        → look (closes one number (but bytes request) last before).world ≡ look (closes other number request last after).world
    closes-as one other bytes request last before after are worlds =
        ap (λ (b : Bool). look (closing one number (but bytes request) last before b).world) (hold-same one other bytes request worlds) ∙ by_cases (is_to_hold request other.table)
      where
        by_cases : (b : Bool) → look (closing one number (but bytes request) last before b).world ≡ look (closing other number request last after b).world
        by_cases true = goes-on-as one other bytes (record request { ended = Some last }) (record { same = are.same; long = are.long; own = are.own }) worlds
        by_cases false = ends-as one other bytes request last false before after are worlds

    -- after a result

    results-as : (bytes : List ℕ) (request : InProgress) (one other : Outcome) → AsMany bytes request → AreAlike one other → (his ≡ true → one ≡ other)
        → AsMany (bytes ++ outcome_text one) (with_result request other)
    results-as bytes request one other are alike equal = record {
      same = λ is. ap₂ (λ (before : List ℕ) (o : Outcome). before ++ outcome_text o) (are.same is) (equal is);
      long = appended bytes (outcome_text one) request.results (outcome_text other) are.long (text-long one other alike);
      own = are.own;
    }

    last-or-not : (one other : World) (bytes : List ℕ) (request : InProgress) (before after : Option Entry) → AsMany bytes request → look one ≡ look other → (b : Bool)
        → look (cond b (closes one number (but bytes request) status.Ok before) (goes_on one number (but bytes request) before)).world
        ≡ look (cond b (closes other number request status.Ok after) (goes_on other number request after)).world
    last-or-not one other bytes request before after are worlds true = closes-as one other bytes request status.Ok before after are worlds
    last-or-not one other bytes request before after are worlds false = goes-on-as one other bytes request are worlds

    behind-same : (one other : World) (bytes : List ℕ) (request : InProgress) (outcome : Outcome) (before after : Option Entry) → AsMany bytes request → look one ≡ look other
        → look (behind one number (but bytes request) outcome before).world ≡ look (behind other number request outcome after).world
    behind-same one other bytes request (Outcome.Refused operation reason) before after are worlds =
        let refused = Outcome.Refused operation reason in
        closes-as one other (bytes ++ outcome_text refused) (with_result request refused) reason before after
        (results-as bytes request refused refused are (inl refl) (λ _. refl)) worlds
    behind-same one other bytes request (Outcome.Done answer) before after are worlds =
        let done = Outcome.Done answer in
        last-or-not one other (bytes ++ outcome_text done) (with_result request done) before after
        (results-as bytes request done done are (inl refl) (λ _. refl)) worlds (is_last request)

    behind-read : (one other : World) (bytes : List ℕ) (request : InProgress) (left right : Answer) (before after : Option Entry) → AsMany bytes request → look one ≡ look other
        → AreAlike (Outcome.Done left) (Outcome.Done right) → (his ≡ true → Outcome.Done left ≡ Outcome.Done right)
        → look (behind one number (but bytes request) (Outcome.Done left) before).world ≡ look (behind other number request (Outcome.Done right) after).world
    behind-read one other bytes request left right before after are worlds alike equal =
        last-or-not one other (bytes ++ outcome_text (Outcome.Done left)) (with_result request (Outcome.Done right)) before after
        (results-as bytes request (Outcome.Done left) (Outcome.Done right) are alike equal) worlds (is_last request)

    behind-as : (one other : World) (bytes : List ℕ) (request : InProgress) (left right : Outcome) (before after : Option Entry) → AsMany bytes request → look one ≡ look other
        → AreAlike left right → (his ≡ true → left ≡ right)
        → look (behind one number (but bytes request) left before).world ≡ look (behind other number request right after).world
    behind-as one other bytes request left right before after are worlds (inl same) equal =
        ap (λ (o : Outcome). look (behind one number (but bytes request) o before).world) same ∙ behind-same one other bytes request right before after are worlds
    behind-as one other bytes request left right before after are worlds (inr reads) equal =
        let first : Answer = Answer.Read (record { is_end = reads.is_end; data_bytes = reads.first }) in
        let second : Answer = Answer.Read (record { is_end = reads.is_end; data_bytes = reads.second }) in
        let alike : ReadsAlike (Outcome.Done first) (Outcome.Done second)
        = record { is_end = reads.is_end; first = reads.first; second = reads.second; one_is = refl; other_is = refl; long = reads.long } in
        ap (λ (o : Outcome). look (behind one number (but bytes request) o before).world) reads.one_is
        ∙ (behind-read one other bytes request first second before after are worlds (inr alike) (λ is. sym reads.one_is ∙ (equal is ∙ reads.other_is))
        ∙ sym (ap (λ (o : Outcome). look (behind other number request o after).world) reads.other_is))

    -- What an operation does

    record Gave (bytes : List ℕ) (left right : Outcome) (one other : World) (begun after : InProgress) : Type 0 where
      alike : AreAlike left right
      equal : his ≡ true → left ≡ right
      worlds : look one ≡ look other
      request : begun ≡ but bytes after
      are : AsMany bytes after

    abbrev RunsAs : List ℕ → HasRun → HasRun → Type 0
    RunsAs bytes (Gives left one begun) (Gives right other after) = Gave bytes left right one other begun after
    RunsAs bytes (Gives left one begun) (Replays right session slot) = ⊥
    RunsAs bytes (Replays left session slot) (Gives right other after) = ⊥
    RunsAs bytes (Replays left session slot) (Replays right id place) = (his ≡ true → left ≡ right) × (length left ≡ length right)

    gave : (bytes : List ℕ) (outcome : Outcome) (one other : World) (request : InProgress) → AsMany bytes request → look one ≡ look other
        → RunsAs bytes (Gives outcome one (but bytes request)) (Gives outcome other request)
    gave bytes outcome one other request are worlds = record { alike = inl refl; equal = λ _. refl; worlds = worlds; request = refl; are = are }

    module _ (world : World) (bytes : List ℕ) (request : InProgress) (are : AsMany bytes request) where
      abbrev over : World
      over = look world

      abbrev asked : InProgress
      asked = but bytes request

      table-as : (table : Table) → look (with_table over (seen_table who table)) ≡ look (with_table world table)
      table-as table = set-table over world (seen_table who table) table (world-twice world) (table-twice who table)

      refuses-as : (operation : ℕ) (reason : Status) → RunsAs bytes (refuses over asked operation reason) (refuses world request operation reason)
      refuses-as operation reason = gave bytes (Outcome.Refused operation reason) over world request are (world-twice world)

      exchanged-as : (result : Result ExchangeIdAnswer Status × Table) → RunsAs bytes (exchanged over asked (lifted who result)) (exchanged world request result)
      exchanged-as (Err reason, table) = gave bytes (Outcome.Refused OP_EXCHANGE_ID reason) _ _ request are (table-as table)
      exchanged-as (Ok answer, table) = gave bytes (Outcome.Done (Answer.ExchangeId answer)) _ _ request are (table-as table)

      tabled-as : (operation : ℕ) (answer : Answer) (result : Option Status × Table) → RunsAs bytes (tabled over asked operation answer (lifted who result)) (tabled world request operation answer result)
      tabled-as operation answer (Some reason, table) = gave bytes (Outcome.Refused operation reason) _ _ request are (table-as table)
      tabled-as operation answer (None, table) = gave bytes (Outcome.Done answer) _ _ request are (table-as table)

      created-as : (outcome : sessions.CreateSessionOutcome) (answer : Result CreateSessionAnswer Status)
          → RunsAs bytes (created_by over asked (with_table_in who outcome) answer) (created_by world request outcome answer)
      created-as outcome (Err reason) = refuses-as OP_CREATE_SESSION reason
      created-as outcome (Ok answer) =
          gave bytes (Outcome.Done (Answer.CreateSession answer)) _ _ request are
          (ap (λ (w : World). record w { opens = without_clients outcome.ended_clients world.opens }) (table-as outcome.table))

      reclaimed-as : (refusal : Option Status) → RunsAs bytes (reclaimed over asked refusal) (reclaimed world request refusal)
      reclaimed-as None = gave bytes (Outcome.Done Answer.ReclaimComplete) over world request are (world-twice world)
      reclaimed-as (Some reason) = refuses-as OP_RECLAIM_COMPLETE reason

      -- SEQUENCE

      started-as : (arguments : SequenceArguments) (known : Option Session) → who.has_session arguments.session ≡ his
          → RunsAs bytes (started_in over asked arguments (option_map (seen_session who) known)) (started_in world request arguments known)
      started-as arguments None own = refuses-as OP_SEQUENCE status.BadSession
      started-as arguments (Some session) own = record {
        alike = inl (ap (λ (count : ℕ). Outcome.Done (Answer.Sequence (record (sessions.sequence_answer arguments session) { highest_slot = count - 1; target_highest_slot = count - 1 }))) count);
        equal = λ _. ap (λ (count : ℕ). Outcome.Done (Answer.Sequence (record (sessions.sequence_answer arguments session) { highest_slot = count - 1; target_highest_slot = count - 1 }))) count;
        worlds = set-table over world _ _ (world-twice world)
            (ap (seen_table who) (started-seen who request.context.cred.uid arguments world.table) ∙ table-twice who (sessions.started request.context.cred.uid arguments world.table));
        request = refl;
        are = record { same = are.same; long = are.long; own = λ slot is. ap (λ (s : Option (List ℕ × ℕ)). who.has_session (id_in s)) (sym is) ∙ own };
      }
        where
          count : length (seen_session who session).slots ≡ length session.slots
          count = length-map session.slots _

          id_in : Option (List ℕ × ℕ) → List ℕ
          id_in None = []
          id_in (Some slot) = slot.0

      begun-as : (arguments : SequenceArguments) (result : sessions.Begun) → who.has_session arguments.session ≡ his
          → RunsAs bytes (begun over asked arguments (seen_begun who (who.has_session arguments.session) result)) (begun world request arguments result)
      begun-as arguments (sessions.Refuses reason) own = refuses-as OP_SEQUENCE reason
      begun-as arguments (sessions.Replays reply) own = (
        λ is. ap (λ (b : Bool). seen_bytes b reply) (own ∙ is),
        seen-length (who.has_session arguments.session) reply,
      )
      begun-as arguments sessions.Runs own =
          subst (λ (known : Option Session). RunsAs bytes (started_in over asked arguments known) (started_in world request arguments (find (sessions.is_session arguments.session) world.table.sessions)))
          (sym (find-seen who arguments.session world.table.sessions))
          (started-as arguments (find (sessions.is_session arguments.session) world.table.sessions) own)

      -- an operation on the tree

      stepped-as : (one other : Stepped) → Near who.secret one other → (his ≡ true → one.outcome ≡ other.outcome) → RunsAs bytes (stepped over asked one) (stepped world request other)
      stepped-as one other near equal = record {
        alike = near.outcome;
        equal = equal;
        worlds =
            ap (λ (w : World). record w { tree = hidden who.secret one.state.tree; changes = one.state.changes; opens = one.state.opens }) (world-twice world)
            ∙ ap (λ (s : State). record over { tree = s.tree; changes = s.changes; opens = s.opens }) near.state;
        request = ap (λ (s : State). but bytes (record request { context = s.context })) near.state;
        are = record { same = are.same; long = are.long; own = are.own };
      }

      does-as : (operation : Argument) → (his ≡ true → MayReadNone who.secret world.tree request.context.cred)
          → RunsAs bytes (stepped over asked (does world.limits.volume (state_of over asked) now operation)) (stepped world request (does world.limits.volume (state_of world request) now operation))
      does-as operation blind =
          stepped-as _ _ (each_is_near world.limits.volume who.secret (state_of world request) now operation)
          (λ is. ap (λ (s : Stepped). s.outcome) (each_is_blind world.limits.volume who.secret (state_of world request) now operation (blind is)))

      -- any operation

      abbrev AsksApart : Argument → Type 0
      AsksApart operation = (arguments : SequenceArguments) → operation ≡ Argument.Sequence arguments → who.has_session arguments.session ≡ his

      run-as : (operation : Argument) → (his ≡ true → MayReadNone who.secret world.tree request.context.cred) → AsksApart operation
          → RunsAs bytes (run over asked now operation) (run world request now operation)
      unfolding run
      run-as (Argument.ExchangeId arguments) blind own =
          subst (λ (result : Result ExchangeIdAnswer Status × Table). RunsAs bytes (exchanged over asked result) (run world request now (Argument.ExchangeId arguments)))
          (sym (exchange-seen who world.limits.sessions (has_opens world.opens) request.context.cred.uid arguments world.table)) (exchanged-as _)
      run-as (Argument.CreateSession arguments) blind own =
          let made = sessions.create_session world.limits.sessions request.context.cred.uid arguments world.table in
          subst (λ (outcome : sessions.CreateSessionOutcome). RunsAs bytes (session_created over asked outcome) (run world request now (Argument.CreateSession arguments)))
          (sym (create-seen who world.limits.sessions request.context.cred.uid arguments world.table)) (created-as made made.answer)
      run-as (Argument.DestroySession id) blind own =
          subst (λ (result : Option Status × Table). RunsAs bytes (tabled over asked OP_DESTROY_SESSION Answer.DestroySession result) (run world request now (Argument.DestroySession id)))
          (sym (destroy-seen who id world.table)) (tabled-as OP_DESTROY_SESSION Answer.DestroySession _)
      run-as (Argument.DestroyClientId client) blind own =
          subst (λ (result : Option Status × Table). RunsAs bytes (tabled over asked OP_DESTROY_CLIENTID Answer.DestroyClientId result) (run world request now (Argument.DestroyClientId client)))
          (sym (destroy-client-seen who (has_opens world.opens) client world.table)) (tabled-as OP_DESTROY_CLIENTID Answer.DestroyClientId _)
      run-as (Argument.Sequence arguments) blind own =
          subst (λ (result : sessions.Begun). RunsAs bytes (begun over asked arguments result) (run world request now (Argument.Sequence arguments)))
          (sym (begin-seen who request.context.cred.uid request.count arguments world.table)) (begun-as arguments _ (own arguments refl))
      run-as (Argument.ReclaimComplete true) blind own =
          subst (λ (tests : Refusals). RunsAs bytes (reclaimed over asked (first_refusal tests)) (run world request now (Argument.ReclaimComplete true)))
          (sym (current_same world.limits.volume who.secret (state_of world request))) (reclaimed-as _)
      run-as (Argument.ReclaimComplete false) blind own =
          subst (λ (result : Option Status × Table). RunsAs bytes (tabled over asked OP_RECLAIM_COMPLETE Answer.ReclaimComplete result) (run world request now (Argument.ReclaimComplete false)))
          (sym (reclaim-seen who request.context.client world.table)) (tabled-as OP_RECLAIM_COMPLETE Answer.ReclaimComplete _)
      run-as (Argument.Access rights) blind own = does-as (Argument.Access rights) blind
      run-as (Argument.Close arguments) blind own = does-as (Argument.Close arguments) blind
      run-as (Argument.Commit arguments) blind own = does-as (Argument.Commit arguments) blind
      run-as (Argument.Create arguments) blind own = does-as (Argument.Create arguments) blind
      run-as (Argument.GetAttr bitmap) blind own = does-as (Argument.GetAttr bitmap) blind
      run-as Argument.GetFh blind own = does-as Argument.GetFh blind
      run-as (Argument.Lookup name) blind own = does-as (Argument.Lookup name) blind
      run-as Argument.LookupParent blind own = does-as Argument.LookupParent blind
      run-as (Argument.Open arguments) blind own = does-as (Argument.Open arguments) blind
      run-as (Argument.PutFh handle) blind own = does-as (Argument.PutFh handle) blind
      run-as Argument.PutRootFh blind own = does-as Argument.PutRootFh blind
      run-as (Argument.Read arguments) blind own = does-as (Argument.Read arguments) blind
      run-as (Argument.ReadDir arguments) blind own = does-as (Argument.ReadDir arguments) blind
      run-as (Argument.Remove name) blind own = does-as (Argument.Remove name) blind
      run-as (Argument.Rename arguments) blind own = does-as (Argument.Rename arguments) blind
      run-as Argument.RestoreFh blind own = does-as Argument.RestoreFh blind
      run-as Argument.SaveFh blind own = does-as Argument.SaveFh blind
      run-as (Argument.SetAttr arguments) blind own = does-as (Argument.SetAttr arguments) blind
      run-as (Argument.Write arguments) blind own = does-as (Argument.Write arguments) blind

      -- whether the result has room in the reply

      room-same : (left right : Outcome) → AreAlike left right → has_room over asked left ≡ has_room world request right
      room-same left right alike =
          let one = compound_text (status_of left) request.tag (request.answered + 1) (bytes ++ outcome_text left) in
          let other = compound_text (status_of right) request.tag (request.answered + 1) (request.results ++ outcome_text right) in
          let long : length one ≡ length other
          = ap (λ (last : Status). length (compound_text last request.tag (request.answered + 1) (bytes ++ outcome_text left))) (status-same left right alike)
          ∙ compound-long (status_of right) request.tag (request.answered + 1) _ _ (appended bytes (outcome_text left) request.results (outcome_text right) are.long (text-long left right alike)) in
          ap (λ (n : ℕ). nat_le n world.limits.reply_bytes) (reply-long request.xid one other long)

      room-as : (operation : ℕ) (one other : HasRun) → RunsAs bytes one other → RunsAs bytes (in_room over asked operation one) (in_room world request operation other)
      room-as operation (Gives (Outcome.Refused number reason) left begun) (Gives (Outcome.Refused other_number other_reason) right after) gave = gave
      room-as operation (Gives (Outcome.Refused number reason) left begun) (Gives (Outcome.Done answer) right after) gave = absurd (mixed_first gave.alike)
        where
          mixed_first : AreAlike (Outcome.Refused number reason) (Outcome.Done answer) → ⊥
          mixed_first (inl same) = cc
          mixed_first (inr reads) = let is = reads.one_is in cc
      room-as operation (Gives (Outcome.Done answer) left begun) (Gives (Outcome.Refused number reason) right after) gave = absurd (mixed_last gave.alike)
        where
          mixed_last : AreAlike (Outcome.Done answer) (Outcome.Refused number reason) → ⊥
          mixed_last (inl same) = cc
          mixed_last (inr reads) = let is = reads.other_is in cc
      room-as operation (Gives (Outcome.Done answer) left begun) (Gives (Outcome.Done other) right after) gave =
          subst (λ (b : Bool). RunsAs bytes (cond b (Gives (Outcome.Done answer) left begun) (refuses over asked operation status.RepTooBig)) (in_room world request operation (Gives (Outcome.Done other) right after)))
          (sym (room-same (Outcome.Done answer) (Outcome.Done other) gave.alike)) (by_room (has_room world request (Outcome.Done other)))
        where
          by_room : (b : Bool)
              → RunsAs bytes (cond b (Gives (Outcome.Done answer) left begun) (refuses over asked operation status.RepTooBig))
              (cond b (Gives (Outcome.Done other) right after) (refuses world request operation status.RepTooBig))
          by_room true = gave
          by_room false = refuses-as operation status.RepTooBig
      room-as operation (Gives outcome left begun) (Replays right id place) never = absurd never
      room-as operation (Replays left session slot) (Gives outcome other after) never = absurd never
      room-as operation (Replays left session slot) (Replays right id place) same = same

      -- the turn after it

      ran-as : (operation : Argument) (one other : HasRun) → RunsAs bytes one other
          → look (has_run over number asked operation one).world ≡ look (has_run world number request operation other).world
      ran-as operation (Gives left first begun) (Gives right second after) gave =
          let note : ℕ → InProgress → InProgress
          = λ count held. record held { altered = held.altered || (not (world.changes == count) && not (is_unstable operation)) } in
          let before = Some (executed_entry over asked operation left first) in
          ap (λ (held : InProgress). look (behind first number (note first.changes held) left before).world) gave.request
          ∙ (ap (λ (count : ℕ). look (behind first number (note count (but bytes after)) left before).world) (ap (λ (w : World). w.changes) gave.worlds)
          ∙ behind-as first second bytes (note second.changes after) left right before (Some (executed_entry world request operation right second))
          (record { same = gave.are.same; long = gave.are.long; own = gave.are.own }) gave.worlds gave.alike gave.equal)
      ran-as operation (Gives outcome left begun) (Replays right id place) never = absurd never
      ran-as operation (Replays left session slot) (Gives outcome other after) never = absurd never
      ran-as operation (Replays left session slot) (Replays right id place) same =
          replies-as over world left right request.xid (world-twice world) same.0 same.1

    reads_on : (world : World) (bytes : List ℕ) (request : InProgress) → AsMany bytes request → (operation : Argument)
        → (his ≡ true → MayReadNone who.secret world.tree request.context.cred)
        → ((arguments : SequenceArguments) → operation ≡ Argument.Sequence arguments → who.has_session arguments.session ≡ his)
        → look (has_run (look world) number (but bytes request) operation (in_room (look world) (but bytes request) (operation_of operation) (run (look world) (but bytes request) now operation))).world
        ≡ look (has_run world number request operation (in_room world request (operation_of operation) (run world request now operation))).world
    reads_on world bytes request are operation blind own =
        ran-as world bytes request are operation _ _ (room-as world bytes request are (operation_of operation) _ _ (run-as world bytes request are operation blind own))

    operates-as : (world : World) (bytes : List ℕ) (request : InProgress) → AsMany bytes request → (next : Next)
        → (his ≡ true → MayReadNone who.secret world.tree request.context.cred)
        → ((arguments : SequenceArguments) (rest : List ℕ) → next ≡ Reads (Argument.Sequence arguments) rest → who.has_session arguments.session ≡ his)
        → look (operates (look world) number now (but bytes request) next).world ≡ look (operates world number now request next).world
    operates-as world bytes request are (Refuses operation reason) blind own =
        behind-same (look world) world bytes request (Outcome.Refused operation reason) None None are (world-twice world)
    operates-as world bytes request are (Reads operation rest) blind own =
        reads_on world bytes (record request { rest = rest }) (record { same = are.same; long = are.long; own = are.own })
        operation blind (λ arguments is. own arguments rest (ap (λ (o : Argument). Reads o rest) is))

    -- what it reads next does not depend on results

    by_number-same : (bytes : List ℕ) (request : InProgress) (read : Result (ℕ × List ℕ) Refusal) → by_number (but bytes request) read ≡ by_number request read
    by_number-same bytes request (Err fault) = refl
    by_number-same bytes request (Ok read) = ap (first_or (tests_of request read.0)) (by_read (arguments_at read.0 read.1))
      where
        by_read : (given : Result (Argument × List ℕ) Refusal) → by_arguments (but bytes request) read.0 given ≡ by_arguments request read.0 given
        by_read (Err fault) = refl
        by_read (Ok given) = refl

    next-same : (bytes : List ℕ) (request : InProgress) → next_operation (but bytes request) ≡ next_operation request
    unfolding next_operation
    next-same bytes request = by_number-same bytes request (number_at w32 request.rest)

    further-as : (world : World) (request : InProgress) (ended : Option Status) → IsApart who world number request
        → look (further (look world) number now (but (seen_bytes his request.results) request) ended).world ≡ look (further world number now request ended).world
    further-as world request ended apart = by_end ended
      where
        bytes : List ℕ
        bytes = seen_bytes his request.results

        are : AsMany (seen_bytes his request.results) request
        are = record {
          same = λ is. ap (λ (b : Bool). seen_bytes b request.results) is;
          long = seen-length his request.results;
          own = apart.runs_in;
        }

        by_end : (ended : Option Status)
            → look (further (look world) number now (but (seen_bytes his request.results) request) ended).world ≡ look (further world number now request ended).world
        by_end None =
            ap (λ (next : Next). look (operates (look world) number now (but (seen_bytes his request.results) request) next).world)
            (next-same (seen_bytes his request.results) request)
            ∙ operates-as world (seen_bytes his request.results) request are (next_operation request) apart.blind apart.asks_for
        by_end (Some last) = ends-as (look world) world (seen_bytes his request.results) request last true None None are (world-twice world)

    requested-as : (world : World) (xid : ℕ) (asks : Request) → ((request : InProgress) → request_by world xid asks ≡ Some request → IsApart who world number request)
        → look (requested (look world) number now xid asks).world ≡ look (requested world number now xid asks).world
    requested-as world xid (Answers reply) apart = set-connection (look world) world number _ _ (world-twice world) refl
    requested-as world xid (Runs cred compound) apart =
        let request = in_progress world xid cred compound in
        let alone = apart request refl in
        operates-as world [] request (record { same = λ _. refl; long = refl; own = alone.runs_in }) (next_operation request) alone.blind alone.asks_for

    called-as : (world : World) (call : CallRead) → ((request : InProgress) → request_in world call ≡ Some request → IsApart who world number request)
        → look (called (look world) number now call).world ≡ look (called world number now call).world
    called-as world NoCall apart = world-twice world
    called-as world (OtherVersion xid) apart = set-connection (look world) world number _ _ (world-twice world) refl
    called-as world (Calls call) apart = requested-as world call.xid (request_of call) apart

    turned-as : (world : World) (connection : Option Connection)
        → ((request : InProgress) → going_on world connection ≡ Some request → IsApart who world number request)
        → look (turned (look world) number now (option_map (shown number) connection)).world ≡ look (turned world number now connection).world
    turned-as world None apart = world-twice world
    turned-as world (Some (Quiet bytes)) apart = world-twice world
    turned-as world (Some (Waiting bytes)) apart = called-as world (read_call bytes) apart
    turned-as world (Some (Busy request)) apart = further-as world request request.ended (apart request refl)
    turned-as world (Some (Replied reply)) apart = world-twice world
    turned-as world (Some Closed) apart = world-twice world

    one-as : (world : World) → ((request : InProgress) → going_on world (at number world.connections) ≡ Some request → IsApart who world number request)
        → look (one (look world) number now).world ≡ look (one world number now).world
    unfolding one
    one-as world apart =
        ap (λ (connection : Option Connection). look (turned (look world) number now connection).world) (at-seen world.connections number)
        ∙ turned-as world (at number world.connections) apart

  -- What comes, goes and is taken

  changed-as : (world : World) (number : ℕ) (change : Connection → Connection) (connection : Option Connection)
      → ((c : Connection) → shown number (change (shown number c)) ≡ shown number (change c))
      → look (connection_changed (look world) number change (option_map (shown number) connection)) ≡ look (connection_changed world number change connection)
  changed-as world number change None same = world-twice world
  changed-as world number change (Some connection) same = set-connection (look world) world number _ _ (world-twice world) (same connection)

  arrives-as : (world : World) (number : ℕ) (piece : List ℕ) → look (arrives (look world) number piece) ≡ look (arrives world number piece)
  unfolding arrives
  arrives-as world number piece =
      ap (λ (c : Option Connection). look (connection_changed (look world) number (arrives_at world.limits.records piece) c)) (at-seen world.connections number)
      ∙ changed-as world number (arrives_at world.limits.records piece) (at number world.connections) by_case
    where
      by_case : (c : Connection) → shown number (arrives_at world.limits.records piece (shown number c)) ≡ shown number (arrives_at world.limits.records piece c)
      by_case (Quiet bytes) = refl
      by_case (Waiting request) = refl
      by_case (Busy request) = connection-twice (who.has_connection number) (Busy request)
      by_case (Replied reply) = connection-twice (who.has_connection number) (Replied reply)
      by_case Closed = refl

  takes-as : (world : World) (number : ℕ) → look (takes (look world) number) ≡ look (takes world number)
  unfolding takes
  takes-as world number =
      ap (λ (c : Option Connection). look (connection_changed (look world) number without_reply c)) (at-seen world.connections number)
      ∙ changed-as world number without_reply (at number world.connections) by_case
    where
      by_case : (c : Connection) → shown number (without_reply (shown number c)) ≡ shown number (without_reply c)
      by_case (Quiet bytes) = refl
      by_case (Waiting request) = refl
      by_case (Busy request) = connection-twice (who.has_connection number) (Busy request)
      by_case (Replied reply) = refl
      by_case Closed = refl

  connects-as : (world : World) (number : ℕ) → look (connects (look world) number) ≡ look (connects world number)
  unfolding connects
  connects-as world number =
      ap (λ (b : Bool). look (cond b (with_connection (look world) number (Quiet [])) (look world))) can_same ∙ by_case (can_connect world number)
    where
      key_same : (there : Option Connection) → is_some (option_map (shown number) there) ≡ is_some there
      key_same None = refl
      key_same (Some connection) = refl

      can_same : can_connect (look world) number ≡ can_connect world number
      can_same =
          ap₂ (λ (key : Bool) (count : ℕ). not key && nat_lt count world.limits.connections)
          (ap is_some (at-seen world.connections number) ∙ key_same (at number world.connections)) (length-seen world.connections)

      by_case : (b : Bool) → look (cond b (with_connection (look world) number (Quiet [])) (look world)) ≡ look (cond b (with_connection world number (Quiet [])) world)
      by_case true = set-connection (look world) world number _ _ (world-twice world) refl
      by_case false = world-twice world

  gone-as : (world : World) (number : ℕ) → look (without_connection (look world) number) ≡ look (without_connection world number)
  gone-as world number =
      ap (λ (c : Keyed Connection). record (look (look world)) { connections = c }) (without-seen (seen_connections who world.connections) number)
      ∙ (ap (λ (w : World). record w { connections = without w.connections number }) (world-twice world)
      ∙ ap (λ (c : Keyed Connection). record (look world) { connections = c }) (sym (without-seen world.connections number)))

  hangs-up-as : (world : World) (number : ℕ) → look (hangs_up (look world) number) ≡ look (hangs_up world number)
  unfolding hangs_up
  hangs-up-as world number =
      ap (λ (b : Bool). look (cond b (look world) (without_connection (look world) number))) (ap is_busy (at-seen world.connections number) ∙ busy_same (at number world.connections))
      ∙ by_case (is_busy (at number world.connections))
    where
      busy_same : (there : Option Connection) → is_busy (option_map (shown number) there) ≡ is_busy there
      busy_same None = refl
      busy_same (Some (Quiet bytes)) = refl
      busy_same (Some (Waiting request)) = refl
      busy_same (Some (Busy request)) = refl
      busy_same (Some (Replied reply)) = refl
      busy_same (Some Closed) = refl

      by_case : (b : Bool) → look (cond b (look world) (without_connection (look world) number)) ≡ look (cond b world (without_connection world number))
      by_case true = world-twice world
      by_case false = gone-as world number

  -- One event

  pub event-as : (world : World) (event : Event) → TurnIsApart who world event → look (effect_of (look world) event) ≡ look (effect_of world event)
  event-as world (Arrives number piece) apart = arrives-as world number piece
  event-as world (Turns number now) apart = one-as number now world apart
  event-as world (HangsUp number) apart = hangs-up-as world number
  event-as world (Connects number) apart = connects-as world number
  event-as world (Takes number) apart = takes-as world number

  -- What is apart in one world is apart in each of which he sees the same

  module _ (number : ℕ) where
    abbrev seen_request : InProgress → InProgress
    seen_request request = record request { results = seen_bytes (who.has_connection number) request.results }

    empty-seen : (his : Bool) → seen_bytes his [] ≡ []
    empty-seen true = refl
    empty-seen false = refl

    request-by-seen : (world : World) (xid : ℕ) (asks : Request) → request_by (look world) xid asks ≡ option_map seen_request (request_by world xid asks)
    request-by-seen world xid (Answers reply) = refl
    request-by-seen world xid (Runs cred compound) =
        ap (λ (bytes : List ℕ). Some (record (in_progress world xid cred compound) { results = bytes })) (sym (empty-seen (who.has_connection number)))

    request-in-seen : (world : World) (call : CallRead) → request_in (look world) call ≡ option_map seen_request (request_in world call)
    request-in-seen world NoCall = refl
    request-in-seen world (OtherVersion xid) = refl
    request-in-seen world (Calls call) = request-by-seen world call.xid (request_of call)

    going-seen : (world : World) (connection : Option Connection)
        → going_on (look world) (option_map (shown number) connection) ≡ option_map seen_request (going_on world connection)
    going-seen world None = refl
    going-seen world (Some (Quiet bytes)) = refl
    going-seen world (Some (Waiting bytes)) = request-in-seen world (read_call bytes)
    going-seen world (Some (Busy request)) = refl
    going-seen world (Some (Replied reply)) = refl
    going-seen world (Some Closed) = refl

    goes-same : (one other : World) → look one ≡ look other
        → option_map seen_request (going_on one (at number one.connections)) ≡ option_map seen_request (going_on other (at number other.connections))
    goes-same one other same =
        sym (going-seen one (at number one.connections))
        ∙ (ap (going_on (look one)) (sym (at-seen one.connections number))
        ∙ (ap (λ (w : World). going_on w (at number w.connections)) same
        ∙ (ap (going_on (look other)) (at-seen other.connections number) ∙ going-seen other (at number other.connections))))

    found : (there : Option InProgress) (request : InProgress) → option_map seen_request there ≡ Some (seen_request request)
        → (its : InProgress) × ((there ≡ Some its) × (seen_request its ≡ seen_request request))
    found None request is = absurd (cc)
    found (Some its) request is = (its, (refl, cc))

    alone-too : (one other : World) (its request : InProgress) → look one ≡ look other → seen_request its ≡ seen_request request
        → IsApart who one number its → IsApart who other number request
    alone-too one other its request same requests apart = record {
      blind = λ is secret_number is_secret.
          sym (same_grant who.secret other.tree request.context.cred read_data secret_number)
          ∙ (ap₂ (λ (w : World) (r : InProgress). granted_on (at secret_number w.tree) r.context.cred read_data) (sym same) (sym requests)
          ∙ (same_grant who.secret one.tree its.context.cred read_data secret_number ∙ apart.blind is secret_number is_secret));
      runs_in = λ slot is. apart.runs_in slot (ap (λ (r : InProgress). r.slot) requests ∙ is);
      asks_for = λ arguments rest is.
          apart.asks_for arguments rest
          (sym (next-same number 0 (seen_bytes (who.has_connection number) its.results) its)
          ∙ (ap next_operation requests ∙ (next-same number 0 (seen_bytes (who.has_connection number) request.results) request ∙ is)));
    }

    turn-too : (one other : World) → look one ≡ look other
        → ((request : InProgress) → going_on one (at number one.connections) ≡ Some request → IsApart who one number request)
        → (request : InProgress) → going_on other (at number other.connections) ≡ Some request → IsApart who other number request
    turn-too one other same apart request is =
        let its = found (going_on one (at number one.connections)) request (goes-same one other same ∙ ap (option_map seen_request) is) in
        alone-too one other its.0 request same its.1.1 (apart its.0 its.1.0)

  apart-too : (one other : World) (event : Event) → look one ≡ look other → TurnIsApart who one event → TurnIsApart who other event
  apart-too one other (Arrives number piece) same apart = tt
  apart-too one other (Turns number now) same apart = turn-too number one other same apart
  apart-too one other (HangsUp number) same apart = tt
  apart-too one other (Connects number) same apart = tt
  apart-too one other (Takes number) same apart = tt

  -- A reply on a connection that is his

  whole : (connection : Option Connection) → reply_in (option_map (seen_connection true) connection) ≡ reply_in connection
  whole None = refl
  whole (Some (Quiet bytes)) = refl
  whole (Some (Waiting bytes)) = refl
  whole (Some (Busy request)) = refl
  whole (Some (Replied reply)) = refl
  whole (Some Closed) = refl

  pub reply-seen : (world : World) (number : ℕ) → who.has_connection number ≡ true → reply_at (look world) number ≡ reply_at world number
  reply-seen world number is =
      ap reply_in (at-seen world.connections number)
      ∙ (ap (λ (his : Bool). reply_in (option_map (seen_connection his) (at number world.connections))) is ∙ whole (at number world.connections))

-- A run

pub every_run_is_blind : EveryRunIsBlind
every_run_is_blind who one other [] same apart = same
every_run_is_blind who one other (event ∷ events) same apart =
    every_run_is_blind who (effect_of one event) (effect_of other event) events
    (sym (event-as who one event apart.0)
    ∙ (ap (λ (w : World). seen_world who (effect_of w event)) same ∙ event-as who other event (apart-too who one other event same apart.0)))
    apart.1

pub every_reply_is_blind : EveryReplyIsBlind
every_reply_is_blind who one other events number same apart his =
    sym (reply-seen who (after one events) number his)
    ∙ (ap (λ (w : World). reply_at w number) (every_run_is_blind who one other events same apart) ∙ reply-seen who (after other events) number his)

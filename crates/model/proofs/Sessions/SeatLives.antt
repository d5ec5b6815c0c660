-- Seats and numbers over runs that follow one another.
use Rattle.std.proofs.Common.{◌≡◌, ℕ, ◌+◌, ◌^◌, ◌<◌, ◌⊎◌, inl, inr, Bool, true, false, cond, ◌&&◌, ◌==◌, List, [], ◌∷◌, ◌++◌, option_to_list, find, Option, None, Some, is_some, refl, sym, ap, ap₂, ◌∙◌, subst, arith, append-nil, bytes_eq}
use Rattle.std.specs.List.{IsAmong, AllByRecursion}
use Rattle.std.proofs.lemmas.Bool.{true≢false, and_parts}
use Rattle.std.proofs.lemmas.Slice.Eq.{bytes_eq-Decides}
use Rattle.model_tree.specs.declared.status.Status.TheVariants as status
use Rattle.model.specs.Operations.Answer.{Answer, Outcome, Done, Refused}
use Rattle.model.specs.Operations.Operation.{Argument, SequenceArguments, operation_of}
use Rattle.model.specs.Server.Runs.{Event, Arrives, Turns, HangsUp, Connects, Takes, effect_of, executed_of, executed_by, executed, done_with, Stored, freed_between, freed_of, RunHistory, history_after, history_failing, taken_by, Serving, Left, mounted, IsAfterEvent, left_after, MayBeLeft, Happens, DeviceFails, IsRun, Begins, Goes_on, Fails_at, Stays_down, Flushed, settled_by}
use Rattle.model.specs.Sessions.SeatRuns.{AreSeats, Stop, freeing, stored_in, freed_in, executed_in, HoldsFrom, IsFreed, EverySeatStays, EveryRunCanFollow, AreLives, numbers_over, EveryNumberOnce, last_of, WasFreed, EveryReplyStaysHeld}
use Rattle.model_tree.specs.Seats.Seats.{Seat, Seats, seat_of, has_seat, held_in, run_of, SeatsApart}
use Rattle.model.specs.Server.ServedOnce.{number_by, numbers_in}
use Rattle.model.specs.Sessions.Session as sessions
use Rattle.model.specs.Sessions.Session.{Table, Session, is_session}
use Rattle.model.specs.Sessions.SessionRuns.{CountsFrom}
use Rattle.model_tree.specs.Trees.Tree.{Tree}
use Rattle.model.specs.Server.World.{ServerLimits, World, InProgress, Gives, Replays, Entry, Turned, begun, started_in, refuses, run, is_to_hold, closes, behind, is_last, with_result, one, reply_at, arrives, takes, connects, hangs_up, noting}
use Rattle.model.proofs.Server.Headline.{only_one, done_behind, taken_done}
use Rattle.model.proofs.Server.SettledLaws.{is_behind}
use Rattle.model.proofs.Sessions.SeatLaws.{among_left, among_right, freed_listed, seat_holds, holds_there}
use Rattle.model.proofs.Sessions.AllOf.{all-found}
use Rattle.model.proofs.Sessions.SeatTables.{id_in, in_run, id_of_run}
use Rattle.model.proofs.Sessions.SeatRunLaws.{event_seated, RunSeated, run_seated, every_reply_is_held}
use Rattle.model.proofs.Sessions.SeatsGo.{SeatsGo, event_go}
use Rattle.model.proofs.Server.ServedOnceLaws.{arrives_table, takes_table, connects_table, hangs_up_table, numbers_in-append, every_served_slot}
use Rattle.model.proofs.Sessions.SlotLaw.{id_of, others_between}
use Rattle.model.proofs.Sessions.SlotsHeld.{Held, run_held}
use Rattle.model.proofs.Sessions.TableCalls.{either, found_passes}
use Rattle.model.proofs.Server.TurnCases.{IsTurn, Idles, Says, Closes, Unread, TooBig, Gave, Repeats, turn_is, read_of}

-- The seats that a run began with

record SeatsSo (run : ℕ) (first : Seats) (gone : List (List ℕ)) (seats : Seats) : Type 0 where
  apart : SeatsApart seats
  runs : (id : List ℕ) → has_seat id seats ≡ true → run_of id < run + 1
  stays : (id : List ℕ) (seat : Seat) → seat_of id first ≡ Some seat → (seat_of id seats ≡ Some seat) ⊎ IsFreed seats gone id

so_more : (run : ℕ) (first : Seats) (gone more : List (List ℕ)) (seats : Seats) → SeatsSo run first gone seats → SeatsSo run first (gone ++ more) seats
so_more run first gone more seats so = record {
  apart = so.apart;
  runs = so.runs;
  stays = λ id seat there. elim (so.stays id seat there) [
    | inl here ↦ inl here
    | inr freed ↦ inr (record { gone = freed.gone; listed = among_left gone more id freed.listed })
  ];
}

so_goes : (run : ℕ) (first : Seats) (gone : List (List ℕ)) (old new : Seats) → ((id : List ℕ) → has_seat id first ≡ true → run_of id < run) → SeatsSo run first gone old
    → SeatsGo run old new → SeatsApart new → SeatsSo run first (gone ++ freed_between old new) new
so_goes run first gone old new earlier so go apart = record {
  apart = apart;
  runs = λ id has. elim (go.runs id has) [
    | inl before ↦ so.runs id before
    | inr this ↦ omega (arith, this)
  ];
  stays = λ id seat there.
      let less = earlier id (ap is_some there) in
      elim (so.stays id seat there) [
        | inl here ↦ elim (go.earlier id less) [
          | inl same ↦ inl (same ∙ here)
          | inr went ↦ inr (record { gone = went; listed = among_right gone (freed_between old new) id (freed_listed id old new seat here went) })
        ]
        | inr freed ↦ elim (go.earlier id less) [
          | inl same ↦ inr (record { gone = ap is_some same ∙ freed.gone; listed = among_left gone (freed_between old new) id freed.listed })
          | inr went ↦ inr (record { gone = went; listed = among_left gone (freed_between old new) id freed.listed })
        ]
      ];
}

record RunSo (run : ℕ) (first : Seats) (serving : Serving) (history : RunHistory) : Type 0 where
  up : serving.is_down ≡ false → SeatsSo run first history.freed serving.world.table.seats
  held : (left : Left) → IsAmong serving.left left → SeatsSo run first history.freed left.seats

differ : (b : Bool) → b ≡ true → b ≡ false → ⊥
differ b one other = true≢false (sym one ∙ other)

module _ (limits : ServerLimits) (run : ℕ) (start : Tree) (first : Seats) (small : run < 2 ^ 32) (are : AreSeats run first) where
  module _ (serving : Serving) (history : RunHistory) (is_run : IsRun (mounted limits run start first) serving history) (so : RunSo run first serving history) (up : serving.is_down ≡ false)
      (event : Event) where
    seated : RunSeated run serving history (settled_by is_run)
    seated = run_seated limits run start first small are serving history is_run

    its_held : Held limits serving.world
    its_held = run_held limits run start first serving history is_run

    goes : SeatsGo run serving.world.table.seats (effect_of serving.world event).table.seats
    goes = event_go limits serving.world its_held run (seated.up up).1 small history.stored history.freed (seated.up up).0 event

    apart_after : SeatsApart (effect_of serving.world event).table.seats
    apart_after = (event_seated limits run serving.world its_held (seated.up up).1 history.stored history.freed (seated.up up).0 event).0.apart

    after_so : SeatsSo run first (history.freed ++ freed_of serving.world event) (effect_of serving.world event).table.seats
    after_so = so_goes run first history.freed serving.world.table.seats (effect_of serving.world event).table.seats are.earlier (so.up up) goes apart_after

    may_so : (left : Left) → MayBeLeft serving event left → SeatsSo run first (history.freed ++ freed_of serving.world event) left.seats
    may_so left (inl among) = so_more run first history.freed (freed_of serving.world event) left.seats (so.held left among)
    may_so left (inr after) = by_down serving.is_down up after
      where
        by_down : (down : Bool) → down ≡ false → IsAfterEvent serving.world event down left → SeatsSo run first (history.freed ++ freed_of serving.world event) left.seats
        by_down true wrong after = absurd after
        by_down false right after = subst (SeatsSo run first (history.freed ++ freed_of serving.world event)) (sym (ap (λ (l : Left). l.seats) after)) after_so

  module _ (history : RunHistory) (world : World) where
    still : (after : World) → after.table ≡ world.table → SeatsSo run first history.freed world.table.seats → SeatsSo run first history.freed after.table.seats
    still after same so = subst (λ (t : Table). SeatsSo run first history.freed t.seats) (sym same) so

    behind_so : (event : Event) → SeatsSo run first history.freed world.table.seats → SeatsSo run first (history.freed ++ freed_of world event) (effect_of world event).table.seats
        → SeatsSo run first (history_after history world event).freed (effect_of world event).table.seats
    behind_so (Arrives connection piece) so now = still (arrives world connection piece) (arrives_table world connection piece) so
    behind_so (Turns connection at) so now = now
    behind_so (HangsUp connection) so now = still (hangs_up world connection) (hangs_up_table world connection) so
    behind_so (Connects connection) so now = still (connects world connection) (connects_table world connection) so
    behind_so (Takes connection) so now = by_reply (reply_at world connection)
      where
        by_reply : (reply : Option (List ℕ)) → SeatsSo run first (taken_by history connection reply).freed (takes world connection).table.seats
        by_reply None = still (takes world connection) (takes_table world connection) so
        by_reply (Some reply) = still (takes world connection) (takes_table world connection) so

  -- what may be left after an event was left before, or has the seats of the world
  left_now : (old new : Serving) (event : Event) (history : RunHistory) → RunSo run first old history → Happens old event new
      → SeatsSo run first (history_after history old.world event).freed new.world.table.seats → (left : Left) → MayBeLeft old event left
      → SeatsSo run first (history_after history old.world event).freed left.seats
  left_now old new event history was happens so left (inl before) =
      let more = is_behind history old.world event in
      subst (λ (gone : List (List ℕ)). SeatsSo run first gone left.seats) (sym more.freed_is) (so_more run first history.freed more.freed left.seats (was.held left before))
  left_now old new event history was happens so left (inr after) =
      let is : left ≡ left_after (effect_of old.world event) = subst (λ (b : Bool). IsAfterEvent old.world event b left) happens.up after in
      subst (SeatsSo run first (history_after history old.world event).freed)
      (sym (ap (λ (l : Left). l.seats) is ∙ ap (λ (w : World). w.table.seats) (sym happens.world))) so

  run_so : (serving : Serving) (history : RunHistory) → IsRun (mounted limits run start first) serving history → RunSo run first serving history
  run_so serving history Begins = record { up = λ up. begins; held = λ left among. subst (SeatsSo run first []) (sym (ap (λ (l : Left). l.seats) (only_one (record { tree = start; seats = first }) left among))) begins }
    where
      begins : SeatsSo run first [] first
      begins = record { apart = are.apart; runs = λ id has. let less = are.earlier id has in omega (arith, less); stays = λ id seat there. inl there }
  run_so serving history (Goes_on {old = old} {new = new} {history = earlier} event is_run happens) =
      let was = run_so old earlier is_run in
      let now = after_so old earlier is_run was happens.up event in
      let table : new.world.table ≡ (effect_of old.world event).table = ap (λ (w : World). w.table) happens.world in
      let so : SeatsSo run first (history_after earlier old.world event).freed new.world.table.seats =
      subst (λ (t : Table). SeatsSo run first (history_after earlier old.world event).freed t.seats) (sym table) (behind_so earlier old.world event (was.up happens.up) now) in
      record { up = λ up. so; held = λ left among. left_now old new event earlier was happens so left (happens.no_others left among) }
  run_so serving history (Fails_at {old = old} {new = new} {history = earlier} event is_run fails) =
      let was = run_so old earlier is_run in
      record {
        up = λ up. absurd (differ new.is_down fails.down up);
        held = λ left among. may_so old earlier is_run was fails.up event left (fails.no_others left among);
      }
  run_so serving history (Stays_down {old = old} {new = new} {history = earlier} connection is_run stays) =
      let was = run_so old earlier is_run in
      record { up = λ up. absurd (differ new.is_down stays.still_down up); held = by_reply was.held (reply_at old.world connection) }
    where
      by_reply : ((left : Left) → IsAmong old.left left → SeatsSo run first earlier.freed left.seats) → (reply : Option (List ℕ)) → (left : Left) → IsAmong new.left left
          → SeatsSo run first (taken_by earlier connection reply).freed left.seats
      by_reply held None left among = held left (stays.no_others left among)
      by_reply held (Some reply) left among = held left (stays.no_others left among)
  run_so serving history (Flushed {old = old} {new = new} is_run flushes) =
      let was = run_so old history is_run in
      let so = was.up flushes.up in
      record {
        up = λ up. subst (λ (w : World). SeatsSo run first history.freed w.table.seats) (sym flushes.world) so;
        held = λ left among. subst (SeatsSo run first history.freed) (sym (ap (λ (l : Left). l.seats) (flushes.newest left among))) so;
      }

left_so : (limits : ServerLimits) (stop : Stop limits) → SeatsSo stop.run stop.seats (freed_in stop) stop.left
left_so limits stop = by_down stop.serving.is_down refl stop.leaves.1
  where
    its : Left
    its = record { tree = stop.leaves.0; seats = stop.left }

    so : RunSo stop.run stop.seats stop.serving stop.history
    so = run_so limits stop.run stop.start stop.seats stop.counted stop.begins stop.serving stop.history stop.is_run

    by_down : (down : Bool) → stop.serving.is_down ≡ down → MayBeLeft stop.serving stop.event its
        → SeatsSo stop.run stop.seats (stop.history.freed ++ freeing stop.serving stop.event down) stop.left
    by_down false up may = may_so limits stop.run stop.start stop.seats stop.counted stop.begins stop.serving stop.history stop.is_run so up stop.event its may
    by_down true down (inl among) = so_more stop.run stop.seats stop.history.freed [] stop.left (so.held its among)
    by_down true down (inr after) = absurd (never stop.serving.is_down down after)
      where
        never : (b : Bool) → b ≡ true → IsAfterEvent stop.serving.world stop.event b its → ⊥
        never true same after = after
        never false same after = true≢false (sym same)

pub every_seat_stays : EverySeatStays
every_seat_stays limits stop id seat there = (left_so limits stop).stays id seat there

-- and the server has it, while it is up
pub seat_stays_up : (limits : ServerLimits) (stop : Stop limits) → stop.serving.is_down ≡ false → (id : List ℕ) (seat : Seat) → seat_of id stop.seats ≡ Some seat
    → (seat_of id stop.serving.world.table.seats ≡ Some seat) ⊎ IsFreed stop.serving.world.table.seats (freed_in stop) id
seat_stays_up limits stop up id seat there =
    let so = (run_so limits stop.run stop.start stop.seats stop.counted stop.begins stop.serving stop.history stop.is_run).up up in
    (so_more stop.run stop.seats stop.history.freed (freeing stop.serving stop.event stop.serving.is_down) stop.serving.world.table.seats so).stays id seat there

pub every_run_can_follow : EveryRunCanFollow
every_run_can_follow limits stop next later = record {
  apart = (left_so limits stop).apart;
  earlier = λ id has. let less = (left_so limits stop).runs id has in omega (arith, less, later);
}

-- What was held, from run to run

module _ (limits : ServerLimits) (stored : List Stored) (i : ℕ) (one : Stored) where
  carried : (stop : Stop limits) → HoldsFrom stop.seats stored i one → HoldsFrom stop.left stored i one ⊎ IsFreed stop.left (freed_in stop) one.session
  carried stop holds =
      let seat = seat_holds one.session one.slot stop.seats holds.reply.held holds.held in
      elim (every_seat_stays limits stop one.session seat.0 seat.1) [
        | inl stays ↦ inl (holds_there stop.seats stop.left stored i one holds (ap (held_in one.slot) (stays ∙ sym seat.1)))
        | inr freed ↦ inr freed
      ]

  carried_on : (stop : Stop limits) (lives : List (Stop limits)) → AreLives stop lives → HoldsFrom stop.left stored i one
      → HoldsFrom (last_of stop lives).left stored i one ⊎ WasFreed one.session lives
  carried_on stop [] are holds = inl holds
  carried_on stop (next ∷ lives) are holds = elim (carried next (subst (λ (s : Seats). HoldsFrom s stored i one) (sym are.0.seats) holds)) [
    | inl still ↦ elim (carried_on next lives are.1 still) [
      | inl last ↦ inl last
      | inr freed ↦ inr (inr freed)
    ]
    | inr freed ↦ inr (inl freed)
  ]

pub every_reply_stays_held : EveryReplyStaysHeld
every_reply_stays_held limits first lives are i one at settled = elim (every_reply_is_held limits first i one at settled) [
  | inl holds ↦ elim (carried_on limits (stored_in first) i one first lives are holds) [
    | inl last ↦ inl last
    | inr freed ↦ inr (inr freed)
  ]
  | inr freed ↦ inr (inl freed)
]

-- A number that a session runs is of the session's run

number_of : List ℕ → ℕ → Option Entry → Option ℕ
number_of id slot None = None
number_of id slot (Some entry) = number_by id slot entry.operation entry.outcome

IsOwn : List ℕ → ℕ → ℕ → Option Entry → Type 0
IsOwn id slot run executed = (number : ℕ) → number_of id slot executed ≡ Some number → run_of id ≡ run

no_number : {A : Type 0} (number : ℕ) → None ≡ Some number → A
no_number number e = absurd (cc)

module _ (id : List ℕ) (slot : ℕ) (its_run : ℕ) (small : its_run < 2 ^ 32) (world : World) (of_run : AllByRecursion (λ (s : Session). in_run s.client ≡ its_run) world.table.sessions) where
  session_run : (session : Session) → find (is_session id) world.table.sessions ≡ Some session → run_of id ≡ its_run
  session_run session found =
      let named : id_in session ≡ id = id_of id session (found_passes (is_session id) world.table.sessions session found) in
      let its = all-found (λ (s : Session). in_run s.client ≡ its_run) (is_session id) world.table.sessions session of_run found in
      ap run_of (sym named) ∙ id_of_run its_run session.client session.serial small its

  refused_not : {A : Type 0} (operation : ℕ) (reason : _) (before after : World) (request left : InProgress) (answer : Answer)
      → refuses before request operation reason ≡ Gives (Done answer) after left → A
  refused_not operation reason before after request left answer e = absurd (cc)

  replays_not : {A : Type 0} (reply session : List ℕ) (place : ℕ) (after : World) (left : InProgress) (answer : Answer) → Replays reply session place ≡ Gives (Done answer) after left → A
  replays_not reply session place after left answer e = absurd (cc)

  module _ (request : InProgress) (arguments : SequenceArguments) (named : arguments.session ≡ id) (answer : Answer) (after : World) (left : InProgress) where
    started_run : (known : Option Session) → find (is_session arguments.session) world.table.sessions ≡ known → started_in world request arguments known ≡ Gives (Done answer) after left
        → run_of id ≡ its_run
    started_run None found e = refused_not _ _ world after request left answer e
    started_run (Some session) found e =
        session_run session (ap (λ (i : List ℕ). find (is_session i) world.table.sessions) (sym named) ∙ found)

    begun_run : (b : sessions.Begun) → begun world request arguments b ≡ Gives (Done answer) after left → run_of id ≡ its_run
    begun_run (sessions.Refuses reason) e = refused_not _ _ world after request left answer e
    begun_run (sessions.Replays reply) e = replays_not reply arguments.session arguments.slot after left answer e
    begun_run sessions.Runs e = started_run (find (is_session arguments.session) world.table.sessions) refl e

  named_by : (b : Bool) (sequence number : ℕ) → cond b (Some sequence) None ≡ Some number → b ≡ true
  named_by true sequence number e = refl
  named_by false sequence number e = no_number number e

  ran_own : (request : InProgress) (now : ℕ) (operation : Argument) (outcome : Outcome) (after : World) (left : InProgress) → run world request now operation ≡ Gives outcome after left
      → (number : ℕ) → number_by id slot operation outcome ≡ Some number → run_of id ≡ its_run
  unfolding run
  ran_own request now (Argument.Sequence arguments) (Done answer) after left ran number e =
      let parts = and_parts (bytes_eq arguments.session id) (arguments.slot == slot) (named_by (bytes_eq arguments.session id && arguments.slot == slot) arguments.sequence number e) in
      begun_run request arguments ((bytes_eq-Decides arguments.session id).0 parts.0) answer after left
      (sessions.begin request.context.cred.uid request.count arguments world.table) ran
  ran_own request now (Argument.Sequence arguments) (Refused operation reason) after left ran number e = no_number number e
  ran_own request now operation outcome after left ran number e = no_number number e

  closes_executes : (here : ℕ) (after : World) (request : InProgress) (last : _) (executed : Option Entry) → (closes after here request last executed).executed ≡ executed
  closes_executes here after request last executed =
      either (λ (t : Turned). t.executed ≡ executed) (is_to_hold request after.table) _ _ (λ seated. refl) (λ none. refl)

  behind_executes : (here : ℕ) (after : World) (request : InProgress) (outcome : Outcome) (executed : Option Entry) → (behind after here request outcome executed).executed ≡ executed
  behind_executes here after request (Refused operation reason) executed = closes_executes here after (with_result request (Refused operation reason)) reason executed
  behind_executes here after request (Done answer) executed =
      either (λ (t : Turned). t.executed ≡ executed) (is_last request) _ _
      (λ last. closes_executes here after (with_result request (Done answer)) status.Ok executed) (λ more. refl)

  refused_none : (operation : Argument) (number : ℕ) (reason : _) → number_by id slot operation (Refused number reason) ≡ None
  refused_none (Argument.Sequence arguments) number reason = refl
  refused_none _ number reason = refl

  turned_own : (here now : ℕ) (t : Turned) → IsTurn world here now t → IsOwn id slot its_run t.executed
  unfolding IsOwn number_of
  turned_own here now _ Idles number e = no_number number e
  turned_own here now _ (Says bytes xid reply waits) number e = no_number number e
  turned_own here now _ (Closes request last there ended) number e = no_number number e
  turned_own here now _ (Unread request operation reason _) number e =
      no_number number (sym (ap (number_of id slot) (behind_executes here world request (Refused operation reason) None)) ∙ e)
  turned_own here now _ (TooBig request operation rest _ reads) number e =
      no_number number (sym (refused_none operation (operation_of operation) status.RepTooBig)
      ∙ (sym (ap (number_of id slot) (behind_executes here world (noting world world operation (read_of request rest)) (Refused (operation_of operation) status.RepTooBig) _)) ∙ e))
  turned_own here now _ (Gave request operation rest outcome after left goes reads ran) number e =
      ran_own (read_of request rest) now operation outcome after left ran number
      (sym (ap (number_of id slot) (behind_executes here after (noting world after operation left) outcome _)) ∙ e)
  turned_own here now _ (Repeats request operation rest result session place goes reads ran) number e = no_number number e

  event_own : (event : Event) → IsOwn id slot its_run (executed_of world event)
  unfolding IsOwn number_of
  event_own (Arrives connection piece) number e = no_number number e
  event_own (Turns connection now) number e = turned_own connection now (one world connection now) (turn_is world connection now) number e
  event_own (HangsUp connection) number e = no_number number e
  event_own (Connects connection) number e = no_number number e
  event_own (Takes connection) number e = no_number number e

-- of a list

AreOwn : List ℕ → ℕ → ℕ → List Entry → Type 0
AreOwn id slot run done = (numbers_in id slot done ≡ []) ⊎ (run_of id ≡ run)

own_more : (id : List ℕ) (slot run : ℕ) (done : List Entry) (executed : Option Entry) → AreOwn id slot run done → IsOwn id slot run executed → AreOwn id slot run (done ++ option_to_list executed)
unfolding AreOwn IsOwn number_of
own_more id slot run done None are own = subst (AreOwn id slot run) (sym (append-nil done)) are
own_more id slot run done (Some entry) (inr this) own = inr this
own_more id slot run done (Some entry) (inl none) own = by_number (number_by id slot entry.operation entry.outcome) refl
  where
    by_number : (o : Option ℕ) → number_by id slot entry.operation entry.outcome ≡ o → (numbers_in id slot (done ++ entry ∷ []) ≡ []) ⊎ (run_of id ≡ run)
    by_number None is =
        inl (numbers_in-append id slot done entry ∙ (ap₂ (λ (l : List ℕ) (o : Option ℕ). l ++ option_to_list o) none is))
    by_number (Some number) is = inr (own number is)

module _ (limits : ServerLimits) (run : ℕ) (start : Tree) (first : Seats) (small : run < 2 ^ 32) (are : AreSeats run first) (id : List ℕ) (slot : ℕ) where
  own_now : (serving : Serving) (history : RunHistory) → IsRun (mounted limits run start first) serving history → serving.is_down ≡ false → (event : Event)
      → IsOwn id slot run (executed_of serving.world event)
  own_now serving history is_run up event =
      event_own id slot run small serving.world ((run_seated limits run start first small are serving history is_run).up up).0.of_run event

  run_own : (serving : Serving) (history : RunHistory) → IsRun (mounted limits run start first) serving history → AreOwn id slot run history.done
  unfolding AreOwn
  run_own serving history Begins = inl refl
  run_own serving history (Goes_on {old = old} {new = new} {history = earlier} event is_run happens) =
      subst (AreOwn id slot run) (done_behind earlier old.world event)
      (own_more id slot run earlier.done (executed_of old.world event) (run_own old earlier is_run) (own_now old earlier is_run happens.up event))
  run_own serving history (Fails_at {old = old} {new = new} {history = earlier} event is_run fails) =
      own_more id slot run earlier.done (executed_of old.world event) (run_own old earlier is_run) (own_now old earlier is_run fails.up event)
  run_own serving history (Stays_down {old = old} {new = new} {history = earlier} connection is_run stays) =
      subst (AreOwn id slot run) (sym (taken_done earlier connection (reply_at old.world connection))) (run_own old earlier is_run)
  run_own serving history (Flushed {old = old} {new = new} is_run flushes) = run_own old history is_run

-- Of a run that ended in a crash, with what was under way

module _ (limits : ServerLimits) (stop : Stop limits) (id : List ℕ) (slot : ℕ) where
  none_among : {A : Type 0} (x : A) → IsAmong [] x → ⊥
  none_among x among = let less = among.1.0 in omega (arith, less)

  failed : Serving
  failed = record { world = stop.serving.world; left = []; is_down = true; waits = stop.serving.waits }

  fails : stop.serving.is_down ≡ false → DeviceFails stop.serving stop.event failed
  unfolding failed
  fails up = record {
    up = up;
    world = refl;
    down = refl;
    waits = refl;
    no_others = λ left among. absurd (none_among left among);
  }

  in_order : (down : Bool) → stop.serving.is_down ≡ down → CountsFrom 0 (numbers_in id slot (done_with stop.history (executed_by stop.serving.world stop.event down)))
  in_order false up =
      (every_served_slot limits stop.run stop.start stop.seats failed (history_failing stop.history stop.serving.world stop.event)
      (Fails_at stop.event stop.is_run (fails up)) id slot).0
  in_order true down =
      subst (λ (done : List Entry). CountsFrom 0 (numbers_in id slot done)) (sym (append-nil stop.history.done))
      (every_served_slot limits stop.run stop.start stop.seats stop.serving stop.history stop.is_run id slot).0

  pub counted : CountsFrom 0 (numbers_in id slot (executed_in stop))
  counted = in_order stop.serving.is_down refl

  own_with : (down : Bool) → stop.serving.is_down ≡ down
      → (numbers_in id slot (done_with stop.history (executed_by stop.serving.world stop.event down)) ≡ []) ⊎ (run_of id ≡ stop.run)
  unfolding AreOwn
  own_with false up =
      own_more id slot stop.run stop.history.done (executed_of stop.serving.world stop.event)
      (run_own limits stop.run stop.start stop.seats stop.counted stop.begins id slot stop.serving stop.history stop.is_run)
      (own_now limits stop.run stop.start stop.seats stop.counted stop.begins id slot stop.serving stop.history stop.is_run up stop.event)
  own_with true down =
      subst (AreOwn id slot stop.run) (sym (append-nil stop.history.done))
      (run_own limits stop.run stop.start stop.seats stop.counted stop.begins id slot stop.serving stop.history stop.is_run)

  pub its_own : (numbers_in id slot (executed_in stop) ≡ []) ⊎ (run_of id ≡ stop.run)
  its_own = own_with stop.serving.is_down refl

-- Over runs: only those of one run

none_later : (limits : ServerLimits) (stop : Stop limits) (lives : List (Stop limits)) → AreLives stop lives → (id : List ℕ) (slot : ℕ) → run_of id < stop.run + 1
    → numbers_over id slot lives ≡ []
none_later limits stop [] are id slot less = refl
none_later limits stop (next ∷ lives) are id slot less =
    let later = are.0.later in
    let here : numbers_in id slot (executed_in next) ≡ [] = elim (its_own limits next id slot) [
      | inl none ↦ none
      | inr this ↦ absurd (omega (arith, less, later, this))
    ] in
    ap₂ (λ (a b : List ℕ). a ++ b) here (none_later limits next lives are.1 id slot (omega (arith, less, later)))

counts_over : (limits : ServerLimits) (first : Stop limits) (lives : List (Stop limits)) → AreLives first lives → (id : List ℕ) (slot : ℕ)
    → CountsFrom 0 (numbers_over id slot (first ∷ lives))
counts_over limits first [] are id slot =
    subst (CountsFrom 0) (sym (append-nil (numbers_in id slot (executed_in first)))) (counted limits first id slot)
counts_over limits first (next ∷ lives) are id slot = elim (its_own limits first id slot) [
  | inl none ↦
      subst (λ (l : List ℕ). CountsFrom 0 (l ++ numbers_over id slot (next ∷ lives))) (sym none) (counts_over limits next lives are.1 id slot)
  | inr this ↦
      let rest : numbers_over id slot (next ∷ lives) ≡ [] = none_later limits first (next ∷ lives) are id slot (omega (arith, this)) in
      subst (λ (l : List ℕ). CountsFrom 0 (numbers_in id slot (executed_in first) ++ l)) (sym rest)
      (subst (CountsFrom 0) (sym (append-nil (numbers_in id slot (executed_in first)))) (counted limits first id slot))
]

pub every_number_once : EveryNumberOnce
every_number_once limits first lives are id slot =
    let order = counts_over limits first lives are id slot in (order, others_between (numbers_over id slot (first ∷ lives)) order)

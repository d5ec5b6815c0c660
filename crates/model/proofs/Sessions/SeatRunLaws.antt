-- Exactly once over restarts, by induction over a run and over runs.
use Rattle.std.proofs.Common.{◌≡◌, ℕ, ◌&&◌, ◌==◌, ◌^◌, ◌<◌, ◌≤◌, ◌≢◌, inl, inr, Bool, true, false, cond, List, [], ◌++◌, length, get_or, option_to_list, slice_get, find, Option, None, Some, is_some, eq-eqb, eqb-true, refl, sym, ap, ◌∙◌, subst, arith, append-nil}
use Rattle.std.specs.List.{IsAmong}
use Rattle.std.proofs.lemmas.Bool.{true≢false, and_from}
use Rattle.model_tree.specs.declared.status.Status.TheVariants as status
use Rattle.model_tree.specs.Trees.Keyed.{at}
use Rattle.model.specs.Operations.Operation.{SequenceArguments}
use Rattle.model.specs.Server.Runs.{Event, Arrives, Turns, HangsUp, Connects, Takes, effect_of, Stored, stored_of, freed_between, freed_of, RunHistory, history_after, Serving, Left, mounted, IsAfterEvent, MayBeLeft, taken_by, Happens, IsRun, Begins, Goes_on, Fails_at, Stays_down, Flushed, settled_by, stored_when_taken}
use Rattle.model.specs.Sessions.SeatRuns.{AreSeats, IsRetryOf, Stop, storing, freeing, settled_in, IsSettled, EveryReplyIsHeld, EveryTakenIsSettled, EveryDeadSession}
use Rattle.model_tree.specs.Seats.Seats.{HeldReply, Seat, Seats, seat_of, held_in, run_of}
use Rattle.model.specs.Sessions.Session.{Table, Session, Refuses, Replays, is_session, begin, begin_held, begin_dead, begin_by, loaded_table, Settings}
use Rattle.model_tree.specs.Trees.Tree.{Tree}
use Rattle.model.specs.Server.World.{ServerLimits, World, one, arrives, takes, connects, hangs_up, reply_at}
use Rattle.model.proofs.Server.Headline.{only_one, slice_get-append, slice_get-within}
use Rattle.model.proofs.Server.SettledLaws.{IsBehind, is_behind, Settles, run_settles}
use Rattle.model.proofs.Sessions.SeatLaws.{among_left, seat_holds}
use Rattle.model.proofs.Sessions.SameSeats.{same_seats}
use Rattle.model.proofs.Sessions.AllOf.{all-found}
use Rattle.model.proofs.Sessions.SeatTables.{Seated, HeldWas, IsKept, past_earlier, id_of_run, id_in, in_run, seated_more}
use Rattle.model.proofs.Sessions.SeatWorlds.{one_seated}
use Rattle.model.proofs.Server.ServedOnceLaws.{arrives_table, takes_table, connects_table, hangs_up_table}
use Rattle.model.proofs.Sessions.SlotLaw.{id_of, dead_never}
use Rattle.model.proofs.Sessions.SlotsHeld.{Held, run_held}
use Rattle.model.proofs.Sessions.TableCalls.{found_passes}

-- An event

abbrev EventSeated : (run : ℕ) → World → Event → List Stored → List (List ℕ) → Type 0
EventSeated run world event stored gone =
    Seated run (effect_of world event).table (stored ++ option_to_list (stored_of world event)) (gone ++ freed_of world event)
    × ((effect_of world event).table.run ≡ run)

module _ (limits : ServerLimits) (run : ℕ) (world : World) (held : Held limits world) (run_is : world.table.run ≡ run) (stored : List Stored) (gone : List (List ℕ))
    (is : Seated run world.table stored gone) where
  -- the table is as it was
  quiet : (after : World) → after.table ≡ world.table → Seated run after.table (stored ++ []) (gone ++ freed_between world.table.seats after.table.seats) × (after.table.run ≡ run)
  quiet after same = (
    subst (λ (t : Table). Seated run t (stored ++ []) (gone ++ freed_between world.table.seats t.seats)) (sym same)
        (subst (λ (l : List Stored). Seated run world.table l (gone ++ freed_between world.table.seats world.table.seats)) (sym (append-nil stored))
        (seated_more run world.table stored gone (freed_between world.table.seats world.table.seats) is)),
    ap (λ (t : Table). t.run) same ∙ run_is,
  )

  pub event_seated : (event : Event) → EventSeated run world event stored gone
  event_seated (Arrives connection piece) = quiet (arrives world connection piece) (arrives_table world connection piece)
  event_seated (Turns connection now) = one_seated limits world held run run_is stored gone is connection now
  event_seated (HangsUp connection) = quiet (hangs_up world connection) (hangs_up_table world connection)
  event_seated (Connects connection) = quiet (connects world connection) (connects_table world connection)
  event_seated (Takes connection) = quiet (takes world connection) (takes_table world connection)

-- What is kept stays so if more was stored or freed
kept_more : (seats : Seats) (stored more : List Stored) (gone also : List (List ℕ)) (i : ℕ) (one : Stored) → IsKept seats stored gone i one
    → IsKept seats (stored ++ more) (gone ++ also) i one
kept_more seats stored more gone also i one (inl holds) = inl (record {
  later = holds.later;
  behind = holds.behind;
  reply = holds.reply;
  stands = slice_get-append stored more holds.later (slice_get-within stored holds.later holds.reply holds.stands) ∙ holds.stands;
  session = holds.session;
  slot = holds.slot;
  held = holds.held;
})
kept_more seats stored more gone also i one (inr freed) = inr (record { gone = freed.gone; listed = among_left gone also one.session freed.listed })

-- of the first ones, up to the level
abbrev pub AllKept : (settled : ℕ) → Seats → (stored all : List Stored) → List (List ℕ) → Type 0
AllKept settled seats stored all gone = (i : ℕ) (one : Stored) → i < settled → slice_get stored i ≡ Some one → IsKept seats all gone i one

pub record RunSeated (run : ℕ) (serving : Serving) (history : RunHistory) (settled : ℕ) : Type 0 where
  pub up : serving.is_down ≡ false → Seated run serving.world.table history.stored history.freed × (serving.world.table.run ≡ run)
  pub same : serving.is_down ≡ false → serving.waits ≡ false → (left : Left) → IsAmong serving.left left → left.seats ≡ serving.world.table.seats
  pub theirs : serving.is_down ≡ false → (left : Left) → IsAmong serving.left left → HeldWas run left.seats history.stored
  pub kept_up : serving.is_down ≡ false → (left : Left) → IsAmong serving.left left → AllKept settled left.seats history.stored history.stored history.freed
  pub kept : serving.is_down ≡ true → (left : Left) → IsAmong serving.left left
      → AllKept settled left.seats history.stored (history.stored ++ option_to_list history.torn) history.freed

-- what an event may leave, of a server that is up
module _ (limits : ServerLimits) (run : ℕ) (serving : Serving) (history : RunHistory) (settled : ℕ) (held : Held limits serving.world) (is : RunSeated run serving history settled)
    (up : serving.is_down ≡ false) (event : Event) where
  its : EventSeated run serving.world event history.stored history.freed
  its = event_seated limits run serving.world held (is.up up).1 history.stored history.freed (is.up up).0 event

  abbrev Keeps : Left → Type 0
  Keeps left = AllKept settled left.seats history.stored (history.stored ++ option_to_list (stored_of serving.world event)) (history.freed ++ freed_of serving.world event)

  old_kept : (left : Left) → IsAmong serving.left left → Keeps left
  old_kept left among i one less at =
      kept_more left.seats history.stored (option_to_list (stored_of serving.world event)) history.freed (freed_of serving.world event) i one
      (is.kept_up up left among i one less at)

  new_kept : (left : Left) → left.seats ≡ (effect_of serving.world event).table.seats → Keeps left
  new_kept left same i one less at =
      subst (λ (s : Seats). IsKept s (history.stored ++ option_to_list (stored_of serving.world event)) (history.freed ++ freed_of serving.world event) i one) (sym same)
      (its.0.kept i one (slice_get-append history.stored (option_to_list (stored_of serving.world event)) i (slice_get-within history.stored i one at) ∙ at))

  pub may_kept : (left : Left) → MayBeLeft serving event left → Keeps left
  may_kept left (inl among) = old_kept left among
  may_kept left (inr after) = new_kept left
      (ap (λ (l : Left). l.seats) (subst (λ (b : Bool). IsAfterEvent serving.world event b left) up after))

-- the history after an event
module _ (run : ℕ) (history : RunHistory) (world : World) where
  abbrev Behind : Event → Type 0
  Behind event =
      Seated run (effect_of world event).table (history_after history world event).stored (history_after history world event).freed

  still : (after : World) → after.table ≡ world.table → Seated run world.table history.stored history.freed → Seated run after.table history.stored history.freed
  still after same is = subst (λ (t : Table). Seated run t history.stored history.freed) (sym same) is

  behind : (event : Event) → Seated run world.table history.stored history.freed → EventSeated run world event history.stored history.freed → Behind event
  behind (Arrives connection piece) is _ = still (arrives world connection piece) (arrives_table world connection piece) is
  behind (Turns connection now) is its = its.0
  behind (HangsUp connection) is _ = still (hangs_up world connection) (hangs_up_table world connection) is
  behind (Connects connection) is _ = still (connects world connection) (connects_table world connection) is
  behind (Takes connection) is _ = by_reply (reply_at world connection)
    where
      by_reply : (reply : Option (List ℕ)) → Seated run (takes world connection).table (taken_by history connection reply).stored
          (taken_by history connection reply).freed
      by_reply None = still (takes world connection) (takes_table world connection) is
      by_reply (Some reply) = still (takes world connection) (takes_table world connection) is

differ : (b : Bool) → b ≡ true → b ≡ false → ⊥
differ b one other = true≢false (sym one ∙ other)

-- no seat that a run begins with is of a session of this run
none_held : (run : ℕ) (seats : Seats) → AreSeats run seats → HeldWas run seats []
none_held run seats are id place held of_run there =
    let earlier = are.earlier id (ap is_some (seat_holds id place seats held there).1) in
    absurd (omega (arith, earlier, of_run))

table_seated : (run : ℕ) (settings : Settings) (seats : Seats) → run < 2 ^ 32 → AreSeats run seats → Seated run (loaded_table run settings seats) [] []
table_seated run settings seats small are = record {
  of_run = tt;
  apart = are.apart;
  past = λ id has. past_earlier run 0 id small (are.earlier id has);
  fits = tt;
  theirs = none_held run seats are;
  old = λ i one at. absurd (cc);
  kept = λ i one at. absurd (cc);
}

-- An event of a server that is up: what may be left after it

module _ (run : ℕ) (old new : Serving) (event : Event) (history : RunHistory) (settled : ℕ) (within : settled ≤ length history.stored) (was : RunSeated run old history settled)
    (happens : Happens old event new) (seated : Seated run new.world.table (history_after history old.world event).stored (history_after history old.world event).freed) where
  more : IsBehind history (history_after history old.world event)
  more = is_behind history old.world event

  its_seats : (left : Left) → IsAfterEvent old.world event old.is_down left → left.seats ≡ new.world.table.seats
  its_seats left after =
      ap (λ (l : Left). l.seats) (subst (λ (b : Bool). IsAfterEvent old.world event b left) happens.up after)
      ∙ ap (λ (w : World). w.table.seats) (sym happens.world)

  -- while nothing waits they have the seats of the world
  pub same_now : new.waits ≡ false → (left : Left) → IsAmong new.left left → left.seats ≡ new.world.table.seats
  same_now none left among = elim (same_seats new.world.table.seats old.world.table.seats) [
    | inl stay ↦ elim (happens.no_others left among) [
      | inl before ↦ was.same happens.up none_before left before ∙ sym stay
      | inr after ↦ its_seats left after
    ]
    | inr change ↦ by_mode change happens.defers refl
  ]
    where
      none_before : old.waits ≡ false
      none_before = by_waits old.waits refl
        where
          by_waits : (b : Bool) → old.waits ≡ b → b ≡ false
          by_waits false e = refl
          by_waits true e = absurd (true≢false (sym (happens.waits_on e) ∙ none))

      by_mode : new.world.table.seats ≢ old.world.table.seats → (b : Bool) → happens.defers ≡ b → left.seats ≡ new.world.table.seats
      by_mode change false mode = ap (λ (l : Left). l.seats) (happens.seats mode change left among)
      by_mode change true mode = absurd (true≢false (sym (happens.seats_deferred mode change) ∙ none))

  pub theirs_now : (left : Left) → IsAmong new.left left → HeldWas run left.seats (history_after history old.world event).stored
  theirs_now left among = elim (happens.no_others left among) [
    | inl before ↦ (λ id place held of_run there.
        subst (λ (l : List Stored). IsAmong l (record { session = id; slot = place; held = held })) (sym more.stored_is)
        (among_left history.stored more.stored (record { session = id; slot = place; held = held }) (was.theirs happens.up left before id place held of_run there)))
    | inr after ↦ subst (λ (s : Seats). HeldWas run s (history_after history old.world event).stored) (sym (its_seats left after)) seated.theirs
  ]

  world_kept : (left : Left) → left.seats ≡ new.world.table.seats → (i : ℕ) (one : Stored) → slice_get (history_after history old.world event).stored i ≡ Some one
      → IsKept left.seats (history_after history old.world event).stored (history_after history old.world event).freed i one
  world_kept left same i one at =
      subst (λ (s : Seats). IsKept s (history_after history old.world event).stored (history_after history old.world event).freed i one) (sym same) (seated.kept i one at)

  -- what was settled before
  before_kept : (left : Left) → IsAmong old.left left → (i : ℕ) (one : Stored) → i < settled → slice_get (history_after history old.world event).stored i ≡ Some one
      → IsKept left.seats (history_after history old.world event).stored (history_after history old.world event).freed i one
  before_kept left before i one less at =
      let short : i < length history.stored = omega (arith, less, within) in
      let there : slice_get history.stored i ≡ Some one =
      sym (slice_get-append history.stored more.stored i short) ∙ (ap (λ (l : List Stored). slice_get l i) (sym more.stored_is) ∙ at) in
      subst (λ (l : List Stored). IsKept left.seats l (history_after history old.world event).freed i one) (sym more.stored_is)
      (subst (λ (l : List (List ℕ)). IsKept left.seats (history.stored ++ more.stored) l i one) (sym more.freed_is)
      (kept_more left.seats history.stored more.stored history.freed more.freed i one (was.kept_up happens.up left before i one less there)))

  pub kept_now : (b : Bool) → new.waits ≡ b → (left : Left) → IsAmong new.left left
      → AllKept (cond b settled (length (history_after history old.world event).stored)) left.seats (history_after history old.world event).stored
      (history_after history old.world event).stored (history_after history old.world event).freed
  kept_now false none left among i one less at = world_kept left (same_now none left among) i one at
  kept_now true waits left among i one less at = elim (happens.no_others left among) [
    | inl before ↦ before_kept left before i one less at
    | inr after ↦ world_kept left (its_seats left after) i one at
  ]

module _ (limits : ServerLimits) (run : ℕ) (start : Tree) (first : Seats) (small : run < 2 ^ 32) (are : AreSeats run first) where
  pub run_seated : (serving : Serving) (history : RunHistory) (is_run : IsRun (mounted limits run start first) serving history) → RunSeated run serving history (settled_by is_run)
  run_seated serving history Begins = record {
    up = λ up. (table_seated run limits.settings first small are, refl);
    same = λ up none left among. ap (λ (l : Left). l.seats) (only_one (record { tree = start; seats = first }) left among);
    theirs = λ up left among.
        subst (λ (s : Seats). HeldWas run s []) (sym (ap (λ (l : Left). l.seats) (only_one (record { tree = start; seats = first }) left among))) (none_held run first are);
    kept_up = λ up left among i one less at. absurd (cc);
    kept = λ down left among i one less at. absurd (cc);
  }
  run_seated serving history (Goes_on {old = old} {new = new} {history = earlier} event is_run happens) =
      let was = run_seated old earlier is_run in
      let held = run_held limits run start first old earlier is_run in
      let now = its limits run old earlier (settled_by is_run) held was happens.up event in
      let within = (run_settles (mounted limits run start first) old earlier is_run).within in
      let table : new.world.table ≡ (effect_of old.world event).table = ap (λ (w : World). w.table) happens.world in
      let seated : Seated run new.world.table (history_after earlier old.world event).stored (history_after earlier old.world event).freed =
      subst (λ (t : Table). Seated run t (history_after earlier old.world event).stored (history_after earlier old.world event).freed) (sym table)
      (behind run earlier old.world event (was.up happens.up).0 now) in
      record {
        up = λ up. (seated, ap (λ (t : Table). t.run) table ∙ now.1);
        same = λ up. same_now run old new event earlier (settled_by is_run) within was happens seated;
        theirs = λ up. theirs_now run old new event earlier (settled_by is_run) within was happens seated;
        kept_up = λ up. kept_now run old new event earlier (settled_by is_run) within was happens seated new.waits refl;
        kept = λ down. absurd (differ new.is_down down happens.still_up);
      }
  run_seated serving history (Fails_at {old = old} {new = new} {history = earlier} event is_run fails) =
      let was = run_seated old earlier is_run in
      let held = run_held limits run start first old earlier is_run in
      record {
        up = λ up. absurd (differ new.is_down fails.down up);
        same = λ up. absurd (differ new.is_down fails.down up);
        theirs = λ up. absurd (differ new.is_down fails.down up);
        kept_up = λ up. absurd (differ new.is_down fails.down up);
        kept = λ down left among. may_kept limits run old earlier (settled_by is_run) held was fails.up event left (fails.no_others left among);
      }
  run_seated serving history (Stays_down {old = old} {new = new} {history = earlier} connection is_run stays) =
      let was = run_seated old earlier is_run in
      record {
        up = λ up. absurd (differ new.is_down stays.still_down up);
        same = λ up. absurd (differ new.is_down stays.still_down up);
        theirs = λ up. absurd (differ new.is_down stays.still_down up);
        kept_up = λ up. absurd (differ new.is_down stays.still_down up);
        kept = λ down. by_reply (was.kept stays.down) (reply_at old.world connection);
      }
    where
      by_reply : ((left : Left) → IsAmong old.left left → AllKept (settled_by is_run) left.seats earlier.stored (earlier.stored ++ option_to_list earlier.torn) earlier.freed) → (reply : Option (List ℕ))
          → (left : Left) → IsAmong new.left left
          → AllKept (settled_by is_run) left.seats (taken_by earlier connection reply).stored
          ((taken_by earlier connection reply).stored ++ option_to_list (taken_by earlier connection reply).torn)
          (taken_by earlier connection reply).freed
      by_reply kept None left among = kept left (stays.no_others left among)
      by_reply kept (Some reply) left among = kept left (stays.no_others left among)
  run_seated serving history (Flushed {old = old} {new = new} is_run flushes) =
      let was = run_seated old history is_run in
      let seated = was.up flushes.up in
      let seats : (left : Left) → IsAmong new.left left → left.seats ≡ old.world.table.seats = λ left among. ap (λ (l : Left). l.seats) (flushes.newest left among) in
      record {
        up = λ up. subst (λ (w : World). Seated run w.table history.stored history.freed × (w.table.run ≡ run)) (sym flushes.world) seated;
        same = λ up none left among. seats left among ∙ ap (λ (w : World). w.table.seats) (sym flushes.world);
        theirs = λ up left among. subst (λ (s : Seats). HeldWas run s history.stored) (sym (seats left among)) seated.0.theirs;
        kept_up = λ up left among i one less at. subst (λ (s : Seats). IsKept s history.stored history.freed i one) (sym (seats left among)) (seated.0.kept i one at);
        kept = λ down. absurd (differ new.is_down down flushes.still_up);
      }

-- The laws

pub stop_seated : {limits : ServerLimits} (stop : Stop limits) → RunSeated stop.run stop.serving stop.history (settled_in stop)
stop_seated {limits} stop = run_seated limits stop.run stop.start stop.seats stop.counted stop.begins stop.serving stop.history stop.is_run

stop_settles : {limits : ServerLimits} (stop : Stop limits) → Settles stop.serving.waits (length stop.history.stored) (settled_in stop) (stored_when_taken stop.is_run)
stop_settles {limits} stop = run_settles (mounted limits stop.run stop.start stop.seats) stop.serving stop.history stop.is_run

pub every_taken_is_settled : EveryTakenIsSettled
every_taken_is_settled limits stop = (stop_settles stop).taken_so

-- while nothing waits all are settled
is_below : {limits : ServerLimits} (stop : Stop limits) (i : ℕ) (one : Stored) → slice_get stop.history.stored i ≡ Some one → IsSettled stop i → i < settled_in stop
is_below stop i one at settled = by_waits stop.serving.waits refl
  where
    by_waits : (b : Bool) → stop.serving.waits ≡ b → i < settled_in stop
    by_waits true waits = settled waits
    by_waits false none =
        let all = (stop_settles stop).all none in
        let short = slice_get-within stop.history.stored i one at in
        omega (arith, all, short)

pub every_reply_is_held : EveryReplyIsHeld
every_reply_is_held limits stop i one at settled = by_down stop.serving.is_down refl stop.leaves.1
  where
    its_left : Left
    its_left = record { tree = stop.leaves.0; seats = stop.left }

    is : RunSeated stop.run stop.serving stop.history (settled_in stop)
    is = stop_seated stop

    below : i < settled_in stop
    below = is_below stop i one at settled

    by_down : (down : Bool) → stop.serving.is_down ≡ down → MayBeLeft stop.serving stop.event its_left
        → IsKept stop.left (stop.history.stored ++ option_to_list (storing stop.serving stop.history stop.event down))
        (stop.history.freed ++ freeing stop.serving stop.event down) i one
    by_down false up may =
        may_kept limits stop.run stop.serving stop.history (settled_in stop)
        (run_held limits stop.run stop.start stop.seats stop.serving stop.history stop.is_run) is up stop.event its_left may i one below at
    by_down true down (inl among) =
        subst (λ (l : List (List ℕ)). IsKept stop.left (stop.history.stored ++ option_to_list stop.history.torn) l i one) (sym (append-nil stop.history.freed))
        (is.kept down its_left among i one below at)
    by_down true down (inr after) = absurd (never stop.serving.is_down down after)
      where
        never : (b : Bool) → b ≡ true → IsAfterEvent stop.serving.world stop.event b its_left → ⊥
        never true same after = after
        never false same after = true≢false (sym same)

-- A session of an earlier run is none of this run's

module _ (limits : ServerLimits) (stop : Stop limits) (up : stop.serving.is_down ≡ false) where
  abbrev table : Table
  table = stop.serving.world.table

  none_of : (id : List ℕ) → run_of id < stop.run → (known : Option Session) → find (is_session id) table.sessions ≡ known → known ≡ None
  none_of id earlier None found = refl
  none_of id earlier (Some session) found =
      let seated = ((stop_seated stop).up up).0 in
      let of_run = all-found (λ (s : Session). in_run s.client ≡ stop.run) (is_session id) table.sessions session seated.of_run found in
      let named : id_in session ≡ id = id_of id session (found_passes (is_session id) table.sessions session found) in
      let is : run_of id ≡ stop.run = ap run_of (sym named) ∙ id_of_run stop.run session.client session.serial stop.counted of_run in
      absurd (omega (arith, earlier, is))

  begins_dead : (id : List ℕ) → run_of id < stop.run → (uid count : ℕ) (arguments : SequenceArguments) → arguments.session ≡ id
      → begin uid count arguments table ≡ begin_dead uid arguments (seat_of id table.seats)
  unfolding begin
  begins_dead id earlier uid count arguments same =
      ap (begin_by uid count arguments table.seats)
      (none_of arguments.session (subst (λ (i : List ℕ). run_of i < stop.run) (sym same) earlier) (find (is_session arguments.session) table.sessions) refl)
      ∙ ap (λ (i : List ℕ). begin_dead uid arguments (seat_of i table.seats)) same

-- what the seat of a dead session does

dead_gives : (uid : ℕ) (arguments : SequenceArguments) (seat : Option Seat) (held : HeldReply) → held_in arguments.slot seat ≡ Some held → IsRetryOf uid arguments held
    → begin_dead uid arguments seat ≡ Replays held.result
dead_gives uid arguments None held there same = absurd (cc)
dead_gives uid arguments (Some seat) held there same =
    ap (begin_held uid arguments) there
    ∙ ap (λ (b : Bool). cond b (Replays held.result) (Refuses status.DeadSession))
    (and_from (arguments.sequence == held.number) (uid == held.uid) (eq-eqb arguments.sequence held.number same.0) (eq-eqb uid held.uid same.1))

held_refuses : (uid : ℕ) (arguments : SequenceArguments) (there : Option HeldReply) → ((held : HeldReply) → there ≡ Some held → IsRetryOf uid arguments held → ⊥)
    → begin_held uid arguments there ≡ Refuses status.DeadSession
held_refuses uid arguments None none = refl
held_refuses uid arguments (Some held) none = by_tests (arguments.sequence == held.number) (uid == held.uid) refl refl
  where
    by_tests : (a b : Bool) → (arguments.sequence == held.number) ≡ a → (uid == held.uid) ≡ b
        → cond (a && b) (Replays held.result) (Refuses status.DeadSession) ≡ Refuses status.DeadSession
    by_tests true true first second = absurd (none held refl (eqb-true arguments.sequence held.number first, eqb-true uid held.uid second))
    by_tests true false first second = refl
    by_tests false b first second = refl

dead_refuses : (uid : ℕ) (arguments : SequenceArguments) (seat : Option Seat) → ((held : HeldReply) → held_in arguments.slot seat ≡ Some held → IsRetryOf uid arguments held → ⊥)
    → begin_dead uid arguments seat ≡ Refuses (cond (is_some seat) status.DeadSession status.BadSession)
dead_refuses uid arguments None none = refl
dead_refuses uid arguments (Some seat) none = held_refuses uid arguments (get_or seat.slots arguments.slot None) none

pub every_dead_session : EveryDeadSession
every_dead_session limits stop up = record {
  dead = λ id earlier uid count arguments same.
      let begins = begins_dead limits stop up id earlier uid count arguments same in
      let seat = seat_of id stop.serving.world.table.seats in
      record {
        gives = λ held there retry. begins ∙ dead_gives uid arguments seat held there retry;
        refuses = λ none. begins ∙ dead_refuses uid arguments seat none;
        never = λ runs. dead_never uid arguments seat (sym begins ∙ runs);
      };
  seats = (stop_seated stop).same up;
}

-- A reply that a turn lets a seat hold, and that the seat holds already, was stored before, in a
-- run that begins with seats of earlier runs.
use Rattle.std.proofs.Common.{◌≡◌, ℕ, ◌+◌, ◌<◌, ◌≤◌, ◌^◌, ◌&&◌, Bool, true, false, cond, List, [], ◌∷◌, ◌++◌, length, option_to_list, find, Option, None, Some, zero, suc, inl, inr, refl, sym, ap, ◌∙◌, subst, arith, append-nil}
use Rattle.std.specs.List.{IsAmong}
use Rattle.std.proofs.lemmas.Bool.{true≢false}
use Rattle.model_tree.specs.Seats.Seats.{HeldReply, Seats, has_seat, held_at, run_of}
use Rattle.model_tree.specs.Trees.Tree.{Tree}
use Rattle.model.specs.Server.Runs.{Event, Arrives, Turns, HangsUp, Connects, Takes, effect_of, RunHistory, Serving, Left, Stored, stored_as, kept_in, held_of_session, kept_at, stored_by, stored_of, naming_stored, names_after, replies_by, taken_by, history_after, mounted, IsRun, Begins, Goes_on, Fails_at, Stays_down, Flushed, AreSeats}
use Rattle.model.specs.Sessions.Session.{Table, Session, is_session, slot_at}
use Rattle.model.specs.Server.World.{ServerLimits, World, one, reply_at}
use Rattle.model.proofs.Sessions.AllOf.{all-found}
use Rattle.model.proofs.Sessions.SeatLaws.{among_left, among_right, either_list}
use Rattle.model.proofs.Sessions.SeatRunLaws.{event_seated, run_seated}
use Rattle.model.proofs.Sessions.SeatTables.{in_run, id_in, id_of_run}
use Rattle.model.proofs.Sessions.SlotLaw.{id_of}
use Rattle.model.proofs.Sessions.SlotsHeld.{run_held}
use Rattle.model.proofs.Sessions.TableCalls.{found_passes}

-- it is among the replies that were stored, with some names
pub record IsListed (replies : List (Stored × List ℕ)) (stored : Stored) : Type 0 where
  pub names : List ℕ
  pub among : IsAmong replies (stored, names)

-- a reply that an event stores, and that these seats hold already, is listed
abbrev pub IsKnown : World → Event → Seats → List (Stored × List ℕ) → Type 0
IsKnown world event seats replies =
    (stored : Stored) → stored_of world event ≡ Some stored → held_at stored.session stored.slot seats ≡ Some stored.held → IsListed replies stored

-- What is stored is of a session of the table

module _ (table : Table) (slot : List ℕ × ℕ) (one : Stored) where
  abbrev IsThere : Type 0
  IsThere = (session : Session) × (find (is_session one.session) table.sessions ≡ Some session)

  by_known : (known : Option Session) → find (is_session slot.0) table.sessions ≡ known → stored_as slot.0 slot.1 (held_of_session slot.1 known) ≡ Some one → IsThere
  by_known None is e = absurd (cc)
  by_known (Some session) is e = by_kept (kept_in (slot_at session slot.1) (slot_at session slot.1).state) e
    where
      by_kept : (held : Option HeldReply) → stored_as slot.0 slot.1 held ≡ Some one → IsThere
      by_kept None e = absurd (cc)
      by_kept (Some held) e =
          let its : Stored = record { session = slot.0; slot = slot.1; held = held } in
          let same : its ≡ one = cc in
          (session, ap (λ (s : Stored). find (is_session s.session) table.sessions) (sym same) ∙ is)

  by_test : (b : Bool) → cond b (stored_as slot.0 slot.1 (kept_at slot.0 slot.1 table)) None ≡ Some one → IsThere
  by_test true e = by_known (find (is_session slot.0) table.sessions) refl e
  by_test false e = absurd (cc)

stored_there : (table : Table) (keeps : Option (List ℕ × ℕ)) (holds : Bool) (one : Stored) → stored_by table keeps holds ≡ Some one
    → (session : Session) × (find (is_session one.session) table.sessions ≡ Some session)
stored_there table None holds one e = absurd (cc)
stored_there table (Some slot) holds one e = by_test table slot one (holds && has_seat slot.0 table.seats) e

event_there : (world : World) (event : Event) (one : Stored) → stored_of world event ≡ Some one
    → (session : Session) × (find (is_session one.session) (effect_of world event).table.sessions ≡ Some session)
event_there world (Arrives connection piece) stored e = absurd (cc)
event_there world (Turns connection now) stored e =
    stored_there (one world connection now).world.table (one world connection now).keeps (one world connection now).holds stored e
event_there world (HangsUp connection) stored e = absurd (cc)
event_there world (Connects connection) stored e = absurd (cc)
event_there world (Takes connection) stored e = absurd (cc)

-- Each reply that was stored is listed with what it names, of a server that is up

AreListed : RunHistory → Type 0
AreListed history = (stored : Stored) → IsAmong history.stored stored → IsListed history.replies stored

listed_more : (replies more : List (Stored × List ℕ)) (stored : Stored) → IsListed replies stored → IsListed (replies ++ more) stored
listed_more replies more stored is = record { names = is.names; among = among_left replies more (stored, is.names) is.among }

listed_new : (replies : List (Stored × List ℕ)) (stored : Option Stored) (names : List ℕ) (one : Stored) → IsAmong (option_to_list stored) one
    → IsListed (replies ++ naming_stored stored names) one
listed_new replies None names one among = absurd (let less = among.1.0 in omega (arith, less))
listed_new replies (Some stored) names one among =
    let same : one ≡ stored = only_here stored one among in
    record {
      names = names;
      among = among_right replies ((stored, names) ∷ []) (one, names) (0, (omega arith, ap (λ (s : Stored). (s, names)) same));
    }
  where
    only_here : (stored one : Stored) → IsAmong (stored ∷ []) one → one ≡ stored
    only_here stored one (zero, (less, same)) = same
    only_here stored one (suc place, (less, same)) = absurd (omega (arith, less))

listed_behind : (history : RunHistory) (world : World) (event : Event) → AreListed history → AreListed (history_after history world event)
unfolding AreListed
listed_behind history world (Arrives connection piece) are = are
listed_behind history world (Turns connection now) are = λ stored among.
    let turned = one world connection now in
    let its = stored_by turned.world.table turned.keeps turned.holds in
    elim (either_list history.stored (option_to_list its) stored among) [
      | inl before ↦ listed_more history.replies (replies_by history world connection turned) stored (are stored before)
      | inr new ↦ listed_new history.replies its (names_after history world connection turned) stored new
    ]
listed_behind history world (HangsUp connection) are = are
listed_behind history world (Connects connection) are = are
listed_behind history world (Takes connection) are = by_reply (reply_at world connection)
  where
    by_reply : (reply : Option (List ℕ)) → AreListed (taken_by history connection reply)
    by_reply None = are
    by_reply (Some reply) = are

run_listed : (first serving : Serving) (history : RunHistory) → IsRun first serving history → serving.is_down ≡ false → AreListed history
unfolding AreListed
run_listed first serving history Begins up = λ stored among. absurd (let less = among.1.0 in omega (arith, less))
run_listed first serving history (Goes_on {old = old} {new = new} {history = earlier} event is_run happens) up =
    listed_behind earlier old.world event (run_listed first old earlier is_run happens.up)
run_listed first serving history (Fails_at {old = old} {new = new} {history = earlier} event is_run fails) up =
    absurd (true≢false (sym fails.down ∙ up))
run_listed first serving history (Stays_down {old = old} {new = new} {history = earlier} connection is_run stays) up =
    absurd (true≢false (sym stays.still_down ∙ up))
run_listed first serving history (Flushed {old = old} {new = new} is_run flushes) up = run_listed first old history is_run flushes.up

pub run_is_known : (limits : ServerLimits) (run : ℕ) (start : Tree) (seats : Seats) → run < 2 ^ 32 → AreSeats run seats → (serving : Serving) (history : RunHistory)
    → IsRun (mounted limits run start seats) serving history → serving.is_down ≡ false → (event : Event) → (left : Left) → IsAmong serving.left left
    → IsKnown serving.world event left.seats history.replies
unfolding AreListed
run_is_known limits run start seats small are serving history is_run up event left among stored is there =
    let all = run_seated limits run start seats small are serving history is_run in
    let seated = all.up up in
    let held = run_held limits run start seats serving history is_run in
    let after = event_seated limits run serving.world held seated.1 history.stored history.freed seated.0 event in
    let found = event_there serving.world event stored is in
    let sessions = (effect_of serving.world event).table.sessions in
    let of_run = all-found (λ (session : Session). in_run session.client ≡ run) (is_session stored.session) sessions found.0 after.0.of_run found.1 in
    let named : id_in found.0 ≡ stored.session = id_of stored.session found.0 (found_passes (is_session stored.session) sessions found.0 found.1) in
    let its_run : run_of stored.session ≡ run = ap run_of (sym named) ∙ id_of_run run found.0.client found.0.serial small of_run in
    run_listed (mounted limits run start seats) serving history is_run up stored (all.theirs up left among stored.session stored.slot stored.held its_run there)

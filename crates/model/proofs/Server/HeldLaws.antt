-- What a held reply names is kept, by induction over a run: each pair that may be left has its own
-- level.
use Rattle.std.proofs.Common.{◌≡◌, ℕ, zero, suc, ◌<◌, ◌≤◌, ◌⊎◌, inl, inr, Bool, true, false, List, [], ◌∷◌, ◌++◌, length, get_or, option_to_list, Option, None, Some, refl, sym, ap, ◌∙◌, subst, arith, append-nil}
use Rattle.std.specs.List.{IsAmong}
use Rattle.std.proofs.lemmas.Bool.{false≢true}
use Rattle.model_tree.specs.Seats.Seats.{Seats, held_at}
use Rattle.model_tree.specs.Trees.Tree.{Tree}
use Rattle.model.specs.Server.World.{World, Entry, one, reply_at}
use Rattle.model.specs.Server.Runs.{Event, Arrives, Turns, HangsUp, Connects, Takes, executed_of, RunHistory, no_history, Stored, stored_of, stored_by, naming_stored, replies_of, replies_with, taken_by, history_after, Serving, Left, left_after, mounted, executed, done_with, effect_of, IsAfterEvent, MayBeLeft, Happens, DeviceFails, history_failing, IsRun, Begins, Goes_on, Fails_at, Stays_down, Flushed, IsChain, KeepsHeld, EveryHeldIsKept}
use Rattle.model.proofs.Server.Headline.{AllLawful, StandsFor, StandsFor-append, of_all, AreBelow, AreBelow-more, AreReplied, AreReplied-more, AreReplied-place, Holds, Joined, tree_behind, more_done, done_behind, replied, goes, goes_by, settled_on, fails_at, settled_failing, stays_down, flushed, holds, holds_at_start, only_one, still_good, all_permitted, Ended, chain_ended, lawful_ended}
use Rattle.model.proofs.Server.RunLaws.{event_fits}
use Rattle.model.proofs.Sessions.SeatLaws.{among_left, either_list}
use Rattle.model.proofs.Sessions.SeatStored.{IsListed, IsKnown, run_is_known}

-- this reply was stored with such names
record NamedBelow (level : ℕ) (replies : List (Stored × List ℕ)) (stored : Stored) : Type 0 where
  names : List ℕ
  among : IsAmong replies (stored, names)
  below : AreBelow level names

named_more : (level : ℕ) (replies more : List (Stored × List ℕ)) (stored : Stored) → NamedBelow level replies stored → NamedBelow level (replies ++ more) stored
named_more level replies more stored is = record { names = is.names; among = among_left replies more (stored, is.names) is.among; below = is.below }

-- what each reply that these seats hold names
HeldBelow : ℕ → List (Stored × List ℕ) → Seats → Type 0
HeldBelow level replies seats =
    (stored : Stored) (names : List ℕ) → IsAmong replies (stored, names) → held_at stored.session stored.slot seats ≡ Some stored.held → NamedBelow level replies stored

-- its tree has each durable operation below the level, and the replies in its seats name nothing
-- above
record IsLevel (start : Tree) (done : List Entry) (replies : List (Stored × List ℕ)) (settled : ℕ) (left : Left) : Type 0 where
  level : ℕ
  above : settled ≤ level
  inside : level ≤ length done
  stands : StandsFor start done level left.tree
  held : HeldBelow level replies left.seats

record HoldsSeats (start : Tree) (serving : Serving) (history : RunHistory) : Type 0 where
  base : Holds start serving history
  levels : (left : Left) → IsAmong serving.left left → IsLevel start history.done history.replies base.settled left

HeldBelow-all : (level : ℕ) (replies : List (Stored × List ℕ)) (seats : Seats) → AreReplied level replies → HeldBelow level replies seats
unfolding HeldBelow
HeldBelow-all level replies seats below stored names among there =
    record { names = names; among = among; below = AreReplied-place level replies among.0 (stored, names) below among.1.0 among.1.1 }

-- while nothing waits the level of each is what is settled
seats_settled : (start : Tree) (serving : Serving) (history : RunHistory) → Holds start serving history → serving.waits ≡ false → HoldsSeats start serving history
seats_settled start serving history is none = record {
  base = is;
  levels = λ left among. record {
    level = is.settled;
    above = omega arith;
    inside = is.core.within;
    stands = is.core.left left among;
    held = HeldBelow-all is.settled history.replies left.seats (AreReplied-more is.bound is.settled history.replies (is.told none) is.names.replies);
  };
}

-- Replies that come to others

named_stored : (stored : Option Stored) (names : List ℕ) (one : Stored) (its : List ℕ) → IsAmong (naming_stored stored names) (one, its) → stored ≡ Some one
named_stored None names one its among = absurd (let less = among.1.0 in omega (arith, less))
named_stored (Some stored) names one its among = ap (λ (r : Stored × List ℕ). Some r.0) (sym (only_one (stored, names) (one, its) among))

event_stored : (history : RunHistory) (world : World) (event : Event) (stored : Stored) (names : List ℕ) → IsAmong (replies_of history world event) (stored, names)
    → stored_of world event ≡ Some stored
event_stored history world (Arrives connection piece) stored names among = absurd (let less = among.1.0 in omega (arith, less))
event_stored history world (Turns connection now) stored names among =
    let turned = one world connection now in
    named_stored (stored_by turned.world.table turned.keeps turned.holds) _ stored names among
event_stored history world (HangsUp connection) stored names among = absurd (let less = among.1.0 in omega (arith, less))
event_stored history world (Connects connection) stored names among = absurd (let less = among.1.0 in omega (arith, less))
event_stored history world (Takes connection) stored names among = absurd (let less = among.1.0 in omega (arith, less))

-- An event

-- What may be left while an event happens, of a server that is up. While something waits, a reply
-- that the event lets a seat hold, and that one held before it, was stored before.
module _ (start : Tree) (serving : Serving) (event : Event) (history : RunHistory) (is : HoldsSeats start serving history) (up : serving.is_down ≡ false)
    (known : serving.waits ≡ true → (left : Left) → IsAmong serving.left left → IsKnown serving.world event left.seats history.replies) where
  abbrev all_done : List Entry
  all_done = Joined history.done (executed_of serving.world event)

  abbrev all_replies : List (Stored × List ℕ)
  all_replies = history.replies ++ replies_of history serving.world event

  its_replied : AreReplied is.base.bound all_replies
  its_replied = replied history serving.world event is.base.bound is.base.settled is.base.names

  more : length history.done ≤ length all_done
  more = more_done history.done (executed_of serving.world event)

  -- what was left before holds the replies that it held
  before_held : (left : Left) (among : IsAmong serving.left left) → HeldBelow (is.levels left among).level all_replies left.seats
  unfolding HeldBelow
  before_held left left_before = by_waits serving.waits refl
    where
      by_waits : (b : Bool) → serving.waits ≡ b → HeldBelow (is.levels left left_before).level all_replies left.seats
      by_waits false none =
          let told = is.base.told none in
          let above = (is.levels left left_before).above in
          HeldBelow-all (is.levels left left_before).level all_replies left.seats
          (AreReplied-more is.base.bound (is.levels left left_before).level all_replies (omega (arith, told, above)) its_replied)
      by_waits true waits = λ stored names among there. elim (either_list history.replies (replies_of history serving.world event) (stored, names) among) [
        | inl before ↦ its_before stored names before there
        | inr new ↦
            let listed = known waits left left_before stored (event_stored history serving.world event stored names new) there in
            its_before stored listed.names listed.among there
      ]
        where
          its_before : (stored : Stored) (names : List ℕ) → IsAmong history.replies (stored, names) → held_at stored.session stored.slot left.seats ≡ Some stored.held
              → NamedBelow (is.levels left left_before).level all_replies stored
          its_before stored names among there =
              named_more (is.levels left left_before).level history.replies (replies_of history serving.world event) stored
              ((is.levels left left_before).held stored names among there)

  before_level : (left : Left) → IsAmong serving.left left → IsLevel start all_done all_replies is.base.settled left
  before_level left among = record {
    level = (is.levels left among).level;
    above = (is.levels left among).above;
    inside = let inside = (is.levels left among).inside in omega (arith, inside, more);
    stands = StandsFor-append start history.done (is.levels left among).level left.tree (option_to_list (executed_of serving.world event))
        (is.levels left among).inside (is.levels left among).stands;
    held = before_held left among;
  }

  -- what is left after it has everything
  after_level : (left : Left) → left ≡ left_after (effect_of serving.world event) → IsLevel start all_done all_replies is.base.settled left
  after_level left after = record {
    level = length all_done;
    above = let within = is.base.core.within in omega (arith, within, more);
    inside = omega arith;
    stands = of_all start all_done (length all_done) left.tree (omega arith)
        (ap (λ (l : Left). l.tree) after
        ∙ tree_behind start serving.world.tree (effect_of serving.world event).tree history.done (executed_of serving.world event) (event_fits serving.world event) (is.base.core.tree up));
    held = HeldBelow-all (length all_done) all_replies left.seats
        (AreReplied-more is.base.bound (length all_done) all_replies (let inside = is.base.inside in omega (arith, inside, more)) its_replied);
  }

  may_level : (left : Left) → MayBeLeft serving event left → IsLevel start all_done all_replies is.base.settled left
  may_level left (inl among) = before_level left among
  may_level left (inr after) = after_level left (subst (λ (b : Bool). IsAfterEvent serving.world event b left) up after)

-- the history after an event
taken_replies : (history : RunHistory) (connection : ℕ) (reply : Option (List ℕ)) → (taken_by history connection reply).replies ≡ history.replies
taken_replies history connection None = refl
taken_replies history connection (Some reply) = refl

replies_behind : (history : RunHistory) (world : World) (event : Event) → history.replies ++ replies_of history world event ≡ (history_after history world event).replies
replies_behind history world (Arrives connection piece) = append-nil history.replies
replies_behind history world (Turns connection now) = refl
replies_behind history world (HangsUp connection) = append-nil history.replies
replies_behind history world (Connects connection) = append-nil history.replies
replies_behind history world (Takes connection) = append-nil history.replies ∙ sym (taken_replies history connection (reply_at world connection))

-- A run

module _ (start : Tree) (old new : Serving) (event : Event) (history : RunHistory) (is : HoldsSeats start old history) (known : old.waits ≡ true → (left : Left) → IsAmong old.left left → IsKnown old.world event left.seats history.replies) where
  seats_go : Happens old event new → HoldsSeats start new (history_after history old.world event)
  seats_go happens = by_waits new.waits refl
    where
      by_waits : (b : Bool) → new.waits ≡ b → HoldsSeats start new (history_after history old.world event)
      by_waits false none = seats_settled start new (history_after history old.world event) (goes start old new event history is.base happens) none
      by_waits true waits = record {
        base = goes_by start old new event history is.base happens true waits;
        levels = λ left among.
            subst (λ (settled : ℕ). IsLevel start (history_after history old.world event).done (history_after history old.world event).replies settled left)
            (sym (settled_on start old new event history is.base happens waits))
            (subst (λ (done : List Entry). IsLevel start done (history_after history old.world event).replies is.base.settled left) (done_behind history old.world event)
            (subst (λ (replies : List (Stored × List ℕ)). IsLevel start (Joined history.done (executed_of old.world event)) replies is.base.settled left)
            (replies_behind history old.world event)
            (may_level start old event history is happens.up known left (happens.no_others left among))));
      }

  seats_fail : DeviceFails old event new → HoldsSeats start new (history_failing history old.world event)
  seats_fail fails = record {
    base = fails_at start old new event history is.base fails;
    levels = λ left among.
        subst (λ (settled : ℕ). IsLevel start (history_failing history old.world event).done (history_failing history old.world event).replies settled left)
        (sym (settled_failing start old new event history is.base fails))
        (may_level start old event history is fails.up known left (fails.no_others left among));
  }

module _ (start : Tree) (first : Serving) (begins : Holds start first no_history) (none : first.waits ≡ false)
    (known : (serving : Serving) (history : RunHistory) → IsRun first serving history → serving.is_down ≡ false → (event : Event)
    → (left : Left) → IsAmong serving.left left → IsKnown serving.world event left.seats history.replies) where
  seats_hold : (serving : Serving) (history : RunHistory) → IsRun first serving history → HoldsSeats start serving history
  seats_hold serving history Begins = seats_settled start first no_history begins none
  seats_hold serving history (Goes_on {old = old} {new = new} {history = earlier} event run happens) =
      seats_go start old new event earlier (seats_hold old earlier run) (λ _. known old earlier run happens.up event) happens
  seats_hold serving history (Fails_at {old = old} {new = new} {history = earlier} event run fails) =
      seats_fail start old new event earlier (seats_hold old earlier run) (λ _. known old earlier run fails.up event) fails
  seats_hold serving history (Stays_down {old = old} {new = new} {history = earlier} connection run stays) =
      seats_settled start new (history_after earlier old.world (Takes connection)) (stays_down start old new connection earlier (seats_hold old earlier run).base stays)
      (stays.waits ∙ stays.none_waits)
  seats_hold serving history (Flushed {old = old} {new = new} run flushes) =
      seats_settled start new history (flushed start old new history (seats_hold old history run).base flushes) flushes.none_waits

-- A crash

kept_of : (start : Tree) (done : List Entry) (handed_out : List ℕ) (replies : List (Stored × List ℕ)) (settled : ℕ) (left : Left) → IsChain start done → AllLawful done
    → AreBelow settled handed_out → IsLevel start done replies settled left → KeepsHeld start done handed_out replies left
unfolding HeldBelow
kept_of start done handed_out replies settled left chain lawful below is = record {
  prefix = record {
    k = is.stands.k;
    within = is.stands.within;
    holds = is.stands.holds;
    good = still_good start done handed_out is.level left.tree lawful (AreBelow-more settled is.level handed_out is.above below) is.stands;
    permitted = all_permitted done is.stands.k lawful;
    chain = chain;
  };
  held = λ stored names among there.
      let its = is.held stored names among there in
      record { names = its.names; among = its.among; below = still_good start done its.names is.level left.tree lawful its.below is.stands };
}

module _ (start : Tree) (serving : Serving) (history : RunHistory) (is : HoldsSeats start serving history) (event : Event)
    (known : serving.waits ≡ true → serving.is_down ≡ false → (left : Left) → IsAmong serving.left left → IsKnown serving.world event left.seats history.replies) where
  level_ended : (left : Left) → (down : Bool) → serving.is_down ≡ down → MayBeLeft serving event left
      → IsLevel start (Ended start serving history is.base event down) (replies_with history serving.world event down) is.base.settled left
  level_ended left false up may = may_level start serving event history is up (λ waits. known waits up) left may
  level_ended left true down may =
      subst (λ (done : List Entry). IsLevel start done history.replies is.base.settled left) (sym (append-nil history.done)) (before may)
    where
      before : MayBeLeft serving event left → IsLevel start history.done history.replies is.base.settled left
      before (inl among) = is.levels left among
      before (inr after) = absurd (subst (λ (b : Bool). IsAfterEvent serving.world event b left) down after)

  kept_ended : (left : Left) → (down : Bool) → serving.is_down ≡ down → MayBeLeft serving event left
      → KeepsHeld start (Ended start serving history is.base event down) history.handed_out (replies_with history serving.world event down) left
  kept_ended left down e may =
      kept_of start (Ended start serving history is.base event down) history.handed_out (replies_with history serving.world event down) is.base.settled left
      (chain_ended start serving history is.base event down e) (lawful_ended start serving history is.base event down) is.base.names.handed_out
      (level_ended left down e may)

pub every_held_is_kept : EveryHeldIsKept
every_held_is_kept limits run start seats serving history is_run begins event left may = by_waits serving.waits refl
  where
    base : Holds start (mounted limits run start seats) no_history
    base = holds_at_start limits run start seats

    by_waits : (b : Bool) → serving.waits ≡ b
        → KeepsHeld start (done_with history (executed serving event)) history.handed_out (replies_with history serving.world event serving.is_down) left
    by_waits false none =
        kept_ended start serving history
        (seats_settled start serving history (holds start (mounted limits run start seats) serving history base is_run) none) event
        (λ waits. absurd (false≢true (sym none ∙ waits))) left serving.is_down refl may
    by_waits true waits =
        let known = run_is_known limits run start seats (begins waits).0 (begins waits).1 in
        kept_ended start serving history (seats_hold start (mounted limits run start seats) base refl known serving history is_run) event
        (λ _ up. known serving history is_run up event) left serving.is_down refl may

-- What SEQUENCE does, by what its slot does.
use Rattle.std.proofs.Common.{◌≡◌, ℕ, Bool, true, false, cond, ◌&&◌, ◌==◌, nat_lt, List, length, Option, None, Some, Ok, Err, refl, ap}
use Rattle.std.specs.Option.{option_map}
use Rattle.model_tree.specs.declared.status.Status.{Status}
use Rattle.model_tree.specs.declared.status.Status.TheVariants as status
use Rattle.model.specs.Operations.Operation.{SequenceArguments}
use Rattle.model_tree.specs.Seats.Seats.{HeldReply, Seat, Seats, held_in}
use Rattle.model.specs.Sessions.Session.{Begun, Refuses, Replays, Runs, SlotState, Free, Running, Kept, Slot, Session, begin_by, begin_slot, begin_new, begin_held, begin_dead, slot_at, next_number}
use Rattle.session.specs.declared.slot.Next.TheVariants as next
use Rattle.session.specs.Slots.{next_of, refusal_of, kept_reply}
use Rattle.session.specs.Seating.{reply_held}
use Rattle.session.specs.Views.{session_reply}

pub refuses : (b : Begun) (reason : Status) → next_of b ≡ Err reason → b ≡ Refuses reason
refuses (Refuses why) reason e = cc
refuses (Replays reply) reason e = cc
refuses Runs reason e = cc

pub replays : (b : Begun) → next_of b ≡ Ok next.Replays → (reply : List ℕ) × (b ≡ Replays reply)
replays (Refuses why) e = cc
replays (Replays reply) e = (reply, refl)
replays Runs e = cc

pub runs : (b : Begun) → next_of b ≡ Ok next.Runs → b ≡ Runs
runs (Refuses why) e = cc
runs (Replays reply) e = cc
runs Runs e = refl

new_replays : (a b : Bool) (reply : List ℕ) → cond a (cond b (Refuses status.TooManyOps) Runs) (Refuses status.SeqMisordered) ≡ Replays reply → Begun.Replays reply ≡ Runs
new_replays true true reply e = cc
new_replays true false reply e = cc
new_replays false b reply e = cc

kept_replays : (a b : Bool) (before reply : List ℕ) (others : Begun) → (others ≡ Replays reply → Begun.Replays reply ≡ Runs) → cond a (cond b (Replays before) (Refuses status.SeqFalseRetry)) others ≡ Replays reply → before ≡ reply
kept_replays true true before reply others never e = cc
kept_replays true false before reply others never e = cc
kept_replays false b before reply others never e = let absurdly : Begun.Replays reply ≡ Runs = never e in cc

running_replays : (a : Bool) (reply : List ℕ) → cond a (Refuses status.Delay) (Refuses status.SeqMisordered) ≡ Replays reply → Begun.Replays reply ≡ Runs
running_replays true reply e = cc
running_replays false reply e = cc

slot_replays : (uid count : ℕ) (arguments : SequenceArguments) (session : Session) (slot : Slot) (state : SlotState) (reply : List ℕ) → begin_slot uid count arguments session slot state ≡ Replays reply → kept_reply state ≡ Some reply
slot_replays uid count arguments session slot Free reply e =
    let never = new_replays (arguments.sequence == next_number slot.last) (nat_lt session.max_operations count) reply e in cc
slot_replays uid count arguments session slot Running reply e =
    let never = running_replays (arguments.sequence == slot.last) reply e in cc
slot_replays uid count arguments session slot (Kept before) reply e =
    ap Some (kept_replays (arguments.sequence == slot.last) (uid == slot.uid) before reply (begin_new count arguments session slot)
    (new_replays (arguments.sequence == next_number slot.last) (nat_lt session.max_operations count) reply) e)

inside_replays : (a : Bool) (b : Begun) (reply : List ℕ) → cond a b (Refuses status.BadSlot) ≡ Replays reply → b ≡ Replays reply
inside_replays true b reply e = e
inside_replays false b reply e = cc

-- the reply to a retry is the kept one
pub replays_kept : (uid count : ℕ) (arguments : SequenceArguments) (seats : Seats) (session : Session) (reply : List ℕ) → begin_by uid count arguments seats (Some session) ≡ Replays reply → session_reply arguments.slot session ≡ Some reply
replays_kept uid count arguments seats session reply e =
    let slot : Slot = slot_at session arguments.slot in
    slot_replays uid count arguments session slot slot.state reply
    (inside_replays (nat_lt arguments.slot (length session.slots)) (begin_slot uid count arguments session slot slot.state) reply e)

-- Of a session that is none of this run's

dead_held : (uid : ℕ) (arguments : SequenceArguments) (held : HeldReply) (b : Bool)
    → refusal_of (cond b (Replays held.result) (Refuses status.DeadSession)) ≡ None → cond b (Replays held.result) (Refuses status.DeadSession) ≡ Replays held.result
dead_held uid arguments held true e = refl
dead_held uid arguments held false e = cc

by_held : (uid : ℕ) (arguments : SequenceArguments) (held : Option HeldReply) → refusal_of (begin_held uid arguments held) ≡ None
    → (reply : List ℕ) × (begin_held uid arguments held ≡ Replays reply) × (option_map (λ (h : HeldReply). h.result) held ≡ Some reply)
by_held uid arguments None e = absurd (cc)
by_held uid arguments (Some held) e = (held.result, dead_held uid arguments held (arguments.sequence == held.number && uid == held.uid) e, refl)

-- the reply to what is not refused is the one that is held
pub dead_replays : (uid : ℕ) (arguments : SequenceArguments) (seat : Option Seat) → refusal_of (begin_dead uid arguments seat) ≡ None
    → (reply : List ℕ) × (begin_dead uid arguments seat ≡ Replays reply) × (reply_held arguments.slot seat ≡ Some reply)
dead_replays uid arguments None e = absurd (cc)
dead_replays uid arguments (Some seat) e = by_held uid arguments (held_in arguments.slot (Some seat)) e

held_refuses : (uid : ℕ) (arguments : SequenceArguments) (reason : Status) (held : HeldReply) (b : Bool)
    → refusal_of (cond b (Replays held.result) (Refuses status.DeadSession)) ≡ Some reason → cond b (Replays held.result) (Refuses status.DeadSession) ≡ Refuses reason
held_refuses uid arguments reason held true e = absurd (cc)
held_refuses uid arguments reason held false e = cc

by_refusal : (uid : ℕ) (arguments : SequenceArguments) (reason : Status) (held : Option HeldReply) → refusal_of (begin_held uid arguments held) ≡ Some reason → begin_held uid arguments held ≡ Refuses reason
by_refusal uid arguments reason None e = cc
by_refusal uid arguments reason (Some held) e = held_refuses uid arguments reason held (arguments.sequence == held.number && uid == held.uid) e

pub dead_refuses : (uid : ℕ) (arguments : SequenceArguments) (reason : Status) (seat : Option Seat) → refusal_of (begin_dead uid arguments seat) ≡ Some reason → begin_dead uid arguments seat ≡ Refuses reason
dead_refuses uid arguments reason None e = cc
dead_refuses uid arguments reason (Some seat) e = by_refusal uid arguments reason (held_in arguments.slot (Some seat)) e

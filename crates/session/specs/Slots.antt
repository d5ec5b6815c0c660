-- What the code's slots represent.
use Rattle.std.specs.Prelude.{ℕ, List, Option, None, Some, Result, Ok, Err}
use Rattle.model.specs.Sessions.Session as model
use Rattle.model_tree.specs.declared.status.Status.{Status}
use Rattle.session.specs.declared.slot.SlotState.{SlotState}
use Rattle.session.specs.declared.slot.SlotState.TheVariants as slot_state
use Rattle.session.specs.declared.slot.Slot.{Slot}
use Rattle.session.specs.declared.slot.Next.{Next}
use Rattle.session.specs.declared.slot.Next.TheVariants as next

abbrev pub slot_state_of : SlotState → model.SlotState
slot_state_of slot_state.Free = model.Free
slot_state_of (slot_state.Running memory) = model.Running
slot_state_of (slot_state.Kept reply) = model.Kept reply.bytes.items

abbrev pub slot_of : Slot → model.Slot
slot_of slot = record { last = slot.last; uid = slot.uid; state = slot_state_of slot.state }

-- the slot once it runs this number
abbrev pub running_slot : ℕ → ℕ → model.Slot
running_slot number uid = record { last = number; uid = uid; state = model.Running }

-- the reply that it keeps
abbrev pub kept_reply : model.SlotState → Option (List ℕ)
kept_reply model.Free = None
kept_reply model.Running = None
kept_reply (model.Kept reply) = Some reply

-- the slot once it keeps the reply
abbrev pub kept_slot : List ℕ → model.Slot → model.Slot
kept_slot reply slot = record slot { state = model.Kept reply }

-- what a slot does with a request, without the reply
abbrev pub next_of : model.Begun → Result Next Status
next_of (model.Refuses status) = Err status
next_of (model.Replays reply) = Ok next.Replays
next_of model.Runs = Ok next.Runs

-- why it is refused
abbrev pub refusal_of : model.Begun → Option Status
refusal_of (model.Refuses status) = Some status
refusal_of (model.Replays reply) = None
refusal_of model.Runs = None

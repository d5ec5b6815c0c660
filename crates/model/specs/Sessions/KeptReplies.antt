-- What slots keep is bounded, whatever comes: RFC 8881, section 2.10.6.1.3. The bound is this
-- server's profile.
use Rattle.std.specs.Prelude.{◌≡◌, ◌≤◌, ℕ, ◌-◌, Bool, true, IsTrue, List, Option, Some, None, length, nat_le}
use Rattle.std.specs.List.{list_all}
use Rattle.model_tree.specs.Seats.Seats.{Seats}
use Rattle.model_tree.specs.declared.status.Status.{Status}
use Rattle.model_tree.specs.declared.status.Status.TheVariants as status
use Rattle.model_tree.specs.Trees.Keyed.{at}
use Rattle.model.specs.Wire.Rpc.{Success, reply_text}
use Rattle.model.specs.Sessions.Session.{SlotState, Free, Running, Kept, Session}
use Rattle.model_tree.specs.Trees.Tree.{Tree}
use Rattle.model.specs.Server.World.{ServerLimits, InProgress, Busy, World, mounted_world, result_of, one, arrives, takes, connects, hung_up}

-- the reply's record if it were made now, without the record's header
abbrev pub reply_so_far : InProgress → List ℕ
reply_so_far request = reply_text request.xid (Success (result_of request status.Ok))

-- the most bytes of a record that a kept result has: the header of its reply, 24 bytes, is left
-- out, and a refused result, of at most 12 bytes, may follow those that had room
abbrev pub max_kept : ServerLimits → ℕ
max_kept limits = limits.reply_bytes - 12

abbrev pub is_short_state : (most : ℕ) → SlotState → Bool
is_short_state most Free = true
is_short_state most Running = true
is_short_state most (Kept reply) = nat_le (length reply) most

abbrev pub keeps_short : (most : ℕ) → Session → Bool
keeps_short most session = list_all (λ slot. is_short_state most slot.state) session.slots

-- for a request that has begun: the reply that it has so far, or the whole result once that is
-- there
abbrev pub IsShortSoFar : ServerLimits → InProgress → (ended : Option Status) → Type 0
IsShortSoFar limits request None = length (reply_so_far request) ≤ limits.reply_bytes
IsShortSoFar limits request (Some last) = length (result_of request last) ≤ max_kept limits

pub record IsShort (world : World) : Type 0 where
  pub kept : IsTrue (list_all (keeps_short (max_kept world.limits)) world.table.sessions)
  pub busy : (number : ℕ) (request : InProgress) → at number world.connections ≡ Some (Busy request)
      → IsShortSoFar world.limits request request.ended

-- there is room for a COMPOUND without results
abbrev pub HasReplyRoom : ServerLimits → Type 0
HasReplyRoom limits = 300 ≤ limits.reply_bytes

-- The law: it holds when a run begins, and each event keeps it
pub record KeepsShort : Type 0 where
  pub begins : (limits : ServerLimits) (run : ℕ) (tree : Tree) (seats : Seats)
      → IsShort (mounted_world limits run tree seats)
  pub turn : (world : World) (number now : ℕ) → HasReplyRoom world.limits → IsShort world
      → IsShort (one world number now).world
  pub arrival : (world : World) (number : ℕ) (piece : List ℕ) → IsShort world
      → IsShort (arrives world number piece)
  pub taking : (world : World) (number : ℕ) → IsShort world → IsShort (takes world number)
  pub connecting : (world : World) (number : ℕ) → IsShort world → IsShort (connects world number)
  pub hang_up : (world : World) (number now : ℕ) → HasReplyRoom world.limits → IsShort world
      → IsShort (hung_up world number now)

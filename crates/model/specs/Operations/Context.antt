-- What a COMPOUND hands from one operation to the next: RFC 8881, section 16.2.3.1 (current and
-- saved filehandle and stateid).
use Rattle.std.specs.Prelude.{ℕ, Bool, Option, Some, None, is_some, ◌==◌, ◌&&◌, bytes_eq}
use Rattle.model_tree.specs.declared.acl.Cred.{Cred}
use Rattle.model.specs.Operations.Operation.{StateId, RenameArguments}

-- a filehandle, as the number of its node, and the stateid that goes with it
pub record Place : Type 0 where
  pub number : ℕ
  pub state : Option StateId

pub record Context : Type 0 where
  pub cred : Cred
  pub client : ℕ
  pub run : ℕ  -- the server's restart count
  pub current : Option Place
  pub saved : Option Place

-- the number of a place, or 0, which no node has, if there is none
abbrev pub place_number : Option Place → ℕ
place_number None = 0
place_number (Some place) = place.number

abbrev pub has_current : Context → Bool
has_current context = is_some context.current

abbrev pub current_number : Context → ℕ
current_number context = place_number context.current

-- the context with this node as the current one: that clears the current stateid
abbrev pub at_node : Context → ℕ → Context
at_node context number =
    record context { current = Some (record { number = number; state = None }) }

-- the same node, without the current stateid
abbrev pub without_stateid : Context → Context
without_stateid context = at_node context (current_number context)

-- SAVEFH and RESTOREFH carry the stateid too

abbrev pub saving : Context → Context
saving context = record context { saved = context.current }

abbrev pub restored : Context → Context
restored context = record context { current = context.saved }

abbrev pub has_saved : Context → Bool
has_saved context = is_some context.saved

abbrev pub saved_number : Context → ℕ
saved_number context = place_number context.saved

-- whether a name is renamed to itself: that is no change, and needs no rights
abbrev pub is_same_name : Context → RenameArguments → Bool
is_same_name context arguments =
    saved_number context == current_number context && bytes_eq arguments.old_name arguments.new_name

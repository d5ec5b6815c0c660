-- OPEN and CLOSE: RFC 8881, sections 18.16 and 18.2. The order of the tests, and that a share
-- reservation is refused, are this server's profile; so is that an open grants no right.
use Rattle.std.specs.Prelude.{ℕ, Bool, true, false, [], ◌∷◌, ◌++◌, List, ◌==◌, ◌&&◌, ◌||◌, not, nat_lt, replicate, if◌then◌else◌, unwrap_or, Option, Some, None}
use Rattle.model_tree.specs.declared.acl.Ace.{Ace}
use Rattle.model_tree.specs.declared.acl.Cred.{Cred}
use Rattle.model_tree.specs.declared.node.NodeKind.TheVariants as kind
use Rattle.model_tree.specs.declared.status.Status.TheVariants as status
use Rattle.model.specs.Operations.Answer.{Answer}
use Rattle.model.specs.Attributes.Attribute.{attribute_refusals, settable_at_open, is_empty, trimmed, size_given, mode_given, acl_given}
use Rattle.model_tree.specs.Trees.Changes.{touch, made_edits, acl_of}
use Rattle.model.specs.Operations.Context.{Context, current_number, without_stateid}
use Rattle.model.specs.Operations.Definition.{Definition, on_current, needs_nothing}
use Rattle.model.specs.Operations.Directory.{change_of}
use Rattle.model_tree.specs.Trees.Tree.{number_named, is_named, Tree, Node, File, is_directory_at}
use Rattle.model_tree.specs.Trees.Edit.{SetSize}
use Rattle.model_tree.specs.Rights.Acl.{meets, execute, read_data, write_data}
use Rattle.model_tree.specs.Rights.Inherit.{created_list}
use Rattle.model.specs.Operations.Need.{Right, here, right_if}
use Rattle.model_tree.specs.Trees.Keyed.{at}
use Rattle.model_tree.specs.declared.limits.Limits.{Limits}
use Rattle.model.specs.Sessions.Opens.{Open, Opens}
use Rattle.model.specs.Operations.Operation.{Attributes, ChangeInfo, OpenArguments, OpenType, NoCreate, Unchecked, Guarded, ByName, ByHandle, OtherClaim, Opening, Opens as Opening_of, Exclusive, StateId, CloseArguments}
use Rattle.model_tree.specs.Refusals.Refusal.{Refusals}
use Rattle.model.specs.Operations.State.{State, Stepped, current, stamp_of, current_refusals, named_refusals, is_name_there, answered, changed, change_to}
use Rattle.model.specs.Sessions.StateIds.{read_access, write_access, Found, Anonymous, Refused, Names, found, close_refusals, new_open, opened, Opened, is_table_full, without_open, open_stateid, closed_state}

-- What an opening asks for

abbrev pub creates : OpenType → Bool
creates NoCreate = false
creates (Unchecked given) = true
creates (Guarded given) = true

-- the attributes of a file that is made
abbrev pub given_by : OpenType → Attributes
given_by NoCreate = record { bitmap = []; values = [] }
given_by (Unchecked given) = given
given_by (Guarded given) = given

-- a file that is there is truncated if UNCHECKED4 gives the size 0; every other attribute is for a
-- new one
abbrev pub is_zero : Option ℕ → Bool
is_zero None = false
is_zero (Some size) = size == 0

abbrev pub cuts : OpenType → Bool
cuts NoCreate = false
cuts (Unchecked given) = is_zero (size_given given)
cuts (Guarded given) = false

-- Tests before the caller's rights

-- access is READ, WRITE or both; denying anything is refused
abbrev pub share_refusals : OpenArguments → Refusals
share_refusals arguments =
    (arguments.access == 0 || nat_lt 3 arguments.access, status.Inval)
    ∷ (nat_lt 0 arguments.deny && not (nat_lt 3 arguments.deny), status.ShareDenied)
    ∷ (nat_lt 3 arguments.deny, status.Inval)
    ∷ []

-- an exclusive create, and another claim than by name or by filehandle, are not served
abbrev pub opening_refusals : Opening → Refusals
opening_refusals (Exclusive mode) = (true, status.NotSupp) ∷ []
opening_refusals (Opening_of how (OtherClaim claim)) = (true, status.NotSupp) ∷ []
opening_refusals (Opening_of how (ByName name)) = []
opening_refusals (Opening_of how ByHandle) = []

abbrev pub place_refusals : Limits → State → Opening → Refusals
place_refusals limits state (Exclusive mode) = []
place_refusals limits state (Opening_of how (OtherClaim claim)) = []
place_refusals limits state (Opening_of how (ByName name)) = named_refusals limits state name
place_refusals limits state (Opening_of how ByHandle) =
    (creates how, status.Inval) ∷ (is_directory_at state.tree (current state), status.IsDir) ∷ []

abbrev pub open_refusals : Limits → State → OpenArguments → Refusals
open_refusals limits state arguments =
    opening_refusals arguments.opening
    ++ (share_refusals arguments ++ place_refusals limits state arguments.opening)

-- The right to look a name up
abbrev pub lookup_rights : Context → Opening → List (List Right)
lookup_rights context (Exclusive mode) = []
lookup_rights context (Opening_of how (OtherClaim claim)) = []
lookup_rights context (Opening_of how (ByName name)) = here context execute
lookup_rights context (Opening_of how ByHandle) = []

-- Tests between the right to look a name up and the rights on the file

-- the file is there
abbrev pub known_refusals : Limits → State → (number : ℕ) → OpenType → Refusals
known_refusals limits state number NoCreate = (is_directory_at state.tree number, status.IsDir) ∷ []
known_refusals limits state number (Unchecked given) =
    (is_directory_at state.tree number, status.IsDir)
    ∷ attribute_refusals limits kind.File settable_at_open given
known_refusals limits state number (Guarded given) = (true, status.Exist) ∷ []

-- the name is not there
abbrev pub new_refusals : Limits → OpenType → Refusals
new_refusals limits NoCreate = (true, status.NoEnt) ∷ []
new_refusals limits (Unchecked given) = attribute_refusals limits kind.File settable_at_open given
new_refusals limits (Guarded given) = attribute_refusals limits kind.File settable_at_open given

abbrev pub name_opening_refusals : Limits → State → OpenType → (name : List ℕ) → Refusals
name_opening_refusals limits state of name =
    if is_name_there state name
    then known_refusals limits state (number_named state.tree (current state) name) of
    else new_refusals limits of

abbrev pub middle_at_open : Limits → State → Opening → Refusals
middle_at_open limits state (Exclusive mode) = []
middle_at_open limits state (Opening_of how (OtherClaim claim)) = []
middle_at_open limits state (Opening_of how (ByName name)) =
    name_opening_refusals limits state how name
middle_at_open limits state (Opening_of how ByHandle) = []

-- The rights on the file

-- an open's access, on its file
abbrev pub access_rights : (number access : ℕ) → List (List Right)
access_rights number access =
    right_if (meets access read_access) number read_data
    ++ right_if (meets access write_access) number write_data

-- a file by its name: the rights on it, and to write if it is truncated; the right to add a file if
-- the name is not there
abbrev pub opening_rights : Tree → Context → (access : ℕ) → Opening → List (List Right)
opening_rights tree context access (Exclusive mode) = []
opening_rights tree context access (Opening_of how (OtherClaim claim)) = []
opening_rights tree context access (Opening_of how (ByName name)) =
    if is_named tree (current_number context) name
    then access_rights (number_named tree (current_number context) name) access
    ++ right_if (cuts how) (number_named tree (current_number context) name) write_data
    else here context write_data
opening_rights tree context access (Opening_of how ByHandle) =
    access_rights (current_number context) access

-- What is opened

-- whether a file is made, and whether one that is there is cut

abbrev pub makes_file : State → Opening → Bool
makes_file state (Exclusive mode) = false
makes_file state (Opening_of how (OtherClaim claim)) = false
makes_file state (Opening_of how (ByName name)) = not (is_name_there state name)
makes_file state (Opening_of how ByHandle) = false

abbrev pub cuts_file : State → Opening → Bool
cuts_file state (Exclusive mode) = false
cuts_file state (Opening_of how (OtherClaim claim)) = false
cuts_file state (Opening_of how (ByName name)) = is_name_there state name && cuts how
cuts_file state (Opening_of how ByHandle) = false

-- a new file's number is the change's stamp
abbrev pub file_opened : State → Opening → ℕ
file_opened state (Exclusive mode) = current state
file_opened state (Opening_of how (OtherClaim claim)) = current state
file_opened state (Opening_of how (ByName name)) =
    if is_name_there state name
    then number_named state.tree (current state) name
    else stamp_of state
file_opened state (Opening_of how ByHandle) = current state

abbrev pub asked_open : State → OpenArguments → Open
asked_open state arguments =
    new_open state.context.client arguments.owner (file_opened state arguments.opening)
    arguments.access

-- after the rights: a full table
abbrev pub late_at_open : Limits → State → OpenArguments → Refusals
late_at_open limits state arguments =
    (is_table_full limits.opens state.opens (asked_open state arguments), status.Delay) ∷ []

-- What it does to the tree

-- a new file is the caller's, and its bytes are zeros up to the size that was given
abbrev pub new_file : Cred → (parent : List Ace) → Attributes → (stamp now : ℕ) → Node
new_file cred parent given stamp now = record {
  owner = cred.uid;
  group = cred.gid;
  acl = created_list parent kind.File (is_empty given.bitmap) (mode_given given) (acl_given given);
  change = stamp;
  time_modify = now;
  content = File (replicate (unwrap_or (size_given given) 0) 0);
}

abbrev pub cut_or_not : (cut : Bool) → State → (now number : ℕ) → State
cut_or_not true state now number =
    changed state (SetSize number 0 ∷ touch state.tree number (stamp_of state) now ∷ [])
cut_or_not false state now number = state

abbrev pub with_file : (is_there : Bool) → State → (now : ℕ) → OpenType → (name : List ℕ) → State
with_file true state now of name =
    cut_or_not (cuts of) state now (number_named state.tree (current state) name)
with_file false state now of name = changed state (made_edits state.tree (current state) name
    (new_file state.context.cred (acl_of (at (current state) state.tree)) (given_by of)
    (stamp_of state) now) (stamp_of state) now)

abbrev pub opening_done : State → (now : ℕ) → Opening → State
opening_done state now (Exclusive mode) = state
opening_done state now (Opening_of how (OtherClaim claim)) = state
opening_done state now (Opening_of how (ByName name)) =
    with_file (is_name_there state name) state now how name
opening_done state now (Opening_of how ByHandle) = state

-- What it returns: the directory's change, and what was set

abbrev pub no_change_info : ChangeInfo
no_change_info = record { is_atomic = true; before = 0; after = 0 }

abbrev pub change_at_open : State → Opening → ChangeInfo
change_at_open state (Exclusive mode) = no_change_info
change_at_open state (Opening_of how (OtherClaim claim)) = no_change_info
change_at_open state (Opening_of how (ByName name)) =
    change_to state (current state)
    (if is_name_there state name then change_of (at (current state) state.tree) else stamp_of state)
change_at_open state (Opening_of how ByHandle) = no_change_info

-- size as a bitmap
abbrev pub size_alone : List ℕ
size_alone = 0x10 ∷ []

abbrev pub set_at_open : State → Opening → List ℕ
set_at_open state (Exclusive mode) = []
set_at_open state (Opening_of how (OtherClaim claim)) = []
set_at_open state (Opening_of how (ByName name)) =
    if is_name_there state name
    then (if cuts how then size_alone else [])
    else trimmed (given_by how).bitmap
set_at_open state (Opening_of how ByHandle) = []

abbrev pub opened_state : State → Opened → StateId
opened_state state now = open_stateid state.context.run now.serial now.state.seqid

-- the file is the current filehandle, with the stateid that was returned
abbrev pub at_opened : Context → (number : ℕ) → StateId → Context
at_opened context number state =
    record context { current = Some (record { number = number; state = Some state }) }

abbrev pub opens_in : State → State → OpenArguments → Opened → Stepped
opens_in old new arguments now = answered
    (record new {
      opens = now.opens;
      context = at_opened old.context now.state.number (opened_state old now);
    })
    (Answer.Open (record {
      state = opened_state old now;
      change = change_at_open old arguments.opening;
      flags = 0;
      was_set = set_at_open old arguments.opening;
    }))

abbrev pub open_file : State → (now : ℕ) → OpenArguments → Stepped
open_file state now arguments =
    opens_in state (opening_done state now arguments.opening) arguments
    (opened state.opens (asked_open state arguments))

-- OPEN (section 18.16)
abbrev pub OPEN : OpenArguments → Definition
OPEN arguments = record (on_current (λ tree context. lookup_rights context arguments.opening)
    (λ limits state now. open_file state now arguments)) {
      early = λ limits state. current_refusals state ++ open_refusals limits state arguments;
      middle = λ limits state. middle_at_open limits state arguments.opening;
      need_then = λ tree context.
          opening_rights tree context arguments.access arguments.opening;
      late = λ limits state. late_at_open limits state arguments;
      alters = λ state. makes_file state arguments.opening || cuts_file state arguments.opening;
    }

-- CLOSE ends the open, and the current stateid

abbrev pub closing_refusals : State → CloseArguments → Refusals
closing_refusals state arguments = close_refusals (found state.opens state.context arguments.state)

abbrev pub closed_by : Found → Opens → Opens
closed_by Anonymous opens = opens
closed_by (Refused reason) opens = opens
closed_by (Names serial known) opens = without_open serial opens

abbrev pub close_file : State → CloseArguments → Stepped
close_file state arguments = answered
    (record state {
      opens = closed_by (found state.opens state.context arguments.state) state.opens;
      context = without_stateid state.context;
    })
    (Answer.Close closed_state)

-- CLOSE (section 18.2)
abbrev pub CLOSE : CloseArguments → Definition
CLOSE arguments = record (on_current needs_nothing
    (λ limits state now. close_file state arguments)) {
      early = λ limits state. current_refusals state ++ closing_refusals state arguments;
    }

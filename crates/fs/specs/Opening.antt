-- OPEN, except for the table of opens; a call is given whether that is full.
use Rattle.std.specs.Prelude.{ℕ, Bool, List, [], ◌∷◌, ◌++◌, ◌+◌, Result, Ok, Err, None, MatchOption, ◌≡◌, ◌<◌, ◌≤◌, ◌^◌, ◌⊎◌, ◌&&◌, ◌||◌, true, false, not, if◌then◌else◌}
use Rattle.tree_edits.specs.declared.edit.Edit.{Edit}
use Rattle.layout.specs.Stands.{Kept}
use Rattle.model_tree.specs.declared.acl.Cred.{Cred}
use Rattle.model_tree.specs.declared.limits.Limits.{Limits}
use Rattle.model_tree.specs.declared.status.Status.TheVariants as status
use Rattle.inode.specs.Fields.{Fields}
use Rattle.model_tree.specs.Rights.Acl.{execute, granted, meets, read_data, write_data}
use Rattle.model.specs.Operations.Answer.{Answer}
use Rattle.model.specs.Attributes.Attribute.{trimmed}
use Rattle.model_tree.specs.Trees.Changes.{touch}
use Rattle.model_tree.specs.Trees.Tree.{is_named, number_named, Tree, is_directory_at}
use Rattle.model_tree.specs.Trees.Edit.{SetSize, edited}
use Rattle.model_tree.specs.Trees.Keyed.{at, is_key}
use Rattle.model.specs.Operations.Need.{granted_on}
use Rattle.model.specs.Operations.Open.{asked_open, at_opened, creates, cuts, file_opened, given_by, name_opening_refusals, opened_state, share_refusals, size_alone, access_rights, opening_rights}
use Rattle.model.specs.Operations.Operation.{Argument, OpenArguments, OpenType, NoCreate, Unchecked, Guarded}
use Rattle.model.specs.Operations.Operation as operation
use Rattle.model_tree.specs.Refusals.Refusal.{Refusals, first_refusal}
use Rattle.model_tree.specs.Trees.Stamp.{next_stamp}
use Rattle.model.specs.Operations.State.{State, Stepped, current, named_refusals, answered}
use Rattle.model.specs.Sessions.StateIds.{is_table_full, new_open, opened, read_access, write_access}
use Rattle.model.specs.Operations.Step.{alters, without_rights}
use Rattle.wire_attributes.specs.Given.{given_of}
use Rattle.fs.specs.declared.fault.FsFault.{FsFault}
use Rattle.fs.specs.declared.opening.How.{How}
use Rattle.fs.specs.declared.opening.How.TheVariants as how
use Rattle.fs.specs.declared.opening.OpenEffect.{OpenEffect}
use Rattle.fs.specs.declared.opening.OpenEffect.TheVariants as effect
use Rattle.fs.specs.declared.opening.OpenRoom.{OpenRoom}
use Rattle.fs.specs.declared.opening.Opened.{Opened}
use Rattle.fs.specs.declared.opening.Opening.{Opening}
use Rattle.fs.specs.declared.opening.Share.{Share}
use Rattle.fs.specs.declared.open_file.Planned.{Planned}
use Rattle.fs.specs.FileSystem.{FileSystem}
use Rattle.fs.specs.Operations.{IsOn, does_on, IsNotDone, IsRefused}
use Rattle.fs.specs.Renaming.{info_of}
use Rattle.volume.specs.Edits.{edited_by}
use Rattle.volume.specs.VolumeState.{with_tree}

-- What is asked for, as the definition has it

abbrev pub type_of : How → OpenType
type_of how.NoCreate = NoCreate
type_of (how.Unchecked given) = Unchecked (given_of given)
type_of (how.Guarded given) = Guarded (given_of given)

-- the arguments that a call by a name is made for, and whether the table has no room for their open
pub record IsOpening (fs : FileSystem) (state : State) (asked : Opening) (is_full : Bool)
    (arguments : OpenArguments) : Type 0 where
  pub access_is : arguments.access ≡ asked.share.access
  pub deny_is : arguments.deny ≡ asked.share.deny
  pub opening_is :
      arguments.opening ≡ operation.Opens (type_of asked.how) (operation.ByName asked.name.now)
  pub full_is :
      is_table_full fs.volume.limits.opens state.opens (asked_open state arguments) ≡ is_full

-- and those that a call by the filehandle is made for, which may not create a file
pub record IsOpeningCurrent (fs : FileSystem) (state : State) (share : Share)
    (is_create is_full : Bool)
    (arguments : OpenArguments) : Type 0 where
  pub access_is : arguments.access ≡ share.access
  pub deny_is : arguments.deny ≡ share.deny
  pub how : OpenType
  pub creates_is : creates how ≡ is_create
  pub opening_is : arguments.opening ≡ operation.Opens how operation.ByHandle
  pub full_is :
      is_table_full fs.volume.limits.opens state.opens (asked_open state arguments) ≡ is_full

-- What it leaves

-- which attributes were set
abbrev pub set_by : OpenEffect → OpenType → List ℕ
set_by effect.Nothing of = []
set_by effect.Cut of = size_alone
set_by effect.Made of = trimmed (given_by of).bitmap

-- the tree and the count of changes after it, and among the opens the one of this file
abbrev pub after_open : Tree → (changes : ℕ) → State → OpenArguments → OpenType → Opened → Stepped
after_open tree changes state arguments of made =
    let now = opened state.opens
    (new_open state.context.client arguments.owner made.number arguments.access) in
    answered
    (record {
      tree = tree;
      changes = changes;
      opens = now.opens;
      context = at_opened state.context now.state.number (opened_state state now);
    })
    (Answer.Open (record {
      state = opened_state state now;
      change = info_of made.directory;
      flags = 0;
      was_set = set_by made.effect of;
    }))

-- if the device keeps its word, it is opened as the definition opens it
abbrev pub OpensFile : (keeps_word : Type 0) → (old new : FileSystem) → State → (now : ℕ) → Opening
    → OpenArguments → Result Opened FsFault → Type 0
OpensFile keeps_word old new state now asked arguments (Ok made) = keeps_word
    → does_on old state now (Argument.Open arguments)
    ≡ after_open new.volume.tree new.changes state arguments (type_of asked.how) made
OpensFile keeps_word old new state now asked arguments (Err reason) =
    IsNotDone old state now (Argument.Open arguments) reason

-- what a call by a name does to its file if nothing refuses it
abbrev pub open_effect : Tree → (directory : ℕ) → (name : List ℕ) → OpenType → OpenEffect
open_effect tree directory name of =
    if is_named tree directory name
    then (if cuts of then effect.Cut else effect.Nothing)
    else effect.Made

-- whether the reply has room for the result
abbrev pub has_room_for : OpenRoom → OpenEffect → Bool
has_room_for room effect.Nothing = room.nothing
has_room_for room effect.Cut = room.cut
has_room_for room effect.Made = room.made

abbrev pub has_open_room : FileSystem → Opening → OpenRoom → Bool
has_open_room fs asked room =
    has_room_for room
    (open_effect fs.volume.tree asked.directory asked.name.now (type_of asked.how))

-- if nothing refuses an OPEN by this name, it opens the file of this number
abbrev pub IsFileToOpen : FileSystem → Opening → (number : ℕ) → Type 0
IsFileToOpen fs asked number = (state : State) (cred : Cred) → IsOn fs cred asked.directory state
    → file_opened state (operation.Opens (type_of asked.how) (operation.ByName asked.name.now))
    ≡ number

-- a number that is above 0, or 0 in place of one that has more than 64 bits
abbrev pub IsShortNumber : (number short : ℕ) → Type 0
IsShortNumber number short = ((short ≡ number) × (0 < short)) ⊎ ((short ≡ 0) × (2 ^ 64 ≤ number))

-- which file it opened, and what it did to it
pub record IsOpened (fs : FileSystem) (asked : Opening) (made : Opened) : Type 0 where
  pub number_is : IsFileToOpen fs asked made.number
  pub effect_is :
      made.effect ≡ open_effect fs.volume.tree asked.directory asked.name.now (type_of asked.how)

-- what an OPEN of this caller leaves by the definition. One that neither makes a file nor truncates
-- one is no change: nothing of it has to last.
pub record OpensTree (fs : FileSystem) (cred : Cred) (now : ℕ) (asked : Opening) (is_full : Bool)
    (after : Kept) (lasts : Bool) : Type 0 where
  pub state : State
  pub arguments : OpenArguments
  pub on : IsOn fs cred asked.directory state
  pub opening : IsOpening fs state asked is_full arguments
  pub kept : after
      ≡ with_tree fs.volume (does_on fs state now (Argument.Open arguments)).state.tree
  pub quiet : alters state (Argument.Open arguments) ≡ false → lasts ≡ false

-- the current file, which changes nothing
abbrev pub current_opened : (number : ℕ) → Opened
current_opened number = record {
  number = number;
  directory = record { before = 0; after = 0 };
  effect = effect.Nothing;
}

abbrev pub OpensCurrent : FileSystem → State → (now number : ℕ) → OpenArguments
    → Result (Unit {0}) FsFault → Type 0
OpensCurrent fs state now number arguments (Ok done) =
    does_on fs state now (Argument.Open arguments)
    ≡ after_open fs.volume.tree fs.changes state arguments NoCreate (current_opened number)
OpensCurrent fs state now number arguments (Err reason) =
    IsRefused fs state now (Argument.Open arguments) reason

-- Its tests, after that of a current filehandle

-- of the current file
abbrev pub handle_tests : State → OpenArguments → OpenType → Refusals
handle_tests state arguments of = (not (is_key (current state) state.tree), status.Stale)
    ∷ (share_refusals arguments
    ++ ((creates of, status.Inval)
    ∷ (is_directory_at state.tree (current state), status.IsDir)
    ∷ (without_rights state (access_rights (current state) arguments.access), status.Access)
    ∷ []))

-- of a name, before it is looked up
abbrev pub place_tests : Limits → State → OpenArguments → (name : List ℕ) → Refusals
place_tests limits state arguments name = (not (is_key (current state) state.tree), status.Stale)
    ∷ (share_refusals arguments
    ++ (named_refusals limits state name
    ++ ((
      not (granted_on (at (current state) state.tree) state.context.cred execute),
      status.Access,
    ) ∷ [])))

-- and after that
abbrev pub file_tests : Limits → State → (access : ℕ) → OpenType → (name : List ℕ) → Refusals
file_tests limits state access of name = name_opening_refusals limits state of name
    ++ ((
      without_rights state (opening_rights state.tree state.context access
          (operation.Opens of (operation.ByName name))),
      status.Access,
    ) ∷ [])

-- Before it is kept

-- a call by a name, after the tests of its place
pub record IsPlaced (fs : FileSystem) (cred : Cred) (asked : Opening) (is_full : Bool)
    (state : State) (arguments : OpenArguments) : Type 0 where
  pub on : IsOn fs cred asked.directory state
  pub opening : IsOpening fs state asked is_full arguments
  pub passed :
      first_refusal (place_tests fs.volume.limits state arguments asked.name.now) ≡ None

-- the name leads to this node
pub record NameLeadsTo (tree : Tree) (directory : ℕ) (name : List ℕ) (number : ℕ) : Type 0 where
  pub is_there : is_named tree directory name ≡ true
  pub number_is : number_named tree directory name ≡ number

-- the tree after a file is truncated
abbrev pub tree_cut : FileSystem → (number now : ℕ) → Tree
tree_cut fs number now = edited
    (SetSize number 0 ∷ touch fs.volume.tree number (next_stamp fs.volume.run fs.changes) now ∷ [])
    fs.volume.tree

-- an open that neither makes a file nor truncates one leaves the tree and the count
pub record StaysOpen (fs : FileSystem) (state : State) (now : ℕ) (arguments : OpenArguments)
    (of : OpenType) (opened : Opened) : Type 0 where
  pub quiet : alters state (Argument.Open arguments) ≡ false
  pub step : does_on fs state now (Argument.Open arguments)
      ≡ after_open fs.volume.tree fs.changes state arguments of opened

-- any other has the effect of these edits
abbrev pub OpensBy : FileSystem → State → (now : ℕ) → OpenArguments → OpenType → List Edit → Opened
    → Type 0
OpensBy fs state now arguments of edits opened = does_on fs state now (Argument.Open arguments)
    ≡ after_open (edited_by fs.volume edits) (fs.changes + 1) state arguments of opened

-- an open that passed its tests has the effect of its edits, or none if it has no edits
abbrev pub OpensAsPlanned : FileSystem → State → (now : ℕ) → OpenArguments → OpenType → Planned
    → Type 0
OpensAsPlanned fs state now arguments of planned = MatchOption planned.edits
    (StaysOpen fs state now arguments of planned.opened)
    (λ edits. OpensBy fs state now arguments of edits.items planned.opened)

-- Its rights, on the file itself

abbrev pub may_use : Fields → Cred → (access : ℕ) → (is_cut : Bool) → Bool
may_use fields cred access is_cut =
    (not (meets access read_access) || granted fields.acl fields.owner fields.group cred read_data)
    && (not (is_cut || meets access write_access)
    || granted fields.acl fields.owner fields.group cred write_data)

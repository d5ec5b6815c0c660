-- Each right of each operation: a caller that has all rights is served, and one that lacks only
-- this one gets ACCESS. RFC 8881, section 6.2.1.3.1. No law can say which rights an operation
-- needs, so they are listed here by name.
use Rattle.std.specs.Prelude.{ℕ, List, [], ◌∷◌, ◌-◌, Some, None, ◌≡◌, replicate}
use Rattle.model_tree.specs.declared.acl.Ace.{Ace}
use Rattle.model_tree.specs.declared.acl.AceKind.TheVariants as kind
use Rattle.model_tree.specs.declared.acl.Who.TheVariants as who
use Rattle.model_tree.specs.declared.status.Status.{Status}
use Rattle.model_tree.specs.declared.status.Status.TheVariants as status
use Rattle.model_tree.specs.Rights.Acl.{read_data, write_data, append_data, execute, delete_child, delete, read_acl, write_acl, write_owner, every_right}
use Rattle.model_tree.specs.Trees.Limits.{limits_of}
use Rattle.model_tree.specs.Rights.Mode.{entry}
use Rattle.model.specs.Sessions.Opens.{no_opens}
use Rattle.model.specs.Operations.Operation.{Argument, Attributes, NewDirectory, StateId, OpenType, NoCreate, Unchecked, Guarded, ByName, ByHandle, Claim, Opens}
use Rattle.model.specs.Sessions.StateIds.{zeros}
use Rattle.model.specs.Operations.Step.{does}
use Rattle.model_tree.specs.Trees.Tree.{Tree, Node, Content, File, Directory}
use Rattle.model.specs.Server.World.{status_of}

-- Node 1, the root, holds the file "f", number 2, the directory "d", number 3, and the file "g",
-- number 4. Their owner is 9, so that only the lists decide for the caller, 7.

abbrev pub node : List Ace → Content → Node
node acl content = record { owner = 9; group = 9; acl = acl; change = 5; time_modify = 0; content = content }

abbrev pub lists : (root file directory other : List Ace) → Tree
lists root file directory other = (
  1,
  node root (Directory ((2, record { name = 102 ∷ []; number = 2 }) ∷ (3, record { name = 100 ∷ []; number = 3 })
      ∷ (4, record { name = 103 ∷ []; number = 4 }) ∷ [])),
)
    ∷ (2, node file (File (1 ∷ 2 ∷ 3 ∷ [])))
    ∷ (3, node directory (Directory []))
    ∷ (4, node other (File []))
    ∷ []

-- The root holds two directories: number 2 has the file "f", number 4, and the directory "d",
-- number 5, which have one list; number 3 has the file "g", number 6.
abbrev pub apart : (source moved target there : List Ace) → Tree
apart source moved target there = (
  1,
  node [] (Directory ((2, record { name = 115 ∷ []; number = 2 }) ∷ (3, record { name = 116 ∷ []; number = 3 }) ∷ [])),
)
    ∷ (2, node source (Directory ((4, record { name = 102 ∷ []; number = 4 }) ∷ (5, record { name = 100 ∷ []; number = 5 }) ∷ [])))
    ∷ (3, node target (Directory ((6, record { name = 103 ∷ []; number = 6 }) ∷ [])))
    ∷ (4, node moved (File []))
    ∷ (5, node moved (Directory []))
    ∷ (6, node there (File []))
    ∷ []

-- everybody has these rights, and no other
abbrev pub allowed : (mask : ℕ) → List Ace
allowed mask = entry kind.Allow who.Everyone mask ∷ []

abbrev pub all : List Ace
all = allowed every_right

abbrev pub all_but : (mask : ℕ) → List Ace
all_but mask = allowed (every_right - mask)

-- what an operation returns, with a saved and a current filehandle
abbrev pub answer_at : Tree → (saved current : ℕ) → Argument → Status
answer_at tree saved current operation = status_of (does (limits_of 256 16) (record {
  tree = tree;
  changes = 0;
  opens = no_opens;
  context = record {
    cred = record { uid = 7; gid = 7; gids = [] };
    client = 1;
    run = 1;
    current = Some (record { number = current; state = None });
    saved = Some (record { number = saved; state = None });
  };
}) 1000 operation).outcome

-- in the root, in the directory, on the file, from one directory to the other

abbrev pub in_root : (root file directory other : List Ace) → Argument → Status
in_root root file directory other operation = answer_at (lists root file directory other) 1 1 operation

abbrev pub on_file : List Ace → Argument → Status
on_file acl operation = answer_at (lists all acl all all) 1 2 operation

abbrev pub in_directory : List Ace → Argument → Status
in_directory acl operation = answer_at (lists all all acl all) 1 3 operation

abbrev pub across : (source moved target there : List Ace) → Argument → Status
across source moved target there operation = answer_at (apart source moved target there) 2 3 operation

-- The operations

abbrev pub anonymous : StateId
anonymous = record { seqid = 0; other = zeros }

abbrev pub nothing : Attributes
nothing = record { bitmap = []; values = [] }

-- a size, a list without entries, a mode, an owner and a group: sets of one attribute
abbrev pub setting : (bitmap values : List ℕ) → Argument
setting bitmap values = Argument.SetAttr (record { state = anonymous; attributes = record { bitmap = bitmap; values = values } })

abbrev pub set_size : Argument
set_size = setting (0x10 ∷ []) (replicate 8 0)

abbrev pub set_list : Argument
set_list = setting (0x1000 ∷ []) (replicate 4 0)

abbrev pub set_mode : Argument
set_mode = setting (0 ∷ 2 ∷ []) (replicate 4 0)

abbrev pub set_owner : Argument
set_owner = setting (0 ∷ 0x10 ∷ []) (0 ∷ 0 ∷ 0 ∷ 1 ∷ 55 ∷ 0 ∷ 0 ∷ 0 ∷ [])

abbrev pub set_group : Argument
set_group = setting (0 ∷ 0x20 ∷ []) (0 ∷ 0 ∷ 0 ∷ 1 ∷ 55 ∷ 0 ∷ 0 ∷ 0 ∷ [])

abbrev pub get_list : Argument
get_list = Argument.GetAttr (0x1000 ∷ [])

abbrev pub look_up : Argument
look_up = Argument.Lookup (102 ∷ [])

abbrev pub make_directory : Argument
make_directory = Argument.Create (NewDirectory (110 ∷ []) nothing)

abbrev pub remove_file : Argument
remove_file = Argument.Remove (102 ∷ [])

-- the file, or the directory, gets the name "n"; the file takes the place of "g"
abbrev pub rename : (old new : ℕ) → Argument
rename old new = Argument.Rename (record { old_name = old ∷ []; new_name = new ∷ [] })

-- after a cookie, and from the first name on
abbrev pub listing_behind : (cookie : ℕ) → (bitmap : List ℕ) → Argument
listing_behind cookie bitmap =
    Argument.ReadDir (record { cookie = cookie; verifier = replicate 8 0; dir_count = 0; max_count = 8192; bitmap = bitmap })

abbrev pub listing : (bitmap : List ℕ) → Argument
listing bitmap = listing_behind 0 bitmap

abbrev pub opening : (access : ℕ) → OpenType → Claim → Argument
opening access how by = Argument.Open (record { seqid = 0; access = access; deny = 0; client = 0; owner = 65 ∷ []; opening = Opens how by })

abbrev pub by_name : (access : ℕ) → Argument
by_name access = opening access NoCreate (ByName (102 ∷ []))

-- UNCHECKED4 with the size 0
abbrev pub cutting : Argument
cutting = opening 1 (Unchecked (record { bitmap = 0x10 ∷ []; values = replicate 8 0 })) (ByName (102 ∷ []))

abbrev pub making : Argument
making = opening 1 (Guarded nothing) (ByName (110 ∷ []))

abbrev pub by_handle : (access : ℕ) → Argument
by_handle access = opening access NoCreate ByHandle

abbrev pub read : Argument
read = Argument.Read (record { state = anonymous; offset = 0; count = 8 })

abbrev pub write : Argument
write = Argument.Write (record { state = anonymous; offset = 0; stable = 0; data_bytes = 1 ∷ [] })

pub record RightsExamples : Type 0 where
  -- with every right, each of them returns OK; ACCESS needs none
  pub answers_look_up : in_root all all all all look_up ≡ status.Ok
  pub answers_make_directory : in_root all all all all make_directory ≡ status.Ok
  pub answers_remove_file : in_root all all all all remove_file ≡ status.Ok
  pub answers_rename_file : in_root all all all all (rename 102 110) ≡ status.Ok
  pub answers_rename_directory : in_root all all all all (rename 100 110) ≡ status.Ok
  pub answers_rename_over : in_root all all all all (rename 102 103) ≡ status.Ok
  pub answers_lists_names : in_root all all all all (listing []) ≡ status.Ok
  pub answers_lists_lists : in_root all all all all (listing (0x1000 ∷ [])) ≡ status.Ok
  pub answers_open_by_name : in_root all all all all (by_name 3) ≡ status.Ok
  pub answers_open_cutting : in_root all all all all cutting ≡ status.Ok
  pub answers_open_making : in_root all all all all making ≡ status.Ok
  pub answers_get_list : on_file all get_list ≡ status.Ok
  pub answers_set_size : on_file all set_size ≡ status.Ok
  pub answers_set_list : on_file all set_list ≡ status.Ok
  pub answers_set_mode : on_file all set_mode ≡ status.Ok
  pub answers_set_owner : on_file all set_owner ≡ status.Ok
  pub answers_set_group : on_file all set_group ≡ status.Ok
  pub answers_open_by_handle : on_file all (by_handle 3) ≡ status.Ok
  pub answers_read : on_file all read ≡ status.Ok
  pub answers_write : on_file all write ≡ status.Ok
  pub answers_access : on_file [] (Argument.Access 63) ≡ status.Ok
  pub answers_parent : in_directory all Argument.LookupParent ≡ status.Ok
  -- LOOKUP, LOOKUPP and OPEN by a name look a name up
  pub look_up_wants : in_root (all_but execute) all all all look_up ≡ status.Access
  pub parent_wants : in_directory (all_but execute) Argument.LookupParent ≡ status.Access
  pub open_wants_look_up : in_root (all_but execute) all all all (by_name 1) ≡ status.Access
  -- CREATE adds a directory
  pub create_wants : in_root (all_but append_data) all all all make_directory ≡ status.Access
  -- REMOVE needs the right to delete the node, or a child of the directory: either is enough
  pub remove_wants : in_root (all_but delete_child) (all_but delete) all all remove_file ≡ status.Access
  pub remove_by_node : in_root (all_but delete_child) all all all remove_file ≡ status.Ok
  pub remove_by_directory : in_root all (all_but delete) all all remove_file ≡ status.Ok
  -- RENAME removes a name, and what has the new one; a file is added as a file, a directory as a
  -- directory
  pub rename_wants : in_root (all_but delete_child) (all_but delete) all all (rename 102 110) ≡ status.Access
  pub target_wants : in_root (all_but delete_child) all all (all_but delete) (rename 102 103) ≡ status.Access
  pub file_wants : in_root (all_but write_data) all all all (rename 102 110) ≡ status.Access
  pub file_needs_no_more : in_root (all_but append_data) all all all (rename 102 110) ≡ status.Ok
  pub directory_wants : in_root (all_but append_data) all all all (rename 100 110) ≡ status.Access
  pub directory_needs_no_more : in_root (all_but write_data) all all all (rename 100 110) ≡ status.Ok
  -- the name is taken from one directory and put into the other, and each right is needed on its
  -- own directory only
  pub across_takes : across (all_but delete_child) (all_but delete) all all (rename 102 110) ≡ status.Access
  pub across_takes_directory : across (all_but delete_child) (all_but delete) all all (rename 100 110) ≡ status.Access
  pub across_replaces : across all all (all_but delete_child) (all_but delete) (rename 102 103) ≡ status.Access
  pub across_adds_file : across all all (all_but write_data) all (rename 102 110) ≡ status.Access
  pub across_adds_directory : across all all (all_but append_data) all (rename 100 110) ≡ status.Access
  pub across_file : across (allowed delete_child) [] (allowed write_data) [] (rename 102 110) ≡ status.Ok
  pub across_directory : across (allowed delete_child) [] (allowed append_data) [] (rename 100 110) ≡ status.Ok
  pub across_by_nodes : across [] (allowed delete) (allowed write_data) (allowed delete) (rename 102 103) ≡ status.Ok
  -- READDIR lists, and returns the list of an entry if that may be read, or if it can report that
  -- it may not
  pub list_wants : in_root (all_but read_data) all all all (listing []) ≡ status.Access
  pub entry_wants : in_root all (all_but read_acl) all all (listing (0x1000 ∷ [])) ≡ status.Access
  pub entry_tells : in_root all (all_but read_acl) all all (listing (0x1800 ∷ [])) ≡ status.Ok
  -- which is needed of the entries after the cookie: "f" has the cookie 2, and "d" the cookie 3
  pub entry_behind_wants : in_root all all (all_but read_acl) all (listing_behind 2 (0x1000 ∷ [])) ≡ status.Access
  pub entry_before_is_passed : in_root all (all_but read_acl) all all (listing_behind 2 (0x1000 ∷ [])) ≡ status.Ok
  -- GETATTR of the list reads it; of the mode it does not
  pub get_wants : on_file (all_but read_acl) get_list ≡ status.Access
  pub get_mode : on_file [] (Argument.GetAttr (0 ∷ 2 ∷ [])) ≡ status.Ok
  -- SETATTR
  pub size_wants : on_file (all_but write_data) set_size ≡ status.Access
  pub list_is_written : on_file (all_but write_acl) set_list ≡ status.Access
  pub mode_is_a_list : on_file (all_but write_acl) set_mode ≡ status.Access
  pub owner_wants : on_file (all_but write_owner) set_owner ≡ status.Access
  pub group_wants : on_file (all_but write_owner) set_group ≡ status.Access
  -- OPEN: for reading, for writing, truncating although it opens for reading, and adding a file
  pub open_reads : in_root all (all_but read_data) all all (by_name 1) ≡ status.Access
  pub open_writes : in_root all (all_but write_data) all all (by_name 2) ≡ status.Access
  pub open_cuts : in_root all (all_but write_data) all all cutting ≡ status.Access
  pub open_adds : in_root (all_but write_data) all all all making ≡ status.Access
  pub handle_reads : on_file (all_but read_data) (by_handle 1) ≡ status.Access
  pub handle_writes : on_file (all_but write_data) (by_handle 2) ≡ status.Access
  -- READ and WRITE look at the rights again: an open grants none
  pub read_wants : on_file (all_but read_data) read ≡ status.Access
  pub write_wants : on_file (all_but write_data) write ≡ status.Access

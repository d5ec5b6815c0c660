-- Listing, attributes, opens, reading and writing worked out by hand, on a fresh volume of 256
-- sectors and 16 nodes in its first run.
use Rattle.std.specs.Prelude.{ℕ, true, false, List, [], ◌∷◌, ◌++◌, ◌^◌, None, ◌≡◌, map, replicate, codes}
use Rattle.model_tree.specs.declared.status.Status.{Status}
use Rattle.model_tree.specs.declared.status.Status.TheVariants as status
use Rattle.model.specs.Operations.Answer.{Answer, Outcome, Entry}
use Rattle.model_tree.specs.Trees.Tree.{bytes_at, names_at}
use Rattle.model_tree.specs.Trees.Fresh.{fresh_tree}
use Rattle.model_tree.specs.declared.limits.Limits.{Limits}
use Rattle.model.specs.Operations.Operation.{Argument, Attributes, NewDirectory, StateId, OpenType, NoCreate, Unchecked, Guarded, Claim, ByName, ByHandle, Opens, Exclusive}
use Rattle.model.specs.Sessions.StateIds.{zeros, closed_state}
use Rattle.model.specs.Operations.Step.{State, does}
use Rattle.model.specs.Examples.StepExamples.{volume, caller, begun, outcomes, state_after, nothing_given, mode_given, with_a, at_root}
use Rattle.model.specs.Server.World.{status_of}

abbrev pub statuses : Limits → State → List Argument → List Status
statuses limits state operations = map status_of (outcomes limits state operations)

abbrev pub fresh : State
fresh = begun 7 fresh_tree 0

-- the caller goes on with another COMPOUND, or another one does

abbrev pub next_by : (uid : ℕ) → State → State
next_by uid state = record state { context = record { cred = caller uid; client = 4294967297; run = 1; current = None; saved = None } }

-- Directories "a", "b", "c" and then "d", without "b", as a listing shows them

abbrev pub make : (letter : ℕ) → Argument
make letter = Argument.Create (NewDirectory (letter ∷ []) nothing_given)

abbrev pub list_from : (cookie most : ℕ) → Argument
list_from cookie most = Argument.ReadDir (record { cookie = cookie; verifier = replicate 8 0; dir_count = 0; max_count = most; bitmap = [] })

abbrev pub three : State
three = state_after volume fresh (Argument.PutRootFh ∷ make 97 ∷ Argument.PutRootFh ∷ make 98 ∷ Argument.PutRootFh ∷ make 99 ∷ Argument.PutRootFh ∷ [])

abbrev pub three_others : State
three_others = state_after volume three (Argument.Remove (98 ∷ []) ∷ make 100 ∷ Argument.PutRootFh ∷ [])

abbrev pub shown : (letter stamp : ℕ) → Entry
shown letter stamp = record { cookie = stamp; name = letter ∷ []; attributes = nothing_given }

-- A file "f" of the caller's, opened for reading and writing

abbrev pub open_file : (access : ℕ) → (owner : List ℕ) → OpenType → Claim → Argument
open_file access owner how by = Argument.Open (record { seqid = 0; access = access; deny = 0; client = 0; owner = owner; opening = Opens how by })

abbrev pub f : Claim
f = ByName (102 ∷ [])

abbrev pub create_f : Argument
create_f = open_file 3 (codes "A") (Unchecked (mode_given 1 0xA4)) f

abbrev pub file : State
file = state_after volume fresh (Argument.PutRootFh ∷ create_f ∷ [])

abbrev pub number : ℕ
number = 4294967297

abbrev pub stateid : (seqid : ℕ) → StateId
stateid seqid = record { seqid = seqid; other = 0 ∷ 0 ∷ 0 ∷ 1 ∷ 0 ∷ 0 ∷ 0 ∷ 0 ∷ 0 ∷ 0 ∷ 0 ∷ 1 ∷ [] }

abbrev pub anonymous : StateId
anonymous = record { seqid = 0; other = zeros }

abbrev pub current_state : StateId
current_state = record { seqid = 1; other = zeros }

abbrev pub read_by : StateId → (offset count : ℕ) → Argument
read_by state offset count = Argument.Read (record { state = state; offset = offset; count = count })

abbrev pub write_at : (offset stable : ℕ) → List ℕ → Argument
write_at offset stable part = Argument.Write (record { state = anonymous; offset = offset; stable = stable; data_bytes = part })

abbrev pub set : (bitmap values : List ℕ) → Argument
set bitmap values = Argument.SetAttr (record { state = anonymous; attributes = record { bitmap = bitmap; values = values } })

abbrev pub set_size : (low : ℕ) → Argument
set_size low = set (0x10 ∷ []) (replicate 7 0 ++ (low ∷ []))

abbrev pub hello : List ℕ
hello = codes "hello"

abbrev pub with_hello : State
with_hello = state_after volume file (write_at 0 0 hello ∷ [])

abbrev pub bytes_after : State → List Argument → List ℕ
bytes_after state operations = bytes_at (state_after volume state operations).tree number

abbrev pub size_zero : Attributes
size_zero = record { bitmap = 0x10 ∷ []; values = replicate 8 0 }

-- a volume on which one file may be open
abbrev pub one_open : Limits
one_open = record volume { opens = 1 }

pub record FileExamples : Type 0 where
  -- READDIR: 43 bytes have no room for an entry of one letter, 44 have; a cookie is a stamp,
  -- whether an entry has it or not
  pub too_small : statuses volume three (list_from 0 43 ∷ []) ≡ status.TooSmall ∷ []
  -- if nothing is left, a page takes 16
  pub no_page : statuses volume three (list_from 4294967299 15 ∷ []) ≡ status.TooSmall ∷ []
  pub nothing_left : outcomes volume three (list_from 4294967299 16 ∷ [])
      ≡ Outcome.Done (Answer.ReadDir (record { entries = []; is_end = true })) ∷ []
  pub one_fits : outcomes volume three (list_from 0 44 ∷ [])
      ≡ Outcome.Done (Answer.ReadDir (record { entries = shown 97 4294967297 ∷ []; is_end = false })) ∷ []
  pub goes_on : outcomes volume three_others (list_from 4294967297 72 ∷ [])
      ≡ Outcome.Done (Answer.ReadDir (record { entries = shown 99 4294967299 ∷ shown 100 4294967301 ∷ []; is_end = true })) ∷ []
  pub not_same : statuses volume three (Argument.ReadDir (record {
    cookie = 1;
    verifier = replicate 8 1;
    dir_count = 0;
    max_count = 8192;
    bitmap = [];
  }) ∷ []) ≡ status.NotSame ∷ []
  pub no_entries : statuses volume (begun 7 with_a 1) (Argument.PutRootFh ∷ Argument.Lookup (97 ∷ []) ∷ list_from 0 16 ∷ []) ≡ replicate 3 status.Ok
  -- RENAME over an empty directory leaves one name; a rename of "a" gives it a new stamp, and its
  -- filehandle stays
  pub renamed_over : names_at (state_after volume three (Argument.SaveFh ∷ Argument.Rename (record { old_name = 97 ∷ []; new_name = 99 ∷ [] }) ∷ [])).tree 1
      ≡ (4294967298, record { name = 98 ∷ []; number = 4294967298 }) ∷ (4294967300, record { name = 99 ∷ []; number = 4294967297 }) ∷ []
  -- the saved and the current filehandle
  pub saves : statuses volume (begun 7 with_a 1) (Argument.PutRootFh ∷ Argument.Lookup (97 ∷ []) ∷ Argument.SaveFh ∷ Argument.LookupParent
      ∷ Argument.RestoreFh ∷ Argument.PutFh (0 ∷ 0 ∷ 0 ∷ 1 ∷ 0 ∷ 0 ∷ 0 ∷ 1 ∷ []) ∷ []) ≡ replicate 6 status.Ok
  pub nothing_saved : statuses volume fresh (Argument.RestoreFh ∷ []) ≡ status.NoFileHandle ∷ []
  pub root_has_no_parent : statuses volume fresh (Argument.PutRootFh ∷ Argument.LookupParent ∷ []) ≡ status.Ok ∷ status.NoEnt ∷ []
  -- ACCESS on "a", mode 755: by its owner, and by another
  pub access_of_owner : outcomes volume (begun 7 with_a 1) (Argument.PutFh (0 ∷ 0 ∷ 0 ∷ 1 ∷ 0 ∷ 0 ∷ 0 ∷ 1 ∷ []) ∷ Argument.Access 0x3F ∷ [])
      ≡ Outcome.Done Answer.PutFh ∷ Outcome.Done (Answer.Access (record { supported = 0x1F; access = 0x1F })) ∷ []
  pub access_of_other : outcomes volume (begun 8 with_a 1) (Argument.PutFh (0 ∷ 0 ∷ 0 ∷ 1 ∷ 0 ∷ 0 ∷ 0 ∷ 1 ∷ []) ∷ Argument.Access 0x3F ∷ [])
      ≡ Outcome.Done Answer.PutFh ∷ Outcome.Done (Answer.Access (record { supported = 0x1F; access = 0x03 })) ∷ []
  -- GETATTR of mode and owner, as bytes
  pub attributes : outcomes volume (begun 7 with_a 1) (Argument.PutFh (0 ∷ 0 ∷ 0 ∷ 1 ∷ 0 ∷ 0 ∷ 0 ∷ 1 ∷ []) ∷ Argument.GetAttr (0 ∷ 0x12 ∷ []) ∷ [])
      ≡ Outcome.Done Answer.PutFh ∷ Outcome.Done (Answer.GetAttr (record {
        bitmap = 0 ∷ 0x12 ∷ [];
        values = 0 ∷ 0 ∷ 1 ∷ 0xED ∷ 0 ∷ 0 ∷ 0 ∷ 1 ∷ 0x37 ∷ 0 ∷ 0 ∷ 0 ∷ [];
      })) ∷ []
  -- SETATTR: a mode above 0o777; a list without entries, after which only the owner may read it,
  -- and nobody may look a name up
  pub high_mode : statuses volume (begun 7 with_a 1) (Argument.PutRootFh ∷ Argument.Lookup (97 ∷ []) ∷ set (0 ∷ 2 ∷ []) (0 ∷ 0 ∷ 2 ∷ 0 ∷ []) ∷ [])
      ≡ status.Ok ∷ status.Ok ∷ status.Inval ∷ []
  pub size_of_directory : statuses volume (begun 7 with_a 1) (Argument.PutRootFh ∷ Argument.Lookup (97 ∷ []) ∷ set_size 0 ∷ [])
      ≡ status.Ok ∷ status.Ok ∷ status.IsDir ∷ []
  pub empty_list : statuses volume (begun 7 with_a 1) (Argument.PutRootFh ∷ Argument.Lookup (97 ∷ []) ∷ set (0x1000 ∷ []) (replicate 4 0)
      ∷ Argument.GetAttr (0x1000 ∷ []) ∷ Argument.Lookup (98 ∷ []) ∷ []) ≡ status.Ok ∷ status.Ok ∷ status.Ok ∷ status.Ok ∷ status.Access ∷ []
  pub empty_list_by_other : statuses volume (next_by 8 (state_after volume (begun 7 with_a 1)
      (Argument.PutRootFh ∷ Argument.Lookup (97 ∷ []) ∷ set (0x1000 ∷ []) (replicate 4 0) ∷ [])))
      (Argument.PutRootFh ∷ Argument.Lookup (97 ∷ []) ∷ Argument.GetAttr (0x1000 ∷ []) ∷ []) ≡ status.Ok ∷ status.Ok ∷ status.Access ∷ []
  -- an empty bitmap sets nothing, and uses no stamp up
  pub sets_nothing : (state_after volume (begun 7 with_a 1) (Argument.PutRootFh ∷ Argument.Lookup (97 ∷ []) ∷ set [] [] ∷ [])).changes ≡ 1
  -- OPEN of a new file: the first seqid; the same owner opens it again and joins, after which the
  -- first one is old and a later one bad
  pub opens : outcomes volume fresh (Argument.PutRootFh ∷ create_f ∷ []) ≡ at_root ∷ Outcome.Done (Answer.Open (record {
    state = stateid 1;
    change = record { is_atomic = true; before = 1; after = 4294967297 };
    flags = 0;
    was_set = 0 ∷ 2 ∷ [];
  })) ∷ []
  pub too_new : statuses volume file (read_by (stateid 2) 0 8 ∷ []) ≡ status.BadStateId ∷ []
  pub joins : statuses volume file (Argument.PutRootFh ∷ open_file 1 (codes "A") NoCreate f ∷ read_by (stateid 2) 0 8 ∷ read_by (stateid 1) 0 8
      ∷ []) ≡ status.Ok ∷ status.Ok ∷ status.Ok ∷ status.OldStateId ∷ []
  pub newest : statuses volume file (Argument.PutRootFh ∷ open_file 1 (codes "A") NoCreate f ∷ read_by (stateid 0) 0 8 ∷ [])
      ≡ status.Ok ∷ status.Ok ∷ status.Ok ∷ []
  -- the current stateid: OPEN sets it, CLOSE and a new current filehandle clear it
  pub current_reads : statuses volume file (read_by current_state 0 8 ∷ []) ≡ status.Ok ∷ []
  pub closes : outcomes volume file (Argument.Close (record { seqid = 0; state = current_state }) ∷ read_by current_state 0 8 ∷ [])
      ≡ Outcome.Done (Answer.Close closed_state) ∷ Outcome.Refused 25 status.BadStateId ∷ []
  pub closed : statuses volume file (Argument.Close (record { seqid = 0; state = stateid 1 }) ∷ read_by (stateid 1) 0 8 ∷ [])
      ≡ status.Ok ∷ status.BadStateId ∷ []
  pub anonymous_is_not_closed : statuses volume file (Argument.Close (record { seqid = 0; state = anonymous }) ∷ []) ≡ status.BadStateId ∷ []
  pub looked_up_again : statuses volume file (Argument.PutRootFh ∷ Argument.Lookup (102 ∷ []) ∷ read_by current_state 0 8 ∷ [])
      ≡ status.Ok ∷ status.Ok ∷ status.BadStateId ∷ []
  -- a removal ends the opens of its file
  pub removed : (state_after volume file (Argument.PutRootFh ∷ Argument.Remove (102 ∷ []) ∷ [])).opens ≡ record { given = 1; known = [] }
  pub gone : statuses volume file (Argument.SaveFh ∷ Argument.PutRootFh ∷ Argument.Remove (102 ∷ []) ∷ Argument.RestoreFh ∷ read_by anonymous 0 8 ∷ [])
      ≡ status.Ok ∷ status.Ok ∷ status.Ok ∷ status.Ok ∷ status.Stale ∷ []
  -- refusals of OPEN
  pub guarded : statuses volume file (Argument.PutRootFh ∷ open_file 3 (codes "A") (Guarded nothing_given) f ∷ []) ≡ status.Ok ∷ status.Exist ∷ []
  pub none : statuses volume fresh (Argument.PutRootFh ∷ open_file 3 (codes "A") NoCreate f ∷ []) ≡ status.Ok ∷ status.NoEnt ∷ []
  pub handle_creates : statuses volume file (open_file 3 (codes "A") (Unchecked nothing_given) ByHandle ∷ []) ≡ status.Inval ∷ []
  pub no_access : statuses volume file (open_file 0 (codes "A") NoCreate ByHandle ∷ []) ≡ status.Inval ∷ []
  pub denies : statuses volume file (Argument.Open (record { seqid = 0; access = 1; deny = 1; client = 0; owner = []; opening = Opens NoCreate ByHandle }) ∷ [])
      ≡ status.ShareDenied ∷ []
  pub exclusive : statuses volume file (Argument.Open (record { seqid = 0; access = 1; deny = 0; client = 0; owner = []; opening = Exclusive 2 }) ∷ [])
      ≡ status.NotSupp ∷ []
  pub full : statuses one_open file (Argument.PutRootFh ∷ open_file 1 (codes "B") (Guarded nothing_given) (ByName (103 ∷ [])) ∷ [])
      ≡ status.Ok ∷ status.Delay ∷ []
  pub full_makes_nothing : (state_after one_open file (Argument.PutRootFh ∷ open_file 1 (codes "B") (Guarded nothing_given) (ByName (103 ∷ [])) ∷ [])).changes ≡ 1
  -- WRITE: unstable, stable, and none at all; a hole is zeros, and what was cut off comes back as
  -- zeros
  pub unstable : outcomes volume file (write_at 0 0 hello ∷ [])
      ≡ Outcome.Done (Answer.Write (record { count = 5; committed = 0; verifier = 0 ∷ 0 ∷ 0 ∷ 0 ∷ 0 ∷ 0 ∷ 0 ∷ 1 ∷ [] })) ∷ []
  pub stable : outcomes volume file (write_at 0 1 hello ∷ [])
      ≡ Outcome.Done (Answer.Write (record { count = 5; committed = 2; verifier = 0 ∷ 0 ∷ 0 ∷ 0 ∷ 0 ∷ 0 ∷ 0 ∷ 1 ∷ [] })) ∷ []
  pub empty_write : (state_after volume with_hello (write_at (2 ^ 63) 0 [] ∷ [])).changes ≡ 2
  pub hole : bytes_after file (write_at 3 0 (65 ∷ 65 ∷ []) ∷ []) ≡ 0 ∷ 0 ∷ 0 ∷ 65 ∷ 65 ∷ []
  pub cut_and_grown : bytes_after with_hello (set_size 2 ∷ set_size 4 ∷ []) ≡ 104 ∷ 101 ∷ 0 ∷ 0 ∷ []
  pub too_far : statuses volume file (write_at 16777216 0 (65 ∷ []) ∷ []) ≡ status.FBig ∷ []
  pub takes_as_many : (does (record volume { transfer_bytes = 3 }) file 1000 (write_at 0 0 hello)).outcome
      ≡ Outcome.Done (Answer.Write (record { count = 3; committed = 0; verifier = 0 ∷ 0 ∷ 0 ∷ 0 ∷ 0 ∷ 0 ∷ 0 ∷ 1 ∷ [] }))
  -- READ: up to the end, and beyond it
  pub reads_all : outcomes volume with_hello (read_by anonymous 1 20 ∷ [])
      ≡ Outcome.Done (Answer.Read (record { is_end = true; data_bytes = codes "ello" })) ∷ []
  pub reads_part : outcomes volume with_hello (read_by anonymous 1 3 ∷ [])
      ≡ Outcome.Done (Answer.Read (record { is_end = false; data_bytes = codes "ell" })) ∷ []
  pub reads_behind : outcomes volume with_hello (read_by anonymous 9 3 ∷ [])
      ≡ Outcome.Done (Answer.Read (record { is_end = true; data_bytes = [] })) ∷ []
  -- OPEN truncates a file: its handle stays, and one stamp is used up
  pub cut : bytes_after with_hello (Argument.PutRootFh ∷ open_file 1 (codes "A") (Unchecked size_zero) f ∷ []) ≡ []
  pub cut_counts : (state_after volume with_hello (Argument.PutRootFh ∷ open_file 1 (codes "A") (Unchecked size_zero) f ∷ [])).changes ≡ 3
  pub not_cut : (state_after volume with_hello (Argument.PutRootFh ∷ open_file 1 (codes "A") NoCreate f ∷ [])).changes ≡ 2
  -- an open for reading writes nothing
  pub open_mode : statuses volume (state_after volume file (Argument.Close (record { seqid = 0; state = stateid 1 })
      ∷ open_file 1 (codes "A") NoCreate ByHandle ∷ []))
      (Argument.Write (record { state = current_state; offset = 0; stable = 0; data_bytes = hello }) ∷ []) ≡ status.OpenMode ∷ []
  pub committed : outcomes volume file (Argument.Commit (record { offset = 0; count = 0 }) ∷ [])
      ≡ Outcome.Done (Answer.Commit (0 ∷ 0 ∷ 0 ∷ 0 ∷ 0 ∷ 0 ∷ 0 ∷ 1 ∷ [])) ∷ []

-- READDIR, as a call on a file system.
use Rattle.std.specs.Prelude.{◌≡◌, ◌==◌, ◌&&◌, ℕ, Bool, true, List, [], ◌∷◌, ◌++◌, Option, Result, Ok, Err, not, length, map, if◌then◌else◌}
use Rattle.std.specs.List.{AllByRecursion, list_all}
use Rattle.model_tree.specs.declared.acl.Cred.{Cred}
use Rattle.model_tree.specs.declared.limits.Limits.{Limits}
use Rattle.model_tree.specs.declared.status.Status.TheVariants as status
use Rattle.model_tree.specs.Rights.Acl.{read_data}
use Rattle.model.specs.Operations.Answer.{Answer, Entry, ReadDirAnswer}
use Rattle.model_tree.specs.Trees.Keyed.{at, is_key}
use Rattle.model.specs.Operations.Need.{granted_on}
use Rattle.model.specs.Attributes.NodeAttributes.{unreadable}
use Rattle.model.specs.Operations.Operation.{Argument, Attributes, ReadDirArguments}
use Rattle.model.specs.Operations.ReadDir.{asks_errors, cookie_refusals, fitting, may_read_acl, names_after}
use Rattle.model_tree.specs.Refusals.Refusal.{Refusals}
use Rattle.model.specs.Operations.SetAttr.{attributes_at, asks_acls}
use Rattle.model.specs.Operations.Step.{State, answered, refused}
use Rattle.model_tree.specs.Trees.Tree.{Tree, Node, DirEntry, is_directory_at, names_at}
use Rattle.fs.specs.declared.fault.FsFault.{FsFault}
use Rattle.fs.specs.declared.fault.FsFault.TheVariants as fault
use Rattle.fs.specs.declared.listing.Listing.{Listing}
use Rattle.fs.specs.declared.listing.Page.{Page}
use Rattle.fs.specs.FileSystem.{FileSystem}
use Rattle.fs.specs.Operations.{does_on}
use Rattle.wire_attributes.specs.Listed.{EntryFits, entry_view}

-- the arguments of READDIR; dircount may be any
abbrev pub list_arguments : Listing → (dir_count : ℕ) → ReadDirArguments
list_arguments listing dir_count = record {
  cookie = listing.cookie;
  verifier = listing.verifier;
  dir_count = dir_count;
  max_count = listing.max_count;
  bitmap = listing.asked.now;
}

abbrev pub page_view : Page → ReadDirAnswer
page_view page = record { entries = map entry_view page.entries.items; is_end = page.is_end }

-- the page is the definition's, or the definition refuses it, or there is no memory for it
abbrev pub Lists : FileSystem → State → (now : ℕ) → ReadDirArguments → Result Page FsFault → Type 0
Lists fs state now arguments (Ok page) = does_on fs state now (Argument.ReadDir arguments)
    ≡ answered state (Answer.ReadDir (page_view page))
Lists fs state now arguments (Err (fault.Status reason)) =
    does_on fs state now (Argument.ReadDir arguments)
    ≡ refused state (Argument.ReadDir arguments) reason
Lists fs state now arguments (Err fault.NoRoom) = ⊥
Lists fs state now arguments (Err fault.Memory) = Unit {0}
Lists fs state now arguments (Err fault.Device) = ⊥
Lists fs state now arguments (Err fault.Down) = fs.volume.is_down ≡ true

-- each entry can be encoded
abbrev pub PageFits : Page → Type 0
PageFits page = AllByRecursion EntryFits page.entries.items

-- The tests of a current filehandle and all others except that of the page's size, in their order

-- whether the lists of all entries after the cookie may be read
abbrev pub may_read_acls : Tree → Cred → (number cookie : ℕ) → Bool
may_read_acls tree cred number cookie =
    list_all (λ (name : ℕ × DirEntry). may_read_acl cred (at name.1.number tree))
    (names_after cookie (names_at tree number))

abbrev pub list_refusals : Tree → Cred → (number : ℕ) → ReadDirArguments → Refusals
list_refusals tree cred number arguments =
    (not (is_key number tree), status.Stale)
    ∷ (not (is_directory_at tree number), status.NotDir)
    ∷ (not (granted_on (at number tree) cred read_data), status.Access)
    ∷ (cookie_refusals arguments
    ++ ((
      (asks_acls arguments.bitmap && not (asks_errors arguments.bitmap))
          && not (may_read_acls tree cred number arguments.cookie),
      status.Access,
    ) ∷ []))

-- Entries, in which an unreadable list hides what its node shows, or does not. In those of the
-- definition it does if lists are asked for.

abbrev pub shown_attributes : Limits → Cred → (hides : Bool) → (bitmap : List ℕ) → (number : ℕ)
    → Option Node → Attributes
shown_attributes limits cred hides bitmap number node =
    if hides && not (may_read_acl cred node)
    then unreadable
    else attributes_at limits bitmap number node

abbrev pub shown_entry : Limits → Tree → Cred → (hides : Bool) → (bitmap : List ℕ) → ℕ × DirEntry
    → Entry
shown_entry limits tree cred hides bitmap name = record {
  cookie = name.0;
  name = name.1.name;
  attributes = shown_attributes limits cred hides bitmap name.1.number (at name.1.number tree);
}

-- the page of the entries that fit in `room` bytes
abbrev pub page_of : (room : ℕ) → List Entry → ReadDirAnswer
page_of room all = record {
  entries = fitting room all;
  is_end = length (fitting room all) == length all;
}

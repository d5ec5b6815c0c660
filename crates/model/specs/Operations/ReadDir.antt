-- READDIR: RFC 8881, section 18.23. A cookie is an entry's stamp; which entries fit is this
-- server's profile, and so is ignoring dircount.
use Rattle.std.specs.Prelude.{ℕ, Bool, false, List, [], ◌∷◌, ◌++◌, ◌-◌, ◌+◌, ◌==◌, ◌&&◌, not, nat_lt, nat_le, length, map, filter, min, replicate, if◌then◌else◌, bytes_eq, Option, Some, None}
use Rattle.model_tree.specs.declared.acl.Cred.{Cred}
use Rattle.model_tree.specs.declared.status.Status.TheVariants as status
use Rattle.model_tree.specs.Rights.Acl.{granted, read_data, read_acl}
use Rattle.model.specs.Operations.Need.{Right}
use Rattle.model.specs.Operations.Context.{Context, current_number}
use Rattle.model.specs.Operations.Definition.{Definition, on_current, needs}
use Rattle.model.specs.Operations.Answer.{Answer, Entry, ReadDirAnswer}
use Rattle.model.specs.Attributes.Attribute.{attributes_of, is_among}
use Rattle.model_tree.specs.Trees.Keyed.{Keyed, at}
use Rattle.model_tree.specs.declared.limits.Limits.{Limits}
use Rattle.model.specs.Attributes.NodeAttributes.{unreadable}
use Rattle.model.specs.Operations.Operation.{Attributes, ReadDirArguments}
use Rattle.model_tree.specs.Refusals.Refusal.{Refusals}
use Rattle.model.specs.Operations.SetAttr.{attributes_at, asks_acls}
use Rattle.model.specs.Operations.State.{State, current, current_refusals, answered}
use Rattle.model_tree.specs.Trees.Tree.{Tree, Node, DirEntry, names_at, is_directory_at}
use Rattle.model.specs.Wire.WireAnswers as answers

-- rdattr_error says of an entry that its attributes may not be read
abbrev pub rdattr_error_number : ℕ
rdattr_error_number = 11

abbrev pub asks_errors : (bitmap : List ℕ) → Bool
asks_errors bitmap = is_among (attributes_of bitmap) rdattr_error_number

-- the names after a cookie, whether an entry has it or not
abbrev pub names_after : (cookie : ℕ) → Keyed DirEntry → Keyed DirEntry
names_after cookie names = filter (λ (name : ℕ × DirEntry). nat_lt cookie name.0) names

-- a cookie other than the first comes with the verifier that was returned
abbrev pub cookie_refusals : ReadDirArguments → Refusals
cookie_refusals arguments = (
  not (arguments.cookie == 0) && not (bytes_eq arguments.verifier (replicate 8 0)),
  status.NotSame,
) ∷ []

-- to read the list of each entry after the cookie, if lists are asked for and nothing can report
-- that one may not be read
abbrev pub listing_rights : Tree → Context → ReadDirArguments → List (List Right)
listing_rights tree context arguments =
    if asks_acls arguments.bitmap && not (asks_errors arguments.bitmap)
    then map (λ (name : ℕ × DirEntry). record { number = name.1.number; mask = read_acl } ∷ [])
    (names_after arguments.cookie (names_at tree (current_number context)))
    else []

-- An entry, as it is returned

abbrev pub may_read_acl : Cred → Option Node → Bool
may_read_acl cred None = false
may_read_acl cred (Some node) = granted node.acl node.owner node.group cred read_acl

abbrev pub entry_attributes : Limits → Cred → (bitmap : List ℕ) → (number : ℕ) → Option Node
    → Attributes
entry_attributes limits cred bitmap number node =
    if asks_acls bitmap && not (may_read_acl cred node)
    then unreadable
    else attributes_at limits bitmap number node

abbrev pub listed_entry : Limits → Tree → Cred → (bitmap : List ℕ) → ℕ × DirEntry → Entry
listed_entry limits tree cred bitmap name = record {
  cookie = name.0;
  name = name.1.name;
  attributes = entry_attributes limits cred bitmap name.1.number (at name.1.number tree);
}

-- The page: the entries in their order, as many as have room

-- an entry comes after a bool
abbrev pub entry_size : Entry → ℕ
entry_size entry = 4 + length (answers.entry.encoding entry)

abbrev pub fitting : (room : ℕ) → List Entry → List Entry
fitting room [] = []
fitting room (entry ∷ rest) =
    if nat_le (entry_size entry) room then entry ∷ fitting (room - entry_size entry) rest else []

abbrev pub all_entries : Limits → State → ReadDirArguments → List Entry
all_entries limits state arguments =
    map (listed_entry limits state.tree state.context.cred arguments.bitmap)
    (names_after arguments.cookie (names_at state.tree (current state)))

-- the bytes that were asked for, a page of no entries, and what that leaves: besides the entries
-- there are the verifier, the bool that ends them and the one that reports the end

abbrev pub page_bytes : Limits → ReadDirArguments → ℕ
page_bytes limits arguments = min arguments.max_count limits.transfer_bytes

abbrev pub empty_page_bytes : ℕ
empty_page_bytes = 16

abbrev pub page_room : Limits → ReadDirArguments → ℕ
page_room limits arguments = page_bytes limits arguments - empty_page_bytes

unfoldable pub page : Limits → State → ReadDirArguments → ReadDirAnswer
page limits state arguments =
    let all = all_entries limits state arguments in
    let shown = fitting (page_room limits arguments) all in
    record { entries = shown; is_end = length shown == length all }

-- the first entry does not fit, or if none is left, not even a page without entries does
abbrev pub page_refusals : Limits → State → ReadDirArguments → Refusals
page_refusals limits state arguments =
    (nat_lt (page_bytes limits arguments) empty_page_bytes, status.TooSmall)
    ∷ (
      nat_lt 0 (length (all_entries limits state arguments))
          && length (page limits state arguments).entries == 0,
      status.TooSmall,
    )
    ∷ []

-- READDIR (section 18.23)
abbrev pub READDIR : ReadDirArguments → Definition
READDIR arguments = record (on_current (needs read_data)
    (λ limits state now. answered state (Answer.ReadDir (page limits state arguments)))) {
      early = λ limits state. current_refusals state
          ++ ((not (is_directory_at state.tree (current state)), status.NotDir) ∷ []);
      middle = λ limits state. cookie_refusals arguments;
      need_then = λ tree context. listing_rights tree context arguments;
      late = λ limits state. page_refusals limits state arguments;
    }

-- What a new node inherits from its directory's list: RFC 8881, section 6.4.3.
use Rattle.std.specs.Prelude.{ℕ, Bool, true, false, ◌&&◌, ◌||◌, not, nat_lt, if◌then◌else◌, Option, Some, None, List, [], filter, map, min, length}
use Rattle.std.specs.List.{position_or_len}
use Rattle.std.specs.Int.RustNames.{bit_or}
use Rattle.model_tree.specs.Rights.Acl.{meets, bits_without, file_inherit, directory_inherit, no_propagate, inherit_only, inheritance, is_entry_for}
use Rattle.model_tree.specs.Rights.Mode.{moded}
use Rattle.model_tree.specs.declared.acl.Ace.{Ace}
use Rattle.model_tree.specs.declared.node.NodeKind.{NodeKind}
use Rattle.model_tree.specs.declared.node.NodeKind.TheVariants as node

-- whether a new node of this kind inherits the entry
abbrev pub is_inherited_by : NodeKind → Ace → Bool
is_inherited_by node.File ace = meets ace.flags.0 file_inherit
is_inherited_by node.Directory ace =
    meets ace.flags.0 directory_inherit
    || (meets ace.flags.0 file_inherit && not (meets ace.flags.0 no_propagate))

-- the flags of the inherited entry: a file has none of the four; a directory has none of them if
-- the entry is not to be inherited further, else the same ones, except that the entry counts on the
-- directory exactly if it is for directories
abbrev pub inherited_flags : NodeKind → ℕ → ℕ
inherited_flags node.File flags = bits_without flags inheritance
inherited_flags node.Directory flags =
    if meets flags directory_inherit
    then (if meets flags no_propagate
    then bits_without flags inheritance
    else bits_without flags inherit_only)
    else bit_or flags inherit_only

abbrev pub as_inherited : NodeKind → Ace → Ace
as_inherited of ace = record ace { flags = record { 0 = inherited_flags of ace.flags.0 } }

unfoldable pub inherited : List Ace → NodeKind → List Ace
inherited parent of = map (as_inherited of) (filter (is_inherited_by of) parent)

-- the list of a new node, by what was given at its creation: a list, a mode, only other attributes,
-- or no attribute
abbrev pub created_without_list : List Ace → NodeKind → Bool → Option ℕ → List Ace
created_without_list parent of is_empty (Some mode) = moded of (inherited parent of) mode
created_without_list parent of true None = []
created_without_list parent of false None = inherited parent of

abbrev pub created_list : List Ace → NodeKind → Bool → Option ℕ → Option (List Ace) → List Ace
created_list parent of is_empty mode (Some acl) = acl
created_list parent of is_empty mode None = created_without_list parent of is_empty mode

-- the index of the first entry that a client may not set: one that the node's kind may not have, or
-- one too many
unfoldable pub first_refused : ℕ → NodeKind → List Ace → Option ℕ
first_refused most of acl =
    let place = min most (position_or_len (λ ace. not (is_entry_for of ace)) acl) in
    if nat_lt place (length acl) then Some place else None

-- Access control lists and how they are evaluated: RFC 8881, section 6.2.1.
use Rattle.std.specs.Prelude.{ℕ, ◌+◌, ◌-◌, ◌^◌, Bool, true, false, ◌==◌, ◌&&◌, ◌||◌, not, nat_le, nat_lt, Option, Some, None, List, filter, map, find, length, count_by, bit_and}
use Rattle.std.specs.List.{list_any, list_all, range_with_len}
use Rattle.model_tree.specs.declared.acl.Ace.{Ace}
use Rattle.model_tree.specs.declared.acl.AceKind.{AceKind}
use Rattle.model_tree.specs.declared.acl.AceKind.TheVariants as kind
use Rattle.model_tree.specs.declared.acl.Cred.{Cred}
use Rattle.model_tree.specs.declared.acl.Who.{Who}
use Rattle.model_tree.specs.declared.acl.Who.TheVariants as who
use Rattle.model_tree.specs.declared.node.NodeKind.{NodeKind}
use Rattle.model_tree.specs.declared.node.NodeKind.TheVariants as node

-- ---- words of 32 bits

-- whether two words have a bit in common
abbrev pub meets : ℕ → ℕ → Bool
meets a b = not (bit_and a b == 0)

-- the bits of `a` that `b` lacks
abbrev pub bits_without : ℕ → ℕ → ℕ
bits_without a b = bit_and a (2 ^ 32 - 1 - b)

-- whether a number has only bits of `bits`
abbrev pub is_within : (number bits : ℕ) → Bool
is_within number bits = bit_and bits number == number

-- the bits of a word, each as a word of its own
abbrev pub bits_of : ℕ → List ℕ
bits_of word = filter (meets word) (map (λ k. 2 ^ k) (range_with_len 0 32))

-- ---- rights (section 6.2.1.3, `acemask4`)

-- on a directory the first three are LIST_DIRECTORY, ADD_FILE and ADD_SUBDIRECTORY

abbrev pub read_data : ℕ
read_data = 0x1

abbrev pub write_data : ℕ
write_data = 0x2

abbrev pub append_data : ℕ
append_data = 0x4

abbrev pub execute : ℕ
execute = 0x20

abbrev pub delete_child : ℕ
delete_child = 0x40

abbrev pub write_attributes : ℕ
write_attributes = 0x100

abbrev pub delete : ℕ
delete = 0x10000

abbrev pub read_acl : ℕ
read_acl = 0x20000

abbrev pub write_acl : ℕ
write_acl = 0x40000

abbrev pub write_owner : ℕ
write_owner = 0x80000

-- all that this server knows; READ_ATTRIBUTES 0x80 and SYNCHRONIZE 0x100000 are among them
abbrev pub every_right : ℕ
every_right = 0x1F01E7

-- ---- flags (section 6.2.1.4, `aceflag4`)

abbrev pub file_inherit : ℕ
file_inherit = 0x1

abbrev pub directory_inherit : ℕ
directory_inherit = 0x2

abbrev pub no_propagate : ℕ
no_propagate = 0x4

abbrev pub inherit_only : ℕ
inherit_only = 0x8

-- all four
abbrev pub inheritance : ℕ
inheritance = 0xF

-- ---- evaluation (section 6.2.1)

-- an entry with INHERIT_ONLY does not apply to its own node: it does not count
abbrev pub counts : Ace → Bool
counts ace = not (meets ace.flags.0 inherit_only)

-- whether a group is the caller's first one or among its others
abbrev pub is_member : Cred → ℕ → Bool
is_member cred gid = (cred.gid == gid) || list_any (λ other. other == gid) cred.gids

-- whom a name matches on a node of this owner and group (section 6.2.1.5)
abbrev pub matches : Who → ℕ → ℕ → Cred → Bool
matches who.Owner owner group cred = cred.uid == owner
matches who.Group owner group cred = is_member cred group
matches who.Everyone owner group cred = true
matches (who.User number) owner group cred = cred.uid == number
matches (who.NamedGroup number) owner group cred = is_member cred number

-- the first entry that counts, names the right and is of a matching name
unfoldable pub first_of : (Who → Bool) → List Ace → ℕ → Option Ace
first_of is_matching acl right =
    find (λ ace. counts ace && is_matching ace.who && meets ace.mask.0 right) acl

-- the entry that decides a right for a caller
abbrev pub first : List Ace → ℕ → ℕ → Cred → ℕ → Option Ace
first acl owner group cred right = first_of (λ name. matches name owner group cred) acl right

abbrev pub is_allow : AceKind → Bool
is_allow kind.Allow = true
is_allow kind.Deny = false

-- if no entry decides, the right is denied
abbrev pub allows : Option Ace → Bool
allows None = false
allows (Some ace) = is_allow ace.kind

-- what the owner may do whatever the list says: section 6.3.1.1 allows READ_ACL and WRITE_ACL, and
-- WRITE_ATTRIBUTES is this server's choice
abbrev pub is_owners_right : ℕ → Bool
is_owners_right right = (right == read_acl) || (right == write_acl) || (right == write_attributes)

abbrev pub grants : List Ace → ℕ → ℕ → Cred → ℕ → Bool
grants acl owner group cred right =
    allows (first acl owner group cred right) || ((cred.uid == owner) && is_owners_right right)

-- a mask is granted if each of its rights is
unfoldable pub granted : List Ace → ℕ → ℕ → Cred → ℕ → Bool
granted acl owner group cred mask = list_all (grants acl owner group cred) (bits_of mask)

-- ---- the lists that a node may have (this server's choice)

abbrev pub is_special : Who → Bool
is_special who.Owner = true
is_special who.Group = true
is_special who.Everyone = true
is_special (who.User number) = false
is_special (who.NamedGroup number) = false

-- a file's entry has no flags; a directory's has NO_PROPAGATE or INHERIT_ONLY only together with
-- FILE_INHERIT or DIRECTORY_INHERIT. The name says whether a number is a group's
abbrev pub are_flags_for : NodeKind → ℕ → Bool
are_flags_for node.File flags = flags == 0
are_flags_for node.Directory flags =
    is_within flags inheritance
    && (not (meets flags (no_propagate + inherit_only))
    || meets flags (file_inherit + directory_inherit))

-- a user's and a group's number has 32 bits
abbrev pub has_width : Who → Bool
has_width who.Owner = true
has_width who.Group = true
has_width who.Everyone = true
has_width (who.User number) = nat_lt number (2 ^ 32)
has_width (who.NamedGroup number) = nat_lt number (2 ^ 32)

-- whether a node of this kind may have the entry
abbrev pub is_entry_for : NodeKind → Ace → Bool
is_entry_for of ace =
    are_flags_for of ace.flags.0 && is_within ace.mask.0 every_right && has_width ace.who

-- an entry of a special name that counts and is not handed down: what setting a mode replaces
abbrev pub is_plain : Ace → Bool
is_plain ace =
    is_special ace.who && counts ace && not (meets ace.flags.0 (file_inherit + directory_inherit))

-- whether a node of this kind may have the list, if a client may set `max_set` entries and
-- `max_stored` may be stored
unfoldable pub is_list_for : ℕ → ℕ → NodeKind → List Ace → Bool
is_list_for max_set max_stored of acl =
    list_all (is_entry_for of) acl && nat_le (length acl) max_stored
    && nat_le (count_by (λ ace. not (is_plain ace)) acl) max_set

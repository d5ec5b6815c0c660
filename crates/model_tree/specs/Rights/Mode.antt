-- The mode of a list, and the list of a mode: RFC 8881, sections 6.3.2 and 6.4.1.
use Rattle.std.specs.Prelude.{ℕ, ◌+◌, ◌*◌, ◌/◌, ◌%◌, Bool, true, false, ◌&&◌, ◌||◌, ◌==◌, not, if◌then◌else◌, List, [], ◌∷◌, ◌++◌, filter, map}
use Rattle.std.specs.Int.RustNames.{bit_or}
use Rattle.model_tree.specs.Rights.Acl.{meets, bits_without, read_data, write_data, append_data, execute, delete_child, file_inherit, directory_inherit, inherit_only, counts, first_of, allows, is_special}
use Rattle.model_tree.specs.declared.acl.Ace.{Ace}
use Rattle.model_tree.specs.declared.acl.AceKind.{AceKind}
use Rattle.model_tree.specs.declared.acl.AceKind.TheVariants as kind
use Rattle.model_tree.specs.declared.acl.Who.{Who}
use Rattle.model_tree.specs.declared.acl.Who.TheVariants as who
use Rattle.model_tree.specs.declared.node.NodeKind.{NodeKind}
use Rattle.model_tree.specs.declared.node.NodeKind.TheVariants as node

-- ---- the mode of a list (section 6.3.2)

abbrev pub is_owner : Who → Bool
is_owner who.Owner = true
is_owner _ = false

abbrev pub is_group : Who → Bool
is_group who.Group = true
is_group _ = false

abbrev pub is_everyone : Who → Bool
is_everyone who.Everyone = true
is_everyone _ = false

-- the counting entries of one special name and of EVERYONE@
abbrev pub cut : (Who → Bool) → List Ace → List Ace
cut is_name acl = filter (λ ace. counts ace && (is_name ace.who || is_everyone ace.who)) acl

-- whether a list in which every name matches allows a right
abbrev pub allows_right : List Ace → ℕ → Bool
allows_right acl right = allows (first_of (λ _. true) acl right)

-- read 4, write 2 and execute 1, as such a list allows them
abbrev pub permissions : List Ace → ℕ
permissions acl =
    (if allows_right acl read_data then 4 else 0)
    + (if allows_right acl write_data && allows_right acl append_data then 2 else 0)
    + (if allows_right acl execute then 1 else 0)

unfoldable pub mode_of : List Ace → ℕ
mode_of acl =
    64 * permissions (cut is_owner acl) + 8 * permissions (cut is_group acl)
    + permissions (cut is_everyone acl)

-- ---- the list of a mode (this server's choice, within section 6.4.1)

-- the three bits of the owner, of the group and of everyone else in a mode
abbrev pub owner_bits : ℕ → ℕ
owner_bits mode = mode / 64 % 8

abbrev pub group_bits : ℕ → ℕ
group_bits mode = mode / 8 % 8

abbrev pub other_bits : ℕ → ℕ
other_bits mode = mode % 8

-- the rights that the write bit gives
abbrev pub write_rights : NodeKind → ℕ
write_rights node.File = write_data + append_data
write_rights node.Directory = write_data + append_data + delete_child

-- the rights that three bits give
abbrev pub rights_of : NodeKind → ℕ → ℕ
rights_of of bits =
    (if meets bits 4 then read_data else 0) + (if meets bits 2 then write_rights of else 0)
    + (if meets bits 1 then execute else 0)

-- the rights of read, write and execute that three bits lack
abbrev pub rights_lacking : NodeKind → ℕ → ℕ
rights_lacking of bits = bits_without (rights_of of 7) (rights_of of bits)

-- an entry without flags
abbrev pub entry : AceKind → Who → ℕ → Ace
entry of name mask = record {
  kind = of;
  flags = record { 0 = 0 };
  mask = record { 0 = mask };
  who = name;
}

-- an entry for a number in the list of a mode: an ALLOW entry loses what the group's bits lack
abbrev pub limited_kind : AceKind → ℕ → ℕ → ℕ
limited_kind kind.Allow mask lacking = bits_without mask lacking
limited_kind kind.Deny mask lacking = mask

abbrev pub limited : NodeKind → ℕ → Ace → Ace
limited of mode ace =
    record ace {
      mask = record {
        0 = limited_kind ace.kind ace.mask.0
            (rights_lacking of (group_bits mode));
      };
    }

-- whether an entry is handed down, whatever the mode: if it does not count, or is of a special name
-- and inherited
abbrev pub is_handed_down : Ace → Bool
is_handed_down ace =
    not (counts ace) || (is_special ace.who && meets ace.flags.0 (file_inherit + directory_inherit))

-- the same entry, which no longer counts
abbrev pub not_counting : Ace → Ace
not_counting ace = record ace { flags = record { 0 = bit_or ace.flags.0 inherit_only } }

abbrev pub has_rights : Ace → Bool
has_rights ace = not (ace.mask.0 == 0)

unfoldable pub moded : NodeKind → List Ace → ℕ → List Ace
moded of acl mode =
    filter has_rights
    ((entry kind.Allow who.Owner (rights_of of (owner_bits mode))
    ∷ entry kind.Deny who.Owner (rights_lacking of (owner_bits mode)) ∷ [])
    ++ map (limited of mode) (filter (λ ace. counts ace && not (is_special ace.who)) acl)
    ++ (entry kind.Allow who.Group (rights_of of (group_bits mode))
    ∷ entry kind.Deny who.Group (rights_lacking of (group_bits mode))
    ∷ entry kind.Allow who.Everyone (rights_of of (other_bits mode)) ∷ [])
    ++ map not_counting (filter is_handed_down acl))

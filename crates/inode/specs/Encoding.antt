-- The sector of a node, byte by byte. Form one has `NODE` and up to 40 entries, whose number is byte
-- 5; form two `NOD2` and up to 72, whose number is bytes 84 and 85.
use Rattle.std.specs.Prelude.{◌-◌, ◌*◌, ◌++◌, ℕ, List, [], ◌∷◌, length, replicate, codes}
use Rattle.std.specs.List.{flat_map}
use Rattle.std.specs.Int.{w16, w32, w64, to_be_bytes}
use Rattle.model_tree.specs.declared.node.NodeKind.{NodeKind}
use Rattle.model_tree.specs.declared.node.NodeKind.TheVariants as node
use Rattle.model_tree.specs.declared.acl.Ace.{Ace}
use Rattle.model_tree.specs.declared.acl.AceKind.{AceKind}
use Rattle.model_tree.specs.declared.acl.AceKind.TheVariants as ace_kind
use Rattle.model_tree.specs.declared.acl.Who.{Who}
use Rattle.model_tree.specs.declared.acl.Who.TheVariants as who
use Rattle.inode.specs.declared.node.Form.{Form}
use Rattle.inode.specs.declared.node.Form.TheVariants.{One, Two}
use Rattle.inode.specs.Fields.{Fields, id_of}

abbrev pub kind_byte : NodeKind → ℕ
kind_byte node.File = 1
kind_byte node.Directory = 2

abbrev pub ace_kind_byte : AceKind → ℕ
ace_kind_byte ace_kind.Allow = 0
ace_kind_byte ace_kind.Deny = 1

abbrev pub who_byte : Who → ℕ
who_byte who.Owner = 0
who_byte who.Group = 1
who_byte who.Everyone = 2
who_byte (who.User id) = 3
who_byte (who.NamedGroup id) = 4

-- an entry: type, kind of whom, flags, zero, mask, number, four zeros
abbrev pub ace_bytes : Ace → List ℕ
ace_bytes ace =
    (ace_kind_byte ace.kind ∷ who_byte ace.who ∷ ace.flags.0 ∷ 0 ∷ [])
    ++ to_be_bytes w32 ace.mask.0 ++ to_be_bytes w32 (id_of ace.who) ++ replicate 4 0

abbrev pub magic : Form → List ℕ
magic One = codes "NODE"
magic Two = codes "NOD2"

-- the number of entries, as byte 5 has it
abbrev pub first_count : Form → (count : ℕ) → ℕ
first_count One count = count
first_count Two count = 0

-- and as bytes 84 and 85 have it
abbrev pub second_count : Form → (count : ℕ) → ℕ
second_count One count = 0
second_count Two count = count

abbrev pub number_bytes : ℕ → List ℕ
number_bytes number = to_be_bytes w32 number

-- nine numbers of run sectors, of which those that are not used are 0
abbrev pub nine : List ℕ → List ℕ
nine run_sectors = flat_map number_bytes run_sectors ++ replicate (36 - 4 * length run_sectors) 0

-- bytes 0 to 47
abbrev pub head : Form → Fields → List ℕ
head form fields =
    magic form ++ (kind_byte fields.kind ∷ first_count form (length fields.acl) ∷ [])
    ++ to_be_bytes w16 fields.runs
    ++ to_be_bytes w64 fields.number
    ++ to_be_bytes w32 fields.owner ++ to_be_bytes w32 fields.group ++ to_be_bytes w64 fields.change
    ++ to_be_bytes w64 fields.time_modify ++ to_be_bytes w64 fields.size

abbrev pub acl_bytes : List Ace → List ℕ
acl_bytes acl = flat_map ace_bytes acl ++ replicate (3968 - 16 * length acl) 0

unfoldable pub inode_sector : Form → Fields → List ℕ
inode_sector form fields =
    head form fields ++ nine fields.run_sectors
    ++ to_be_bytes w16 (second_count form (length fields.acl)) ++ replicate 42 0
    ++ acl_bytes fields.acl

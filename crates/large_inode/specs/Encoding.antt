-- The sector of an inode of form three, byte by byte.
use Rattle.std.specs.Prelude.{◌-◌, ◌*◌, ◌++◌, ℕ, List, [], ◌∷◌, Option, Some, None, length, replicate, codes}
use Rattle.std.specs.List.{flat_map}
use Rattle.std.specs.Int.{w16, w32, w64, to_be_bytes}
use Rattle.model_tree.specs.declared.acl.Ace.{Ace}
use Rattle.inode.specs.Encoding.{kind_byte, ace_bytes}
use Rattle.extent_tree.specs.Encoding.{entries_bytes}
use Rattle.large_inode.specs.Fields.{Fields}

-- bytes 0 to 63
abbrev pub head : Fields → List ℕ
head fields =
    codes "NOD3" ++ (kind_byte fields.kind ∷ fields.depth ∷ [])
    ++ to_be_bytes w16 (length fields.acl)
    ++ to_be_bytes w64 fields.number
    ++ to_be_bytes w32 fields.owner ++ to_be_bytes w32 fields.group ++ to_be_bytes w64 fields.change
    ++ to_be_bytes w64 fields.time_modify ++ to_be_bytes w64 fields.size
    ++ to_be_bytes w64 fields.time_metadata ++ to_be_bytes w64 fields.time_create

-- the verifier; zeros if there is none
abbrev pub verifier_bytes : Option (List ℕ) → List ℕ
verifier_bytes None = replicate 8 0
verifier_bytes (Some bytes) = bytes

-- whether there is one
abbrev pub verifier_flag : Option (List ℕ) → ℕ
verifier_flag None = 0
verifier_flag (Some bytes) = 1

-- bytes 64 to 127
abbrev pub verifier_part : Option (List ℕ) → List ℕ
verifier_part verifier =
    verifier_bytes verifier ++ (verifier_flag verifier ∷ []) ++ replicate 55 0

-- bytes 128 to 1,279
abbrev pub acl_part : List Ace → List ℕ
acl_part acl = flat_map ace_bytes acl ++ replicate (1152 - 16 * length acl) 0

unfoldable pub large_inode_sector : Fields → List ℕ
large_inode_sector fields =
    head fields ++ verifier_part fields.verifier ++ acl_part fields.acl
    ++ entries_bytes fields.extents ++ replicate 768 0

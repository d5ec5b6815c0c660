-- The values of a node's attributes, as GETATTR and READDIR return them: RFC 8881, sections 5.6 to
-- 5.8, 18.7 (GETATTR) and 18.23 (READDIR). Which attributes there are, and the values that are
-- always the same, are this server's profile.
use Rattle.std.specs.Prelude.{◌≡◌, ℕ, ◌/◌, ◌%◌, true, false, List, [], ◌∷◌, bit_and, decimal, filter, flat_map, length, map}
use Rattle.model_tree.specs.declared.status.Status.TheVariants as status
use Rattle.model.specs.Attributes.AclText.{entry_text}
use Rattle.model.specs.Attributes.Attribute.{attributes_of, is_among, supported, trimmed}
use Rattle.model.specs.Attributes.AttributeValue.{Time, Value, SupportedAttrs, Kind, FhExpireType, Change, Size, LinkSupport, SymlinkSupport, NamedAttr, Fsid, UniqueHandles, LeaseTime, RdattrError, Acl, AclSupport, FileHandle, FileId, MaxFileSize, MaxName, MaxRead, MaxWrite, Mode, NumLinks, Owner, OwnerGroup, TimeModify, SuppattrExclcreat, attribute_of, value_text}
use Rattle.model_tree.specs.declared.limits.Limits.{Limits}
use Rattle.model_tree.specs.Rights.Mode.{mode_of}
use Rattle.model.specs.Operations.Operation.{Attributes}
use Rattle.model_tree.specs.Trees.Stamp.{filehandle_of}
use Rattle.model_tree.specs.Refusals.Status.{code_of}
use Rattle.model_tree.specs.Trees.Tree.{Node, Content, File, Directory, kind_of}

-- `supported` as a bitmap
abbrev pub supported_bitmap : List ℕ
supported_bitmap = 0xE8183FFF ∷ 0x0020003A ∷ 0x00000800 ∷ []

-- a file's bytes, or a directory's names
abbrev pub size_of : Content → ℕ
size_of (File bytes) = length bytes
size_of (Directory names) = length names

-- nanoseconds since 1970 as a time
abbrev pub time_of : (moment : ℕ) → Time
time_of moment = record { seconds = moment / 1000000000; nanoseconds = moment % 1000000000 }

-- seconds after which a lease would expire; none does
abbrev pub lease_time : ℕ
lease_time = 90

-- ALLOW and DENY entries (`ACL4_SUPPORT_ALLOW_ACL` and `ACL4_SUPPORT_DENY_ACL`)
abbrev pub acl_support : ℕ
acl_support = 3

-- all values of the node of this number, by rising attribute number; maxread and maxwrite are what
-- one READ returns and one WRITE takes
abbrev pub node_values : Limits → (number : ℕ) → Node → List Value
node_values limits number node =
    SupportedAttrs supported_bitmap
    ∷ Kind (kind_of node.content)
    ∷ FhExpireType 0
    ∷ Change node.change
    ∷ Size (size_of node.content)
    ∷ LinkSupport false
    ∷ SymlinkSupport false
    ∷ NamedAttr false
    ∷ Fsid (record { major = 1; minor = 0 })
    ∷ UniqueHandles true
    ∷ LeaseTime lease_time
    ∷ RdattrError 0
    ∷ Acl (map entry_text node.acl)
    ∷ AclSupport acl_support
    ∷ FileHandle (filehandle_of number)
    ∷ FileId number
    ∷ MaxFileSize limits.file_bytes
    ∷ MaxName limits.name_bytes
    ∷ MaxRead limits.transfer_bytes
    ∷ MaxWrite limits.transfer_bytes
    ∷ Mode (mode_of node.acl)
    ∷ NumLinks 1
    ∷ Owner (decimal node.owner)
    ∷ OwnerGroup (decimal node.group)
    ∷ TimeModify (time_of node.time_modify)
    ∷ SuppattrExclcreat []
    ∷ []

-- the values of attributes that are asked for
abbrev pub asked_values : (asked : List ℕ) → List Value → List Value
asked_values asked values = filter (λ value. is_among asked (attribute_of value)) values

-- the bits that two bitmaps have in common
abbrev pub common : List ℕ → List ℕ → List ℕ
common [] others = []
common (word ∷ rest) [] = []
common (word ∷ rest) (other ∷ others) = bit_and word other ∷ common rest others

-- What is returned for the attributes that a bitmap asks for: those that are not supported are left
-- out
unfoldable pub node_attributes : Limits → (bitmap : List ℕ) → (number : ℕ) → Node → Attributes
node_attributes limits bitmap number node = record {
  bitmap = trimmed (common bitmap supported_bitmap);
  values =
      flat_map value_text (asked_values (attributes_of bitmap) (node_values limits number node));
}

-- What READDIR returns for an entry whose list may not be read, if rdattr_error is asked for
-- together with acl: only that attribute
abbrev pub unreadable : Attributes
unreadable = record {
  bitmap = 0x800 ∷ [];
  values = value_text (RdattrError (code_of status.Access));
}

-- The laws

pub record AnswersSupported : Type 0 where
  -- each attribute that is supported has its value, and no other
  pub each : (limits : Limits) (number : ℕ) (node : Node)
      → map attribute_of (node_values limits number node) ≡ supported
  pub bitmap : attributes_of supported_bitmap ≡ supported

-- The attributes that are returned are those that were asked for and that are supported, each with
-- its value.
abbrev pub AnswersAsked : Type 0
AnswersAsked = (limits : Limits) (bitmap : List ℕ) (number : ℕ) (node : Node)
    → attributes_of (node_attributes limits bitmap number node).bitmap
    ≡ map attribute_of (asked_values (attributes_of bitmap) (node_values limits number node))

-- The values of a node's attributes, by what memory keeps of the node.
use Rattle.std.specs.Prelude.{ℕ, ◌≤◌, Bool, true, false, List, [], ◌∷◌, decimal, map, length}
use Rattle.std.specs.List.{flat_map}
use Rattle.model.specs.Attributes.AclText.{entry_text}
use Rattle.model.specs.Attributes.Attribute.{attributes_of, is_among, trimmed}
use Rattle.model.specs.Attributes.AttributeValue as spec
use Rattle.model.specs.Attributes.AttributeValue.{value_text}
use Rattle.model_tree.specs.Rights.Mode.{mode_of}
use Rattle.model.specs.Attributes.NodeAttributes.{supported_bitmap, time_of, lease_time, acl_support, asked_values, common}
use Rattle.model.specs.Operations.Operation as operation
use Rattle.model_tree.specs.Trees.Stamp.{filehandle_of}
use Rattle.wire_attributes.specs.declared.answer.AttributesAnswer.{AttributesAnswer}
use Rattle.wire_attributes.specs.declared.attribute.Attribute.{Attribute}
use Rattle.wire_attributes.specs.declared.attribute.Attribute.TheVariants as attribute
use Rattle.wire_attributes.specs.declared.node.NodeAttributes.{NodeAttributes}

abbrev pub attribute_number : Attribute → ℕ
attribute_number attribute.SupportedAttrs = 0
attribute_number attribute.Kind = 1
attribute_number attribute.FhExpireType = 2
attribute_number attribute.Change = 3
attribute_number attribute.Size = 4
attribute_number attribute.LinkSupport = 5
attribute_number attribute.SymlinkSupport = 6
attribute_number attribute.NamedAttr = 7
attribute_number attribute.Fsid = 8
attribute_number attribute.UniqueHandles = 9
attribute_number attribute.LeaseTime = 10
attribute_number attribute.RdattrError = 11
attribute_number attribute.Acl = 12
attribute_number attribute.AclSupport = 13
attribute_number attribute.FileHandle = 19
attribute_number attribute.FileId = 20
attribute_number attribute.MaxFileSize = 27
attribute_number attribute.MaxName = 29
attribute_number attribute.MaxRead = 30
attribute_number attribute.MaxWrite = 31
attribute_number attribute.Mode = 33
attribute_number attribute.NumLinks = 35
attribute_number attribute.Owner = 36
attribute_number attribute.OwnerGroup = 37
attribute_number attribute.TimeModify = 53
attribute_number attribute.SuppattrExclcreat = 75

abbrev pub every_attribute : List Attribute
every_attribute =
    attribute.SupportedAttrs
    ∷ attribute.Kind
    ∷ attribute.FhExpireType
    ∷ attribute.Change
    ∷ attribute.Size
    ∷ attribute.LinkSupport
    ∷ attribute.SymlinkSupport
    ∷ attribute.NamedAttr
    ∷ attribute.Fsid
    ∷ attribute.UniqueHandles
    ∷ attribute.LeaseTime
    ∷ attribute.RdattrError
    ∷ attribute.Acl
    ∷ attribute.AclSupport
    ∷ attribute.FileHandle
    ∷ attribute.FileId
    ∷ attribute.MaxFileSize
    ∷ attribute.MaxName
    ∷ attribute.MaxRead
    ∷ attribute.MaxWrite
    ∷ attribute.Mode
    ∷ attribute.NumLinks
    ∷ attribute.Owner
    ∷ attribute.OwnerGroup
    ∷ attribute.TimeModify
    ∷ attribute.SuppattrExclcreat
    ∷ []

abbrev pub value_of : NodeAttributes → Attribute → spec.Value
value_of node attribute.SupportedAttrs = spec.SupportedAttrs supported_bitmap
value_of node attribute.Kind = spec.Kind node.kind
value_of node attribute.FhExpireType = spec.FhExpireType 0
value_of node attribute.Change = spec.Change node.change
value_of node attribute.Size = spec.Size node.size
value_of node attribute.LinkSupport = spec.LinkSupport false
value_of node attribute.SymlinkSupport = spec.SymlinkSupport false
value_of node attribute.NamedAttr = spec.NamedAttr false
value_of node attribute.Fsid = spec.Fsid (record { major = 1; minor = 0 })
value_of node attribute.UniqueHandles = spec.UniqueHandles true
value_of node attribute.LeaseTime = spec.LeaseTime lease_time
value_of node attribute.RdattrError = spec.RdattrError 0
value_of node attribute.Acl = spec.Acl (map entry_text node.acl.now)
value_of node attribute.AclSupport = spec.AclSupport acl_support
value_of node attribute.FileHandle = spec.FileHandle (filehandle_of node.number)
value_of node attribute.FileId = spec.FileId node.number
value_of node attribute.MaxFileSize = spec.MaxFileSize node.max_file_size
value_of node attribute.MaxName = spec.MaxName node.max_name
value_of node attribute.MaxRead = spec.MaxRead node.max_transfer
value_of node attribute.MaxWrite = spec.MaxWrite node.max_transfer
value_of node attribute.Mode = spec.Mode (mode_of node.acl.now)
value_of node attribute.NumLinks = spec.NumLinks 1
value_of node attribute.Owner = spec.Owner (decimal node.owner)
value_of node attribute.OwnerGroup = spec.OwnerGroup (decimal node.group)
value_of node attribute.TimeModify = spec.TimeModify (time_of node.time_modify)
value_of node attribute.SuppattrExclcreat = spec.SuppattrExclcreat []

-- the encoding of an attribute's value, and what of it is encoded if these are asked for
abbrev pub value_encoded : NodeAttributes → Attribute → List ℕ
value_encoded node attribute = value_text (value_of node attribute)

abbrev pub encoded_if : (asked : Bool) → List ℕ → List ℕ
encoded_if true text = text
encoded_if false text = []

unfoldable pub asked_text : NodeAttributes → (bitmap : List ℕ) → Attribute → List ℕ
asked_text node bitmap attribute =
    encoded_if (is_among (attributes_of bitmap) (attribute_number attribute))
    (value_encoded node attribute)

-- what is returned of these attributes
unfoldable pub attributes_answered : NodeAttributes → (bitmap : List ℕ) → operation.Attributes
attributes_answered node bitmap = record {
  bitmap = trimmed (common bitmap supported_bitmap);
  values = flat_map value_text
      (asked_values (attributes_of bitmap) (map (value_of node) every_attribute));
}

abbrev pub answer_view : AttributesAnswer → operation.Attributes
answer_view answer = attributes_answered answer.node answer.asked.now

-- a list that a node may have
abbrev pub HasFewEntries : NodeAttributes → Type 0
HasFewEntries node = length node.acl.now ≤ 72

-- The values of the code as those of the definitions.
use Rattle.std.specs.Prelude.{ℕ, ◌<◌, ◌≤◌, ◌^◌, IsTrue, List, length, map, All}
use Rattle.xdr.specs.Forms.{is_trimmed}
use Rattle.model.specs.Attributes.AttributeValue as spec
use Rattle.wire_attributes.specs.declared.entry.AclEntry.{AclEntry}
use Rattle.wire_attributes.specs.declared.value.FileSystemId.{FileSystemId}
use Rattle.wire_attributes.specs.declared.value.Time.{Time}
use Rattle.wire_attributes.specs.declared.value.Value.{Value}
use Rattle.wire_attributes.specs.declared.value.Value.TheVariants as value

abbrev pub entry_view : AclEntry → spec.AclEntry
entry_view e = record { kind = e.kind; flags = e.flags; mask = e.mask; who = e.who.now }

abbrev pub file_system_view : FileSystemId → spec.FileSystemId
file_system_view i = record { major = i.major; minor = i.minor }

abbrev pub time_view : Time → spec.Time
time_view t = record { seconds = t.seconds; nanoseconds = t.nanoseconds }

abbrev pub value_view : Value → spec.Value
value_view (value.SupportedAttrs v) = spec.SupportedAttrs v
value_view (value.Kind v) = spec.Kind v
value_view (value.FhExpireType v) = spec.FhExpireType v
value_view (value.Change v) = spec.Change v
value_view (value.Size v) = spec.Size v
value_view (value.LinkSupport v) = spec.LinkSupport v
value_view (value.SymlinkSupport v) = spec.SymlinkSupport v
value_view (value.NamedAttr v) = spec.NamedAttr v
value_view (value.Fsid v) = spec.Fsid (file_system_view v)
value_view (value.UniqueHandles v) = spec.UniqueHandles v
value_view (value.LeaseTime v) = spec.LeaseTime v
value_view (value.RdattrError v) = spec.RdattrError v
value_view (value.Acl v) = spec.Acl (map entry_view v.items)
value_view (value.AclSupport v) = spec.AclSupport v
value_view (value.FileHandle v) = spec.FileHandle v.now
value_view (value.FileId v) = spec.FileId v
value_view (value.MaxFileSize v) = spec.MaxFileSize v
value_view (value.MaxName v) = spec.MaxName v
value_view (value.MaxRead v) = spec.MaxRead v
value_view (value.MaxWrite v) = spec.MaxWrite v
value_view (value.Mode v) = spec.Mode v
value_view (value.NumLinks v) = spec.NumLinks v
value_view (value.Owner v) = spec.Owner v.now
value_view (value.OwnerGroup v) = spec.OwnerGroup v.now
value_view (value.TimeModify v) = spec.TimeModify (time_view v)
value_view (value.SuppattrExclcreat v) = spec.SuppattrExclcreat v

-- which values can be encoded, as far as their types leave it open: the lengths of texts and lists,
-- and bitmaps without zero words at the end
abbrev pub EntryFits : AclEntry → Type 0
EntryFits e = length e.who.now < 2 ^ 32

abbrev pub ValueFits : Value → Type 0
ValueFits (value.SupportedAttrs v) = IsTrue (is_trimmed v)
ValueFits (value.Kind v) = Unit {0}
ValueFits (value.FhExpireType v) = Unit {0}
ValueFits (value.Change v) = Unit {0}
ValueFits (value.Size v) = Unit {0}
ValueFits (value.LinkSupport v) = Unit {0}
ValueFits (value.SymlinkSupport v) = Unit {0}
ValueFits (value.NamedAttr v) = Unit {0}
ValueFits (value.Fsid v) = Unit {0}
ValueFits (value.UniqueHandles v) = Unit {0}
ValueFits (value.LeaseTime v) = Unit {0}
ValueFits (value.RdattrError v) = Unit {0}
ValueFits (value.Acl v) = (length v.items < 2 ^ 32) × All EntryFits v.items
ValueFits (value.AclSupport v) = Unit {0}
ValueFits (value.FileHandle v) = length v.now ≤ 128
ValueFits (value.FileId v) = Unit {0}
ValueFits (value.MaxFileSize v) = Unit {0}
ValueFits (value.MaxName v) = Unit {0}
ValueFits (value.MaxRead v) = Unit {0}
ValueFits (value.MaxWrite v) = Unit {0}
ValueFits (value.Mode v) = Unit {0}
ValueFits (value.NumLinks v) = Unit {0}
ValueFits (value.Owner v) = length v.now < 2 ^ 32
ValueFits (value.OwnerGroup v) = length v.now < 2 ^ 32
ValueFits (value.TimeModify v) = Unit {0}
ValueFits (value.SuppattrExclcreat v) = IsTrue (is_trimmed v)

-- an entry's encoding, and a value's
abbrev pub entry_encoding : AclEntry → List ℕ
entry_encoding e = spec.acl_entry.encoding (entry_view e)

abbrev pub value_encoding : Value → List ℕ
value_encoding v = spec.value_text (value_view v)

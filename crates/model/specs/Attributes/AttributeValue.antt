-- The values of attributes and the entries of lists on the wire, as grammars: RFC 8881, sections
-- 3.3.9, 5.6, 5.8, 5.9 and 6.2, and RFC 5662. The bitmaps among them, supported_attrs and
-- suppattr_exclcreat, are encoded as in results.
use Rattle.std.specs.Prelude.{◌≡◌, ◌↔◌, ℕ, ◌-◌, ◌^◌, ◌==◌, Bool, List, [], ◌∷◌, Option, Some, None, Result, Ok, Err, map, length, if◌then◌else◌}
use Rattle.std.specs.List.{flat_map, AllByRecursion}
use Rattle.xdr.specs.declared.refusal.Refusal.{Refusal}
use Rattle.xdr.specs.Grammar.{Grammar, ◌>>=◌, ◌&◌, of, void, unsigned_int, unsigned_hyper}
use Rattle.xdr.specs.Forms.{array, boolean, trimmed_bitmap}
use Rattle.xdr.specs.Union.{Encoded, arm, Choice, on, no_other, union}
use Rattle.xdr.specs.Laws.{IsBytes}
use Rattle.model_tree.specs.declared.node.NodeKind.{NodeKind}
use Rattle.model_tree.specs.declared.node.NodeKind.TheVariants as kind
use Rattle.model.specs.Wire.WireTypes.{any_opaque, file_handle}

-- fsid4
pub record FileSystemId : Type 0 where
  pub major : ℕ
  pub minor : ℕ

abbrev pub file_system_id : Grammar FileSystemId
file_system_id =
    of (λ (p : ℕ × ℕ). record { major = p.0; minor = p.1 }) (λ i. (i.major, i.minor))
    (unsigned_hyper & unsigned_hyper)

-- nfstime4: the seconds as the number that their eight bytes encode
pub record Time : Type 0 where
  pub seconds : ℕ
  pub nanoseconds : ℕ

abbrev pub time : Grammar Time
time =
    of (λ (p : ℕ × ℕ). record { seconds = p.0; nanoseconds = p.1 })
    (λ t. (t.seconds, t.nanoseconds)) (unsigned_hyper & unsigned_int)

-- nfsace4, as it is on the wire: what its numbers and its text mean is left open
pub record AclEntry : Type 0 where
  pub kind : ℕ
  pub flags : ℕ
  pub mask : ℕ
  pub who : List ℕ

abbrev pub acl_entry : Grammar AclEntry
acl_entry = of
    (λ (p : ℕ × (ℕ × (ℕ × List ℕ))).
    record { kind = p.0; flags = p.1.0; mask = p.1.1.0; who = p.1.1.1 })
    (λ e. (e.kind, (e.flags, (e.mask, e.who))))
    (unsigned_int & unsigned_int & unsigned_int & any_opaque)

-- a list of any length
abbrev pub entries : Grammar (List AclEntry)
entries = array (2 ^ 32 - 1) acl_entry

-- nfs_ftype4: NF4REG is 1 and NF4DIR 2
abbrev pub encoded_kind : NodeKind → Encoded
encoded_kind kind.File = arm 1 void tt
encoded_kind kind.Directory = arm 2 void tt

abbrev pub node_kind : Grammar NodeKind
node_kind = union encoded_kind
    (on 1 void (λ _. kind.File) (on 2 void (λ _. kind.Directory) no_other))

-- the value of an attribute
pub data Value : Type 0 where
  SupportedAttrs : List ℕ → Value
  Kind : NodeKind → Value
  FhExpireType : ℕ → Value
  Change : ℕ → Value
  Size : ℕ → Value
  LinkSupport : Bool → Value
  SymlinkSupport : Bool → Value
  NamedAttr : Bool → Value
  Fsid : FileSystemId → Value
  UniqueHandles : Bool → Value
  LeaseTime : ℕ → Value
  RdattrError : ℕ → Value
  Acl : List AclEntry → Value
  AclSupport : ℕ → Value
  FileHandle : List ℕ → Value
  FileId : ℕ → Value
  MaxFileSize : ℕ → Value
  MaxName : ℕ → Value
  MaxRead : ℕ → Value
  MaxWrite : ℕ → Value
  Mode : ℕ → Value
  NumLinks : ℕ → Value
  Owner : List ℕ → Value
  OwnerGroup : List ℕ → Value
  TimeModify : Time → Value
  SuppattrExclcreat : List ℕ → Value

-- its attribute's number, and its encoding, which does not include that number
abbrev pub encoded_value : Value → Encoded
encoded_value (SupportedAttrs v) = arm 0 trimmed_bitmap v
encoded_value (Kind v) = arm 1 node_kind v
encoded_value (FhExpireType v) = arm 2 unsigned_int v
encoded_value (Change v) = arm 3 unsigned_hyper v
encoded_value (Size v) = arm 4 unsigned_hyper v
encoded_value (LinkSupport v) = arm 5 boolean v
encoded_value (SymlinkSupport v) = arm 6 boolean v
encoded_value (NamedAttr v) = arm 7 boolean v
encoded_value (Fsid v) = arm 8 file_system_id v
encoded_value (UniqueHandles v) = arm 9 boolean v
encoded_value (LeaseTime v) = arm 10 unsigned_int v
encoded_value (RdattrError v) = arm 11 unsigned_int v
encoded_value (Acl v) = arm 12 entries v
encoded_value (AclSupport v) = arm 13 unsigned_int v
encoded_value (FileHandle v) = arm 19 file_handle v
encoded_value (FileId v) = arm 20 unsigned_hyper v
encoded_value (MaxFileSize v) = arm 27 unsigned_hyper v
encoded_value (MaxName v) = arm 29 unsigned_int v
encoded_value (MaxRead v) = arm 30 unsigned_hyper v
encoded_value (MaxWrite v) = arm 31 unsigned_hyper v
encoded_value (Mode v) = arm 33 unsigned_int v
encoded_value (NumLinks v) = arm 35 unsigned_int v
encoded_value (Owner v) = arm 36 any_opaque v
encoded_value (OwnerGroup v) = arm 37 any_opaque v
encoded_value (TimeModify v) = arm 53 time v
encoded_value (SuppattrExclcreat v) = arm 75 trimmed_bitmap v

abbrev pub value_choice : Choice Value
value_choice =
    on 0 trimmed_bitmap SupportedAttrs
    (on 1 node_kind Kind
    (on 2 unsigned_int FhExpireType
    (on 3 unsigned_hyper Change
    (on 4 unsigned_hyper Size
    (on 5 boolean LinkSupport
    (on 6 boolean SymlinkSupport
    (on 7 boolean NamedAttr
    (on 8 file_system_id Fsid
    (on 9 boolean UniqueHandles
    (on 10 unsigned_int LeaseTime
    (on 11 unsigned_int RdattrError
    (on 12 entries Acl
    (on 13 unsigned_int AclSupport
    (on 19 file_handle FileHandle
    (on 20 unsigned_hyper FileId
    (on 27 unsigned_hyper MaxFileSize
    (on 29 unsigned_int MaxName
    (on 30 unsigned_hyper MaxRead
    (on 31 unsigned_hyper MaxWrite
    (on 33 unsigned_int Mode
    (on 35 unsigned_int NumLinks
    (on 36 any_opaque Owner
    (on 37 any_opaque OwnerGroup
    (on 53 time TimeModify
    (on 75 trimmed_bitmap SuppattrExclcreat no_other)))))))))))))))))))))))))

-- the value of an attribute at the start of bytes
unfoldable pub value_at : (attribute : ℕ) → List ℕ → Result (Value × List ℕ) Refusal
value_at attribute bytes = value_choice attribute bytes

-- the values of attributes, one after the other
unfoldable pub values_at : (attributes : List ℕ) → List ℕ → Result (List Value × List ℕ) Refusal
values_at [] bytes = Ok ([], bytes)
values_at (attribute ∷ rest) bytes =
    value_at attribute bytes >>= λ x. values_at rest x.1 >>= λ xs. Ok (x.0 ∷ xs.0, xs.1)

abbrev pub attribute_of : Value → ℕ
attribute_of v = (encoded_value v).number

abbrev pub value_text : Value → List ℕ
value_text v = (encoded_value v).text

-- The values of these attributes, in their order (section 3.3.9, `fattr4`: by rising number)
abbrev pub values : (attributes : List ℕ) → Grammar (List Value)
values attributes = record {
  Fits = λ vs. (map attribute_of vs ≡ attributes) × AllByRecursion (λ v. (encoded_value v).Fits) vs;
  encoding = λ vs. flat_map value_text vs;
  read = λ bytes. values_at attributes bytes;
}

-- the values, if the bytes are exactly their encoding
abbrev pub whole : Result (List Value × List ℕ) Refusal → Option (List Value)
whole (Ok x) = if length x.1 == 0 then Some x.0 else None
whole (Err e) = None

abbrev pub whole_values : (attributes bytes : List ℕ) → Option (List Value)
whole_values attributes bytes = whole (values_at attributes bytes)

-- Its law: bytes are read whole exactly if they are the values' encoding
abbrev pub ReadsWhole : Type 0
ReadsWhole = (attributes bytes : List ℕ) (vs : List Value) → IsBytes bytes
    → (whole_values attributes bytes ≡ Some vs)
    ↔ ((values attributes).Fits vs × (bytes ≡ (values attributes).encoding vs))

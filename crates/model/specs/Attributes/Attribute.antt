-- Attributes that a client sets, and their tests in order: RFC 8881, sections 3.2 (bitmap4), 5
-- (attributes) and 18.30 (SETATTR). The order of the tests, and which attributes are supported and
-- may be set where, are this server's profile.
use Rattle.std.specs.Prelude.{◌≡◌, ◌≤◌, IsTrue, ℕ, Bool, List, [], ◌∷◌, ◌++◌, Option, Some, None, ◌+◌, ◌==◌, not, nat_lt, nat_eq, is_none, if◌then◌else◌, length, map, filter, flat_map, unwrap_or}
use Rattle.std.specs.List.{list_any, range_with_len}
use Rattle.std.specs.Int.{bit_at}
use Rattle.model_tree.specs.declared.acl.Ace.{Ace}
use Rattle.model_tree.specs.declared.node.NodeKind.{NodeKind}
use Rattle.model_tree.specs.declared.status.Status.TheVariants as status
use Rattle.model_tree.specs.Rights.Acl.{bits_without, is_within, every_right, inheritance, are_flags_for, is_list_for}
use Rattle.model.specs.Attributes.AclText.{identifier_group, aces_in, named_in, number_in}
use Rattle.model.specs.Attributes.AttributeValue.{AclEntry, Value, Size, Acl, Mode, Owner, OwnerGroup, whole_values}
use Rattle.model_tree.specs.declared.limits.Limits.{Limits}
use Rattle.model.specs.Operations.Operation.{Attributes}
use Rattle.model_tree.specs.Refusals.Refusal.{Refusals, first_refusal}

-- The attributes of a bitmap, by rising number: bit m of word n is attribute 32 n + m

abbrev pub attributes_of_word : (first word : ℕ) → List ℕ
attributes_of_word first word =
    map (λ bit. first + bit) (filter (λ bit. bit_at word bit == 1) (range_with_len 0 32))

abbrev pub attributes_from : (first : ℕ) → List ℕ → List ℕ
attributes_from first [] = []
attributes_from first (word ∷ rest) =
    attributes_of_word first word ++ attributes_from (first + 32) rest

unfoldable pub attributes_of : (bitmap : List ℕ) → List ℕ
attributes_of bitmap = attributes_from 0 bitmap

-- whether no attribute is given
abbrev pub is_empty : (bitmap : List ℕ) → Bool
is_empty bitmap = length (attributes_of bitmap) == 0

-- A bitmap as a result has it: without zero words at the end

abbrev pub word_before : ℕ → List ℕ → List ℕ
word_before word [] = if word == 0 then [] else word ∷ []
word_before word (next ∷ rest) = word ∷ next ∷ rest

abbrev pub trimmed : List ℕ → List ℕ
trimmed [] = []
trimmed (word ∷ rest) = word_before word (trimmed rest)

-- The numbers of attributes (sections 5.6 and 5.7)

abbrev pub size_number : ℕ
size_number = 4

abbrev pub acl_number : ℕ
acl_number = 12

abbrev pub mode_number : ℕ
mode_number = 33

abbrev pub owner_number : ℕ
owner_number = 36

abbrev pub owner_group_number : ℕ
owner_group_number = 37

-- what this server supports
abbrev pub supported : List ℕ
supported =
    0 ∷ 1 ∷ 2 ∷ 3 ∷ 4 ∷ 5 ∷ 6 ∷ 7 ∷ 8 ∷ 9 ∷ 10 ∷ 11 ∷ 12 ∷ 13 ∷ 19 ∷ 20 ∷ 27 ∷ 29 ∷ 30 ∷ 31 ∷ 33
    ∷ 35 ∷ 36 ∷ 37 ∷ 53 ∷ 75 ∷ []

-- what SETATTR, OPEN and CREATE may set

abbrev pub settable_at_setattr : List ℕ
settable_at_setattr =
    size_number ∷ acl_number ∷ mode_number ∷ owner_number ∷ owner_group_number ∷ []

abbrev pub settable_at_open : List ℕ
settable_at_open = size_number ∷ acl_number ∷ mode_number ∷ []

abbrev pub settable_at_creation : List ℕ
settable_at_creation = acl_number ∷ mode_number ∷ []

abbrev pub is_among : (numbers : List ℕ) → (attribute : ℕ) → Bool
is_among numbers attribute = list_any (nat_eq attribute) numbers

abbrev pub has_one_outside : (numbers attributes : List ℕ) → Bool
has_one_outside numbers attributes =
    list_any (λ attribute. not (is_among numbers attribute)) attributes

-- What is set

-- the values, if the bytes are exactly their encoding
abbrev pub values_of : Attributes → Option (List Value)
values_of given = whole_values (attributes_of given.bitmap) given.values

abbrev pub or_else : {A : Type 0} → Option A → Option A → Option A
or_else None other = other
or_else (Some value) other = Some value

-- what the first value that says something says
abbrev pub first_said : {A : Type 0} → (Value → Option A) → List Value → Option A
first_said says [] = None
first_said says (value ∷ rest) = or_else (says value) (first_said says rest)

abbrev pub said_by : {A : Type 0} → (Value → Option A) → Attributes → Option A
said_by says given = first_said says (unwrap_or (values_of given) [])

abbrev pub size_said : Value → Option ℕ
size_said (Size bytes) = Some bytes
size_said _ = None

abbrev pub acl_said : Value → Option (List Ace)
acl_said (Acl entries) = Some (aces_in entries)
acl_said _ = None

abbrev pub mode_said : Value → Option ℕ
mode_said (Mode mode) = Some mode
mode_said _ = None

abbrev pub owner_said : Value → Option ℕ
owner_said (Owner text) = number_in text
owner_said _ = None

abbrev pub group_said : Value → Option ℕ
group_said (OwnerGroup text) = number_in text
group_said _ = None

abbrev pub size_given : Attributes → Option ℕ
size_given given = said_by size_said given

abbrev pub acl_given : Attributes → Option (List Ace)
acl_given given = said_by acl_said given

abbrev pub mode_given : Attributes → Option ℕ
mode_given given = said_by mode_said given

abbrev pub owner_given : Attributes → Option ℕ
owner_given given = said_by owner_said given

abbrev pub group_given : Attributes → Option ℕ
group_given given = said_by group_said given

-- The tests, in their order; what is set is set on a node of this kind

-- of one entry of a list: its type, flags, rights and name, and whether such a node may have such
-- flags
abbrev pub entry_refusals : NodeKind → AclEntry → Refusals
entry_refusals kind entry =
    (nat_lt 1 entry.kind, status.AttrNotSupp)
    ∷ (not (is_within entry.flags (inheritance + identifier_group)), status.AttrNotSupp)
    ∷ (not (is_within entry.mask every_right), status.AttrNotSupp)
    ∷ (is_none (named_in entry), status.BadOwner)
    ∷ (not (are_flags_for kind (bits_without entry.flags identifier_group)), status.AttrNotSupp)
    ∷ []

-- a mode has nine bits: SUID, SGID and SVTX are left out
abbrev pub value_refusals : Limits → NodeKind → Value → Refusals
value_refusals limits kind (Size bytes) = (nat_lt limits.file_bytes bytes, status.FBig) ∷ []
value_refusals limits kind (Acl entries) =
    (nat_lt limits.aces_set (length entries), status.Inval) ∷ flat_map (entry_refusals kind) entries
value_refusals limits kind (Mode mode) = (nat_lt 0o777 mode, status.Inval) ∷ []
value_refusals limits kind (Owner text) = (is_none (number_in text), status.BadOwner) ∷ []
value_refusals limits kind (OwnerGroup text) = (is_none (number_in text), status.BadOwner) ∷ []
value_refusals limits kind _ = []

unfoldable pub attribute_refusals : Limits → NodeKind → (settable : List ℕ) → Attributes → Refusals
attribute_refusals limits kind settable given =
    (has_one_outside supported (attributes_of given.bitmap), status.AttrNotSupp)
    ∷ (has_one_outside settable (attributes_of given.bitmap), status.Inval)
    ∷ (is_none (values_of given), status.BadXdr)
    ∷ flat_map (value_refusals limits kind) (unwrap_or (values_of given) [])

-- Its law: a list that passes is one that a node may have
abbrev pub GivenListsFit : Type 0
GivenListsFit =
    (limits : Limits) (kind : NodeKind) (settable : List ℕ) (given : Attributes) (acl : List Ace)
    → limits.aces_set ≤ limits.aces
    → first_refusal (attribute_refusals limits kind settable given) ≡ None
    → acl_given given ≡ Some acl → IsTrue (is_list_for limits.aces_set limits.aces kind acl)

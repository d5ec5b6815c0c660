-- Whom a text names, and which entry of the definitions one on the wire represents: RFC 8881,
-- sections 5.9 (owner and owner_group), 6.2.1.1 and 6.2.1.3 to 6.2.1.5. Numbers in decimal, and
-- only OWNER@, GROUP@ and EVERYONE@ of the special names, are this server's profile.
use Rattle.std.specs.Prelude.{◌≡◌, ◌↔◌, ℕ, ◌<◌, ◌^◌, ◌==◌, ◌&&◌, nat_lt, Bool, true, false, if◌then◌else◌, List, Option, Some, None, option_map, option_and_then, bit_or, bytes_eq, codes, decimal, filter_map}
use Rattle.std.specs.Str.Parse.{digits_value}
use Rattle.model_tree.specs.declared.acl.Ace.{Ace}
use Rattle.model_tree.specs.declared.acl.AceKind.{AceKind}
use Rattle.model_tree.specs.declared.acl.AceKind.TheVariants as kind
use Rattle.model_tree.specs.declared.acl.Who.{Who}
use Rattle.model_tree.specs.declared.acl.Who.TheVariants as who
use Rattle.model_tree.specs.Rights.Acl.{meets, bits_without}
use Rattle.model.specs.Attributes.AttributeValue.{AclEntry}

-- What is written

abbrev pub who_text : Who → List ℕ
who_text who.Owner = codes "OWNER@"
who_text who.Group = codes "GROUP@"
who_text who.Everyone = codes "EVERYONE@"
who_text (who.User number) = decimal number
who_text (who.NamedGroup number) = decimal number

-- acetype4
abbrev pub kind_number : AceKind → ℕ
kind_number kind.Allow = 0
kind_number kind.Deny = 1

-- the flag that distinguishes a group's number from a user's (section 6.2.1.4)
abbrev pub identifier_group : ℕ
identifier_group = 0x40

abbrev pub is_named_group : Who → Bool
is_named_group (who.NamedGroup number) = true
is_named_group _ = false

abbrev pub entry_flags : (flags : ℕ) → Who → ℕ
entry_flags flags name = if is_named_group name then bit_or flags identifier_group else flags

abbrev pub entry_text : Ace → AclEntry
entry_text ace = record {
  kind = kind_number ace.kind;
  flags = entry_flags ace.flags.0 ace.who;
  mask = ace.mask.0;
  who = who_text ace.who;
}

-- What is read

-- the number of 32 bits that the text writes in decimal digits, without leading zeros
abbrev pub written_number : (text : List ℕ) → (number : ℕ) → Option ℕ
written_number text number =
    if nat_lt number (2 ^ 32) && bytes_eq text (decimal number) then Some number else None

unfoldable pub number_in : (text : List ℕ) → Option ℕ
number_in text = written_number text (digits_value 10 text)

abbrev pub numbered : (is_group : Bool) → ℕ → Who
numbered true number = who.NamedGroup number
numbered false number = who.User number

-- whom the text names; for a special name the flag is ignored
unfoldable pub who_in : (is_group : Bool) → (text : List ℕ) → Option Who
who_in is_group text =
    if bytes_eq text (codes "OWNER@") then Some who.Owner
    else (if bytes_eq text (codes "GROUP@") then Some who.Group
    else (if bytes_eq text (codes "EVERYONE@") then Some who.Everyone
    else option_map (numbered is_group) (number_in text)))

abbrev pub kind_in : ℕ → Option AceKind
kind_in number =
    if number == 0 then Some kind.Allow else (if number == 1 then Some kind.Deny else None)

abbrev pub ace_of : AclEntry → AceKind → Who → Ace
ace_of entry of name =
    record {
      kind = of;
      flags = record { 0 = bits_without entry.flags identifier_group };
      mask = record { 0 = entry.mask };
      who = name;
    }

abbrev pub named_in : AclEntry → Option Who
named_in entry = who_in (meets entry.flags identifier_group) entry.who

-- the entry that one on the wire represents, if it represents one
unfoldable pub ace_in : AclEntry → Option Ace
ace_in entry =
    option_and_then (λ of. option_map (ace_of entry of) (named_in entry)) (kind_in entry.kind)

-- those of a list
abbrev pub aces_in : List AclEntry → List Ace
aces_in entries = filter_map ace_in entries

-- The laws

-- a number is read exactly if the text is its digits
abbrev pub ReadsNumbers : Type 0
ReadsNumbers =
    (text : List ℕ) (number : ℕ) → (number_in text ≡ Some number)
    ↔ ((text ≡ decimal number) × (number < 2 ^ 32))

-- what the flag IDENTIFIER_GROUP must be for this name
abbrev pub Agrees : (is_group : Bool) → Who → Type 0
Agrees is_group who.Owner = Unit {0}
Agrees is_group who.Group = Unit {0}
Agrees is_group who.Everyone = Unit {0}
Agrees is_group (who.User number) = (is_group ≡ false) × (number < 2 ^ 32)
Agrees is_group (who.NamedGroup number) = (is_group ≡ true) × (number < 2 ^ 32)

-- with that flag, the text means this name
abbrev pub Means : (is_group : Bool) → (text : List ℕ) → Who → Type 0
Means is_group text name = (text ≡ who_text name) × Agrees is_group name

abbrev pub ReadsNames : Type 0
ReadsNames =
    (is_group : Bool) (text : List ℕ) (name : Who) → (who_in is_group text ≡ Some name)
    ↔ Means is_group text name

-- The entry on the wire represents the other, whose flags do not include IDENTIFIER_GROUP.
pub record StandsFor (entry : AclEntry) (ace : Ace) : Type 0 where
  pub kind : entry.kind ≡ kind_number ace.kind
  pub flags : ace.flags.0 ≡ bits_without entry.flags identifier_group
  pub mask : entry.mask ≡ ace.mask.0
  pub who : Means (meets entry.flags identifier_group) entry.who ace.who

abbrev pub ReadsEntries : Type 0
ReadsEntries = (entry : AclEntry) (ace : Ace) → (ace_in entry ≡ Some ace) ↔ StandsFor entry ace

-- What may be written: no flag for what the name says already, and a number of 32 bits
abbrev pub HasWidth : Who → Type 0
HasWidth (who.User number) = number < 2 ^ 32
HasWidth (who.NamedGroup number) = number < 2 ^ 32
HasWidth _ = Unit {0}

-- what is written is read back, and the flag is set exactly on named groups
pub record WritesEntries : Type 0 where
  pub again : (ace : Ace) → bits_without ace.flags.0 identifier_group ≡ ace.flags.0
      → HasWidth ace.who → ace_in (entry_text ace) ≡ Some ace
  pub flag : (ace : Ace) → bits_without ace.flags.0 identifier_group ≡ ace.flags.0
      → meets (entry_text ace).flags identifier_group ≡ is_named_group ace.who

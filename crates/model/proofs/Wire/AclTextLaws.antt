-- Names and entries are read exactly from what is written for them.
use Rattle.std.proofs.Common.{◌≡◌, ◌≢◌, ◌⊎◌, inl, inr, ℕ, ◌<◌, ◌^◌, ◌-◌, Bool, true, false, ◌&&◌, List, codes, bytes_eq, nat_lt, refl, sym, ap, subst, ◌∙◌, arith, eqb, eqb-true, ltb-true, lt-ltb, cond}
use Rattle.std.specs.Prelude.{Option, Some, None, decimal, bit_and, bit_or, option_map, option_and_then}
use Rattle.std.specs.Cmp.Lexicographic.{bytes_decides}
use Rattle.std.specs.Str.Parse.{IsNumeral, digits_value}
use Rattle.std.proofs.lemmas.Fmt.{decimal_is_IsNumeral}
use Rattle.std.proofs.lemmas.Nat.{and_assoc, and_or_self, and_or_apart}
use Rattle.std.specs.Int.Bits.{and_zero_r}
use Rattle.std.proofs.lemmas.Option.{same_Some}
use Rattle.std.proofs.lemmas.Bool.{and_parts}
use Rattle.model_tree.specs.declared.acl.Ace.{Ace}
use Rattle.model_tree.specs.declared.acl.AceKind.{AceKind}
use Rattle.model_tree.specs.declared.acl.AceKind.TheVariants as kind
use Rattle.model_tree.specs.declared.acl.Who.{Who}
use Rattle.model_tree.specs.declared.acl.Who.TheVariants as who
use Rattle.model_tree.specs.Rights.Acl.{meets, bits_without}
use Rattle.model.specs.Attributes.AttributeValue.{AclEntry}
use Rattle.model.specs.Attributes.AclText.{who_text, kind_number, kind_in, identifier_group, entry_flags, entry_text, written_number, number_in, numbered, who_in, named_in, is_named_group, ace_of, ace_in, ReadsNumbers, Agrees, Means, ReadsNames, StandsFor, ReadsEntries, HasWidth, WritesEntries}

chosen : {A : Type 0} (test : Bool) (here value : A) (others : Option A) → cond test (Some here) others ≡ Some value
    → ((test ≡ true) × (here ≡ value)) ⊎ ((test ≡ false) × (others ≡ Some value))
chosen true here value others is = inl (refl, same_Some here value is)
chosen false here value others is = inr (refl, is)

-- Numbers

written_is : (text : List ℕ) (value number : ℕ) → written_number text value ≡ Some number → (text ≡ decimal number) × (number < 2 ^ 32)
written_is text value number is = elim (chosen (nat_lt value (2 ^ 32) && bytes_eq text (decimal value)) value number None is) [
  | inl here ↦
      let tests = and_parts (nat_lt value (2 ^ 32)) (bytes_eq text (decimal value)) here.0 in
      let text_is : text ≡ decimal value = (bytes_decides text (decimal value)).0 tests.1 in
      (text_is ∙ ap decimal here.1, subst (λ n. n < 2 ^ 32) here.1 (ltb-true value (2 ^ 32) tests.0))
  | inr nothing ↦ absurd (none_is nothing.1)
]
  where
    none_is : None ≡ Some number → ⊥
    none_is same = cc

pub written_again : (text : List ℕ) (number : ℕ) → text ≡ decimal number → number < 2 ^ 32 → number_in text ≡ Some number
unfolding number_in
written_again text number is small =
    let value : digits_value 10 text ≡ number = ap (digits_value 10) is ∙ (decimal_is_IsNumeral number (omega arith)).1 in
    let same : bytes_eq text (decimal number) ≡ true = (bytes_decides text (decimal number)).1 is in
    ap (written_number text) value ∙ rw (lt-ltb number (2 ^ 32) small, same) refl

pub reads_numbers : ReadsNumbers
unfolding number_in
reads_numbers text number = record {
  0 = λ is. written_is text (digits_value 10 text) number is;
  1 = λ is. written_again text number is.0 is.1;
}

-- a text that is no number's digits
pub no_number : (text : List ℕ) → ((number : ℕ) → number < 2 ^ 32 → text ≢ decimal number) → number_in text ≡ None
no_number text none = by_read (number_in text) refl
  where
    by_read : (read : Option ℕ) → number_in text ≡ read → read ≡ None
    by_read None is = refl
    by_read (Some number) is = let digits = (reads_numbers text number).0 is in absurd (none number digits.1 digits.0)

-- Names

numbered_means : (is_group : Bool) (text : List ℕ) (read : Option ℕ) (name : Who) → number_in text ≡ read → option_map (numbered is_group) read ≡ Some name
    → Means is_group text name
numbered_means is_group text None name read is = absurd (cc)
numbered_means true text (Some number) name read is =
    let digits = (reads_numbers text number).0 read in
    subst (Means true text) (same_Some (who.NamedGroup number) name is) (digits.0, (refl, digits.1))
numbered_means false text (Some number) name read is =
    let digits = (reads_numbers text number).0 read in
    subst (Means false text) (same_Some (who.User number) name is) (digits.0, (refl, digits.1))

-- one of the special names, or another text
special_means : (is_group : Bool) (text special : List ℕ) (named name : Who) (others : Option Who) → special ≡ who_text named → Agrees is_group named
    → (others ≡ Some name → Means is_group text name)
    → cond (bytes_eq text special) (Some named) others ≡ Some name → Means is_group text name
special_means is_group text special named name others text_is agrees rest is = elim (chosen (bytes_eq text special) named name others is) [
  | inl here ↦ subst (Means is_group text) here.1 ((bytes_decides text special).0 here.0 ∙ text_is, agrees)
  | inr there ↦ rest there.1
]

name_means : (is_group : Bool) (text : List ℕ) (name : Who) → who_in is_group text ≡ Some name → Means is_group text name
unfolding who_in
name_means is_group text name is =
    special_means is_group text (codes "OWNER@") who.Owner name _ refl tt
    (special_means is_group text (codes "GROUP@") who.Group name _ refl tt
    (special_means is_group text (codes "EVERYONE@") who.Everyone name _ refl tt
    (λ rest. numbered_means is_group text (number_in text) name refl rest)))
    is

-- digits are none of the special names

digit_first : (number : ℕ) → number < 2 ^ 32 → (text : List ℕ) → bytes_eq (decimal number) text ≡ true → IsNumeral 10 text
digit_first number small text same =
    subst (IsNumeral 10) ((bytes_decides (decimal number) text).0 same) (decimal_is_IsNumeral number (omega arith)).0

not_owner : (number : ℕ) → number < 2 ^ 32 → bytes_eq (decimal number) (codes "OWNER@") ≡ false
not_owner number small = by_test (bytes_eq (decimal number) (codes "OWNER@")) refl
  where
    by_test : (holds : Bool) → bytes_eq (decimal number) (codes "OWNER@") ≡ holds → holds ≡ false
    by_test true holds = let numeral = digit_first number small (codes "OWNER@") holds in absurd (omega (arith, numeral.1.0))
    by_test false fails = refl

not_group : (number : ℕ) → number < 2 ^ 32 → bytes_eq (decimal number) (codes "GROUP@") ≡ false
not_group number small = by_test (bytes_eq (decimal number) (codes "GROUP@")) refl
  where
    by_test : (holds : Bool) → bytes_eq (decimal number) (codes "GROUP@") ≡ holds → holds ≡ false
    by_test true holds = let numeral = digit_first number small (codes "GROUP@") holds in absurd (omega (arith, numeral.1.0))
    by_test false fails = refl

not_everyone : (number : ℕ) → number < 2 ^ 32 → bytes_eq (decimal number) (codes "EVERYONE@") ≡ false
not_everyone number small = by_test (bytes_eq (decimal number) (codes "EVERYONE@")) refl
  where
    by_test : (holds : Bool) → bytes_eq (decimal number) (codes "EVERYONE@") ≡ holds → holds ≡ false
    by_test true holds = let numeral = digit_first number small (codes "EVERYONE@") holds in absurd (omega (arith, numeral.1.0))
    by_test false fails = refl

number_again : (is_group : Bool) (number : ℕ) → number < 2 ^ 32 → who_in is_group (decimal number) ≡ Some (numbered is_group number)
unfolding who_in
number_again is_group number small =
    rw (not_owner number small, not_group number small, not_everyone number small, written_again (decimal number) number refl small) refl

name_again : (is_group : Bool) (name : Who) → Agrees is_group name → who_in is_group (who_text name) ≡ Some name
unfolding who_in
name_again is_group who.Owner agrees = refl
name_again is_group who.Group agrees = refl
name_again is_group who.Everyone agrees = refl
name_again is_group (who.User number) agrees =
    subst (λ (told : Bool). who_in told (decimal number) ≡ Some (who.User number)) (sym agrees.0) (number_again false number agrees.1)
name_again is_group (who.NamedGroup number) agrees =
    subst (λ (told : Bool). who_in told (decimal number) ≡ Some (who.NamedGroup number)) (sym agrees.0) (number_again true number agrees.1)

pub reads_names : ReadsNames
reads_names is_group text name = record {
  0 = name_means is_group text name;
  1 = λ means. ap (who_in is_group) means.0 ∙ name_again is_group name means.1;
}

-- Entries

kind_is : (number : ℕ) (of : AceKind) → kind_in number ≡ Some of → number ≡ kind_number of
kind_is number of is = elim (chosen (eqb number 0) kind.Allow of _ is) [
  | inl here ↦ eqb-true number 0 here.0 ∙ ap kind_number here.1
  | inr there ↦ elim (chosen (eqb number 1) kind.Deny of None there.1) [
    | inl here ↦ eqb-true number 1 here.0 ∙ ap kind_number here.1
    | inr nothing ↦ absurd (none_is nothing.1)
  ]
]
  where
    none_is : None ≡ Some of → ⊥
    none_is same = cc

kind_again : (of : AceKind) → kind_in (kind_number of) ≡ Some of
kind_again kind.Allow = refl
kind_again kind.Deny = refl

entry_stands : (entry : AclEntry) (ace : Ace) (of : Option AceKind) (name : Option Who) → kind_in entry.kind ≡ of → named_in entry ≡ name
    → option_and_then (λ (k : AceKind). option_map (ace_of entry k) name) of ≡ Some ace → StandsFor entry ace
entry_stands entry ace None name kind_read name_read is = absurd (cc)
entry_stands entry ace (Some of) None kind_read name_read is = absurd (cc)
entry_stands entry ace (Some of) (Some name) kind_read name_read is =
    subst (StandsFor entry) (same_Some (ace_of entry of name) ace is) (record {
      kind = kind_is entry.kind of kind_read;
      flags = refl;
      mask = refl;
      who = name_means (meets entry.flags identifier_group) entry.who name name_read;
    })

abbrev parts : AceKind → Who → (flags mask : ℕ) → Ace
parts of name flags mask = record { kind = of; flags = record { 0 = flags }; mask = record { 0 = mask }; who = name }

entry_again : (entry : AclEntry) (ace : Ace) → StandsFor entry ace → ace_in entry ≡ Some ace
unfolding ace_in
entry_again entry ace stands =
    let kind_read : kind_in entry.kind ≡ Some ace.kind = ap kind_in stands.kind ∙ kind_again ace.kind in
    let name_read : named_in entry ≡ Some ace.who = (reads_names (meets entry.flags identifier_group) entry.who ace.who).1 stands.who in
    let same : ace_of entry ace.kind ace.who ≡ ace =
    ap (λ (flags : ℕ). parts ace.kind ace.who flags entry.mask) (sym stands.flags) ∙ ap (parts ace.kind ace.who ace.flags.0) stands.mask in
    rw (kind_read, name_read) (ap Some same)

pub reads_entries : ReadsEntries
unfolding ace_in
reads_entries entry ace = record {
  0 = entry_stands entry ace (kind_in entry.kind) (named_in entry) refl refl;
  1 = entry_again entry ace;
}

-- the flag set, and no flag set

group_is_told : (flags : ℕ) → meets (bit_or flags identifier_group) identifier_group ≡ true
group_is_told flags = rw (and_or_self identifier_group flags) refl

told_taken_out : (flags : ℕ) → bits_without (bit_or flags identifier_group) identifier_group ≡ bits_without flags identifier_group
told_taken_out flags = and_or_apart (2 ^ 32 - 1 - identifier_group) flags identifier_group refl

group_is_not_told : (flags : ℕ) → bits_without flags identifier_group ≡ flags → meets flags identifier_group ≡ false
group_is_not_told flags bare =
    let none : bit_and flags identifier_group ≡ 0 =
    ap (λ (f : ℕ). bit_and f identifier_group) (sym bare) ∙ and_assoc identifier_group flags (2 ^ 32 - 1 - identifier_group) ∙ and_zero_r flags in
    rw none refl

flag_is : (flags : ℕ) (name : Who) → bits_without flags identifier_group ≡ flags
    → meets (entry_flags flags name) identifier_group ≡ is_named_group name
flag_is flags (who.NamedGroup number) bare = group_is_told flags
flag_is flags who.Owner bare = group_is_not_told flags bare
flag_is flags who.Group bare = group_is_not_told flags bare
flag_is flags who.Everyone bare = group_is_not_told flags bare
flag_is flags (who.User number) bare = group_is_not_told flags bare

flags_are : (flags : ℕ) (name : Who) → bits_without flags identifier_group ≡ flags → flags ≡ bits_without (entry_flags flags name) identifier_group
flags_are flags (who.NamedGroup number) bare = sym (told_taken_out flags ∙ bare)
flags_are flags who.Owner bare = sym bare
flags_are flags who.Group bare = sym bare
flags_are flags who.Everyone bare = sym bare
flags_are flags (who.User number) bare = sym bare

agrees_is : (flags : ℕ) (name : Who) → bits_without flags identifier_group ≡ flags → HasWidth name → Agrees (meets (entry_flags flags name) identifier_group) name
agrees_is flags (who.NamedGroup number) bare small = (flag_is flags (who.NamedGroup number) bare, small)
agrees_is flags who.Owner bare small = tt
agrees_is flags who.Group bare small = tt
agrees_is flags who.Everyone bare small = tt
agrees_is flags (who.User number) bare small = (flag_is flags (who.User number) bare, small)

pub writes_entries : WritesEntries
writes_entries = record {
  again = λ ace bare small. (reads_entries (entry_text ace) ace).1 (record {
    kind = refl;
    flags = flags_are ace.flags.0 ace.who bare;
    mask = refl;
    who = (refl, agrees_is ace.flags.0 ace.who bare small);
  });
  flag = λ ace bare. flag_is ace.flags.0 ace.who bare;
}

-- What a client gives as a list is one that a node may have.
use Rattle.std.proofs.Common.{◌≡◌, ℕ, ◌+◌, ◌^◌, ◌≤◌, Bool, true, not, nat_lt, List, [], ◌∷◌, length, refl, sym, ap, subst, ◌∙◌, arith, le-leb, ltb-false}
use Rattle.std.specs.Prelude.{Option, Some, None, count_by, flat_map, is_none, unwrap_or}
use Rattle.std.specs.List.{list_all}
use Rattle.std.proofs.lemmas.Bool.{lt-ltb, not-false}
use Rattle.std.proofs.lemmas.List.Concat.{flat_map-cons}
use Rattle.std.proofs.lemmas.List.Sums.{count_by-le-length}
use Rattle.model_tree.specs.declared.acl.Ace.{Ace}
use Rattle.model_tree.specs.declared.acl.Who.{Who}
use Rattle.model_tree.specs.declared.acl.Who.TheVariants as who
use Rattle.model_tree.specs.declared.node.NodeKind.{NodeKind}
use Rattle.model_tree.specs.declared.status.Status.TheVariants as status
use Rattle.model_tree.specs.Rights.Acl.{meets, bits_without, is_within, has_width, every_right, inheritance, are_flags_for, is_entry_for, is_list_for, is_plain}
use Rattle.model.specs.Attributes.AclText.{Agrees, identifier_group, ace_in, aces_in, named_in}
use Rattle.model.specs.Attributes.Attribute.{entry_refusals, value_refusals, attribute_refusals, first_said, acl_said, values_of, attributes_of, supported, has_one_outside, GivenListsFit}
use Rattle.model.specs.Attributes.AttributeValue.{AclEntry, Value, Acl}
use Rattle.model_tree.specs.declared.limits.Limits.{Limits}
use Rattle.model_tree.specs.Refusals.Refusal.{Refusals, first_refusal}
use Rattle.model.proofs.Wire.AclTextLaws.{reads_entries}
use Rattle.model.proofs.Operations.RefusalLaws.{none_earlier, none_in_both}

-- Tests one after the other

pub first_passed : {X : Type 0} (tests : X → Refusals) (x : X) (xs : List X) → first_refusal (flat_map tests (x ∷ xs)) ≡ None
    → (first_refusal (tests x) ≡ None) × (first_refusal (flat_map tests xs) ≡ None)
first_passed tests x xs none = none_in_both (tests x) (flat_map tests xs) (ap first_refusal (sym (flat_map-cons tests x xs)) ∙ none)

-- Entries

meant_width : (is_group : Bool) (name : Who) → Agrees is_group name → has_width name ≡ true
meant_width is_group who.Owner meant = refl
meant_width is_group who.Group meant = refl
meant_width is_group who.Everyone meant = refl
meant_width is_group (who.User number) meant = lt-ltb number (2 ^ 32) meant.1
meant_width is_group (who.NamedGroup number) meant = lt-ltb number (2 ^ 32) meant.1

-- an entry that passes its tests is one that such a node may have
entry_fits : (kind : NodeKind) (entry : AclEntry) (ace : Ace) → first_refusal (entry_refusals kind entry) ≡ None → ace_in entry ≡ Some ace
    → is_entry_for kind ace ≡ true
entry_fits kind entry ace none read =
    let stands = (reads_entries entry ace).0 read in
    let behind_kind = none_earlier (nat_lt 1 entry.kind) status.AttrNotSupp _ none in
    let behind_flags = none_earlier (not (is_within entry.flags (inheritance + identifier_group))) status.AttrNotSupp _ behind_kind.1 in
    let behind_mask = none_earlier (not (is_within entry.mask every_right)) status.AttrNotSupp _ behind_flags.1 in
    let behind_name = none_earlier (is_none (named_in entry)) status.BadOwner _ behind_mask.1 in
    let behind_kinds = none_earlier (not (are_flags_for kind (bits_without entry.flags identifier_group))) status.AttrNotSupp _ behind_name.1 in
    let flags : are_flags_for kind ace.flags.0 ≡ true = ap (are_flags_for kind) stands.flags ∙ not-false _ behind_kinds.0 in
    let mask : is_within ace.mask.0 every_right ≡ true = ap (λ (m : ℕ). is_within m every_right) (sym stands.mask) ∙ not-false _ behind_mask.0 in
    rw (flags, mask, meant_width (meets entry.flags identifier_group) ace.who stands.who.1) refl

entries_fit : (kind : NodeKind) (entries : List AclEntry) → first_refusal (flat_map (entry_refusals kind) entries) ≡ None
    → (list_all (is_entry_for kind) (aces_in entries) ≡ true) × (length (aces_in entries) ≤ length entries)
entries_fit kind [] none = (refl, omega arith)
entries_fit kind (entry ∷ entries) none =
    let passed = first_passed (entry_refusals kind) entry entries none in
    let others = entries_fit kind entries passed.1 in
    by_entry (ace_in entry) refl passed.0 others.0 others.1
  where
    by_entry : (read : Option Ace) → ace_in entry ≡ read → first_refusal (entry_refusals kind entry) ≡ None
        → list_all (is_entry_for kind) (aces_in entries) ≡ true → length (aces_in entries) ≤ length entries
        → (list_all (is_entry_for kind) (aces_in (entry ∷ entries)) ≡ true) × (length (aces_in (entry ∷ entries)) ≤ length (entry ∷ entries))
    by_entry None read here all few = (rw read all, rw read (omega arith))
    by_entry (Some ace) read here all few = (rw (read, entry_fits kind entry ace here read) all, rw read (omega arith))

list_fits : (limits : Limits) (kind : NodeKind) (entries : List AclEntry) → limits.aces_set ≤ limits.aces
    → first_refusal (value_refusals limits kind (Acl entries)) ≡ None → is_list_for limits.aces_set limits.aces kind (aces_in entries) ≡ true
unfolding is_list_for
list_fits limits kind entries room none =
    let passed = none_earlier (nat_lt limits.aces_set (length entries)) status.Inval _ none in
    let few = ltb-false limits.aces_set (length entries) passed.0 in
    let fit = entries_fit kind entries passed.1 in
    let counted = count_by-le-length (λ (ace : Ace). not (is_plain ace)) (aces_in entries) in
    rw (
      fit.0,
      le-leb (length (aces_in entries)) limits.aces (omega (arith, few, fit.1)),
      le-leb (count_by (λ (ace : Ace). not (is_plain ace)) (aces_in entries)) limits.aces_set (omega (arith, few, fit.1, counted)),
    ) refl

-- Values

said_fits : (limits : Limits) (kind : NodeKind) (values : List Value) (acl : List Ace) → limits.aces_set ≤ limits.aces
    → first_refusal (flat_map (value_refusals limits kind) values) ≡ None → first_said acl_said values ≡ Some acl
    → is_list_for limits.aces_set limits.aces kind acl ≡ true
said_fits limits kind [] acl room none said = absurd (cc)
said_fits limits kind (Acl entries ∷ values) acl room none said =
    let passed = first_passed (value_refusals limits kind) (Acl entries) values none in
    subst (λ (l : List Ace). is_list_for limits.aces_set limits.aces kind l ≡ true) (some_list (aces_in entries) acl said)
    (list_fits limits kind entries room passed.0)
  where
    some_list : (x y : List Ace) → Some x ≡ Some y → x ≡ y
    some_list x y same = cc
said_fits limits kind (value ∷ values) acl room none said =
    said_fits limits kind values acl room (first_passed (value_refusals limits kind) value values none).1 said

pub given_lists_fit : GivenListsFit
unfolding attribute_refusals
given_lists_fit limits kind settable given acl room none said =
    let behind_supported = none_earlier (has_one_outside supported (attributes_of given.bitmap)) status.AttrNotSupp _ none in
    let behind_settable = none_earlier (has_one_outside settable (attributes_of given.bitmap)) status.Inval _ behind_supported.1 in
    let behind_whole = none_earlier (is_none (values_of given)) status.BadXdr _ behind_settable.1 in
    said_fits limits kind (unwrap_or (values_of given) []) acl room behind_whole.1 said

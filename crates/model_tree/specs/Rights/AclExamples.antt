-- Lists worked out by hand: the definitions compute to them.
use Rattle.std.specs.Prelude.{◌≡◌, refl, ℕ, ◌-◌, ◌^◌, true, false, Some, None, List, [], ◌∷◌}
use Rattle.model_tree.specs.Rights.Acl.{every_right, first_of, granted, is_entry_for, is_list_for}
use Rattle.model_tree.specs.Rights.Mode.{entry, mode_of, moded}
use Rattle.model_tree.specs.Rights.Inherit.{inherited, first_refused}
use Rattle.model_tree.specs.declared.acl.Ace.{Ace}
use Rattle.model_tree.specs.declared.acl.AceKind.TheVariants as kind
use Rattle.model_tree.specs.declared.acl.Cred.{Cred}
use Rattle.model_tree.specs.declared.acl.Who.TheVariants as who
use Rattle.model_tree.specs.declared.node.NodeKind.TheVariants as node

-- a caller who is in one group, the one of its own number
abbrev caller : ℕ → Cred
caller uid = record { uid = uid; gid = uid; gids = [] }

abbrev with_flags : ℕ → Ace → Ace
with_flags flags ace = record ace { flags = record { 0 = flags } }

abbrev deny_seven_first : List Ace
deny_seven_first = entry kind.Deny (who.User 7) 0x1 ∷ entry kind.Allow who.Everyone 0x1 ∷ []

abbrev allow_everyone_first : List Ace
allow_everyone_first = entry kind.Allow who.Everyone 0x1 ∷ entry kind.Deny (who.User 7) 0x1 ∷ []

-- the order of the entries decides
pub denied_before_allowed : (group : ℕ) → granted deny_seven_first 9 group (caller 7) 0x1 ≡ false
unfolding first_of granted
denied_before_allowed group = refl

pub another_is_allowed : (group : ℕ) → granted deny_seven_first 9 group (caller 8) 0x1 ≡ true
unfolding first_of granted
another_is_allowed group = refl

pub allowed_before_denied : (group : ℕ) → granted allow_everyone_first 9 group (caller 7) 0x1 ≡ true
unfolding first_of granted
allowed_before_denied group = refl

abbrev two_allows : List Ace
two_allows = entry kind.Allow (who.User 7) 0x1 ∷ entry kind.Allow (who.User 7) 0x2 ∷ entry kind.Deny (who.User 7) 0x3 ∷ []

-- each right is decided by itself, and one that no entry names is denied
pub rights_from_two_entries : (group : ℕ) → granted two_allows 9 group (caller 7) 0x3 ≡ true
unfolding first_of granted
rights_from_two_entries group = refl

pub right_that_none_names : (group : ℕ) → granted two_allows 9 group (caller 7) 0x7 ≡ false
unfolding first_of granted
right_that_none_names group = refl

pub no_right_asked : (group : ℕ) → granted two_allows 9 group (caller 7) 0x0 ≡ true
unfolding first_of granted
no_right_asked group = refl

-- the owner may always read and write the list and write the attributes, and no more
pub owner_of_an_empty_list : (group : ℕ) → granted [] 9 group (caller 9) 0x60100 ≡ true
unfolding first_of granted
owner_of_an_empty_list group = refl

pub owner_may_not_write : (group : ℕ) → granted [] 9 group (caller 9) 0x60102 ≡ false
unfolding first_of granted
owner_may_not_write group = refl

abbrev list_of_mode_640 : List Ace
list_of_mode_640 =
    entry kind.Allow who.Owner 0x07 ∷ entry kind.Deny who.Owner 0x20 ∷ entry kind.Allow (who.User 5) 0x01
    ∷ entry kind.Allow who.Group 0x01 ∷ entry kind.Deny who.Group 0x26 ∷ []

-- an entry of a number keeps only what the group's bits have
pub mode_640_set : moded node.File (entry kind.Allow (who.User 5) 0x7 ∷ []) 0o640 ≡ list_of_mode_640
unfolding moded
mode_640_set = refl

pub mode_640_read : mode_of list_of_mode_640 ≡ 0o640
unfolding first_of mode_of
mode_640_read = refl

abbrev parent : List Ace
parent =
    with_flags 0x1 (entry kind.Allow (who.User 5) 0x1) ∷ with_flags 0x6 (entry kind.Allow (who.User 6) 0x21)
    ∷ with_flags 0xB (entry kind.Allow who.Everyone 0x1) ∷ []

pub inherited_by_a_file : inherited parent node.File
    ≡ entry kind.Allow (who.User 5) 0x1 ∷ entry kind.Allow who.Everyone 0x1 ∷ []
unfolding inherited
inherited_by_a_file = refl

pub inherited_by_a_directory : inherited parent node.Directory
    ≡ with_flags 0x9 (entry kind.Allow (who.User 5) 0x1) ∷ entry kind.Allow (who.User 6) 0x21 ∷ with_flags 0x3 (entry kind.Allow who.Everyone 0x1) ∷ []
unfolding inherited
inherited_by_a_directory = refl

-- the parent's list suits a directory and no file; with one entry allowed the second is one too
-- many
pub parent_suits_a_directory : is_list_for 64 72 node.Directory parent ≡ true
unfolding is_list_for
parent_suits_a_directory = refl

pub parent_suits_no_file : first_refused 64 node.File parent ≡ Some 0
unfolding first_refused
parent_suits_no_file = refl

pub one_too_many : first_refused 1 node.Directory parent ≡ Some 1
unfolding first_refused
one_too_many = refl

pub none_refused : first_refused 64 node.Directory parent ≡ None
unfolding first_refused
none_refused = refl

-- no node has an entry with a right, a flag or a number that does not fit in 32 bits
pub widest_entry : is_entry_for node.Directory (with_flags 0xF (entry kind.Allow (who.User (2 ^ 32 - 1)) every_right)) ≡ true
widest_entry = refl

pub wide_right : is_entry_for node.Directory (entry kind.Allow (who.User 5) (2 ^ 40)) ≡ false
wide_right = refl

pub wide_flag : is_entry_for node.Directory (with_flags (2 ^ 40) (entry kind.Allow (who.User 5) 1)) ≡ false
wide_flag = refl

pub wide_user : is_entry_for node.Directory (entry kind.Allow (who.User (2 ^ 32)) 1) ≡ false
wide_user = refl

pub wide_group : is_entry_for node.Directory (entry kind.Allow (who.NamedGroup (2 ^ 32)) 1) ≡ false
wide_group = refl

-- What holds of every list that the definitions of modes and inheritance give.
use Rattle.std.specs.Prelude.{◌≡◌, ℕ, ◌+◌, ◌≤◌, Bool, true, false, ◌&&◌, not, Option, None, IfSome, List, All}
use Rattle.model_tree.specs.Rights.Acl.{meets, counts, is_allow, is_special, is_list_for}
use Rattle.model_tree.specs.Rights.Mode.{group_bits, rights_lacking, mode_of, moded}
use Rattle.model_tree.specs.Rights.Inherit.{created_list, first_refused, inherited}
use Rattle.model_tree.specs.declared.acl.Ace.{Ace}
use Rattle.model_tree.specs.declared.node.NodeKind.{NodeKind}
use Rattle.model_tree.specs.declared.node.NodeKind.TheVariants as node

-- the list of a mode has that mode, whatever the list was before
abbrev pub ModesReadBack : Type 0
ModesReadBack =
    (of : NodeKind) (acl : List Ace) (mode : ℕ) → mode ≤ 0o777 → mode_of (moded of acl mode) ≡ mode

-- whether an entry allows something to a number on its own node
abbrev pub allows_a_number : Ace → Bool
allows_a_number ace = counts ace && not (is_special ace.who) && is_allow ace.kind

-- in the list of a mode, what is allowed to a number has no right of read, write or execute that
-- the group's bits lack
abbrev pub NumbersStayWithinTheGroup : Type 0
NumbersStayWithinTheGroup =
    (of : NodeKind) (acl : List Ace) (mode : ℕ)
    → All (λ ace.
    allows_a_number ace ≡ true → meets ace.mask.0 (rights_lacking of (group_bits mode)) ≡ false)
    (moded of acl mode)

-- a list that a node may have is still one after a mode was set, if at least five more entries may
-- be stored than set
abbrev pub ModesKeepLimits : Type 0
ModesKeepLimits = (max_set max_stored : ℕ) → max_set + 5 ≤ max_stored
    → (of : NodeKind) (acl : List Ace) (mode : ℕ) → is_list_for max_set max_stored of acl ≡ true
    → is_list_for max_set max_stored of (moded of acl mode) ≡ true

-- what is inherited from a list that a directory may have is a list that the new node may have
abbrev pub InheritanceKeepsLimits : Type 0
InheritanceKeepsLimits = (max_set max_stored : ℕ) → max_set ≤ max_stored
    → (of : NodeKind) (parent : List Ace)
    → is_list_for max_set max_stored node.Directory parent ≡ true
    → is_list_for max_set max_stored of (inherited parent of) ≡ true

-- a list of which a client may set every entry is one that the node may have
abbrev pub SetListsAreWithinLimits : Type 0
SetListsAreWithinLimits = (max_set max_stored : ℕ) → max_set ≤ max_stored
    → (of : NodeKind) (acl : List Ace) → first_refused max_set of acl ≡ None
    → is_list_for max_set max_stored of acl ≡ true

-- the list of a new node is one that it may have
abbrev pub CreationKeepsLimits : Type 0
CreationKeepsLimits = (max_set max_stored : ℕ) → max_set + 5 ≤ max_stored
    → (of : NodeKind) (parent : List Ace) (is_empty : Bool) (mode : Option ℕ)
    (acl : Option (List Ace))
    → is_list_for max_set max_stored node.Directory parent ≡ true
    → IfSome acl (λ list. first_refused max_set of list ≡ None)
    → is_list_for max_set max_stored of (created_list parent of is_empty mode acl) ≡ true

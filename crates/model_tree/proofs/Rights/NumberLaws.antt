-- What the list of a mode leaves to numbers.
use Rattle.std.proofs.Common.{◌≡◌, ◌∙◌, ◌&&◌, refl, sym, ℕ, ◌-◌, ◌^◌, ◌≤◌, true, false, not, All, ◌++◌, filter, map, arith, get_or}
use Rattle.std.proofs.lemmas.Bool.{false≢true, and_parts}
use Rattle.std.proofs.lemmas.Grind.{and-not_self}
use Rattle.std.proofs.lemmas.List.Elements.{All-from_recursion, All-append, All-filter, All-map}
use Rattle.std.proofs.lemmas.Nat.{and_le_l}
use Rattle.model_tree.specs.Rights.Acl.{meets, bits_without, counts, is_special, is_allow}
use Rattle.model_tree.specs.Rights.Mode.{moded, rights_of, rights_lacking, limited, limited_kind, not_counting, is_handed_down, has_rights, group_bits}
use Rattle.model_tree.specs.Rights.AclLaws.{NumbersStayWithinTheGroup, allows_a_number}
use Rattle.model_tree.proofs.Rights.ModeLaws.{head, middle, not_counting_counts}
use Rattle.model_tree.specs.declared.acl.Ace.{Ace}
use Rattle.model_tree.specs.declared.acl.AceKind.{AceKind}
use Rattle.model_tree.specs.declared.acl.AceKind.TheVariants as kind
use Rattle.model_tree.specs.declared.node.NodeKind.{NodeKind}
use Rattle.model_tree.specs.declared.node.NodeKind.TheVariants as node

lacking_fits : (of : NodeKind) (bits : ℕ) → rights_lacking of bits ≤ 2 ^ 32 - 1
lacking_fits node.File bits = let h = and_le_l (rights_of node.File 7) (2 ^ 32 - 1 - rights_of node.File bits) in omega arith
lacking_fits node.Directory bits = let h = and_le_l (rights_of node.Directory 7) (2 ^ 32 - 1 - rights_of node.Directory bits) in omega arith

-- a word does not have the bits that it lost
pub meets-without : (a b : ℕ) → b ≤ 2 ^ 32 - 1 → meets (bits_without a b) b ≡ false
meets-without a b h = rw (and-not_self a (2 ^ 32 - 1) b b refl h refl)

-- none of the rights that the group's bits lack, if the entry allows something to a number
abbrev Within : NodeKind → ℕ → Ace → Type 0
Within of mode ace = allows_a_number ace ≡ true → meets ace.mask.0 (rights_lacking of (group_bits mode)) ≡ false

limited_within : (of : NodeKind) (mode : ℕ) (way : AceKind) (mask : ℕ) → is_allow way ≡ true → meets (limited_kind way mask (rights_lacking of (group_bits mode))) (rights_lacking of (group_bits mode)) ≡ false
limited_within of mode kind.Allow mask e = meets-without mask (rights_lacking of (group_bits mode)) (lacking_fits of (group_bits mode))
limited_within of mode kind.Deny mask e = absurd (false≢true e)

numbers_within : (of : NodeKind) (mode : ℕ) (ace : Ace) → Within of mode (limited of mode ace)
numbers_within of mode ace e = limited_within of mode ace.kind ace.mask.0 (and_parts _ _ e).1

tail_within : (of : NodeKind) (mode : ℕ) (ace : Ace) → Within of mode (not_counting ace)
tail_within of mode ace e =
    absurd (false≢true (sym (not_counting_counts ace) ∙ (and_parts _ _ (and_parts _ _ e).0).0))

head_within : (of : NodeKind) (mode : ℕ) → All (Within of mode) (head of mode)
head_within of mode = All-from_recursion (Within of mode) (head of mode) (λ e. absurd (false≢true e), (λ e. absurd (false≢true e), tt))

middle_within : (of : NodeKind) (mode : ℕ) → All (Within of mode) (middle of mode)
middle_within of mode =
    All-from_recursion (Within of mode) (middle of mode) (λ e. absurd (false≢true e), (λ e. absurd (false≢true e), (λ e. absurd (false≢true e), tt)))

pub numbers_stay_within_the_group : NumbersStayWithinTheGroup
unfolding moded
numbers_stay_within_the_group of acl mode =
    let P : Ace → Type 0 = Within of mode in
    let numbers = filter (λ (ace : Ace). counts ace && not (is_special ace.who)) acl in
    let tail = filter is_handed_down acl in
    All-filter has_rights P (head of mode ++ map (limited of mode) numbers ++ middle of mode ++ map not_counting tail)
    (All-append P (head of mode ++ map (limited of mode) numbers ++ middle of mode) (map not_counting tail)
    (All-append P (head of mode ++ map (limited of mode) numbers) (middle of mode)
    (All-append P (head of mode) (map (limited of mode) numbers)
    (head_within of mode)
    (All-map P (limited of mode) numbers (λ k d h. numbers_within of mode (get_or numbers k d))))
    (middle_within of mode))
    (All-map P not_counting tail (λ k d h. tail_within of mode (get_or tail k d))))

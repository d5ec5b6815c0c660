-- The mode of the list of a mode.
use Rattle.std.proofs.Common.{⊎_elim, ◌≡◌, ◌∙◌, sym, ap, refl, ℕ, zero, suc, ◌+◌, ◌*◌, ◌<◌, ◌≤◌, ◌==◌, Bool, true, false, cond, ◌&&◌, ◌||◌, not, List, [], ◌∷◌, ◌++◌, filter, map, arith}
use Rattle.std.proofs.lemmas.Bool.{false≢true, eqb-true, and_parts, not-true, cases_eq}
use Rattle.std.proofs.lemmas.List.{append-nil}
use Rattle.std.proofs.lemmas.List.Elements.{filter-append}
use Rattle.std.proofs.lemmas.Nat.{and_or_self}
use Rattle.model_tree.specs.Rights.Acl.{first_of, counts, is_special}
use Rattle.model_tree.specs.Rights.Mode.{cut, is_owner, is_group, is_everyone, permissions, mode_of, moded, entry, rights_of, rights_lacking, limited, not_counting, is_handed_down, has_rights, owner_bits, group_bits, other_bits}
use Rattle.model_tree.specs.Rights.AclLaws.{ModesReadBack}
use Rattle.model_tree.specs.declared.acl.Ace.{Ace}
use Rattle.model_tree.specs.declared.acl.AceKind.TheVariants as kind
use Rattle.model_tree.specs.declared.acl.Who.{Who}
use Rattle.model_tree.specs.declared.acl.Who.TheVariants as who
use Rattle.model_tree.specs.declared.node.NodeKind.{NodeKind}
use Rattle.model_tree.specs.declared.node.NodeKind.TheVariants as node

-- ---- filters

-- one more element of two filters, by what the tests say of it
filters_step : {X : Type 0} (p q : X → Bool) (x : X) (xs : List X) (a b : Bool) → p x ≡ a → q x ≡ b → filter p (filter q xs) ≡ filter q (filter p xs) → filter p (cond b (x ∷ filter q xs) (filter q xs)) ≡ filter q (cond a (x ∷ filter p xs) (filter p xs))
filters_step p q x xs true true e f h = simp (e, f, h)
filters_step p q x xs true false e f h = simp (f, h)
filters_step p q x xs false true e f h = simp (e, h)
filters_step p q x xs false false e f h = h

pub filter-filter_comm : {X : Type 0} (p q : X → Bool) (xs : List X) → filter p (filter q xs) ≡ filter q (filter p xs)
filter-filter_comm p q [] = refl
filter-filter_comm p q (x ∷ xs) = filters_step p q x xs (p x) (q x) refl refl (filter-filter_comm p q xs)

none_step : {X Y : Type 0} (p : Y → Bool) (f : X → Y) (q : X → Bool) (x : X) (xs : List X) (b : Bool) → q x ≡ b → (q x ≡ true → p (f x) ≡ false) → filter p (map f (filter q xs)) ≡ [] → filter p (map f (cond b (x ∷ filter q xs) (filter q xs))) ≡ []
none_step p f q x xs true e none h = simp (none e, h)
none_step p f q x xs false e none h = h

-- nothing passes p of what passed q and went through f
pub filter-map_none : {X Y : Type 0} (p : Y → Bool) (f : X → Y) (q : X → Bool) → ((x : X) → q x ≡ true → p (f x) ≡ false) → (xs : List X) → filter p (map f (filter q xs)) ≡ []
filter-map_none p f q none [] = refl
filter-map_none p f q none (x ∷ xs) = none_step p f q x xs (q x) refl (none x) (filter-map_none p f q none xs)

-- ---- what is left of the list of a mode for one special name

number_has_no_name : (is_name : Who → Bool) → ((w : Who) → is_special w ≡ false → is_name w ≡ false) → (w : Who) → is_special w ≡ false → (is_name w || is_everyone w) ≡ false
number_has_no_name is_name named who.Owner e = absurd (false≢true (sym e))
number_has_no_name is_name named who.Group e = absurd (false≢true (sym e))
number_has_no_name is_name named who.Everyone e = absurd (false≢true (sym e))
number_has_no_name is_name named (who.User n) e = simp (named (who.User n) e)
number_has_no_name is_name named (who.NamedGroup n) e = simp (named (who.NamedGroup n) e)

owner_is_special : (w : Who) → is_special w ≡ false → is_owner w ≡ false
owner_is_special who.Owner e = e
owner_is_special who.Group e = refl
owner_is_special who.Everyone e = refl
owner_is_special (who.User n) e = refl
owner_is_special (who.NamedGroup n) e = refl

group_is_special : (w : Who) → is_special w ≡ false → is_group w ≡ false
group_is_special who.Owner e = refl
group_is_special who.Group e = e
group_is_special who.Everyone e = refl
group_is_special (who.User n) e = refl
group_is_special (who.NamedGroup n) e = refl

everyone_is_special : (w : Who) → is_special w ≡ false → is_everyone w ≡ false
everyone_is_special who.Owner e = refl
everyone_is_special who.Group e = refl
everyone_is_special who.Everyone e = e
everyone_is_special (who.User n) e = refl
everyone_is_special (who.NamedGroup n) e = refl

pub not_counting_counts : (ace : Ace) → counts (not_counting ace) ≡ false
not_counting_counts ace = rw (and_or_self 8 ace.flags.0)

abbrev is_of : (Who → Bool) → Ace → Bool
is_of is_name ace = counts ace && (is_name ace.who || is_everyone ace.who)

number_is_of_none : (is_name : Who → Bool) → ((w : Who) → is_special w ≡ false → is_name w ≡ false) → (of : NodeKind) (mode : ℕ) (ace : Ace) → (counts ace && not (is_special ace.who)) ≡ true → is_of is_name (limited of mode ace) ≡ false
number_is_of_none is_name named of mode ace e =
    let parts = and_parts (counts ace) (not (is_special ace.who)) e in
    rw (parts.0) (number_has_no_name is_name named ace.who (not-true (is_special ace.who) parts.1))

handed_down_is_of_none : (is_name : Who → Bool) (ace : Ace) → is_handed_down ace ≡ true → is_of is_name (not_counting ace) ≡ false
handed_down_is_of_none is_name ace e = rw (not_counting_counts ace)

-- the entries of the special names in the list of a mode
abbrev pub head : NodeKind → ℕ → List Ace
head of mode = entry kind.Allow who.Owner (rights_of of (owner_bits mode)) ∷ entry kind.Deny who.Owner (rights_lacking of (owner_bits mode)) ∷ []

abbrev pub middle : NodeKind → ℕ → List Ace
middle of mode =
    entry kind.Allow who.Group (rights_of of (group_bits mode)) ∷ entry kind.Deny who.Group (rights_lacking of (group_bits mode))
    ∷ entry kind.Allow who.Everyone (rights_of of (other_bits mode)) ∷ []

cut-moded : (is_name : Who → Bool) → ((w : Who) → is_special w ≡ false → is_name w ≡ false) → (of : NodeKind) (acl : List Ace) (mode : ℕ) → cut is_name (moded of acl mode) ≡ filter has_rights (filter (is_of is_name) (head of mode) ++ filter (is_of is_name) (middle of mode))
unfolding moded
cut-moded is_name named of acl mode =
    let numbers = map (limited of mode) (filter (λ (ace : Ace). counts ace && not (is_special ace.who)) acl) in
    let tail = map not_counting (filter is_handed_down acl) in
    let no_numbers : filter (is_of is_name) numbers ≡ [] = filter-map_none (is_of is_name) (limited of mode) (λ (ace : Ace). counts ace && not (is_special ace.who)) (number_is_of_none is_name named of mode) acl in
    let no_tail : filter (is_of is_name) tail ≡ [] = filter-map_none (is_of is_name) not_counting is_handed_down (handed_down_is_of_none is_name) acl in
    let parts : filter (is_of is_name) (head of mode ++ numbers ++ middle of mode ++ tail) ≡ filter (is_of is_name) (head of mode) ++ filter (is_of is_name) (middle of mode) =
    filter-append (is_of is_name) (head of mode ++ numbers ++ middle of mode) tail
    ∙ simp (filter-append (is_of is_name) (head of mode ++ numbers) (middle of mode), no_numbers, no_tail, append-nil) in
    filter-filter_comm (is_of is_name) has_rights (head of mode ++ numbers ++ middle of mode ++ tail) ∙ ap (filter has_rights) parts

-- ---- the three permissions of each

-- a test holds of all numbers below n
abbrev below : (ℕ → Bool) → ℕ → Bool
below p zero = true
below p (suc n) = p n && below p n

below_at : (p : ℕ → Bool) (n k : ℕ) → below p n ≡ true → k < n → p k ≡ true
below_at p zero k e h = absurd (omega arith)
below_at p (suc n) k e h =
    let parts = and_parts (p n) (below p n) e in
    ⊎_elim (λ (here : k ≡ n). rw here parts.0) (λ (before : k ≡ n → ⊥). below_at p n k parts.1 (omega arith)) (cases_eq k n)

below_both : (p : ℕ → ℕ → Bool) (n j k : ℕ) → below (λ a. below (p a) n) n ≡ true → j < n → k < n → p j k ≡ true
below_both p n j k e h l = below_at (p j) n k (below_at (λ a. below (p a) n) n j e h) l

abbrev allow_deny_allow : NodeKind → Who → ℕ → ℕ → List Ace
allow_deny_allow of name bits others = filter has_rights (entry kind.Allow name (rights_of of bits) ∷ entry kind.Deny name (rights_lacking of bits) ∷ entry kind.Allow who.Everyone (rights_of of others) ∷ [])

abbrev gives : NodeKind → Who → ℕ → ℕ → Bool
gives of name bits others = permissions (allow_deny_allow of name bits others) == bits

file_owner_table : below (λ bits. below (gives node.File who.Owner bits) 8) 8 ≡ true
unfolding first_of
file_owner_table = refl

directory_owner_table : below (λ bits. below (gives node.Directory who.Owner bits) 8) 8 ≡ true
unfolding first_of
directory_owner_table = refl

file_group_table : below (λ bits. below (gives node.File who.Group bits) 8) 8 ≡ true
unfolding first_of
file_group_table = refl

directory_group_table : below (λ bits. below (gives node.Directory who.Group bits) 8) 8 ≡ true
unfolding first_of
directory_group_table = refl

abbrev gives_everyone : NodeKind → ℕ → Bool
gives_everyone of bits = permissions (filter has_rights (entry kind.Allow who.Everyone (rights_of of bits) ∷ [])) == bits

file_everyone_table : below (gives_everyone node.File) 8 ≡ true
unfolding first_of
file_everyone_table = refl

directory_everyone_table : below (gives_everyone node.Directory) 8 ≡ true
unfolding first_of
directory_everyone_table = refl

owner_permissions : (of : NodeKind) (bits others : ℕ) → bits < 8 → others < 8 → permissions (allow_deny_allow of who.Owner bits others) ≡ bits
owner_permissions node.File bits others h l = eqb-true _ _ (below_both (gives node.File who.Owner) 8 bits others file_owner_table h l)
owner_permissions node.Directory bits others h l = eqb-true _ _ (below_both (gives node.Directory who.Owner) 8 bits others directory_owner_table h l)

group_permissions : (of : NodeKind) (bits others : ℕ) → bits < 8 → others < 8 → permissions (allow_deny_allow of who.Group bits others) ≡ bits
group_permissions node.File bits others h l = eqb-true _ _ (below_both (gives node.File who.Group) 8 bits others file_group_table h l)
group_permissions node.Directory bits others h l = eqb-true _ _ (below_both (gives node.Directory who.Group) 8 bits others directory_group_table h l)

everyone_permissions : (of : NodeKind) (bits : ℕ) → bits < 8 → permissions (filter has_rights (entry kind.Allow who.Everyone (rights_of of bits) ∷ [])) ≡ bits
everyone_permissions node.File bits h = eqb-true _ _ (below_at (gives_everyone node.File) 8 bits file_everyone_table h)
everyone_permissions node.Directory bits h = eqb-true _ _ (below_at (gives_everyone node.Directory) 8 bits directory_everyone_table h)

three_digits : (mode : ℕ) → mode ≤ 0o777 → 64 * owner_bits mode + 8 * group_bits mode + other_bits mode ≡ mode
three_digits mode h = omega arith

pub modes_read_back : ModesReadBack
unfolding mode_of
modes_read_back of acl mode h =
    let owner_below : owner_bits mode < 8 = omega arith in
    let group_below : group_bits mode < 8 = omega arith in
    let other_below : other_bits mode < 8 = omega arith in
    let owner : permissions (cut is_owner (moded of acl mode)) ≡ owner_bits mode =
    rw (cut-moded is_owner owner_is_special of acl mode) (owner_permissions of (owner_bits mode) (other_bits mode) owner_below other_below) in
    let group : permissions (cut is_group (moded of acl mode)) ≡ group_bits mode =
    rw (cut-moded is_group group_is_special of acl mode) (group_permissions of (group_bits mode) (other_bits mode) group_below other_below) in
    let everyone : permissions (cut is_everyone (moded of acl mode)) ≡ other_bits mode =
    rw (cut-moded is_everyone everyone_is_special of acl mode) (everyone_permissions of (other_bits mode) other_below) in
    simp (owner, group, everyone) (three_digits mode h)

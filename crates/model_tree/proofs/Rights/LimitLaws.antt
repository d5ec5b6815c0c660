-- Lists that a node may have stay so under modes and inheritance.
use Rattle.std.proofs.Common.{⊎_elim, ◌≡◌, ◌∙◌, sym, ap, refl, ℕ, ◌+◌, ◌-◌, ◌^◌, ◌≤◌, ◌==◌, Bool, true, false, cond, if◌then◌else◌, ◌&&◌, ◌||◌, not, min, suc, Option, Some, None, All, List, [], ◌∷◌, ◌++◌, length, filter, map, get_or, arith, bit_and}
use Rattle.std.specs.List.{AllByRecursion, count_by, position_or_len}
use Rattle.std.specs.Int.{bit_at}
use Rattle.std.specs.Int.Bits.{and_zero_r}
use Rattle.std.specs.Int.RustNames.{bit_or}
use Rattle.std.proofs.lemmas.Bool.{false≢true, true≢false, and_parts, and_from, or_cases, cases_Bool, eqb-true, eq-eqb, leb-true, le-leb, ltb-false, or_right, not-true, not-false}
use Rattle.std.proofs.lemmas.List.{length-append, length-map}
use Rattle.std.proofs.lemmas.List.Elements.{All-from_recursion, All-nil, All-append, All-filter, All-map, filter-append, filter_passes}
use Rattle.std.proofs.lemmas.List.Sums.{AllPass-from_list_all, list_all-from_AllPass, length-filter}
use Rattle.std.proofs.lemmas.Nat.{and_assoc, and_comm, and_or_apart}
use Rattle.std.proofs.lemmas.Nat.Bits.{same_from_bits, bit_at_and, bit_at_or}
use Rattle.model_tree.specs.Rights.Acl.{meets, bits_without, is_within, has_width, counts, every_right, inheritance, inherit_only, is_special, is_plain, are_flags_for, is_entry_for, is_list_for}
use Rattle.model_tree.specs.Rights.Mode.{moded, write_rights, rights_of, rights_lacking, limited, limited_kind, not_counting, is_handed_down, has_rights, owner_bits, group_bits, other_bits}
use Rattle.model_tree.specs.Rights.Inherit.{is_inherited_by, as_inherited, inherited, created_without_list, first_refused}
use Rattle.model_tree.specs.Rights.AclLaws.{ModesKeepLimits, InheritanceKeepsLimits, SetListsAreWithinLimits, CreationKeepsLimits}
use Rattle.model_tree.proofs.Rights.ModeLaws.{head, middle}
use Rattle.model_tree.specs.declared.acl.Ace.{Ace}
use Rattle.model_tree.specs.declared.acl.AceKind.{AceKind}
use Rattle.model_tree.specs.declared.acl.AceKind.TheVariants as kind
use Rattle.model_tree.specs.declared.node.NodeKind.{NodeKind}
use Rattle.model_tree.specs.declared.node.NodeKind.TheVariants as node
use Rattle.model_tree.proofs.Facts.Counting.{size, size-le, size-filter}

-- ---- how many pass

size-append : {X : Type 0} (p : X → Bool) (xs ys : List X) → size p (xs ++ ys) ≡ size p xs + size p ys
size-append p xs ys = ap length (filter-append p xs ys) ∙ length-append (filter p xs) (filter p ys)

size-map-le : {X Y : Type 0} (p : Y → Bool) (f : X → Y) (xs : List X) → size p (map f xs) ≤ length xs
size-map-le p f xs = let all = size-le p (map f xs) in let same = length-map xs f in omega arith

one_step : {X : Type 0} (a c : Bool) (x : X) (xs zs : List X) → (a ≡ true → c ≡ true) → length xs ≤ length zs → length (cond a (x ∷ xs) xs) ≤ length (cond c (x ∷ zs) zs)
one_step true true x xs zs h le = omega arith
one_step true false x xs zs h le = absurd (false≢true (h refl))
one_step false true x xs zs h le = omega arith
one_step false false x xs zs h le = le

-- what passes one test passes another
size-weaker : {X : Type 0} (a c : X → Bool) → ((x : X) → a x ≡ true → c x ≡ true) → (xs : List X) → size a xs ≤ size c xs
size-weaker a c h [] = omega arith
size-weaker a c h (x ∷ xs) = one_step (a x) (c x) x (filter a xs) (filter c xs) (h x) (size-weaker a c h xs)

two_step : {X : Type 0} (a b c : Bool) (x : X) (xs ys zs : List X) → (a ≡ true → (c ≡ true) × (b ≡ false)) → (b ≡ true → c ≡ true) → length xs + length ys ≤ length zs → length (cond a (x ∷ xs) xs) + length (cond b (x ∷ ys) ys) ≤ length (cond c (x ∷ zs) zs)
two_step true true c x xs ys zs h g le = absurd (true≢false (h refl).1)
two_step true false true x xs ys zs h g le = omega arith
two_step true false false x xs ys zs h g le = absurd (false≢true (h refl).0)
two_step false true true x xs ys zs h g le = omega arith
two_step false true false x xs ys zs h g le = absurd (false≢true (g refl))
two_step false false true x xs ys zs h g le = omega arith
two_step false false false x xs ys zs h g le = le

-- two tests that exclude each other
size-two : {X : Type 0} (a b c : X → Bool) → ((x : X) → a x ≡ true → (c x ≡ true) × (b x ≡ false)) → ((x : X) → b x ≡ true → c x ≡ true) → (xs : List X) → size a xs + size b xs ≤ size c xs
size-two a b c h g [] = omega arith
size-two a b c h g (x ∷ xs) = two_step (a x) (b x) (c x) x (filter a xs) (filter b xs) (filter c xs) (h x) (g x) (size-two a b c h g xs)

abbrev is_other : Ace → Bool
is_other ace = not (is_plain ace)

abbrev is_of_number : Ace → Bool
is_of_number ace = counts ace && not (is_special ace.who)

number_other : (special counting handed : Bool) → (counting && not special) ≡ true → (not ((special && counting) && not handed) ≡ true) × ((not counting || (special && handed)) ≡ false)
number_other true true handed e = absurd (false≢true e)
number_other true false handed e = absurd (false≢true e)
number_other false true handed e = (refl, refl)
number_other false false handed e = absurd (false≢true e)

handed_other : (special counting handed : Bool) → (not counting || (special && handed)) ≡ true → not ((special && counting) && not handed) ≡ true
handed_other true true true e = refl
handed_other true true false e = absurd (false≢true e)
handed_other true false handed e = refl
handed_other false true handed e = absurd (false≢true e)
handed_other false false handed e = refl

numbers_and_tail : (acl : List Ace) → size is_of_number acl + size is_handed_down acl ≤ size is_other acl
numbers_and_tail acl =
    size-two is_of_number is_handed_down is_other
    (λ ace. number_other (is_special ace.who) (counts ace) (meets ace.flags.0 3))
    (λ ace. handed_other (is_special ace.who) (counts ace) (meets ace.flags.0 3)) acl

module _ (of : NodeKind) (acl : List Ace) (mode : ℕ) where
  abbrev numbers : List Ace
  numbers = map (limited of mode) (filter is_of_number acl)

  abbrev tail : List Ace
  tail = map not_counting (filter is_handed_down acl)

  whole : length (head of mode ++ numbers ++ middle of mode ++ tail) ≤ size is_other acl + 5
  whole =
      let parts = numbers_and_tail acl in
      let a = length-append (head of mode ++ numbers ++ middle of mode) tail in
      let b = length-append (head of mode ++ numbers) (middle of mode) in
      let c = length-append (head of mode) numbers in
      let n = length-map (filter is_of_number acl) (limited of mode) in
      let t = length-map (filter is_handed_down acl) not_counting in
      omega arith

  moded_length : length (moded of acl mode) ≤ size is_other acl + 5
  unfolding moded
  moded_length =
      let cut = size-le has_rights (head of mode ++ numbers ++ middle of mode ++ tail) in
      let all = whole in
      omega arith

  moded_others : size is_other (moded of acl mode) ≤ size is_other acl
  unfolding moded
  moded_others =
      let cut = size-filter is_other has_rights (head of mode ++ numbers ++ middle of mode ++ tail) in
      let parts = numbers_and_tail acl in
      let a = size-append is_other (head of mode ++ numbers ++ middle of mode) tail in
      let b = size-append is_other (head of mode ++ numbers) (middle of mode) in
      let c = size-append is_other (head of mode) numbers in
      let n = size-map-le is_other (limited of mode) (filter is_of_number acl) in
      let t = size-map-le is_other not_counting (filter is_handed_down acl) in
      omega arith

-- ---- entries

-- a word that meets `part` meets each `whole` that includes it
meets-wider : (word part whole : ℕ) → bit_and whole part ≡ part → meets word part ≡ true → meets word whole ≡ true
meets-wider word part whole e h =
    ⊎_elim
    (λ (yes : meets word whole ≡ true). yes)
    (λ (no : meets word whole ≡ false).
    let none : bit_and word whole ≡ 0 = eqb-true _ _ (not-false _ no) in
    let less : bit_and word part ≡ 0 = ap (bit_and word) (sym e) ∙ sym (and_assoc part word whole) ∙ ap (λ w. bit_and w part) none in
    absurd (false≢true (sym (ap (λ w. not (w == 0)) less) ∙ h)))
    (cases_Bool (meets word whole))

-- a number with only bits of `bits` has only such bits after it lost some
within-without : (number less bits : ℕ) → is_within number bits ≡ true → is_within (bits_without number less) bits ≡ true
within-without number less bits e =
    eq-eqb _ _ (and_comm bits (bits_without number less) ∙ (and_assoc bits number (2 ^ 32 - 1 - less)
    ∙ (ap (bit_and number) (and_comm (2 ^ 32 - 1 - less) bits)
    ∙ (sym (and_assoc (2 ^ 32 - 1 - less) number bits)
    ∙ ap (λ n. bit_and n (2 ^ 32 - 1 - less)) (and_comm number bits ∙ eqb-true _ number e)))))

-- and after it gained some of them
within-or : (number more bits : ℕ) → is_within number bits ≡ true → is_within more bits ≡ true → is_within (bit_or number more) bits ≡ true
within-or number more bits e d = eq-eqb _ _ (same_from_bits _ _ each)
  where
    each : (i : ℕ) → bit_at (bit_and bits (bit_or number more)) i ≡ bit_at (bit_or number more) i
    each i =
        let here = ap (λ n. bit_at n i) (eqb-true _ number e) in
        let there = ap (λ n. bit_at n i) (eqb-true _ more d) in
        omega (
          arith,
          here,
          there,
          bit_at_and bits number i,
          bit_at_and bits more i,
          bit_at_and bits (bit_or number more) i,
          bit_at_or number more i,
        )

-- such a number has no bit outside of `bits`
pub within-none : (number bits : ℕ) → is_within number bits ≡ true → bit_and bits (2 ^ 32 - 1 - bits) ≡ 0 → bits_without number bits ≡ 0
within-none number bits e apart =
    ap (λ n. bit_and n (2 ^ 32 - 1 - bits)) (sym (eqb-true _ number e))
    ∙ (ap (λ n. bit_and n (2 ^ 32 - 1 - bits)) (and_comm bits number)
    ∙ (and_assoc (2 ^ 32 - 1 - bits) number bits ∙ (ap (bit_and number) apart ∙ and_zero_r number)))

abbrev Fits : NodeKind → Ace → Type 0
Fits of ace = is_entry_for of ace ≡ true

-- the tests of an entry
record Tests (of : NodeKind) (ace : Ace) : Type 0 where
  flags : are_flags_for of ace.flags.0 ≡ true
  mask : is_within ace.mask.0 every_right ≡ true
  who : has_width ace.who ≡ true

tests_of : (of : NodeKind) (ace : Ace) → Fits of ace → Tests of ace
tests_of of ace e =
    let parts = and_parts (are_flags_for of ace.flags.0 && is_within ace.mask.0 every_right) (has_width ace.who) e in
    let prefix = and_parts (are_flags_for of ace.flags.0) (is_within ace.mask.0 every_right) parts.0 in
    record { flags = prefix.0; mask = prefix.1; who = parts.1 }

fits_by : (of : NodeKind) (ace : Ace) → are_flags_for of ace.flags.0 ≡ true → is_within ace.mask.0 every_right ≡ true → has_width ace.who ≡ true → Fits of ace
fits_by of ace flags mask who = and_from _ _ (and_from _ _ flags mask) who

limited_mask : (way : AceKind) (mask lacking : ℕ) → is_within mask every_right ≡ true → is_within (limited_kind way mask lacking) every_right ≡ true
limited_mask kind.Allow mask lacking e = within-without mask lacking every_right e
limited_mask kind.Deny mask lacking e = e

limited_fits : (of : NodeKind) (mode : ℕ) (ace : Ace) → Fits of ace → Fits of (limited of mode ace)
limited_fits of mode ace e =
    let tests = tests_of of ace e in
    fits_by of (limited of mode ace) tests.flags (limited_mask ace.kind ace.mask.0 (rights_lacking of (group_bits mode)) tests.mask) tests.who

-- an entry that no longer counts suits a directory if it did before and was handed down
handed_meets : (flags : ℕ) (special : Bool) → (not (not (meets flags inherit_only)) || (special && meets flags 3)) ≡ true → (not (meets flags 12) || meets flags 3) ≡ true → meets flags 3 ≡ true
handed_meets flags special h e =
    ⊎_elim
    (λ (silent : not (not (meets flags inherit_only)) ≡ true).
    let here : meets flags inherit_only ≡ true = not-false _ (not-true _ silent) in
    let further : meets flags 12 ≡ true = meets-wider flags 8 12 refl here in
    ⊎_elim
    (λ (no : not (meets flags 12) ≡ true). absurd (false≢true (sym (not-true _ no) ∙ further)))
    (λ (yes : meets flags 3 ≡ true). yes)
    (or_cases _ _ e))
    (λ (named : (special && meets flags 3) ≡ true). (and_parts special (meets flags 3) named).1)
    (or_cases _ _ h)

silent_flags : (flags : ℕ) → meets flags 3 ≡ true → is_within flags inheritance ≡ true → are_flags_for node.Directory (bit_or flags inherit_only) ≡ true
silent_flags flags h e =
    and_from _ _
    (within-or flags inherit_only inheritance e refl)
    (rw (and_or_apart 3 flags inherit_only refl) (or_right (not (meets (bit_or flags inherit_only) 12)) (meets flags 3) h))

file_hands_nothing_down : (flags : ℕ) (special : Bool) → flags ≡ 0 → (not (not (meets flags inherit_only)) || (special && meets flags 3)) ≡ true → false ≡ true
file_hands_nothing_down flags special none h =
    let now = rw none at h in
    (and_parts special false now).1

tail_fits : (of : NodeKind) (ace : Ace) → is_handed_down ace ≡ true → Fits of ace → Fits of (not_counting ace)
tail_fits node.File ace h e =
    let tests = tests_of node.File ace e in
    absurd (false≢true (file_hands_nothing_down ace.flags.0 (is_special ace.who) (eqb-true _ 0 tests.flags) h))
tail_fits node.Directory ace h e =
    let tests = tests_of node.Directory ace e in
    let flags = and_parts (is_within ace.flags.0 inheritance) (not (meets ace.flags.0 12) || meets ace.flags.0 3) tests.flags in
    fits_by node.Directory (not_counting ace) (silent_flags ace.flags.0 (handed_meets ace.flags.0 (is_special ace.who) h flags.1) flags.0) tests.mask tests.who

-- the masks of a mode
chosen_fit : (of : NodeKind) (read write execute : Bool) → is_within ((if read then 0x1 else 0) + (if write then write_rights of else 0) + (if execute then 0x20 else 0)) every_right ≡ true
chosen_fit node.File true true true = refl
chosen_fit node.File true true false = refl
chosen_fit node.File true false true = refl
chosen_fit node.File true false false = refl
chosen_fit node.File false true true = refl
chosen_fit node.File false true false = refl
chosen_fit node.File false false true = refl
chosen_fit node.File false false false = refl
chosen_fit node.Directory true true true = refl
chosen_fit node.Directory true true false = refl
chosen_fit node.Directory true false true = refl
chosen_fit node.Directory true false false = refl
chosen_fit node.Directory false true true = refl
chosen_fit node.Directory false true false = refl
chosen_fit node.Directory false false true = refl
chosen_fit node.Directory false false false = refl

rights_fit : (of : NodeKind) (bits : ℕ) → is_within (rights_of of bits) every_right ≡ true
rights_fit of bits = chosen_fit of (meets bits 4) (meets bits 2) (meets bits 1)

lacking_fit : (of : NodeKind) (bits : ℕ) → is_within (rights_lacking of bits) every_right ≡ true
lacking_fit of bits = within-without (rights_of of 7) (rights_of of bits) every_right (rights_fit of 7)

no_flags : (of : NodeKind) → are_flags_for of 0 ≡ true
no_flags node.File = refl
no_flags node.Directory = refl

-- an entry of a special name without flags
special_fits : (of : NodeKind) (mask : ℕ) → is_within mask every_right ≡ true → ((are_flags_for of 0 && is_within mask every_right) && true) ≡ true
special_fits of mask e = and_from _ _ (and_from _ _ (no_flags of) e) refl

head_fits : (of : NodeKind) (mode : ℕ) → All (Fits of) (head of mode)
head_fits of mode =
    All-from_recursion (Fits of) (head of mode)
    (special_fits of _ (rights_fit of (owner_bits mode)), (special_fits of _ (lacking_fit of (owner_bits mode)), tt))

middle_fits : (of : NodeKind) (mode : ℕ) → All (Fits of) (middle of mode)
middle_fits of mode =
    All-from_recursion (Fits of) (middle of mode)
    (special_fits of _ (rights_fit of (group_bits mode)), (special_fits of _ (lacking_fit of (group_bits mode)), (special_fits of _ (rights_fit of (other_bits mode)), tt)))

moded_fits : (of : NodeKind) (acl : List Ace) (mode : ℕ) → All (Fits of) acl → All (Fits of) (moded of acl mode)
unfolding moded
moded_fits of acl mode given =
    let P : Ace → Type 0 = Fits of in
    let kept = filter is_of_number acl in
    let down = filter is_handed_down acl in
    All-filter has_rights P (head of mode ++ map (limited of mode) kept ++ middle of mode ++ map not_counting down)
    (All-append P (head of mode ++ map (limited of mode) kept ++ middle of mode) (map not_counting down)
    (All-append P (head of mode ++ map (limited of mode) kept) (middle of mode)
    (All-append P (head of mode) (map (limited of mode) kept)
    (head_fits of mode)
    (All-map P (limited of mode) kept (λ k d h. limited_fits of mode (get_or kept k d) (All-filter is_of_number P acl given k d h))))
    (middle_fits of mode))
    (All-map P not_counting down (λ k d h. tail_fits of (get_or down k d) (filter_passes is_handed_down acl k d h) (All-filter is_handed_down P acl given k d h))))

-- ---- both laws

list_parts : (entries short few : Bool) → ((entries && short) && few) ≡ true → (entries ≡ true) × (short ≡ true) × (few ≡ true)
list_parts true true true e = (refl, refl, refl)
list_parts true true false e = absurd (false≢true e)
list_parts true false few e = absurd (false≢true e)
list_parts false short few e = absurd (false≢true e)

list_from : (max_set max_stored : ℕ) (of : NodeKind) (acl : List Ace) → All (Fits of) acl → length acl ≤ max_stored → size is_other acl ≤ max_set → is_list_for max_set max_stored of acl ≡ true
unfolding is_list_for
list_from max_set max_stored of acl fit short few =
    and_from _ _
    (and_from _ _ (list_all-from_AllPass (is_entry_for of) acl fit) (le-leb (length acl) max_stored short))
    (rw (← length-filter is_other acl) (le-leb (size is_other acl) max_set few))

record Parts (max_set max_stored : ℕ) (of : NodeKind) (acl : List Ace) : Type 0 where
  fit : All (Fits of) acl
  few : size is_other acl ≤ max_set

parts_of : (max_set max_stored : ℕ) (of : NodeKind) (acl : List Ace) → is_list_for max_set max_stored of acl ≡ true → Parts max_set max_stored of acl
unfolding is_list_for
parts_of max_set max_stored of acl e =
    let three = list_parts _ _ _ e in
    record {
      fit = AllPass-from_list_all (is_entry_for of) acl three.0;
      few = rw (length-filter is_other acl) (leb-true (count_by is_other acl) max_set three.2);
    }

pub modes_keep_limits : ModesKeepLimits
modes_keep_limits max_set max_stored room of acl mode e =
    let parts = parts_of max_set max_stored of acl e in
    let few = parts.few in
    let long = moded_length of acl mode in
    let others = moded_others of acl mode in
    list_from max_set max_stored of (moded of acl mode) (moded_fits of acl mode parts.fit) (omega arith) (omega arith)

meets_some : (flags : ℕ) → (meets flags 2 || (meets flags 1 && not (meets flags 4))) ≡ true → meets flags 3 ≡ true
meets_some flags h =
    ⊎_elim
    (λ (directories : meets flags 2 ≡ true). meets-wider flags 2 3 refl directories)
    (λ (files : (meets flags 1 && not (meets flags 4)) ≡ true). meets-wider flags 1 3 refl (and_parts _ _ files).0)
    (or_cases _ _ h)

not_and_false : (b : Bool) → not (b && false) ≡ true
not_and_false true = refl
not_and_false false = refl

inherited_other : (of : NodeKind) (ace : Ace) → is_inherited_by of ace ≡ true → is_other ace ≡ true
inherited_other node.File ace h = rw (meets-wider ace.flags.0 1 3 refl h) (not_and_false (is_special ace.who && counts ace))
inherited_other node.Directory ace h = rw (meets_some ace.flags.0 h) (not_and_false (is_special ace.who && counts ace))

directory_flags : (flags : ℕ) (directories further : Bool) → meets flags 2 ≡ directories → meets flags 4 ≡ further → (directories || (meets flags 1 && not further)) ≡ true → is_within flags inheritance ≡ true → are_flags_for node.Directory (cond directories (cond further (bits_without flags inheritance) (bits_without flags inherit_only)) (bit_or flags inherit_only)) ≡ true
directory_flags flags true true e f h within = rw (within-none flags inheritance within refl)
directory_flags flags true false e f h within =
    and_from _ _
    (within-without flags inherit_only inheritance within)
    (or_right _ (meets (bits_without flags inherit_only) 3) (ap (λ w. not (w == 0)) (and_assoc 3 flags (2 ^ 32 - 1 - inherit_only)) ∙ meets-wider flags 2 3 refl e))
directory_flags flags false further e f h within = silent_flags flags (meets-wider flags 1 3 refl (and_parts _ _ h).0) within

inherited_fits : (of : NodeKind) (ace : Ace) → is_inherited_by of ace ≡ true → Fits node.Directory ace → Fits of (as_inherited of ace)
inherited_fits node.File ace h e =
    let tests = tests_of node.Directory ace e in
    let flags = and_parts (is_within ace.flags.0 inheritance) (not (meets ace.flags.0 12) || meets ace.flags.0 3) tests.flags in
    fits_by node.File (as_inherited node.File ace) (eq-eqb _ 0 (within-none ace.flags.0 inheritance flags.0 refl)) tests.mask tests.who
inherited_fits node.Directory ace h e =
    let tests = tests_of node.Directory ace e in
    let flags = and_parts (is_within ace.flags.0 inheritance) (not (meets ace.flags.0 12) || meets ace.flags.0 3) tests.flags in
    fits_by node.Directory (as_inherited node.Directory ace) (directory_flags ace.flags.0 (meets ace.flags.0 2) (meets ace.flags.0 4) refl refl h flags.0) tests.mask tests.who

pub inheritance_keeps_limits : InheritanceKeepsLimits
unfolding inherited
inheritance_keeps_limits max_set max_stored room of parent e =
    let parts = parts_of max_set max_stored node.Directory parent e in
    let few = parts.few in
    let taken = filter (is_inherited_by of) parent in
    let others = size-weaker (is_inherited_by of) is_other (inherited_other of) parent in
    let long = length-map taken (as_inherited of) in
    let left = size-le is_other (map (as_inherited of) taken) in
    list_from max_set max_stored of (map (as_inherited of) taken)
    (All-map (Fits of) (as_inherited of) taken
    (λ k d h. inherited_fits of (get_or taken k d) (filter_passes (is_inherited_by of) parent k d h) (All-filter (is_inherited_by of) (Fits node.Directory) parent parts.fit k d h)))
    (omega arith) (omega arith)

-- ---- lists that a client sets, and lists of new nodes

all_step : {X : Type 0} (e : X → Bool) (x : X) (xs : List X) (b : Bool) → e x ≡ b → suc (length xs) ≤ cond (not (not b)) (1 + position_or_len (λ y. not (e y)) xs) 0 → (b ≡ true) × (length xs ≤ position_or_len (λ y. not (e y)) xs)
all_step e x xs true h le = (refl, omega arith)
all_step e x xs false h le = absurd (omega arith)

-- if no element fails, each passes
all_from_position : {X : Type 0} (e : X → Bool) (xs : List X) → length xs ≤ position_or_len (λ y. not (e y)) xs → AllByRecursion (λ y. e y ≡ true) xs
all_from_position e [] le = tt
all_from_position e (x ∷ xs) le =
    let both = all_step e x xs (e x) refl le in
    (both.0, all_from_position e xs both.1)

none_if : (b : Bool) (n : ℕ) → cond b (Some n) None ≡ None → b ≡ false
none_if true n e = cc
none_if false n e = refl

pub set_lists_are_within_limits : SetListsAreWithinLimits
unfolding first_refused
set_lists_are_within_limits max_set max_stored room of acl e =
    let behind : length acl ≤ min max_set (position_or_len (λ ace. not (is_entry_for of ace)) acl) = ltb-false _ _ (none_if _ _ e) in
    let few = size-le is_other acl in
    list_from max_set max_stored of acl
    (All-from_recursion (Fits of) acl (all_from_position (is_entry_for of) acl (omega arith)))
    (omega arith) (omega arith)

without_list : (max_set max_stored : ℕ) → max_set + 5 ≤ max_stored → (of : NodeKind) (parent : List Ace) (is_empty : Bool) (mode : Option ℕ) → is_list_for max_set max_stored node.Directory parent ≡ true → is_list_for max_set max_stored of (created_without_list parent of is_empty mode) ≡ true
without_list max_set max_stored room of parent is_empty (Some mode) e =
    modes_keep_limits max_set max_stored room of (inherited parent of) mode (inheritance_keeps_limits max_set max_stored (omega arith) of parent e)
without_list max_set max_stored room of parent true None e = list_from max_set max_stored of [] (All-nil (Fits of)) (omega arith) (omega arith)
without_list max_set max_stored room of parent false None e = inheritance_keeps_limits max_set max_stored (omega arith) of parent e

pub creation_keeps_limits : CreationKeepsLimits
creation_keeps_limits max_set max_stored room of parent is_empty mode None e taken = without_list max_set max_stored room of parent is_empty mode e
creation_keeps_limits max_set max_stored room of parent is_empty mode (Some acl) e taken = set_lists_are_within_limits max_set max_stored (omega arith) of acl taken

-- READDIR by the definition: its tests, one after the other, and what it does.
use Rattle.std.proofs.Common.{◌≡◌, ℕ, Bool, true, false, List, [], ◌∷◌, ◌&&◌, ◌||◌, not, ◌⊎◌, inl, inr, ◌==◌, length, map, refl, sym, ap, ap₂, ◌∙◌, arith, ne_eqb}
use Rattle.std.specs.Prelude.{if◌then◌else◌, Option, Some, None, nat_lt, bytes_eq, replicate}
use Rattle.std.specs.List.{AllByRecursion, list_all, list_any}
use Rattle.std.proofs.lemmas.Bool.{lt-ltb, le-ltb, eqb-true, eqb-false, cases_eq}
use Rattle.model_tree.specs.declared.acl.Cred.{Cred}
use Rattle.model_tree.specs.declared.limits.Limits.{Limits}
use Rattle.model_tree.specs.declared.status.Status.{Status}
use Rattle.model_tree.specs.declared.status.Status.TheVariants as status
use Rattle.model_tree.specs.Rights.Acl.{read_acl, read_data}
use Rattle.model.specs.Operations.Answer.{Answer, Entry, ReadDirAnswer}
use Rattle.model.specs.Operations.Context.{Context}
use Rattle.directory.specs.Listing.{after, by_stamp}
use Rattle.directory.specs.Records.{Record}
use Rattle.model_tree.specs.Trees.Keyed.{Keyed, at, is_key, with, in_place_of, before_or_behind}
use Rattle.model.specs.Operations.Need.{Right, granted_on, is_granted, are_granted, here}
use Rattle.model.specs.Attributes.NodeAttributes.{unreadable}
use Rattle.model.specs.Operations.Operation.{Argument, Attributes, ReadDirArguments}
use Rattle.model.specs.Operations.ReadDir.{asks_errors, may_read_acl, listed_entry, names_after, all_entries, page, page_bytes, page_room, page_refusals, listing_rights}
use Rattle.model_tree.specs.Refusals.Refusal.{first_refusal, refused_or}
use Rattle.model.specs.Operations.SetAttr.{attributes_at, asks_acls}
use Rattle.model.specs.Operations.Step.{State, current, refusals, change_refusals, without_rights, effect, does, answered, refused, unless_refused}
use Rattle.model_tree.specs.Trees.Tree.{Tree, Node, DirEntry, is_directory_at, names_at}
use Rattle.model_tree.proofs.Facts.BooleanLaws.{and_false, alone}
use Rattle.model.proofs.Operations.RefusalLaws.{or_else}
use Rattle.fs.specs.OnTree.{IsState}
use Rattle.fs.specs.Listing.{list_refusals, may_read_acls, page_of, shown_attributes, shown_entry}
use Rattle.fs.proofs.FileSteps.{or_none, does_by}

module _ {A : Type 0} (x y : A) where
  chosen : (hides may : Bool) → (hides ≡ false) ⊎ (may ≡ true) → (if hides && not may then x else y) ≡ y
  chosen true true which = refl
  chosen true false (inl unasked) = absurd (cc)
  chosen true false (inr allowed) = absurd (cc)
  chosen false may which = refl

  -- if all lists may be read unless errors are asked for, it is enough to test a list if both are
  -- asked for
  same_choice : (asked errors may others : Bool) → ((asked && not errors) && not (may && others)) ≡ false
      → (if (asked && errors) && not may then x else y) ≡ (if asked && not may then x else y)
  same_choice false errors may others passed = refl
  same_choice true true may others passed = refl
  same_choice true false true others passed = refl
  same_choice true false false others passed = absurd (cc)

others_passed : (must may others : Bool) → (must && not (may && others)) ≡ false → (must && not others) ≡ false
others_passed false may others passed = refl
others_passed true true others passed = passed
others_passed true false others passed = absurd (cc)

-- an entry whose list hides nothing, or may be read
pub attributes_shown : (limits : Limits) (cred : Cred) (hides : Bool) (bitmap : List ℕ) (number : ℕ) (found : Option Node)
    → (hides ≡ false) ⊎ (may_read_acl cred found ≡ true)
    → shown_attributes limits cred hides bitmap number found ≡ attributes_at limits bitmap number found
attributes_shown limits cred hides bitmap number found which =
    chosen unreadable (attributes_at limits bitmap number found) hides (may_read_acl cred found) which

-- the entries are the definition's if each list was tested before, or hides its node

module _ (limits : Limits) (tree : Tree) (cred : Cred) (bitmap : List ℕ) where
  abbrev may : ℕ × DirEntry → Bool
  may name = may_read_acl cred (at name.1.number tree)

  one_shown : (name : ℕ × DirEntry) (others : Bool) → ((asks_acls bitmap && not (asks_errors bitmap)) && not (may name && others)) ≡ false
      → shown_entry limits tree cred (asks_acls bitmap && asks_errors bitmap) bitmap name ≡ listed_entry limits tree cred bitmap name
  one_shown name others passed =
      ap (λ (shown : Attributes). record { cookie = name.0; name = name.1.name; attributes = shown })
      (same_choice unreadable (attributes_at limits bitmap name.1.number (at name.1.number tree)) (asks_acls bitmap) (asks_errors bitmap) (may name) others passed)

  each_shown : (names : Keyed DirEntry) → ((asks_acls bitmap && not (asks_errors bitmap)) && not (list_all may names)) ≡ false
      → map (shown_entry limits tree cred (asks_acls bitmap && asks_errors bitmap) bitmap) names ≡ map (listed_entry limits tree cred bitmap) names
  each_shown [] passed = refl
  each_shown (name ∷ rest) passed =
      ap₂ (λ (entry : Entry) (others : List Entry). entry ∷ others) (one_shown name (list_all may rest) passed)
      (each_shown rest (others_passed (asks_acls bitmap && not (asks_errors bitmap)) (may name) (list_all may rest) passed))

-- The right to read the list of each entry

module _ (tree : Tree) (cred : Cred) where
  one_read : (found : Option Node) → (granted_on found cred read_acl || false) ≡ may_read_acl cred found
  one_read None = refl
  one_read (Some node) = or_false (granted_on (Some node) cred read_acl)
    where
      or_false : (b : Bool) → (b || false) ≡ b
      or_false true = refl
      or_false false = refl

  each_read : (names : Keyed DirEntry)
      → list_all (list_any (is_granted tree cred)) (map (λ (name : ℕ × DirEntry). record { number = name.1.number; mask = read_acl } ∷ []) names)
      ≡ list_all (λ (name : ℕ × DirEntry). may_read_acl cred (at name.1.number tree)) names
  each_read [] = refl
  each_read (name ∷ rest) = ap₂ (λ (a b : Bool). a && b) (one_read (at name.1.number tree)) (each_read rest)

denied_if : (tree : Tree) (context : Context) (ask may : Bool) (rights : List (List Right)) → are_granted tree context rights ≡ may
    → not (are_granted tree context (if ask then rights else [])) ≡ (ask && not may)
denied_if tree context true may rights same = ap not same
denied_if tree context false may rights same = refl

regrouped : (n d g k r : Bool) (behind : Option Status)
    → refused_or n status.Stale (refused_or d status.NotDir (refused_or g status.Access (refused_or k status.NotSame (refused_or r status.Access behind))))
    ≡ or_else (refused_or n status.Stale (refused_or d status.NotDir (refused_or g status.Access (refused_or k status.NotSame (refused_or r status.Access None))))) behind
regrouped true d g k r behind = refl
regrouped false true g k r behind = refl
regrouped false false true k r behind = refl
regrouped false false false true r behind = refl
regrouped false false false false true behind = refl
regrouped false false false false false behind = refl

last_passed : (n d g k r : Bool)
    → refused_or n status.Stale (refused_or d status.NotDir (refused_or g status.Access (refused_or k status.NotSame (refused_or r status.Access None)))) ≡ None
    → r ≡ false
last_passed n d g k false none = refl
last_passed true d g k true none = absurd (cc)
last_passed false true g k true none = absurd (cc)
last_passed false false true k true none = absurd (cc)
last_passed false false false true true none = absurd (cc)
last_passed false false false false true none = absurd (cc)

-- whether there is no room for the first of a count of entries, of which a count is shown

crowded_second : (all shown : ℕ) → (shown == 0) ≡ true → (shown == all) ≡ false → (nat_lt 0 all && shown == 0) ≡ true
crowded_second all shown none short = ap₂ (λ (a b : Bool). a && b) (lt-ltb 0 all (omega (arith, eqb-true shown 0 none, eqb-false shown all short))) none

roomy_second : (all shown : ℕ) → ((shown == 0) ≡ false) ⊎ ((shown == all) ≡ true) → (nat_lt 0 all && shown == 0) ≡ false
roomy_second all shown (inl some) = ap (λ (b : Bool). nat_lt 0 all && b) some ∙ and_false (nat_lt 0 all)
roomy_second all shown (inr whole) = elim (cases_eq shown 0) [
  | inl none ↦ ap (λ (b : Bool). b && shown == 0) (le-ltb 0 all (omega (arith, eqb-true shown all whole)))
  | inr some ↦ ap (λ (b : Bool). nat_lt 0 all && b) (ne_eqb shown 0 some) ∙ and_false (nat_lt 0 all)
]

-- Records that come by stamp, after a cookie, are records

module _ (P : Record → Type 0) where
  each_with : (entries : Keyed DirEntry) (entry : Record) → AllByRecursion P entries → P entry → AllByRecursion P (with entries entry.0 entry.1)
  each_with [] entry all is = (is, tt)
  each_with (first ∷ rest) entry all is = by_key (entry.0 == first.0) (nat_lt entry.0 first.0) (each_with rest entry all.1 is)
    where
      by_key : (same less : Bool) → AllByRecursion P (with rest entry.0 entry.1) → AllByRecursion P (in_place_of same entry rest (before_or_behind less entry first rest (with rest entry.0 entry.1)))
      by_key true less others = (is, all.1)
      by_key false true others = (is, all)
      by_key false false others = (all.0, others)

  each_after : (cookie : ℕ) (entries : Keyed DirEntry) → AllByRecursion P entries → AllByRecursion P (after cookie entries)
  each_after cookie [] all = tt
  each_after cookie (entry ∷ rest) all = by_key (nat_lt cookie entry.0) (each_after cookie rest all.1)
    where
      by_key : (above : Bool) → AllByRecursion P (after cookie rest) → AllByRecursion P (if above then entry ∷ after cookie rest else after cookie rest)
      by_key true others = (all.0, others)
      by_key false others = others

  each_by_stamp : (records : List Record) → AllByRecursion P records → AllByRecursion P (by_stamp records)
  each_by_stamp [] all = tt
  each_by_stamp (entry ∷ rest) all = each_with (by_stamp rest) entry (each_by_stamp rest all.1) all.0

  pub each_listed : (cookie : ℕ) (records : List Record) → AllByRecursion P records → AllByRecursion P (after cookie (by_stamp records))
  each_listed cookie records all = each_after cookie (by_stamp records) (each_by_stamp records all)

module _ (limits : Limits) (tree : Tree) (cred : Cred) (number : ℕ) (state : State) (now : ℕ) (is : IsState tree cred number state) (arguments : ReadDirArguments) where
  abbrev operation : Argument
  operation = Argument.ReadDir arguments

  abbrev behind : Option Status
  behind = first_refusal (page_refusals limits state arguments)

  list_first : or_else (first_refusal (refusals limits state operation)) (first_refusal (change_refusals limits state operation (effect limits state now operation).state.tree))
      ≡ or_else (first_refusal (list_refusals state.tree state.context.cred (current state) arguments)) behind
  unfolding refusals
  list_first =
      let stale = not (is_key (current state) state.tree) in
      let file = not (is_directory_at state.tree (current state)) in
      let granted = granted_on (at (current state) state.tree) state.context.cred read_data in
      let other = not (arguments.cookie == 0) && not (bytes_eq arguments.verifier (replicate 8 0)) in
      let asks = asks_acls arguments.bitmap && not (asks_errors arguments.bitmap) in
      let may = may_read_acls state.tree state.context.cred (current state) arguments.cookie in
      let prefix : Bool → Bool → Option Status = λ g r. refused_or stale status.Stale (refused_or file status.NotDir (refused_or (not g) status.Access (refused_or other status.NotSame (refused_or r status.Access behind)))) in
      let named = names_after arguments.cookie (names_at state.tree (current state)) in
      let rights = map (λ (name : ℕ × DirEntry). record { number = name.1.number; mask = read_acl } ∷ []) named in
      ap (λ (o : Option Status). or_else o None)
      (ap (λ (b : Bool). refused_or (not b) status.NoFileHandle (prefix (are_granted state.tree state.context (here state.context read_data)) (without_rights state (listing_rights state.tree state.context arguments)))) is.has_current
      ∙ ap₂ prefix (alone granted) (denied_if state.tree state.context asks may rights (each_read state.tree state.context.cred named))
      ∙ regrouped stale file (not granted) other (asks && not may) behind)
      ∙ or_none _

  steps : (o : Option Status) → or_else (first_refusal (list_refusals state.tree state.context.cred (current state) arguments)) behind ≡ o
      → does limits state now operation ≡ unless_refused state operation o (answered state (Answer.ReadDir (page limits state arguments)))
  unfolding effect
  steps o same = does_by limits state now operation o (list_first ∙ same)

  same_tests : first_refusal (list_refusals state.tree state.context.cred (current state) arguments) ≡ first_refusal (list_refusals tree cred number arguments)
  same_tests = rw (is.tree_is, is.cred_is, is.current_is) refl

  abbrev pub all : List Entry
  all = map (listed_entry limits tree cred arguments.bitmap) (names_after arguments.cookie (names_at tree number))

  same_entries : all_entries limits state arguments ≡ all
  same_entries = rw (is.tree_is, is.cred_is, is.current_is) refl

  same_page : page limits state arguments ≡ page_of (page_room limits arguments) all
  unfolding page
  same_page = ap (page_of (page_room limits arguments)) same_entries

  pub all_shown : (hides : Bool) → hides ≡ (asks_acls arguments.bitmap && asks_errors arguments.bitmap) → first_refusal (list_refusals tree cred number arguments) ≡ None
      → map (shown_entry limits tree cred hides arguments.bitmap) (names_after arguments.cookie (names_at tree number)) ≡ all
  all_shown hides is passed =
      ap (λ (b : Bool). map (shown_entry limits tree cred b arguments.bitmap) (names_after arguments.cookie (names_at tree number))) is
      ∙ each_shown limits tree cred arguments.bitmap (names_after arguments.cookie (names_at tree number)) (last_passed _ _ _ _ _ passed)

  pub list_refused : (reason : Status) → first_refusal (list_refusals tree cred number arguments) ≡ Some reason
      → does limits state now operation ≡ refused state operation reason
  list_refused reason first = steps (Some reason) (ap (λ (o : Option Status). or_else o behind) (same_tests ∙ first))

  module _ (passed : first_refusal (list_refusals tree cred number arguments) ≡ None) where
    prefix_passed : or_else (first_refusal (list_refusals state.tree state.context.cred (current state) arguments)) behind ≡ behind
    prefix_passed = ap (λ (o : Option Status). or_else o behind) (same_tests ∙ passed)

    abbrev second : Bool
    second = nat_lt 0 (length (all_entries limits state arguments)) && length (page limits state arguments).entries == 0

    abbrev late : Bool → Bool → Option Status
    late small crowded = refused_or small status.TooSmall (refused_or crowded status.TooSmall None)

    pub list_small : nat_lt (page_bytes limits arguments) 16 ≡ true → does limits state now operation ≡ refused state operation status.TooSmall
    list_small small = steps (Some status.TooSmall) (prefix_passed ∙ ap (λ (b : Bool). late b second) small)

    module _ (large : nat_lt (page_bytes limits arguments) 16 ≡ false) (shown : ReadDirAnswer) (shown_is : shown ≡ page_of (page_room limits arguments) all) where
      second_is : second ≡ (nat_lt 0 (length all) && length shown.entries == 0)
      second_is = ap₂ (λ (l : List Entry) (p : ReadDirAnswer). nat_lt 0 (length l) && length p.entries == 0) same_entries (same_page ∙ sym shown_is)

      end_is : (length shown.entries == length all) ≡ shown.is_end
      end_is = ap (λ (p : ReadDirAnswer). length p.entries == length all) shown_is ∙ sym (ap (λ (p : ReadDirAnswer). p.is_end) shown_is)

      pub list_crowded : (length shown.entries == 0) ≡ true → shown.is_end ≡ false → does limits state now operation ≡ refused state operation status.TooSmall
      list_crowded none short = steps (Some status.TooSmall) (prefix_passed ∙ ap₂ late large (second_is ∙ crowded_second (length all) (length shown.entries) none (end_is ∙ short)))

      pub list_done : ((length shown.entries == 0) ≡ false) ⊎ (shown.is_end ≡ true) → does limits state now operation ≡ answered state (Answer.ReadDir shown)
      list_done some = steps None (prefix_passed ∙ ap₂ late large (second_is ∙ roomy_second (length all) (length shown.entries) (by_end some)))
          ∙ ap (λ (p : ReadDirAnswer). answered state (Answer.ReadDir p)) (same_page ∙ sym shown_is)
        where
          by_end : ((length shown.entries == 0) ≡ false) ⊎ (shown.is_end ≡ true) → ((length shown.entries == 0) ≡ false) ⊎ ((length shown.entries == length all) ≡ true)
          by_end (inl more) = inl more
          by_end (inr end) = inr (end_is ∙ end)

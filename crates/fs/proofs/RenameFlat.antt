-- RENAME's tests of a tree with zeros for the bytes of its files are those of the tree.
use Rattle.std.proofs.Common.{◌≡◌, ◌&&◌, ◌||◌, ℕ, zero, suc, Bool, not, List, [], ◌∷◌, ◌++◌, length, refl, ap, ap₂, ◌∙◌, is_some}
use Rattle.std.specs.Prelude.{if◌then◌else◌, nat_lt, ◌==◌}
use Rattle.std.specs.List.{list_any, list_all}
use Rattle.tree_edits.specs.Outlines.{blank, blank_node, without_data}
use Rattle.tree_edits.proofs.BlankLaws.{key-without_data, directory-without_data}
use Rattle.tree_edits.proofs.BlankLaws.{names-without_data}
use Rattle.tree_edits.proofs.BlankLaws.{length-without_data}
use Rattle.model_tree.specs.declared.acl.Cred.{Cred}
use Rattle.model_tree.specs.declared.limits.Limits.{Limits}
use Rattle.model_tree.specs.declared.status.Status.TheVariants as status
use Rattle.model_tree.specs.Trees.Ancestors.{parent_of, ancestors_in, is_below}
use Rattle.model_tree.specs.Trees.Tree.{is_named, number_named, number_of_entry, Tree, Node, Content, File, Directory, DirEntry, root, is_directory_at, names_at, names_of, entry_of}
use Rattle.model_tree.specs.Trees.Keyed.{Keyed, is_key}
use Rattle.model_tree.specs.Refusals.Name.{name_refusals}
use Rattle.model.specs.Operations.Need.{Right, is_granted}
use Rattle.model_tree.specs.Rights.Acl.{append_data, write_data, delete, delete_child}
use Rattle.model.specs.Operations.Operation.{RenameArguments}
use Rattle.model_tree.specs.Refusals.Refusal.{first_refusal}
use Rattle.model.specs.Operations.Rename.{is_other, has_names, rename_rights}
use Rattle.model_tree.specs.Trees.WellFormed.{links_from, links_in}
use Rattle.fs.specs.RenameTests.{moving_refusals, placing_refusals, may_rename, moved_in, target_in}
use Rattle.fs.proofs.FlatLaws.{granted-without_data}

named-without_data : (tree : Tree) (directory : ℕ) (name : List ℕ) → is_named (without_data tree) directory name ≡ is_named tree directory name
named-without_data tree directory name = ap (λ (n : Keyed DirEntry). is_some (entry_of name n)) (names-without_data tree directory)

number-without_data : (tree : Tree) (directory : ℕ) (name : List ℕ) → number_named (without_data tree) directory name ≡ number_named tree directory name
number-without_data tree directory name = ap (λ (n : Keyed DirEntry). number_of_entry (entry_of name n)) (names-without_data tree directory)

has_names-without_data : (tree : Tree) (number : ℕ) → has_names (without_data tree) number ≡ has_names tree number
has_names-without_data tree number = ap (λ (n : Keyed DirEntry). nat_lt 0 (length n)) (names-without_data tree number)

pub moving-without_data : (limits : Limits) (tree : Tree) (from to : ℕ)
    (arguments : RenameArguments)
    → first_refusal (moving_refusals limits (without_data tree) from to arguments) ≡ first_refusal (moving_refusals limits tree from to arguments)
moving-without_data limits tree from to arguments =
    let tests = λ (to_key from_key from_place to_place named : Bool). first_refusal ((not to_key, status.Stale) ∷ (not from_key, status.Stale) ∷ (not from_place, status.NotDir) ∷ (not to_place, status.NotDir)
    ∷ (name_refusals limits arguments.old_name ++ (name_refusals limits arguments.new_name ++ ((not named, status.NoEnt) ∷ [])))) in
    ap (λ (b : Bool). tests b (is_key from (without_data tree)) (is_directory_at (without_data tree) from) (is_directory_at (without_data tree) to) (is_named (without_data tree) from arguments.old_name)) (key-without_data tree to)
    ∙ ap (λ (b : Bool). tests (is_key to tree) b (is_directory_at (without_data tree) from) (is_directory_at (without_data tree) to) (is_named (without_data tree) from arguments.old_name)) (key-without_data tree from)
    ∙ ap (λ (b : Bool). tests (is_key to tree) (is_key from tree) b (is_directory_at (without_data tree) to) (is_named (without_data tree) from arguments.old_name)) (directory-without_data tree from)
    ∙ ap (λ (b : Bool). tests (is_key to tree) (is_key from tree) (is_directory_at tree from) b (is_named (without_data tree) from arguments.old_name)) (directory-without_data tree to)
    ∙ ap (tests (is_key to tree) (is_key from tree) (is_directory_at tree from) (is_directory_at tree to)) (named-without_data tree from arguments.old_name)

-- Rights

any-without_data : (tree : Tree) (cred : Cred) (rights : List Right) → list_any (is_granted (without_data tree) cred) rights ≡ list_any (is_granted tree cred) rights
any-without_data tree cred [] = refl
any-without_data tree cred (right ∷ rights) = ap₂ (λ (a b : Bool). a || b) (granted-without_data tree right.number cred right.mask) (any-without_data tree cred rights)

all-without_data : (tree : Tree) (cred : Cred) (rights : List (List Right)) → list_all (list_any (is_granted (without_data tree) cred)) rights ≡ list_all (list_any (is_granted tree cred)) rights
all-without_data tree cred [] = refl
all-without_data tree cred (one ∷ rights) = ap₂ (λ (a b : Bool). a && b) (any-without_data tree cred one) (all-without_data tree cred rights)

-- the rights of a rename, by the names of both directories and what moves
abbrev rights_by : (from to : ℕ) → RenameArguments → (old new : Keyed DirEntry) → (place : Bool) → List (List Right)
rights_by from to arguments old new place =
    (record { number = number_of_entry (entry_of arguments.old_name old); mask = delete } ∷ record { number = from; mask = delete_child } ∷ [])
    ∷ ((if is_some (entry_of arguments.new_name new)
    then (record { number = number_of_entry (entry_of arguments.new_name new); mask = delete } ∷ record { number = to; mask = delete_child } ∷ []) ∷ []
    else [])
    ++ ((record { number = to; mask = if place then append_data else write_data } ∷ []) ∷ []))

rights-without_data : (tree : Tree) (from to : ℕ) (arguments : RenameArguments) → rename_rights (without_data tree) from to arguments ≡ rename_rights tree from to arguments
rights-without_data tree from to arguments =
    ap₂ (λ (old new : Keyed DirEntry). rights_by from to arguments old new (is_directory_at (without_data tree) (number_of_entry (entry_of arguments.old_name old)))) (names-without_data tree from) (names-without_data tree to)
    ∙ ap (rights_by from to arguments (names_at tree from) (names_at tree to)) (directory-without_data tree (number_named tree from arguments.old_name))

may-without_data : (tree : Tree) (cred : Cred) (from to : ℕ) (arguments : RenameArguments) → may_rename (without_data tree) cred from to arguments ≡ may_rename tree cred from to arguments
may-without_data tree cred from to arguments =
    ap (list_all (list_any (is_granted (without_data tree) cred))) (rights-without_data tree from to arguments) ∙ all-without_data tree cred (rename_rights tree from to arguments)

-- Ancestors

links-without_data : (number : ℕ) (node : Node) → links_from number (blank_node node) ≡ links_from number node
links-without_data number node = by_content node.content
  where
    by_content : (content : Content) → links_in number (names_of (blank content)) ≡ links_in number (names_of content)
    by_content (File bytes) = refl
    by_content (Directory names) = refl

parent-without_data : (tree : Tree) (number : ℕ) → parent_of (without_data tree) number ≡ parent_of tree number
parent-without_data [] number = refl
parent-without_data (entry ∷ rest) number =
    ap₂ (λ (n other : ℕ). if nat_lt 0 n then entry.0 else other) (links-without_data number entry.1) (parent-without_data rest number)

ancestors-without_data : (steps : ℕ) (tree : Tree) (number : ℕ) → ancestors_in steps (without_data tree) number ≡ ancestors_in steps tree number
ancestors-without_data zero tree number = refl
ancestors-without_data (suc steps) tree number = ap (λ (l : List ℕ). number ∷ (if number == root then [] else l))
    (ap (ancestors_in steps (without_data tree)) (parent-without_data tree number) ∙ ancestors-without_data steps tree (parent_of tree number))

below-without_data : (tree : Tree) (upper number : ℕ) → is_below (without_data tree) upper number ≡ is_below tree upper number
below-without_data tree upper number = ap (list_any (λ (of : ℕ). of == upper))
    (ap (λ (n : ℕ). ancestors_in n (without_data tree) number) (length-without_data tree) ∙ ancestors-without_data (length tree) tree number)

pub placing-without_data : (tree : Tree) (cred : Cred) (from to : ℕ) (arguments : RenameArguments)
    → first_refusal (placing_refusals (without_data tree) cred from to arguments) ≡ first_refusal (placing_refusals tree cred from to arguments)
placing-without_data tree cred from to arguments =
    let flat = without_data tree in
    let tests = λ (may place below named target_place filled : Bool). first_refusal ((not may, status.Access) ∷ (place && below, status.Inval) ∷ (named && (is_other place target_place || filled), status.Exist) ∷ []) in
    let by = λ (moved target : ℕ) (may named : Bool). tests may (is_directory_at flat moved) (is_below flat moved to) named (is_directory_at flat target) (has_names flat target) in
    let moved = moved_in tree from arguments in
    let target = target_in tree to arguments in
    ap₂ (λ (m t : ℕ). by m t (may_rename flat cred from to arguments) (is_named flat to arguments.new_name)) (number-without_data tree from arguments.old_name) (number-without_data tree to arguments.new_name)
    ∙ ap₂ (by moved target) (may-without_data tree cred from to arguments) (named-without_data tree to arguments.new_name)
    ∙ ap₂ (λ (place below : Bool). tests (may_rename tree cred from to arguments) place below (is_named tree to arguments.new_name) (is_directory_at flat target) (has_names flat target))
    (directory-without_data tree moved) (below-without_data tree moved to)
    ∙ ap₂ (tests (may_rename tree cred from to arguments) (is_directory_at tree moved) (is_below tree moved to) (is_named tree to arguments.new_name))
    (directory-without_data tree target) (has_names-without_data tree target)

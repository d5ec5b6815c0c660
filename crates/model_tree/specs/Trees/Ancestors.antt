-- A node's parent and ancestors: RFC 8881, sections 18.14 (LOOKUPP) and 18.26 (RENAME: no directory
-- is moved below itself).
use Rattle.std.specs.Prelude.{ℕ, zero, suc, Bool, List, [], ◌∷◌, ◌==◌, if◌then◌else◌, nat_lt, length, IsTrue}
use Rattle.std.specs.List.{list_any}
use Rattle.model_tree.specs.Trees.Keyed.{is_key}
use Rattle.model_tree.specs.Trees.Limits.{Limits}
use Rattle.model_tree.specs.Trees.Tree.{Tree, root}
use Rattle.model_tree.specs.Trees.WellFormed.{links_from, IsFrom, IsWellFormed}

-- the directory in which a name leads to a number, or 0, which no node has, if there is none
abbrev pub parent_of : Tree → (number : ℕ) → ℕ
parent_of [] number = 0
parent_of (entry ∷ rest) number =
    if nat_lt 0 (links_from number entry.1) then entry.0 else parent_of rest number

-- a node, its parent and so on up to the root, at most `steps` of them
abbrev pub ancestors_in : (steps : ℕ) → Tree → (number : ℕ) → List ℕ
ancestors_in zero tree number = []
ancestors_in (suc steps) tree number =
    number ∷ (if number == root then [] else ancestors_in steps tree (parent_of tree number))

abbrev pub ancestors : Tree → (number : ℕ) → List ℕ
ancestors tree number = ancestors_in (length tree) tree number

-- whether a node is `upper` or below it
abbrev pub is_below : Tree → (upper number : ℕ) → Bool
is_below tree upper number = list_any (λ of. of == upper) (ancestors tree number)

-- That is, whether it is reached from there
abbrev pub IsBelowIsReached : Type 0
IsBelowIsReached =
    (limits : Limits) (tree : Tree) → IsWellFormed limits tree → (upper number : ℕ)
    → IsTrue (is_key number tree)
    → (IsTrue (is_below tree upper number) → IsFrom tree upper number)
    × (IsFrom tree upper number → IsTrue (is_below tree upper number))

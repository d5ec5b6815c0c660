-- What a tree is if one of its nodes changes.
use Rattle.std.proofs.Common.{◌≡◌, ◌≢◌, ◌≤◌, ◌<◌, ◌+◌, ℕ, Bool, true, false, List, [], ◌∷◌, Option, Some, None, length, refl, sym, ap, arith, inl, inr, eqb, le-leb}
use Rattle.std.proofs.lemmas.Bool.{cases_eq}
use Rattle.std.specs.Prelude.{option_map, nat_le, IsTrue, bytes_eq, ◌&&◌}
use Rattle.model_tree.specs.Trees.Charge.{few_names}
use Rattle.model_tree.specs.Trees.Edit.{altered, altered_at}
use Rattle.model_tree.specs.Trees.Keyed.{Keyed, at, with, without, here_or, total, worth_at}
use Rattle.model_tree.specs.Trees.Tree.{Tree, Node, DirEntry, names_of, names_at, names_of_node, entry_of, found_or}
use Rattle.tree_edits.proofs.KeyLaws.{Rises, rises_above, rises_with, rises_without, total_with, total_without}
use Rattle.tree_edits.proofs.NamedLaws.{few-at}
use Rattle.model_tree.proofs.Trees.KeyedLaws.{at-below, at-first, at-rest, at-with_same, at-with_other, at-without_same, at-without_other}

-- every other node stays, the numbers rise, and what the nodes are worth changes by what this one
-- is
pub record ChangesOne (number : ℕ) (old new : Tree) : Type 0 where
  pub other : (key : ℕ) → key ≢ number → at key new ≡ at key old
  pub rises : Rises new
  pub sum : (worth : Node → ℕ) → total worth new + worth_at worth (at number old) ≡ total worth old + worth_at worth (at number new)

pub change_with : (tree : Tree) (number : ℕ) (node : Node) → Rises tree → ChangesOne number tree (with tree number node)
change_with tree number node rises = record {
  other = λ key off. at-with_other tree number key node off;
  rises = rises_with tree number node rises;
  sum = λ worth. omega (arith, total_with worth tree number node rises, ap (worth_at worth) (at-with_same tree number node));
}

pub change_without : (tree : Tree) (number : ℕ) → Rises tree → ChangesOne number tree (without tree number)
change_without tree number rises = record {
  other = λ key off. at-without_other tree number key off;
  rises = rises_without tree number rises;
  sum = λ worth. omega (arith, total_without worth tree number rises, ap (worth_at worth) (at-without_same tree number));
}

pub change_altered : (alter : Node → Node) (tree : Tree) (number : ℕ) → Rises tree → ChangesOne number tree (altered alter tree number)
change_altered alter tree number rises = by_node (at number tree) refl
  where
    by_node : (found : Option Node) → at number tree ≡ found → ChangesOne number tree (altered_at alter tree number found)
    by_node None e = record { other = λ key off. refl; rises = rises; sum = λ worth. refl }
    by_node (Some node) e = change_with tree number (alter node) rises

pub at_altered : (alter : Node → Node) (tree : Tree) (number : ℕ) → at number (altered alter tree number) ≡ option_map alter (at number tree)
at_altered alter tree number = by_node (at number tree) refl
  where
    by_node : (found : Option Node) → at number tree ≡ found → at number (altered_at alter tree number found) ≡ option_map alter found
    by_node None e = e
    by_node (Some node) e = at-with_same tree number (alter node)

-- a name has its stamp once

pub stamp_there : (name : List ℕ) (names : Keyed DirEntry) (stamp : ℕ) (found : DirEntry) → entry_of name names ≡ Some (stamp, found) → worth_at (λ (entry : DirEntry). 1) (at stamp names) ≡ 1
stamp_there name [] stamp found is = absurd cc
stamp_there name (entry ∷ rest) stamp found is = by_name (stamp_there name rest stamp found) (bytes_eq name entry.1.name) is
  where
    stamp_is : {x y : ℕ × DirEntry} → (let one : Option (ℕ × DirEntry) = Some x in one ≡ Some y) → x.0 ≡ y.0
    stamp_is e = cc

    by_key : (b : Bool) → worth_at (λ (entry : DirEntry). 1) (at stamp rest) ≡ 1 → worth_at (λ (entry : DirEntry). 1) (here_or b entry.1 (at stamp rest)) ≡ 1
    by_key true others = refl
    by_key false others = others

    by_name : (entry_of name rest ≡ Some (stamp, found) → worth_at (λ (entry : DirEntry). 1) (at stamp rest) ≡ 1) → (b : Bool)
        → found_or b entry (entry_of name rest) ≡ Some (stamp, found) → worth_at (λ (entry : DirEntry). 1) (at stamp (entry ∷ rest)) ≡ 1
    by_name others true here = ap (worth_at (λ (entry : DirEntry). 1)) (at-first entry.0 stamp entry.1 rest (sym (stamp_is here)))
    by_name others false later = by_key (eqb stamp entry.0) (others later)

-- Directories with few names

and_true : (a b : Bool) → a ≡ true → b ≡ true → a && b ≡ true
and_true true b left right = right
and_true false b left right = absurd cc

pub few_each : (most : ℕ) (tree : Tree) → Rises tree → ((number : ℕ) → length (names_at tree number) ≤ most) → few_names most tree ≡ true
few_each most [] rises each = refl
few_each most (entry ∷ rest) rises each = and_true (nat_le (length (names_of entry.1.content)) most) (few_names most rest)
    (le-leb (length (names_of entry.1.content)) most
    (omega (arith, each entry.0, ap (λ (found : Option Node). length (names_of_node found)) (at-first entry.0 entry.0 entry.1 rest refl))))
    (few_each most rest (rises_above rest entry.0 rises) later)
  where
    later : (number : ℕ) → length (names_at rest number) ≤ most
    later number = elim (cases_eq number entry.0) [
      | inl e ↦ omega (arith, ap (λ (found : Option Node). length (names_of_node found)) (at-below rest entry.0 number rises (omega (arith, e))))
      | inr off ↦ omega (arith, each number, ap (λ (found : Option Node). length (names_of_node found)) (at-rest entry.0 number entry.1 rest off))
    ]

-- and one with too many is enough
pub few_over : (most number : ℕ) (tree : Tree) → most < length (names_at tree number) → few_names most tree ≡ false
few_over most number tree over = by_few (few_names most tree) refl
  where
    never : (found : Option Node) → at number tree ≡ found → IsTrue (few_names most tree) → most < length (names_of_node found) → ⊥
    never None is few more = absurd (omega (arith, more))
    never (Some node) is few more = (let low = few-at most tree number node few is in absurd (omega (arith, low, more)))

    by_few : (few : Bool) → few_names most tree ≡ few → few_names most tree ≡ false
    by_few true is = absurd (never (at number tree) refl is over)
    by_few false is = is

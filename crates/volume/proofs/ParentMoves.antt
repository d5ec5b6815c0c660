-- The parents stay over a change.
use Rattle.std.proofs.Common.{◌≡◌, ◌≢◌, ◌<◌, ℕ, List, Option, Some, length, get_or, set, sym, ap, subst, ◌∙◌, arith, inl, inr}
use Rattle.std.proofs.lemmas.Bool.{cases_eq}
use Rattle.std.proofs.lemmas.List.{length-set, get_or-set_same, get_or-set_other}
use Rattle.std.proofs.lemmas.Option.{same_Some}
use Rattle.node_table.specs.Tables.{node_number_at, HaveOwnPlaces}
use Rattle.node_table.proofs.TableLaws.{within-numbered}
use Rattle.layout.specs.CachedNodes.{CachedNode}
use Rattle.model_tree.specs.Trees.Tree.{root}
use Rattle.tree_check.specs.Trees.{IsOneTree}
use Rattle.volume.specs.ParentIndex.{PlaceLeadsTo, HasChild, AreParents}
use Rattle.volume.proofs.ParentLinks.{no_root, one_name}

-- One node's name is put in a directory: the node was made, or was moved there. Other nodes may go
-- with their names.
pub record MovesName (old new : List (Option CachedNode)) (moved place directory : ℕ) : Type 0 where
  pub count : length new ≡ length old
  -- the node is there, and the directory has its name
  pub node : node_number_at new place ≡ Some moved
  pub name : HasChild new directory moved
  -- each other node was at its place, and each other name in its directory
  pub nodes : (other number : ℕ) → number ≢ moved → node_number_at new other ≡ Some number
      → node_number_at old other ≡ Some number
  pub names : (of number : ℕ) → number ≢ moved → HasChild new of number → HasChild old of number

-- No name is put in a directory, and no node is made. Nodes may go with their names.
pub record KeepsNames (old new : List (Option CachedNode)) : Type 0 where
  pub count : length new ≡ length old
  pub nodes : (place number : ℕ) → node_number_at new place ≡ Some number
      → node_number_at old place ≡ Some number
  pub names : (of number : ℕ) → HasChild new of number → HasChild old of number

-- so the parents stay, except that node's
abbrev pub EachMove : Type 0
EachMove = (old new : List (Option CachedNode)) (parents : List ℕ) (moved place directory : ℕ)
    → AreParents old parents → HaveOwnPlaces new → IsOneTree new
    → MovesName old new moved place directory
    → AreParents new (set parents place directory)

abbrev pub EachKept : Type 0
EachKept = (old new : List (Option CachedNode)) (parents : List ℕ)
    → AreParents old parents → KeepsNames old new → AreParents new parents

module _ (old new : List (Option CachedNode)) (parents : List ℕ) (moved place directory : ℕ) (are : AreParents old parents) (own : HaveOwnPlaces new) (tree : IsOneTree new)
    (moves : MovesName old new moved place directory) where
  inside : place < length parents
  inside = omega (arith, within-numbered new place moved moves.node, moves.count, are.count)

  is_directory : (p : ℕ) → p ≡ place → get_or (set parents place directory) p 0 ≡ directory
  is_directory p same = ap (λ n. get_or (set parents place directory) n 0) same ∙ get_or-set_same parents place directory 0 inside

  elsewhere : (p n : ℕ) → node_number_at new p ≡ Some n → n ≢ moved → get_or (set parents place directory) p 0 ≡ get_or parents p 0
  elsewhere p n there off =
      get_or-set_other parents place p directory 0 (λ same. off (same_Some n moved (sym there ∙ ap (node_number_at new) same ∙ moves.node)))

  named : (p n of : ℕ) → node_number_at new p ≡ Some n → HasChild new of n → get_or (set parents place directory) p 0 ≡ of
  named p n of there has = elim (cases_eq n moved) [
    | inl same ↦
        let at : p ≡ place = own p place moved (there ∙ ap Some same) moves.node in
        is_directory p at ∙ one_name new tree own moved directory of moves.name (subst (HasChild new of) same has)
    | inr off ↦ elsewhere p n there off ∙ are.named p n of (moves.nodes p n off there) (moves.names of n off has)
  ]

  not_root : root ≢ moved
  not_root same = no_root new tree moves.name.place (subst (PlaceLeadsTo new moves.name.place) (sym same) moves.name.leads)

  pub moves-name : AreParents new (set parents place directory)
  moves-name = record {
    count = length-set parents place directory ∙ are.count ∙ sym moves.count;
    named = named;
    rooted = λ p there. elsewhere p root there not_root ∙ are.rooted p (moves.nodes p root not_root there);
  }

pub each_move : EachMove
each_move old new parents moved place directory are own tree moves = moves-name old new parents moved place directory are own tree moves

pub each_kept : EachKept
each_kept old new parents are keeps = record {
  count = are.count ∙ sym keeps.count;
  named = λ p n of there has. are.named p n of (keeps.nodes p n there) (keeps.names of n has);
  rooted = λ p there. are.rooted p (keeps.nodes p root there);
}

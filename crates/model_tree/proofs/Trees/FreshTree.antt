-- The tree of a fresh volume is well formed.
use Rattle.std.proofs.Common.{ℕ, true, false, [], ◌≡◌, ◌<◌, ◌≤◌, inl, inr, refl, sym, ap, ◌∙◌, subst, arith, ne_eqb, le-leb, IsTrue, is_some}
use Rattle.std.specs.Prelude.{Some, None}
use Rattle.std.proofs.lemmas.Bool.{cases_eq}
use Rattle.model_tree.specs.Rights.Acl.{is_list_for}
use Rattle.model_tree.specs.Trees.Charge.{fits}
use Rattle.model_tree.specs.Trees.Fresh.{fresh_root, fresh_tree, FreshIsWellFormed}
use Rattle.model_tree.specs.Trees.Keyed.{at, is_key}
use Rattle.model_tree.specs.Trees.Limits.{Limits}
use Rattle.model_tree.specs.Trees.Tree.{Node, names_of, kind_of, root}
use Rattle.model_tree.specs.Trees.WellFormed.{IsFrom, Start, IsNode, AreNames, IsWellFormed, IsBefore, links_to, links_owed}
use Rattle.model_tree.proofs.Trees.KeyedLaws.{at-first, at-rest}

-- it has only the root
pub only_root : (number : ℕ) (node : Node) → at number fresh_tree ≡ Some node → (number ≡ 1) × (node ≡ fresh_root)
only_root number node is = elim (cases_eq number 1) [
  | inl one ↦ let same : Some node ≡ Some fresh_root = sym is ∙ at-first 1 number fresh_root [] one in (one, (cc))
  | inr other ↦ let none : None ≡ Some node = sym (at-rest 1 number fresh_root [] other) ∙ is in absurd (cc)
]

key_is_root : (number : ℕ) → is_key number fresh_tree ≡ true → number ≡ 1
key_is_root number is = elim (cases_eq number 1) [
  | inl one ↦ one
  | inr other ↦ absurd (let no : is_key number fresh_tree ≡ false = ap is_some (at-rest 1 number fresh_root [] other) in cc)
]

root_is_reached : (number : ℕ) → number ≡ 1 → IsFrom fresh_tree root number
root_is_reached number one = subst (λ n. IsFrom fresh_tree root n) (sym one) Start

no_links : (number : ℕ) → links_to fresh_tree number ≡ links_owed fresh_tree number
no_links number = elim (cases_eq number 1) [
  | inl one ↦ rw one refl
  | inr other ↦ rw (ne_eqb number 1 other) refl
]

one_entry : (limits : Limits) → 1 ≤ limits.aces → IsTrue (is_list_for limits.aces_set limits.aces (kind_of fresh_root.content) fresh_root.acl)
unfolding is_list_for
one_entry limits room = rw (le-leb 1 limits.aces room, le-leb 0 limits.aces_set (omega arith)) refl

pub no_names : (limits : Limits) → AreNames limits []
no_names limits = record {
  rising = tt;
  named = λ stamp entry is. let no : None ≡ Some entry = is in absurd (cc);
  once = λ name. omega arith;
}

fresh_fits : (limits : Limits) → 1 ≤ limits.nodes → IsTrue (fits limits fresh_tree)
unfolding fits
fresh_fits limits room = rw (le-leb 0 limits.data_sectors (omega arith), le-leb 1 limits.nodes room, le-leb 0 limits.names (omega arith)) refl

pub fresh_well_formed : (limits : Limits) → 1 ≤ limits.nodes → 1 ≤ limits.aces → IsWellFormed limits fresh_tree
fresh_well_formed limits nodes aces = record {
  numbered = (omega arith, tt);
  rooted = refl;
  linked = no_links;
  reached = λ number is. root_is_reached number (key_is_root number is);
  stamped = λ stamp. omega arith;
  nodes = λ number node is. subst (IsNode limits) (sym (only_root number node is).1)
      (record { entries = one_entry limits aces; content = no_names limits });
  fitting = fresh_fits limits nodes;
}

pub fresh_before : (stamp : ℕ) → 1 < stamp → IsBefore stamp fresh_tree
fresh_before stamp above = record {
  number = λ number node is. let one : number ≡ 1 = (only_root number node is).0 in omega arith;
  change = λ number node is. let change : node.change ≡ 1 = ap (λ n. n.change) (only_root number node is).1 in omega arith;
  entry = λ number node of entry is has.
      let none : names_of node.content ≡ [] = ap (λ n. names_of n.content) (only_root number node is).1 in
      let no : None ≡ Some entry = sym (ap (at of) none) ∙ has in absurd (cc);
}

pub fresh : (limits : Limits) → FreshIsWellFormed limits
fresh limits = record { well_formed = fresh_well_formed limits; before = fresh_before }

use Rattle.std.proofs.Common.{rules, None, ◌≡◌, IfSome, IfNone, ℕ, Option, subst, sym}
use Rattle.std.proofs.lemmas.List.Sorted.{answers_always}
use Rattle.model_tree.specs.Trees.Keyed.{at}
use Rattle.node_table.specs.Index.{IsAt}
use Rattle.node_table.proofs.IndexLaws.{searched, some_of, none_of}
use Rattle.node_table.proofs.index.entry_of.Goals as goal

pub returns-clause-some : goal.returns-clause-some
returns-clause-some c =
    let facts = c.binary_search_by_key.ensures in
    let ends = searched c.args.index.now c.requires c.args.number c.binary_search_by_key.result facts.bound (facts.position (λ entry. entry.0) (answers_always _ _ _ (λ f a r g called. search rules))) in
    subst (λ (found : Option ℕ). IfSome found (IsAt c.args.index.now c.args.number)) (sym c.ok.ensures.value) (some_of c.binary_search_by_key.result (IsAt c.args.index.now c.args.number) ends.found)

pub returns-clause-none : goal.returns-clause-none
returns-clause-none c =
    let facts = c.binary_search_by_key.ensures in
    let ends = searched c.args.index.now c.requires c.args.number c.binary_search_by_key.result facts.bound (facts.position (λ entry. entry.0) (answers_always _ _ _ (λ f a r g called. search rules))) in
    subst (λ (found : Option ℕ). IfNone found (at c.args.number c.args.index.now ≡ None)) (sym c.ok.ensures.value) (none_of c.binary_search_by_key.result (at c.args.number c.args.index.now ≡ None) ends.absent)

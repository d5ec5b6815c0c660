-- A change of one node keeps a tree well formed, and stamps it: bytes are written, a size or other
-- attributes are set.
use Rattle.std.proofs.Common.{ℕ, List, ◌++◌, ◌≡◌, ◌+◌, ◌-◌, ◌<◌, ◌≤◌, not, inl, inr, sym, ap, ◌∙◌, arith, is_some, length, take, drop, replicate, length-append}
use Rattle.std.specs.Prelude.{Some, None, All}
use Rattle.std.proofs.lemmas.Bool.{cases_eq}
use Rattle.std.proofs.lemmas.List.{length-take, length-drop, length-replicate}
use Rattle.std.proofs.lemmas.List.Elements.{All-append, All-take, All-drop, All-replicate}
use Rattle.model_tree.specs.Trees.Edit.{resized, overwritten, altered, altered_at}
use Rattle.model_tree.specs.Trees.Keyed.{at, is_key, with}
use Rattle.model_tree.specs.Trees.Limits.{Limits}
use Rattle.model_tree.specs.Trees.Tree.{Tree, Node, names_of, is_directory}
use Rattle.model_tree.specs.Trees.WellFormed.{IsNode, IsWellFormed, IsBefore}
use Rattle.model_tree.proofs.Trees.KeyedLaws.{at-with_same, with-with_same}
use Rattle.model_tree.proofs.Trees.ChangeLaws.{IsChanged, is_file_node, was_before}
use Rattle.model_tree.proofs.Trees.EditLaws.{forest_of, well_formed_of, at_other, which, replaced_names, replaced_forest}
use Rattle.model_tree.proofs.Trees.EditViews.{entry_before, named_in}

-- Bytes

pub resized_bytes : (bytes : List ℕ) (size : ℕ) → All (λ byte. byte < 256) bytes → All (λ byte. byte < 256) (resized bytes size)
resized_bytes bytes size are =
    let P : ℕ → Type 0 = λ byte. byte < 256 in
    All-append P (take size bytes) (replicate (size - length bytes) 0) (All-take P size bytes are)
    (All-replicate P (size - length bytes) 0 (omega arith))

pub length-resized : (bytes : List ℕ) (size : ℕ) → length (resized bytes size) ≡ size
length-resized bytes size =
    let whole = length-append (take size bytes) (replicate (size - length bytes) 0) in
    let prefix = length-take size bytes in
    let zeros = length-replicate {A = ℕ} (size - length bytes) 0 in
    omega (arith, whole, prefix, zeros)

pub overwritten_bytes : (bytes : List ℕ) (offset : ℕ) (part : List ℕ) → All (λ byte. byte < 256) bytes → All (λ byte. byte < 256) part
    → All (λ byte. byte < 256) (overwritten bytes offset part)
overwritten_bytes bytes offset part are more =
    let P : ℕ → Type 0 = λ byte. byte < 256 in
    All-append P (resized bytes offset) (part ++ drop (offset + length part) bytes) (resized_bytes bytes offset are)
    (All-append P part (drop (offset + length part) bytes) more (All-drop P (offset + length part) bytes are))

pub overwritten_within : (bytes : List ℕ) (offset : ℕ) (part : List ℕ) (most : ℕ) → length bytes ≤ most → offset + length part ≤ most
    → length (overwritten bytes offset part) ≤ most
overwritten_within bytes offset part most few within =
    let whole = length-append (resized bytes offset) (part ++ drop (offset + length part) bytes) in
    let rest = length-append part (drop (offset + length part) bytes) in
    let tail = length-drop (offset + length part) bytes in
    let prefix = length-resized bytes offset in
    omega arith

-- One node is another one

-- an edit of a node, and two of them
pub altered-once : (g : Node → Node) (tree : Tree) (place : ℕ) (old : Node) → at place tree ≡ Some old → altered g tree place ≡ with tree place (g old)
altered-once g tree place old there = ap (altered_at g tree place) there

pub altered-twice : (f g : Node → Node) (tree : Tree) (place : ℕ) (old : Node) → at place tree ≡ Some old
    → altered g (altered f tree place) place ≡ with tree place (g (f old))
altered-twice f g tree place old there =
    ap (λ t. altered g t place) (altered-once f tree place old there)
    ∙ (altered-once g (with tree place (f old)) place (f old) (at-with_same tree place (f old))
    ∙ with-with_same tree place (f old) (g (f old)))

module _ (limits : Limits) (tree : Tree) (well : IsWellFormed limits tree) (stamp : ℕ) (before : IsBefore stamp tree) (place : ℕ) (old : Node)
    (there : at place tree ≡ Some old) (new : Node) (is_node : IsNode limits new)
    (same_kind : is_directory new.content ≡ is_directory old.content) (same_names : names_of new.content ≡ names_of old.content)
    (change : new.change ≡ stamp) where
  abbrev after : Tree
  after = with tree place new

  some_node : (x y : Node) → Some x ≡ Some y → x ≡ y
  some_node x y same = cc

  pub replacement_keeps : IsChanged limits stamp tree after 0
  replacement_keeps =
      let forest = forest_of limits tree well in
      let names = replaced_names limits tree None forest place old there new is_node same_kind same_names in
      let low : old.change < stamp = before.change place old there in
      record {
        well_formed = λ fitting. well_formed_of limits after
            (replaced_forest limits tree None forest place old there new is_node same_kind same_names) fitting;
        before = λ bound order.
            let was = was_before stamp bound tree before order in
            record {
              number = which tree forest.numbered place old there new (λ number other. number < bound) (was.number place old there) was.number;
              change = which tree forest.numbered place old there new (λ number other. other.change < bound)
                  (let same = change in omega (arith, order)) was.change;
              entry = λ number node of entry is has. entry_before bound tree was number of entry
                  (sym (ap (at of) (names number)) ∙ named_in after number node is of entry has);
            };
        stamped = record {
          node = λ number node has. elim (cases_eq number place) [
            | inl one ↦ inr (
              ap (λ (n : Node). n.change) (sym (some_node new node (sym (at-with_same tree place new) ∙ (sym (ap (λ n. at n after) one) ∙ has)))) ∙ change,
              inl (ap (λ n. is_key n tree) one ∙ ap is_some there),
            )
            | inr apart ↦ inl (sym (at_other tree forest.numbered place old there new number apart) ∙ has)
          ];
          entry = λ number of entry has. inl (sym (ap (at of) (names number)) ∙ has);
        };
        differs = λ same.
            let one : new ≡ old = some_node new old (sym (at-with_same tree place new) ∙ (ap (at place) same ∙ there)) in
            let equal : new.change ≡ old.change = ap (λ (n : Node). n.change) one in
            absurd (omega (arith, change, low, equal));
        files = λ number off file. elim (cases_eq number place) [
          | inl one ↦ ap (λ n. is_file_node (at n after)) one ∙ (ap is_file_node (at-with_same tree place new)
              ∙ (ap not same_kind ∙ (sym (ap is_file_node there) ∙ (sym (ap (λ n. is_file_node (at n tree)) one) ∙ file))))
          | inr apart ↦ ap is_file_node (at_other tree forest.numbered place old there new number apart) ∙ file
        ];
      }

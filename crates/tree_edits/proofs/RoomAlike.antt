-- The size of each node decides what fits. So edits that change sizes alike leave the same room,
-- and which number a new node and its name get does not matter.
use Rattle.std.proofs.Common.{◌≡◌, ◌≢◌, ◌+◌, ◌&&◌, ◌⊎◌, ℕ, Bool, true, false, List, [], ◌∷◌, Option, Some, None, length, not, refl, sym, ap, ap₂, ◌∙◌, arith, inl, inr, zero-add}
use Rattle.std.proofs.lemmas.Bool.{cases_eq, lt-leb}
use Rattle.std.specs.Prelude.{nat_le, option_map, IsTrue}
use Rattle.tree_edits.specs.declared.edit.Edit.{Edit}
use Rattle.tree_edits.specs.declared.room.Size.{Size}
use Rattle.tree_edits.specs.Edits.{edit_of, edits_of}
use Rattle.tree_edits.specs.Measures.{AreMeasurable, CanMeasure}
use Rattle.tree_edits.specs.Sizes.{charge_of_size, edited_number, names_in, resized_by, size_at, size_of_content, size_there}
use Rattle.tree_edits.proofs.ChangeLaws.{ChangesOne, at_altered, change_altered, change_with}
use Rattle.tree_edits.proofs.KeyLaws.{Rises, length_with}
use Rattle.tree_edits.proofs.SizeLaws.{IsRising, behind, still_rising, charge_there, names_there}
use Rattle.model_tree.specs.declared.limits.Limits.{Limits}
use Rattle.model_tree.specs.declared.node.NodeKind.TheVariants as kind
use Rattle.model_tree.specs.Trees.Charge.{charge, few_names, fits}
use Rattle.model_tree.specs.Trees.Edit.{altered, done, edited, name_put}
use Rattle.model_tree.specs.Trees.Keyed.{at, total, with, worth_at}
use Rattle.model_tree.specs.Trees.Tree.{Tree, Node, DirEntry, File, is_directory_at, is_directory_node, names_at, names_of, names_of_node}
use Rattle.model_tree.specs.Trees.WellFormed.{one_if}
use Rattle.model_tree.proofs.Trees.KeyedLaws.{at-with_same}
use Rattle.model_tree.proofs.Trees.KeyedParts.{total-ones}

-- Trees whose nodes have the same sizes

-- the worth of a node depends only on its size
abbrev pub IsBySize : (Node → ℕ) → Type 0
IsBySize worth = (one two : Node) → size_of_content one.content ≡ size_of_content two.content → worth one ≡ worth two

abbrev pub SumsAlike : Tree → Tree → Type 0
SumsAlike tree other = (worth : Node → ℕ) → IsBySize worth → total worth tree ≡ total worth other

charge_by_size : IsBySize charge
charge_by_size one two same = charge_there (Some one) ∙ ap (λ (size : Size). charge_of_size (Some size)) same ∙ sym (charge_there (Some two))

-- 1 for a directory with too many names
abbrev over : (most : ℕ) → Node → ℕ
over most node = one_if (not (nat_le (length (names_of node.content)) most))

over_by_size : (most : ℕ) → IsBySize (over most)
over_by_size most one two same = ap (λ (count : ℕ). one_if (not (nat_le count most)))
    (names_there (Some one) ∙ ap (λ (size : Size). names_in (Some size)) same ∙ sym (names_there (Some two)))

few_by_sum : (most : ℕ) (tree : Tree) → few_names most tree ≡ nat_le (total (over most) tree) 0
few_by_sum most [] = refl
few_by_sum most (entry ∷ rest) = by_few (few_by_sum most rest) (nat_le (length (names_of entry.1.content)) most)
  where
    by_few : few_names most rest ≡ nat_le (total (over most) rest) 0 → (few : Bool) → few && few_names most rest ≡ nat_le (one_if (not few) + total (over most) rest) 0
    by_few others true = others ∙ ap (λ (sum : ℕ). nat_le sum 0) (sym (zero-add (total (over most) rest)))
    by_few others false = sym (lt-leb (1 + total (over most) rest) 0 (omega arith))

fits_by_sums : (limits : Limits) (tree other : Tree) → SumsAlike tree other → fits limits tree ≡ fits limits other
unfolding fits
fits_by_sums limits tree other alike =
    ap₂ (λ (low rest : Bool). low && rest) (ap (λ (sum : ℕ). nat_le sum limits.data_sectors) (alike charge charge_by_size))
    (ap₂ (λ (few names : Bool). few && names)
    (ap (λ (count : ℕ). nat_le count limits.nodes) (sym (total-ones tree) ∙ alike (λ (node : Node). 1) (λ one two same. refl) ∙ total-ones other))
    (few_by_sum limits.names tree ∙ ap (λ (sum : ℕ). nat_le sum 0) (alike (over limits.names) (over_by_size limits.names)) ∙ sym (few_by_sum limits.names other)))

worth_there : (worth : Node → ℕ) → IsBySize worth → (one two : Option Node) → size_there one ≡ size_there two → worth_at worth one ≡ worth_at worth two
worth_there worth is None None same = refl
worth_there worth is None (Some two) same = absurd cc
worth_there worth is (Some one) None same = absurd cc
worth_there worth is (Some one) (Some two) same = is one two (inside same)
  where
    inside : {x y : Size} → (let some : Option Size = Some x in some ≡ Some y) → x ≡ y
    inside e = cc

-- Edits that change sizes alike

pub record IsAlikeEdit (edit other : Edit) : Type 0 where
  pub number : edited_number edit ≡ edited_number other
  pub resized : (size : _) → resized_by edit size ≡ resized_by other size

abbrev pub AlikeEdits : List Edit → List Edit → Type 0
AlikeEdits [] [] = Unit {0}
AlikeEdits [] (other ∷ others) = ⊥
AlikeEdits (edit ∷ edits) [] = ⊥
AlikeEdits (edit ∷ edits) (other ∷ others) = IsAlikeEdit edit other × AlikeEdits edits others

record IsAlike (tree other : Tree) : Type 0 where
  sizes : (number : ℕ) → size_at tree number ≡ size_at other number
  sums : SumsAlike tree other

alike_done : (tree other : Tree) (edit same : Edit) → IsAlikeEdit edit same → CanMeasure tree edit → CanMeasure other same → IsRising tree → IsRising other → IsAlike tree other
    → IsAlike (done (edit_of edit) tree) (done (edit_of same) other)
alike_done tree other edit same is can could rising high alike = record {
  sizes = λ number. by_number number (cases_eq number (edited_number edit));
  sums = λ worth by.
      let one = behind tree edit can rising in
      let two = behind other same could high in
      omega (
        arith,
        one.one.sum worth,
        two.one.sum worth,
        alike.sums worth by,
        worth_there worth by (at (edited_number edit) tree) (at (edited_number same) other) was,
        worth_there worth by (at (edited_number edit) (done (edit_of edit) tree)) (at (edited_number same) (done (edit_of same) other)) now,
      );
}
  where
    was : size_at tree (edited_number edit) ≡ size_at other (edited_number same)
    was = alike.sizes (edited_number edit) ∙ ap (size_at other) is.number

    now : size_at (done (edit_of edit) tree) (edited_number edit) ≡ size_at (done (edit_of same) other) (edited_number same)
    now =
        let one = behind tree edit can rising in
        let two = behind other same could high in
        one.size ∙ ap (resized_by edit) was ∙ is.resized (size_at other (edited_number same)) ∙ sym two.size

    by_number : (number : ℕ) → (number ≡ edited_number edit) ⊎ (number ≢ edited_number edit) → size_at (done (edit_of edit) tree) number ≡ size_at (done (edit_of same) other) number
    by_number number (inl here) = ap (size_at (done (edit_of edit) tree)) here ∙ now ∙ ap (size_at (done (edit_of same) other)) (sym (here ∙ is.number))
    by_number number (inr off) =
        let one = behind tree edit can rising in
        let two = behind other same could high in
        ap size_there (one.one.other number off) ∙ alike.sizes number ∙ sym (ap size_there (two.one.other number (λ e. off (e ∙ sym is.number))))

room_from : (limits : Limits) (tree other : Tree) (edits others : List Edit) → AlikeEdits edits others → AreMeasurable tree edits → AreMeasurable other others → IsRising tree → IsRising other → IsAlike tree other
    → fits limits (edited (edits_of edits) tree) ≡ fits limits (edited (edits_of others) other)
room_from limits tree other [] [] is can could rising high alike = fits_by_sums limits tree other alike.sums
room_from limits tree other [] (same ∷ others) is can could rising high alike = absurd is
room_from limits tree other (edit ∷ edits) [] is can could rising high alike = absurd is
room_from limits tree other (edit ∷ edits) (same ∷ others) is can could rising high alike =
    room_from limits (done (edit_of edit) tree) (done (edit_of same) other) edits others is.1 can.1 could.1
    (still_rising tree edit can.0 rising) (still_rising other same could.0 high) (alike_done tree other edit same is.0 can.0 could.0 rising high alike)

pub same_room : (limits : Limits) (tree : Tree) (edits others : List Edit) → AlikeEdits edits others → AreMeasurable tree edits → AreMeasurable tree others → IsRising tree
    → fits limits (edited (edits_of edits) tree) ≡ fits limits (edited (edits_of others) tree)
same_room limits tree edits others is can could rising =
    room_from limits tree tree edits others is can could rising rising (record { sizes = λ number. refl; sums = λ worth by. refl })

-- A new node and its name in a directory, with any numbers that are not there

pub record AreNew (tree : Tree) (directory number stamp : ℕ) : Type 0 where
  pub fresh : at number tree ≡ None
  pub new_stamp : at stamp (names_at tree directory) ≡ None

abbrev pub made : Tree → (directory number stamp : ℕ) → Node → DirEntry → Tree
made tree directory number stamp node entry = altered (name_put stamp entry) (with tree number node) directory

module _ (tree : Tree) (rising : IsRising tree) (directory : ℕ) (there : IsTrue (is_directory_at tree directory)) where
  module _ (number stamp : ℕ) (node : Node) (entry : DirEntry) (new : AreNew tree directory number stamp) where
    one : ChangesOne number tree (with tree number node)
    one = change_with tree number node rising.rises

    two : ChangesOne directory (with tree number node) (made tree directory number stamp node entry)
    two = change_altered (name_put stamp entry) (with tree number node) directory one.rises

    apart : directory ≢ number
    apart same = never (at number tree) new.fresh (ap (λ (n : ℕ). is_directory_at tree n) (sym same) ∙ there)
      where
        never : (found : Option Node) → found ≡ None → IsTrue (is_directory_node found) → ⊥
        never None none has = absurd cc
        never (Some other) none has = absurd cc

    was : at directory (with tree number node) ≡ at directory tree
    was = one.other directory apart

    grown : (found : Option Node) → IsTrue (is_directory_node found) → Rises (names_of_node found) → at stamp (names_of_node found) ≡ None
        → size_there (option_map (name_put stamp entry) found) ≡ Some (record { kind = kind.Directory; count = length (names_of_node found) + 1 })
    grown None is rises none = absurd cc
    grown (Some other) is rises none = ap (λ (n : ℕ). let size : Size = record { kind = kind.Directory; count = n } in Some size) (length_with (names_of other.content) stamp entry rises none)

    size_grown : size_at (made tree directory number stamp node entry) directory ≡ Some (record { kind = kind.Directory; count = length (names_at tree directory) + 1 })
    size_grown = ap size_there (at_altered (name_put stamp entry) (with tree number node) directory ∙ ap (option_map (name_put stamp entry)) was)
        ∙ grown (at directory tree) there (rising.names directory) new.new_stamp

    sum : (worth : Node → ℕ) → total worth (made tree directory number stamp node entry) + worth_at worth (at directory tree)
        ≡ total worth tree + worth node + worth_at worth (at directory (made tree directory number stamp node entry))
    sum worth = omega (
      arith,
      one.sum worth,
      ap (worth_at worth) new.fresh,
      ap (worth_at worth) (at-with_same tree number node),
      two.sum worth,
      ap (worth_at worth) was,
    )

  -- they take the same room, whatever the numbers are
  pub made_room : (limits : Limits) (number stamp other another : ℕ) (node same : Node) (entry put : DirEntry) → AreNew tree directory number stamp → AreNew tree directory other another
      → size_of_content node.content ≡ size_of_content same.content → fits limits (made tree directory number stamp node entry) ≡ fits limits (made tree directory other another same put)
  made_room limits number stamp other another node same entry put new newer sized =
      let these = made tree directory number stamp node entry in
      let those = made tree directory other another same put in
      fits_by_sums limits these those (λ worth by. omega (
        arith,
        sum number stamp node entry new worth,
        sum other another same put newer worth,
        by node same sized,
        worth_there worth by (at directory these) (at directory those) (size_grown number stamp node entry new ∙ sym (size_grown other another same put newer)),
      ))

-- files with the same number of bytes have the same size
pub same_length : (bytes others : List ℕ) → length bytes ≡ length others → size_of_content (File bytes) ≡ size_of_content (File others)
same_length bytes others same = ap (λ (n : ℕ). let size : Size = record { kind = kind.File; count = n } in size) same

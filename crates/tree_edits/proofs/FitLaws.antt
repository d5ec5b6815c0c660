-- What fits, and that it does not depend on the bytes of files.
use Rattle.std.proofs.Common.{◌≡◌, ◌≤◌, ◌<◌, ℕ, Bool, true, false, length, refl, sym, ap, ap₂, ◌∙◌, le-leb}
use Rattle.std.proofs.lemmas.Bool.{lt-leb}
use Rattle.std.specs.Prelude.{nat_le, ◌&&◌}
use Rattle.tree_edits.specs.Outlines.{without_data}
use Rattle.tree_edits.specs.Sizes.{FitsAlike}
use Rattle.tree_edits.proofs.BlankLaws.{charge-without_data, length-without_data, few-without_data}
use Rattle.tree_edits.proofs.BlankLaws.{edits_blanked}
use Rattle.model_tree.specs.Trees.Charge.{charge, few_names, fits}
use Rattle.model_tree.specs.Trees.Edit.{edited}
use Rattle.model_tree.specs.Trees.Keyed.{total}
use Rattle.model_tree.specs.declared.limits.Limits.{Limits}
use Rattle.model_tree.specs.Trees.Tree.{Tree}

pub fits-without_data : (limits : Limits) (tree : Tree)
    → fits limits (without_data tree) ≡ fits limits tree
unfolding fits
fits-without_data limits tree = ap₂ (λ (low rest : Bool). low && rest) (ap (λ (n : ℕ). nat_le n limits.data_sectors) (charge-without_data tree))
    (ap₂ (λ (few names : Bool). few && names) (ap (λ (n : ℕ). nat_le n limits.nodes) (length-without_data tree)) (few-without_data limits.names tree))

pub fits_alike : FitsAlike
fits_alike limits tree other edits alike =
    sym (fits-without_data limits (edited edits other)) ∙ ap (fits limits) (sym (edits_blanked edits other))
    ∙ ap (λ (t : Tree). fits limits (without_data (edited edits t))) alike
    ∙ ap (fits limits) (edits_blanked edits tree) ∙ fits-without_data limits (edited edits tree)

and_false : (a : Bool) → a && false ≡ false
and_false true = refl
and_false false = refl

-- One part that fails is enough

pub too_charged : (limits : Limits) (tree : Tree) → limits.data_sectors < total charge tree → fits limits tree ≡ false
unfolding fits
too_charged limits tree over = ap (λ (low : Bool). low && (nat_le (length tree) limits.nodes && few_names limits.names tree)) (lt-leb (total charge tree) limits.data_sectors over)

pub too_many : (limits : Limits) (tree : Tree) → limits.nodes < length tree → fits limits tree ≡ false
unfolding fits
too_many limits tree over = ap (λ (few : Bool). nat_le (total charge tree) limits.data_sectors && (few && few_names limits.names tree)) (lt-leb (length tree) limits.nodes over)
    ∙ and_false (nat_le (total charge tree) limits.data_sectors)

-- and if two hold, the third decides
pub names_decide : (limits : Limits) (tree : Tree) → total charge tree ≤ limits.data_sectors → length tree ≤ limits.nodes → few_names limits.names tree ≡ fits limits tree
unfolding fits
names_decide limits tree low few = sym (ap₂ (λ (a b : Bool). a && (b && few_names limits.names tree)) (le-leb (total charge tree) limits.data_sectors low) (le-leb (length tree) limits.nodes few))

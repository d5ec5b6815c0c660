-- What a change's edits make of a volume's cached nodes: they can be done there, there is room for each, and the table may become what they leave.
use Rattle.std.proofs.Common.{◌≡◌, ◌+◌, ◌≤◌, ◌<◌, ◌&&◌, ℕ, zero, suc, List, [], ◌∷◌, Option, Some, length, take, get_or, sym, refl, ap, ◌∙◌, arith, ⊎_elim, subst}
use Rattle.std.proofs.Math.Logic.{∥∥₁_elim}
use Rattle.std.proofs.Props.{props}
use Rattle.std.specs.Prelude.{is_some, nat_le, IsTrue}
use Rattle.std.specs.List.{IsAmong}
use Rattle.std.proofs.lemmas.Bool.{and_parts, le-leb, leb-true}
use Rattle.node_table.specs.Overlays.{IsMade, CanBecome}
use Rattle.node_table.specs.Tables.{node_number_at, HaveOwnPlaces}
use Rattle.disk.specs.Moments.{Image}
use Rattle.tree_edits.specs.declared.edit.Edit.{Edit}
use Rattle.tree_edits.specs.Doing.{made_by, AreMade}
use Rattle.tree_edits.specs.Edits.{edit_of, edits_of, AreDoable, StayFew}
use Rattle.tree_edits.specs.Outlines.{without_data, tree_without_data}
use Rattle.tree_edits.proofs.BlankLaws.{each_outline, edits_blanked}
use Rattle.tree_edits.proofs.DoableLaws.{doable_alike, few_alike}
use Rattle.tree_edits.proofs.DoingLaws.{outline_fixed}
use Rattle.tree_edits.proofs.PlaceLaws.{there_at}
use Rattle.tree_edits.proofs.FitLaws.{fits-without_data}
use Rattle.tree_transaction.proofs.KnownLaws.{cached_at}
use Rattle.layout.specs.CachedNodes.{CachedNode, tree_of}
use Rattle.layout.specs.Known.{AreCached}
use Rattle.layout.specs.Laid.{AreNumbered}
use Rattle.layout.specs.Versions.{IsServed, data_end_by, limits_by, names_by}
use Rattle.layout.specs.declared.versions.VersionNumber.{VersionNumber}
use Rattle.layout.specs.declared.versions.VersionNumber.TheVariants as numbers
use Rattle.layout.proofs.Answering.{tree-has}
use Rattle.model_tree.specs.declared.limits.Limits.{Limits}
use Rattle.model_tree.specs.Trees.Charge.{charge, few_names, fits}
use Rattle.model_tree.specs.Trees.Edit.{done, edited}
use Rattle.model_tree.specs.Trees.Edit as model
use Rattle.model_tree.specs.Trees.Keyed.{at, total}
use Rattle.model_tree.specs.Trees.Tree.{Tree, names_of}
use Rattle.directory.specs.declared.names.TheConstants.Names.{MAX_NAMES}
use Rattle.volume.specs.Edits.{edited_by, prefix_of, named_by, IsChange}
use Rattle.volume.specs.Formed.{IsFormed}
use Rattle.volume.specs.VolumeState.{VolumeState}

-- Trees that are blanked alike are edited alike and fit alike

pub edited_alike : (edits : List model.Edit) (tree other : Tree) → without_data other ≡ without_data tree → without_data (edited edits other) ≡ without_data (edited edits tree)
edited_alike edits tree other alike = sym (edits_blanked edits other) ∙ ap (λ (t : Tree). without_data (edited edits t)) alike ∙ edits_blanked edits tree

pub fits_alike : (limits : Limits) (tree other : Tree) → without_data other ≡ without_data tree → fits limits other ≡ fits limits tree
fits_alike limits tree other alike = sym (fits-without_data limits other) ∙ ap (fits limits) alike ∙ fits-without_data limits tree

-- all trees of these cached nodes are blanked alike
pub outline_alike : (image : Image) (cached_nodes : List (Option CachedNode)) → without_data (tree_without_data cached_nodes) ≡ without_data (tree_of image cached_nodes)
outline_alike image cached_nodes = outline_fixed cached_nodes ∙ sym (each_outline image cached_nodes)

-- the cached nodes determine whether the tree after edits fits
pub fits_outline : (limits : Limits) (edits : List model.Edit) (image : Image) (cached_nodes : List (Option CachedNode))
    → fits limits (edited edits (tree_without_data cached_nodes)) ≡ fits limits (edited edits (tree_of image cached_nodes))
fits_outline limits edits image cached_nodes = fits_alike limits (edited edits (tree_of image cached_nodes)) (edited edits (tree_without_data cached_nodes))
    (edited_alike edits (tree_of image cached_nodes) (tree_without_data cached_nodes) (outline_alike image cached_nodes))

-- What a tree that fits has

pub record DoesFit (limits : Limits) (tree : Tree) : Type 0 where
  pub charge : total charge tree ≤ limits.data_sectors
  pub nodes : length tree ≤ limits.nodes
  pub few : IsTrue (few_names limits.names tree)

pub fit_parts : (limits : Limits) (tree : Tree) → IsTrue (fits limits tree) → DoesFit limits tree
unfolding fits
fit_parts limits tree fit =
    let all = and_parts (nat_le (total charge tree) limits.data_sectors) (nat_le (length tree) limits.nodes && few_names limits.names tree) fit in
    let both = and_parts (nat_le (length tree) limits.nodes) (few_names limits.names tree) all.1 in
    record {
      charge = leb-true (total charge tree) limits.data_sectors all.0;
      nodes = leb-true (length tree) limits.nodes both.0;
      few = both.1;
    }

-- so no directory of a well-formed tree has more names than the limit
pub few_formed : (limits : Limits) (at : ℕ) (cached_nodes : List (Option CachedNode)) → IsFormed limits at (tree_without_data cached_nodes) → IsTrue (few_names limits.names (tree_without_data cached_nodes))
few_formed limits at cached_nodes formed = ∥∥₁_elim formed.well_formed (Prim.hlevel props) (λ well.
    let fit = fit_parts limits (without_data (tree_without_data cached_nodes)) well.fitting in
    subst (λ (tree : Tree). IsTrue (few_names limits.names tree)) (outline_fixed cached_nodes) fit.few)

-- what stays within a lower number of names stays within a higher one
few_more : (least most : ℕ) → least ≤ most → (tree : Tree) → IsTrue (few_names least tree) → IsTrue (few_names most tree)
few_more least most low [] few = refl
few_more least most low (entry ∷ rest) few =
    let names = length (names_of entry.1.content) in
    let both = and_parts (nat_le names least) (few_names least rest) few in
    rw (le-leb names most (omega (arith, low, leb-true names least both.0)), few_more least most low rest both.1) refl

-- no directory has more than 1,024
names_most : (version : VersionNumber) → IsServed version → names_by version ≤ MAX_NAMES
names_most numbers.One served = absurd served
names_most numbers.Two served = omega arith
names_most (numbers.Three s) served = served.fits.limits.max_names

few_prefixes : (limits : Limits) → limits.names ≤ MAX_NAMES → (edits : List Edit) (tree : Tree)
    → ((count : ℕ) → IsTrue (fits limits (edited (take count (edits_of edits)) tree))) → StayFew tree edits
few_prefixes limits names [] tree prefixes = tt
few_prefixes limits names (edit ∷ edits) tree prefixes = (
  few_more limits.names MAX_NAMES names (done (edit_of edit) tree) (first (edits_of edits) (prefixes 1)),
  few_prefixes limits names edits (done (edit_of edit) tree) (λ count. prefixes (suc count)),
)
  where
    first : (rest : List model.Edit) → IsTrue (fits limits (edited (take 1 (edit_of edit ∷ rest)) tree)) → IsTrue (few_names limits.names (done (edit_of edit) tree))
    first rest fit = (let is = fit_parts limits (done (edit_of edit) tree) fit in is.few)

-- A change over the cached nodes of a volume

module _ (held : VolumeState) (edits : List Edit) (change : IsChange held edits) (image : Image) (cached_nodes : List (Option CachedNode)) (tree_is : held.tree ≡ tree_of image cached_nodes) where
  pub outline_held : without_data (tree_without_data cached_nodes) ≡ without_data held.tree
  outline_held = outline_alike image cached_nodes ∙ ap without_data (sym tree_is)

  -- its edits can be done there
  pub outline_doable : AreDoable (tree_without_data cached_nodes) edits
  outline_doable = doable_alike held.tree (tree_without_data cached_nodes) edits outline_held change.doable

  module _ (version : VersionNumber) (served : IsServed version) (sectors nodes places : ℕ) (limits_are : held.limits ≡ limits_by version sectors nodes)
      (whole : data_end_by version sectors ≡ 148 + nodes + places)
      (fit : IsTrue (fits held.limits (edited_by held edits))) where
    -- with few names
    pub outline_few : StayFew (tree_without_data cached_nodes) edits
    outline_few = few_alike held.tree (tree_without_data cached_nodes) edits outline_held
        (few_prefixes held.limits (rw limits_are (names_most version served)) edits held.tree (λ count. change.prefixes count fit))

    -- and there is room after each of them
    prefix_fits : (count : ℕ) → DoesFit (limits_by version sectors nodes) (edited (take count (edits_of edits)) (tree_without_data cached_nodes))
    prefix_fits count = fit_parts (limits_by version sectors nodes) (edited (take count (edits_of edits)) (tree_without_data cached_nodes))
        (subst (λ (limits : Limits). IsTrue (fits limits (edited (take count (edits_of edits)) (tree_without_data cached_nodes)))) limits_are
        (fits_alike held.limits (prefix_of held edits count) (edited (take count (edits_of edits)) (tree_without_data cached_nodes))
        (edited_alike (take count (edits_of edits)) held.tree (tree_without_data cached_nodes) outline_held) ∙ change.prefixes count fit))

    pub prefix_room : (count : ℕ) → (total charge (edited (take count (edits_of edits)) (tree_without_data cached_nodes)) ≤ places)
        × (length (edited (take count (edits_of edits)) (tree_without_data cached_nodes)) ≤ nodes)
    prefix_room count =
        let is = prefix_fits count in
        let few = is.charge in
        (omega (arith, few, whole), is.nodes)

-- What the table may become

only_one : (first : ℕ) (rest : List ℕ) → length (first ∷ rest) ≤ 1 → (number i : ℕ) → i < length (first ∷ rest) → number ≡ get_or (first ∷ rest) i number → number ≡ first
only_one first rest one number zero less is = is
only_one first rest one number (suc i) less is = absurd (omega (arith, one, less))

pub one_number : (numbers : List ℕ) → length numbers ≤ 1 → (number other : ℕ) → IsAmong numbers number → IsAmong numbers other → number ≡ other
one_number [] one number other among too = absurd (omega (arith, among.1.0))
one_number (first ∷ rest) one number other among too =
    only_one first rest one number among.0 among.1.0 among.1.1 ∙ sym (only_one first rest one other too.0 too.1.0 too.1.1)

module _ (held : VolumeState) (edits : List Edit) (change : IsChange held edits) (image : Image) (old new : List (Option CachedNode)) (tree_is : held.tree ≡ tree_of image old)
    (are_made : AreMade old new (made_by edits)) where
  -- at most one node is made
  few_made : length (made_by edits) ≤ 1
  few_made = ⊎_elim (λ (none : made_by edits ≡ []). (let count : length (made_by edits) ≡ 0 = ap (λ (numbers : List ℕ). length numbers) none in omega (arith, count)))
      (λ (is : made_by edits ≡ named_by edits). (let count : length (made_by edits) ≡ length (named_by edits) = ap (λ (numbers : List ℕ). length numbers) is in omega (arith, count, change.named)))
      change.made

  made_among : (place number : ℕ) → IsMade old new place number → IsAmong (made_by edits) number
  made_among place number is = ⊎_elim (λ (stood : node_number_at old place ≡ Some number). absurd (is.before stood)) (λ (among : IsAmong (made_by edits) number). among)
      (are_made place number is.now)

  -- of a number above those of all nodes
  made_above : AreNumbered old → (number : ℕ) → IsAmong (made_by edits) number → (place other : ℕ) → node_number_at old place ≡ Some other → other < number
  made_above apart number among place other stands =
      let it = there_at old place other stands in
      change.fresh number among other (ap is_some (ap (at other) tree_is ∙ ap (λ (n : ℕ). at n (tree_of image old)) (sym it.number_is) ∙ tree-has image old place it.cached apart it.there))

  pub can_settle : (nodes : ℕ) (mark marked : ℕ → ℕ) → AreCached nodes mark old → AreCached nodes marked new → HaveOwnPlaces new → CanBecome old new
  can_settle nodes mark marked known new_known own = record {
    fresh = λ place number is. (let it = there_at new place number is.now in let cached_node = cached_at nodes marked new place it.cached new_known it.there in let some = cached_node.number in record {
      some = omega (arith, some, it.number_is);
      above = made_above known.apart number (made_among place number is);
    });
    one = λ place number other another is too.
        own place other number is.now (too.now ∙ ap (λ (n : ℕ). Some n) (one_number (made_by edits) few_made another number (made_among other another too) (made_among place number is)));
  }

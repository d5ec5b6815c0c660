-- A cached node that is held is the one that is read.
use Rattle.std.proofs.Common.{◌≡◌, ◌≤◌, ◌<◌, ◌+◌, ◌-◌, ◌*◌, ℕ, zero, suc, List, [], ◌∷◌, ◌++◌, Option, Some, None, length, get_or, take, drop, min, refl, sym, ap, ap₂, ◌∙◌, arith, subst}
use Rattle.std.specs.List.{AllByRecursion}
use Rattle.std.proofs.lemmas.List.{length-take, length-drop, drop-drop, take-append-drop}
use Rattle.std.proofs.lemmas.List.FromFn.{fill_by_all}
use Rattle.disk.specs.Moments.{Image}
use Rattle.disk.specs.Calls.{zero_sector}
use Rattle.model_tree.specs.declared.node.NodeKind.{NodeKind}
use Rattle.model_tree.specs.declared.node.NodeKind.TheVariants as kind
use Rattle.model_tree.specs.Trees.Charge.{divided_up, blocks_of}
use Rattle.inode.specs.declared.node.Form.{Form}
use Rattle.inode.specs.declared.node.Form.TheVariants.{One, Two}
use Rattle.inode.specs.Fields.{Fields}
use Rattle.inode.specs.Encoding.{inode_sector}
use Rattle.extents.specs.declared.run.Run.{Run}
use Rattle.extents.specs.Runs.{sector_by, AreRunsOf}
use Rattle.extents.specs.Sector.{run_sector, IsRun}
use Rattle.directory.specs.Records.{Record, IsRecord}
use Rattle.directory.specs.Encoding.{directory_sector}
use Rattle.directory.specs.Reading.{records_in}
use Rattle.extents.specs.Reading.{runs_in}
use Rattle.inode.specs.Reading.{fields_in, form_in}
use Rattle.layout.specs.CachedNodeLaws.{CachedReadsBack, CachedNodesReadBack, OnlyCached, OnlyCachedNodes}
use Rattle.layout.specs.CachedNodes.{CachedNode, node_sector, content_at, runs_through, names_through, names_from, blocks_by, block_count, cached_by, cached_with, cached_from, cached_in, cached_nodes_in}
use Rattle.layout.specs.Laid.{AreRunSectors, runs_of_sector, names_of_block, HoldsContent, HoldsCached, HoldsPlace}
use Rattle.layout.specs.Stands.{IsLaid}
use Rattle.inode.proofs.ReadBack.{fields-back, form-back}
use Rattle.extents.proofs.ReadBack.{runs-back}
use Rattle.directory.proofs.ReadBack.{records-back}

-- if all elements of a list have P, so have those of each part
all-take : {A : Type 0} (P : A → Type 0) (n : ℕ) (xs : List A) → AllByRecursion P xs → AllByRecursion P (take n xs)
all-take P zero xs all = tt
all-take P (suc n) [] all = tt
all-take P (suc n) (x ∷ xs) all = (all.0, all-take P n xs all.1)

all-drop : {A : Type 0} (P : A → Type 0) (n : ℕ) (xs : List A) → AllByRecursion P xs → AllByRecursion P (drop n xs)
all-drop P zero xs all = all
all-drop P (suc n) [] all = tt
all-drop P (suc n) (x ∷ xs) all = all-drop P n xs all.1

runs_through-back : (image : Image) (sectors : List ℕ) (runs : List Run) → AllByRecursion IsRun runs → length runs ≤ 500 * length sectors → AreRunSectors image sectors runs → runs_through image (length runs) sectors ≡ runs
runs_through-back image [] [] all few are = refl
runs_through-back image [] (run ∷ runs) all few are = absurd (omega arith)
runs_through-back image (sector ∷ sectors) runs all few are =
    let first : runs_in (min 500 (length runs)) (image sector) ≡ take 500 runs =
    ap₂ runs_in (sym (length-take 500 runs)) (are 0 (omega arith)) ∙ runs-back (take 500 runs) (all-take IsRun 500 runs all) in
    let moved : (i : ℕ) → runs_of_sector (suc i) runs ≡ runs_of_sector i (drop 500 runs) =
    λ i. let e : 500 * suc i ≡ 500 + 500 * i = omega arith in ap (λ (k : ℕ). take 500 (drop k runs)) e ∙ ap (take 500) (sym (drop-drop (500 * i) 500 runs)) in
    let others : runs_through image (length runs - 500) sectors ≡ drop 500 runs =
    ap (λ (n : ℕ). runs_through image n sectors) (sym (length-drop 500 runs))
    ∙ runs_through-back image sectors (drop 500 runs) (all-drop IsRun 500 runs all) (omega (arith, length-drop 500 runs))
    (λ i h. are (suc i) (omega arith) ∙ ap run_sector (moved i)) in
    ap₂ (λ (a b : List Run). a ++ b) first others ∙ take-append-drop 500 runs

names_through-back : (image : Image) (blocks : List (Option ℕ)) (names : List Record) → AllByRecursion IsRecord names → length names ≤ 15 * length blocks
    → ((i : ℕ) → i < length blocks → content_at image (get_or blocks i None) ≡ directory_sector (names_of_block i names)) → names_through image (length names) blocks ≡ names
names_through-back image [] [] all few encoded = refl
names_through-back image [] (x ∷ names) all few encoded = absurd (omega arith)
names_through-back image (block ∷ blocks) names all few encoded =
    let first : records_in (min 15 (length names)) (content_at image block) ≡ take 15 names =
    ap₂ records_in (sym (length-take 15 names)) (encoded 0 (omega arith)) ∙ records-back (take 15 names) (all-take IsRecord 15 names all) in
    let moved : (i : ℕ) → names_of_block (suc i) names ≡ names_of_block i (drop 15 names) =
    λ i. let e : 15 * suc i ≡ 15 + 15 * i = omega arith in ap (λ (k : ℕ). take 15 (drop k names)) e ∙ ap (take 15) (sym (drop-drop (15 * i) 15 names)) in
    let others : names_through image (length names - 15) blocks ≡ drop 15 names =
    ap (λ (n : ℕ). names_through image n blocks) (sym (length-drop 15 names))
    ∙ names_through-back image blocks (drop 15 names) (all-drop IsRecord 15 names all) (omega (arith, length-drop 15 names))
    (λ i h. encoded (suc i) (omega arith) ∙ ap directory_sector (moved i)) in
    ap₂ (λ (a b : List Record). a ++ b) first others ∙ take-append-drop 15 names

blocks-back : (runs : List Run) (blocks : List (Option ℕ)) (count : ℕ) → AreRunsOf runs blocks → length blocks ≡ count → blocks_by runs count ≡ blocks
blocks-back runs blocks count are many = sym (fill_by_all (sector_by runs) blocks count None many (λ k h. are.same k))

enough : (n count : ℕ) → count ≡ divided_up n 15 → n ≤ 15 * count
enough n count is = omega arith

names_from-back : (image : Image) (kind : NodeKind) (cached_node : CachedNode) → kind ≡ cached_node.fields.kind → length cached_node.blocks ≡ block_count cached_node.fields → HoldsContent image kind cached_node → names_from image kind cached_node.fields.size cached_node.blocks ≡ cached_node.names
names_from-back image kind.File cached_node is many holds = sym holds.unnamed
names_from-back image kind.Directory cached_node is many holds =
    let counted : block_count cached_node.fields ≡ divided_up cached_node.fields.size 15 = ap (λ (k : NodeKind). blocks_of k cached_node.fields.size) (sym is) in
    let few : length cached_node.names ≤ 15 * length cached_node.blocks = enough (length cached_node.names) (length cached_node.blocks) (many ∙ counted ∙ ap (λ (n : ℕ). divided_up n 15) (sym holds.count)) in
    ap (λ (n : ℕ). names_through image n cached_node.blocks) (sym holds.count) ∙ names_through-back image cached_node.blocks cached_node.names holds.names.each few holds.encoded

same_cached : (image : Image) (cached_node : CachedNode) (runs : List Run) (blocks : List (Option ℕ)) → runs ≡ cached_node.runs → blocks ≡ cached_node.blocks → names_from image cached_node.fields.kind cached_node.fields.size cached_node.blocks ≡ cached_node.names → cached_by image cached_node.form cached_node.fields runs blocks ≡ cached_node
same_cached image cached_node runs blocks a b c = rw (a, b, c) refl

pub starts : (form : Form) (fields : Fields) → get_or (inode_sector form fields) 0 0 ≡ 78
unfolding inode_sector
starts One fields = refl
starts Two fields = refl

module _ (image : Image) (place : ℕ) (cached_node : CachedNode) (holds : HoldsCached image place cached_node) where
  from-back : cached_from image cached_node.form cached_node.fields ≡ cached_node
  from-back =
      let runs : runs_through image cached_node.fields.runs cached_node.fields.run_sectors ≡ cached_node.runs =
      ap (λ (n : ℕ). runs_through image n cached_node.fields.run_sectors) (sym holds.node.run_count) ∙ runs_through-back image cached_node.fields.run_sectors cached_node.runs holds.node.each_run (omega (arith, holds.node.run_count, holds.node.fits.run_sectors)) holds.node.run_sectors in
      let blocks : blocks_by cached_node.runs (block_count cached_node.fields) ≡ cached_node.blocks = blocks-back cached_node.runs cached_node.blocks (block_count cached_node.fields) holds.node.runs holds.node.blocks in
      ap (cached_with image cached_node.form cached_node.fields) runs ∙ same_cached image cached_node cached_node.runs _ refl blocks (names_from-back image cached_node.fields.kind cached_node refl holds.node.blocks holds.content)

  fields_there : fields_in (image (node_sector place)) ≡ cached_node.fields
  fields_there = ap fields_in holds.node.sector ∙ fields-back cached_node.form cached_node.fields holds.node.fits

  form_there : form_in (image (node_sector place)) ≡ cached_node.form
  form_there = ap form_in holds.node.sector ∙ form-back cached_node.form cached_node.fields

  first_there : get_or (image (node_sector place)) 0 0 ≡ 78
  first_there = ap (λ (s : List ℕ). get_or s 0 0) holds.node.sector ∙ starts cached_node.form cached_node.fields

pub zero_first : get_or zero_sector 0 0 ≡ 0
unfolding zero_sector
zero_first = refl

pub cached-back : CachedReadsBack
unfolding cached_in
cached-back image place None holds = rw (ap (λ (s : List ℕ). get_or s 0 0) holds ∙ zero_first) refl
cached-back image place (Some cached_node) holds = rw (first_there image place cached_node holds, form_there image place cached_node holds, fields_there image place cached_node holds, from-back image place cached_node holds) refl

pub cached_nodes-back : CachedNodesReadBack
unfolding cached_nodes_in
cached_nodes-back image nodes cached_nodes many held = sym (fill_by_all (cached_in image) cached_nodes nodes None many (λ place h. sym (cached-back image place (get_or cached_nodes place None) (held place h))))

-- what holds some cached node holds the one that is read
pub only_cached : OnlyCached
only_cached image place cached_node holds = subst (HoldsPlace image place) (sym (cached-back image place cached_node holds)) holds

pub only_cached_nodes : OnlyCachedNodes
only_cached_nodes version size nodes image cached_nodes laid =
    subst (IsLaid version size nodes image) (sym (cached_nodes-back image nodes cached_nodes laid.laid.count laid.laid.held)) laid

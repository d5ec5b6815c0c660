-- A transaction whose marks are written.
use Rattle.std.proofs.Common.{◌≡◌, ◌≤◌, ◌<◌, ◌+◌, ◌-◌, ◌*◌, ℕ, Bool, false, List, Option, length, refl, sym, ap, ap₂, ◌∙◌, arith, subst, inl, inr, zero-add, ltb, le-ltb}
use Rattle.std.proofs.lemmas.Bool.{cases_lt}
use Rattle.std.proofs.lemmas.List.{get_or_past}
use Rattle.disk.specs.Moments.{Image, applied}
use Rattle.disk.specs.declared.update.Update.{Update}
use Rattle.freemap.specs.Places.{bit_from, bit_of, bit_in, mark_of, ShowsPlaces}
use Rattle.freemap.proofs.Bits.{low_bit, high_bit}
use Rattle.freemap.proofs.PartLaws.{also_marked}
use Rattle.layout.specs.CachedNodes.{CachedNode, node_sector, tree_of}
use Rattle.layout.specs.Laid.{AreLaid}
use Rattle.layout.specs.Marks.{mark_in, mark_by}
use Rattle.layout.specs.declared.versions.Marking.TheVariants.{InSectors, AsNamed}
use Rattle.std.specs.Prelude.{IsTrue}
use Rattle.layout.specs.Stands.{Version, HasRegion, HaveForms, IsLaid}
use Rattle.layout.proofs.MarkProofs.{lays_marks, tree_still, bit_of-past}
use Rattle.tree_transaction.specs.Blocks.{IsSectorPut}
use Rattle.tree_transaction.specs.Whole.{IsMarked, ShowsPart}
use Rattle.tree_transaction.specs.Updates.{AreBetween}
use Rattle.tree_transaction.proofs.BlockLaws.{here, elsewhere}
use Rattle.tree_transaction.proofs.UpdateLaws.{applied-other, between-one}

-- ---- one bitmap sector

pub written_part : (old new : Image) (before places : List Bool) (part : ℕ) (content : List ℕ) → ShowsPlaces content places (32768 * part) → IsSectorPut old new (98 + part) content → ShowsPart old new before places part
written_part old new before places part content shows is = record {
  shows = inl (subst (λ (s : List ℕ). ShowsPlaces s places (32768 * part)) (sym (here old new (98 + part) content is)) shows);
  others = elsewhere old new (98 + part) content is;
}

module _ (old new : Image) (before places : List Bool) (part : ℕ) (is : ShowsPart old new before places part) where
  part_marked : ((i : ℕ) → i < 32768 → bit_of (old (98 + part)) i ≡ mark_of before (32768 * part + i)) → (i : ℕ) → i < 32768 → bit_of (new (98 + part)) i ≡ mark_of places (32768 * part + i)
  part_marked was i h = elim is.shows [
    | inl shows ↦ shows.bits i h
    | inr kept ↦ also_marked (new (98 + part)) places before (32768 * part) kept.1 (λ k l. ap (λ (s : List ℕ). bit_of s k) kept.0 ∙ was k l) i h
  ]

  past_marked : ((i : ℕ) → 32768 ≤ i → bit_of (old (98 + part)) i ≡ 0) → (i : ℕ) → 32768 ≤ i → bit_of (new (98 + part)) i ≡ 0
  past_marked was i h = elim is.shows [
    | inl shows ↦ bit_of-past (new (98 + part)) i shows.len h
    | inr kept ↦ ap (λ (s : List ℕ). bit_of s i) kept.0 ∙ was i h
  ]

-- ---- both of them

-- past the places no bit is set
mark_past : (places : List Bool) (i : ℕ) → length places ≤ 65536 → 65536 ≤ i → mark_of places i ≡ 0
mark_past places i few h = ap bit_from (get_or_past places i false (omega arith))

module _ (old mid new : Image) (before places : List Bool) (marked : IsMarked old before) (few : length places ≤ 65536) (low : ShowsPart old mid before places 0) (high : ShowsPart mid new before places 1) where
  low_marked : (i : ℕ) → i < 32768 → bit_of (new 98) i ≡ mark_of places i
  low_marked i h =
      ap (λ (s : List ℕ). bit_of s i) (high.others 98 (omega arith))
      ∙ part_marked old mid before places 0 low (λ k l. low_bit (old 98) (old 99) k l ∙ marked.bits k ∙ ap (mark_of before) (sym (zero-add k))) i h ∙ ap (mark_of places) (zero-add i)

  second : (i : ℕ) → bit_of (mid 99) i ≡ mark_of before (32768 + i)
  second i = ap (λ (s : List ℕ). bit_of s i) (low.others 99 (omega arith)) ∙ high_bit (old 98) (old 99) i ∙ marked.bits (32768 + i)

  high_marked : (i : ℕ) → bit_of (new 99) i ≡ mark_of places (32768 + i)
  high_marked i = elim (cases_lt i 32768) [
    | inl lt ↦ part_marked mid new before places 1 high (λ k l. second k) i lt
    | inr le ↦
        past_marked mid new before places 1 high (λ k l. second k ∙ mark_past before (32768 + k) marked.few (omega arith)) i le
        ∙ sym (mark_past places (32768 + i) few (omega arith))
  ]

  both_marked : (i : ℕ) → bit_in (new 98) (new 99) i ≡ mark_of places i
  both_marked i = elim (cases_lt i 32768) [
    | inl lt ↦ sym (low_bit (new 98) (new 99) i lt) ∙ low_marked i lt
    | inr le ↦
        let place : i ≡ 32768 + (i - 32768) = omega arith in
        rw place (sym (high_bit (new 98) (new 99) (i - 32768)) ∙ high_marked (i - 32768))
  ]

-- the marks of all sectors are those of the places

pub marked_by : (nodes : ℕ) (image : Image) (places : List Bool) → length places ≤ 65536 → ((n : ℕ) → mark_in nodes image n ≡ mark_by (148 + nodes) places n) → IsMarked image places
unfolding mark_in mark_by
marked_by nodes image places few marks = record {
  few = few;
  bits = λ i.
      let there : ltb (148 + nodes + i) (148 + nodes) ≡ false = le-ltb (148 + nodes + i) (148 + nodes) (omega arith) in
      let place : 148 + nodes + i - (148 + nodes) ≡ i = omega arith in
      rw (there, place) at (marks (148 + nodes + i));
}

module _ (nodes size : ℕ) (version : Version) (old mid new : Image) (before places : List Bool) (cached_nodes : List (Option CachedNode)) (laid : AreLaid nodes old (mark_by (148 + nodes) places) cached_nodes)
    (low : ShowsPart old mid before places 0) (high : ShowsPart mid new before places 1) where
  same : (n : ℕ) → 100 ≤ n → new n ≡ old n
  same n h = high.others n (omega arith) ∙ low.others n (omega arith)

  pub tree_same : tree_of new cached_nodes ≡ tree_of old cached_nodes
  tree_same = tree_still nodes old new (mark_by (148 + nodes) places) (mark_by (148 + nodes) places) cached_nodes laid (λ n. refl)
      (λ place h. same (node_sector place) (omega arith)) (λ n some. same n (let far = laid.behind n some in omega arith))

  pub marks_written : version.data_end size ≡ 148 + nodes + length places → length places ≤ 65536 → HaveForms version cached_nodes → version.marking ≡ InSectors → HasRegion version size nodes → ((n : ℕ) → IsTrue (version.is_spare n) → old n ≡ version.spare n) → IsMarked old before → IsLaid version size nodes new cached_nodes
  marks_written end_is few forms in_sectors region spare marked = lays_marks version size nodes old new places cached_nodes (record {
    end_is = end_is;
    laid = laid;
    forms = forms;
    spare = λ n is. (let beside = region.spare n is in same n (beside.unmarked in_sectors) ∙ spare n is);
    same = same;
    marked = λ is_so. both_marked old mid new before places marked few low high;
  })

-- where nothing marks them but the nodes, nothing is written
pub named_laid : (nodes size : ℕ) (version : Version) (image : Image) (places : List Bool) (cached_nodes : List (Option CachedNode)) → AreLaid nodes image (mark_by (148 + nodes) places) cached_nodes → version.marking ≡ AsNamed → version.data_end size ≡ 148 + nodes + length places → HaveForms version cached_nodes
    → ((n : ℕ) → IsTrue (version.is_spare n) → image n ≡ version.spare n) → IsLaid version size nodes image cached_nodes
named_laid nodes size version image places cached_nodes laid named end_is forms spare = lays_marks version size nodes image image places cached_nodes (record {
  end_is = end_is;
  laid = laid;
  forms = forms;
  spare = spare;
  same = λ n h. refl;
  marked = λ in_sectors. absurd (let no : InSectors ≡ AsNamed = sym in_sectors ∙ named in cc);
})

-- ---- which sectors are updated

pub prefix_still : (updates : List Update) (end : ℕ) (base : Image) (n : ℕ) → AreBetween 148 end updates → n < 148 → applied updates base n ≡ base n
prefix_still updates end base n between low = applied-other updates base n (λ i h at. let b = between i h in omega (arith, b.0))

-- nor are spare sectors
pub spare_still : (version : Version) (size nodes : ℕ) (updates : List Update) (end : ℕ) (base : Image) → HasRegion version size nodes → version.data_end size ≡ end → AreBetween 148 end updates
    → ((n : ℕ) → IsTrue (version.is_spare n) → base n ≡ version.spare n) → (n : ℕ) → IsTrue (version.is_spare n) → applied updates base n ≡ version.spare n
spare_still version size nodes updates end base region ends between spare n is =
    let beside = region.spare n is in
    applied-other updates base n (λ i h at. let b = between i h in let far = beside.apart (omega (arith, b.0, at)) in omega (arith, b.1, at, far, ends)) ∙ spare n is

-- the bitmap sectors are not among them before their turn
pub marked_below : (updates : List Update) (end : ℕ) (base : Image) (places : List Bool) → AreBetween 148 end updates → IsMarked base places → IsMarked (applied updates base) places
marked_below updates end base places between marked = record {
  few = marked.few;
  bits = λ i. ap₂ (λ (low high : List ℕ). bit_in low high i) (prefix_still updates end base 98 between (omega arith)) (prefix_still updates end base 99 between (omega arith)) ∙ marked.bits i;
}

pub marks_between : (end part : ℕ) (old new : List Update) (before places : List Bool) → part < 2 → 148 ≤ end → ((image : Image) → ShowsPart (applied old image) (applied new image) before places part) → AreBetween 98 end old → AreBetween 98 end new
marks_between end part old new before places few long shows between = between-one 98 end old new (98 + part) (omega arith) (omega arith) (λ image n off. let one = shows image in one.others n off) between

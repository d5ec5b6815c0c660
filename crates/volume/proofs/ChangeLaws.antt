-- What a change leaves of a volume's sectors.
use Rattle.std.proofs.Common.{◌≡◌, ◌≢◌, ◌≤◌, ◌<◌, ◌+◌, ℕ, zero, suc, Bool, false, List, [], ◌∷◌, Option, None, length, get_or, refl, sym, ap, ap₂, ◌∙◌, subst, arith, inl, inr}
use Rattle.std.proofs.Math.Logic.{∥∥₁_elim, ∥∥₁_map, ∥∥₁_prop}
use Rattle.std.proofs.lemmas.Bool.{cases_eq}
use Rattle.std.proofs.Props.{props}
use Rattle.std.specs.Prelude.{IsTrue}
use Rattle.node_table.specs.Overlays.{CanBecome}
use Rattle.node_table.specs.Tables.{HaveOwnPlaces}
use Rattle.disk.specs.Moments.{Image, applied}
use Rattle.disk.specs.declared.update.Update.{Update}
use Rattle.tree_transaction.specs.Updates.{target_of, UpdatesApart, HasNoUpdate, AreTreeUpdates}
use Rattle.inode.specs.declared.node.Form.TheVariants as forms
use Rattle.tree_transaction.specs.Whole.{bitmap_sectors}
use Rattle.tree_transaction.specs.declared.transaction.PreparedTransaction.{PreparedTransaction}
use Rattle.tree_transaction.proofs.UpdateLaws.{applied-other}
use Rattle.tree_edits.specs.declared.edit.Edit.{Edit}
use Rattle.tree_edits.specs.Edits.{edits_of}
use Rattle.tree_edits.specs.Outcomes.{ComesTo, IsWholeVolume, LaysEditedTree, cached_nodes_after, end_by}
use Rattle.tree_edits.specs.Outlines.{without_data, tree_without_data}
use Rattle.tree_edits.proofs.BlankLaws.{each_outline}
use Rattle.tree_edits.proofs.PlaceLaws.{there_at}
use Rattle.journal.specs.Layout as journal
use Rattle.journal.specs.Layout.{targets}
use Rattle.journal.specs.Log.{Log, contents}
use Rattle.journal.proofs.Images.{length-targets}
use Rattle.layout.specs.CachedNodes.{CachedNode, tree_of, cached_nodes_in}
use Rattle.layout.specs.Known.{AreCached}
use Rattle.layout.specs.Laid.{AreNumbered}
use Rattle.layout.specs.Marks.{mark_by}
use Rattle.layout.specs.declared.versions.Marking.TheVariants.{InSectors, AsNamed}
use Rattle.layout.specs.declared.versions.VersionNumber.{VersionNumber}
use Rattle.layout.specs.declared.versions.VersionNumber.TheVariants as numbers
use Rattle.layout.specs.Stands.{HasRegion, IsLaid, Kept, StandsNow, Version, seats_at}
use Rattle.layout.specs.Versions.{IsServed, data_end_by, form_by, limits_by, log_by, marking_by, size_by, version_by}
use Rattle.layout.proofs.CachedNodeLaws.{cached_nodes-back, only_cached_nodes}
use Rattle.layout.proofs.FirstLaws.{sized_parts}
use Rattle.layout.proofs.SeatLaws.{version_region}
use Rattle.model_tree.specs.declared.limits.Limits.{Limits}
use Rattle.model_tree.specs.Trees.Charge.{fits}
use Rattle.model_tree.specs.Trees.Edit.{edited}
use Rattle.model_tree.specs.Seats.Seats.{Seats, no_seats}
use Rattle.model_tree.specs.Trees.Stamp.{stamp}
use Rattle.model_tree.specs.Trees.Tree.{Tree}
use Rattle.model_tree.specs.Trees.WellFormed.{IsWellFormed, IsBefore}
use Rattle.volume.specs.Edits.{IsChange, edited_by, put_by}
use Rattle.volume.specs.Parents.{PutsParent}
use Rattle.volume.specs.ParentIndex.{AreParents}
use Rattle.volume.proofs.ParentLaws.{parents_after}
use Rattle.volume.specs.Formed.{IsFormed}
use Rattle.volume.specs.VolumeState.{VolumeState}
use Rattle.volume.specs.Known.{AreKnownNodes, IsServing, kept_in_image}
use Rattle.volume.specs.Views.{volume_state_by}
use Rattle.volume.proofs.ApplyLaws.{StandsWith, seated}
use Rattle.volume.proofs.EditLaws.{can_settle, edited_alike, outline_alike}
use Rattle.volume.proofs.SoundLaws.{edited_bytes, formed_sound, well_formed_bytes}
use Rattle.volume.proofs.StandLaws.{is_number}

-- The targets of a transaction

target_at : (updates : List Update) (i other : ℕ) → i < length updates → get_or (targets updates) i other ≡ target_of updates i
target_at [] i other within = absurd (omega (arith, within))
target_at (update ∷ updates) zero other within = refl
target_at (update ∷ updates) (suc i) other within = target_at updates i other (omega (arith, within))

apart_at : (updates : List Update) → UpdatesApart updates → (i j : ℕ) → i < j → j < length updates → target_of updates i ≢ target_of updates j
apart_at [] apart i j less within = absurd (omega (arith, within))
apart_at (update ∷ updates) apart i zero less within = absurd (omega (arith, less))
apart_at (update ∷ updates) apart zero (suc j) less within = λ same. apart.0 j (omega (arith, within)) (sym same)
apart_at (update ∷ updates) apart (suc i) (suc j) less within = apart_at updates apart.1 i j (omega (arith, less)) (omega (arith, within))

-- none is behind the data region, which ends below the end of the sectors that transactions write
pub journal_targets : (data_end end : ℕ) (updates : List Update) → data_end ≤ end → AreTreeUpdates data_end updates → journal.AreTargets end (targets updates)
journal_targets data_end end updates inside are =
    let there : (i other : ℕ) → i < length (targets updates) → get_or (targets updates) i other ≡ target_of updates i =
    λ i other within. target_at updates i other (omega (arith, within, length-targets updates)) in
    let between : (i : ℕ) → i < length (targets updates) → (98 ≤ target_of updates i) × (target_of updates i < data_end) =
    λ i within. are.between i (omega (arith, within, length-targets updates)) in
    record {
      from_first = λ i other within. omega (arith, there i other within, (between i within).0);
      on_device = λ i other within. omega (arith, inside, there i other within, (between i within).1);
      apart = λ i j other less within same.
          apart_at updates are.apart i j less (omega (arith, within, length-targets updates))
          (sym (there i other (omega (arith, less, within))) ∙ same ∙ there j other within);
    }

-- sector 0 is none of them
not_first : (size : ℕ) (updates : List Update) → AreTreeUpdates size updates → HasNoUpdate 0 updates
not_first size updates are = λ i within same. (let above = (are.between i within).0 in omega (arith, above, same))

-- The sectors hold the tree after the edits

pub StandsWith-prop : (version : VersionNumber) (nodes run : ℕ) (old : Log) (updates : List Update) (is : List (Option CachedNode)) (after : Kept) → IsProp (StandsWith version nodes run old updates is after)
StandsWith-prop version nodes run old updates is after = Prim.hlevel (props, ∥∥₁_prop)

-- the volume that memory keeps is a whole one

pub whole_now : {data_end nodes : ℕ} {cached_nodes : List (Option CachedNode)} {places : List Bool} → AreKnownNodes data_end nodes cached_nodes places → data_end ≡ end_by cached_nodes places
whole_now known = omega (arith, known.whole, known.are_cached_nodes.count)

-- the region of a volume that is served
served_region : (version : VersionNumber) (sectors nodes : ℕ) → IsServed version → IsTrue (size_by version sectors nodes) → HasRegion (version_by version None no_seats) sectors nodes
served_region version sectors nodes served sized = version_region version None no_seats sectors nodes (is_number version served) sized

-- its data region ends below the end of the sectors that transactions write, and on the device
pub ends_below : (version : VersionNumber) (sectors nodes : ℕ) → IsServed version → IsTrue (size_by version sectors nodes) → data_end_by version sectors ≤ (log_by version sectors).end
ends_below version sectors nodes served sized = (served_region version sectors nodes served sized).inside

pub ends_on_device : (version : VersionNumber) (sectors nodes : ℕ) → IsServed version → IsTrue (size_by version sectors nodes) → data_end_by version sectors ≤ sectors
ends_on_device version sectors nodes served sized = (let region = served_region version sectors nodes served sized in omega (arith, region.inside, region.within))

-- a bitmap has room for its places
few_places : (version : VersionNumber) (sectors nodes places : ℕ) → IsServed version → IsTrue (size_by version sectors nodes) → data_end_by version sectors ≡ 148 + nodes + places
    → marking_by version ≡ InSectors → places ≤ 65536
few_places numbers.One sectors nodes places served sized whole marks = absurd served
few_places numbers.Two sectors nodes places served sized whole marks = (let parts = sized_parts sectors nodes sized in omega (arith, parts.most, whole))
few_places (numbers.Three s) sectors nodes places served sized whole marks = absurd (let no : AsNamed ≡ InSectors = marks in cc)

pub whole_volume : (version : VersionNumber) (sectors nodes : ℕ) (cached_nodes : List (Option CachedNode)) (places : List Bool) → IsServed version → IsTrue (size_by version sectors nodes)
    → AreKnownNodes (data_end_by version sectors) nodes cached_nodes places → IsWholeVolume (marking_by version) sectors cached_nodes places
whole_volume version sectors nodes cached_nodes places served sized known =
    let region = served_region version sectors nodes served sized in
    record {
      cached_nodes = subst (λ (n : ℕ). AreCached n (mark_by (148 + n) places) cached_nodes) (sym known.are_cached_nodes.count) known.are_cached_nodes;
      forms = known.forms;
      within = omega (arith, whole_now known, region.inside, region.within);
      small = region.numbers;
      few = few_places version sectors nodes (length places) served sized known.whole;
    }

-- its nodes have form two
served_form : (version : VersionNumber) (place : ℕ) → IsServed version → form_by version None place ≡ forms.Two
served_form numbers.One place served = absurd served
served_form numbers.Two place served = refl
served_form (numbers.Three s) place served = refl

-- a bitmap has at most two sectors
pub few_bitmap : (version : VersionNumber) → bitmap_sectors (marking_by version) ≤ 2
few_bitmap numbers.One = omega arith
few_bitmap numbers.Two = omega arith
few_bitmap (numbers.Three s) = omega arith

module _ (word : Type 0) (k : word) (version : VersionNumber) (is_served : IsServed version) (nodes run : ℕ) (log : Log) (cached_nodes : List (Option CachedNode)) (places : List Bool) (edits : List Edit) (outcome : PreparedTransaction)
    (count : length cached_nodes ≡ nodes) (whole : data_end_by version log.size ≡ end_by cached_nodes places) (comes : ComesTo word (marking_by version) (contents log) log.size cached_nodes places edits outcome)
    (formed : IsFormed (limits_by version log.size nodes) (stamp (run + 1) 0) (edited (edits_of edits) (tree_of (contents log) cached_nodes))) where
  abbrev image : Image
  image = contents log

  abbrev now : Image
  now = applied outcome.updates.items image

  abbrev is : List (Option CachedNode)
  is = cached_nodes_after cached_nodes outcome

  abbrev after : Tree
  after = edited (edits_of edits) (tree_of image cached_nodes)

  abbrev seats : Seats
  seats = seats_at version image

  abbrev kept_version : Version
  kept_version = version_by version None seats

  behind_stands : cached_nodes ≡ cached_nodes_in nodes image → StandsNow version log.size nodes image run (kept_in_image version image cached_nodes) → StandsWith version nodes run log outcome.updates.items is (seated version log after)
  behind_stands read stood =
      let stands = stood.stands in
      let here : IsLaid kept_version log.size (length cached_nodes) image cached_nodes = subst (λ (n : ℕ). IsLaid kept_version log.size n image cached_nodes) (sym count)
      (subst (IsLaid kept_version log.size nodes image) (sym read) stands.laid) in
      let lays : LaysEditedTree kept_version image log.size cached_nodes edits outcome = comes.lays k kept_version (record { forms = λ place. served_form version place is_served; marks = refl; end_is = whole; region = subst (HasRegion kept_version log.size) (sym count) stands.region }) here in
      let laid : IsLaid kept_version log.size nodes now is = subst (λ (n : ℕ). IsLaid kept_version log.size n now is) count lays.laid in
      let back : cached_nodes_in nodes now ≡ is = cached_nodes-back now nodes is laid.laid.count laid.laid.held in
      record {
        read = sym back;
        tree = lays.tree_is;
        stands = ∥∥₁_elim stands.well_formed ∥∥₁_prop (λ well.
            let both = formed_sound (limits_by version log.size nodes) (stamp (run + 1) 0) after formed
            (edited_bytes edits comes.bytes (tree_of image cached_nodes) (well_formed_bytes (limits_by version log.size nodes) (tree_of image cached_nodes) well)) in
            ∣ record {
              is_number = stood.is_number;
              may = stood.may;
              keeps = stood.keeps;
              stands = record {
                sized = stands.sized;
                region = stands.region;
                counted = stands.counted;
                first = applied-other outcome.updates.items image 0 (not_first (end_by cached_nodes places) outcome.updates.items comes.targets) ∙ stands.first;
                laid = only_cached_nodes kept_version log.size nodes now is laid;
                tree_is = sym lays.tree_is ∙ ap (tree_of now) (sym back);
                well_formed = both.0;
                before = both.1;
              };
            } ∣₁);
      }

  pub behind_serving : ∥ IsServing version log nodes run cached_nodes ∥₁ → StandsWith version nodes run log outcome.updates.items is (seated version log after)
  behind_serving serving = ∥∥₁_elim serving (StandsWith-prop version nodes run log outcome.updates.items is (seated version log after)) (λ served.
      ∥∥₁_elim served.stands (StandsWith-prop version nodes run log outcome.updates.items is (seated version log after)) (λ stands. behind_stands served.read stands))

-- What memory keeps after it

pub own_places : (cached_nodes : List (Option CachedNode)) → AreNumbered cached_nodes → HaveOwnPlaces cached_nodes
own_places cached_nodes apart place other number here there = elim (cases_eq place other) [
  | inl same ↦ same
  | inr off ↦
      let one = there_at cached_nodes place number here in
      let two = there_at cached_nodes other number there in
      absurd (apart place other one.cached two.cached off one.there two.there (one.number_is ∙ sym two.number_is))
]

-- what reads leave of a journal, if they did not fail
pub log_same : (old mid : Log) → (let up : Log → Log = λ log. record log { is_down = false } in up mid ≡ up old) → mid.is_down ≡ old.is_down → mid ≡ old
log_same old mid kept down = ap₂ (λ (log : Log) (is_down : Bool). record log { is_down = is_down }) kept down

pub formed_alike : (limits : Limits) (at : ℕ) (tree other : Tree) → without_data other ≡ without_data tree → IsFormed limits at tree → IsFormed limits at other
formed_alike limits at tree other alike formed = record {
  well_formed = ∥∥₁_map formed.well_formed (subst (IsWellFormed limits) (sym alike));
  before = subst (IsBefore at) (sym alike) formed.before;
}

module _ (word : Type 0) (version : VersionNumber) (limits : Limits) (run : ℕ) (log : Log) (cached_nodes : List (Option CachedNode)) (places : List Bool) (edits : List Edit) (outcome : PreparedTransaction)
    (change : IsChange (volume_state_by version limits run cached_nodes log) edits) (known : AreKnownNodes (data_end_by version log.size) limits.nodes cached_nodes places)
    (comes : ComesTo word (marking_by version) (contents log) log.size cached_nodes places edits outcome) where
  abbrev held : VolumeState
  held = volume_state_by version limits run cached_nodes log

  abbrev new : List (Option CachedNode)
  new = cached_nodes_after cached_nodes outcome

  -- all of the tree after the edits but the bytes of files
  pub outline_after : (image : Image)
      → without_data (tree_of image new) ≡ without_data (edited_by held edits)
  outline_after image = each_outline image new ∙ comes.outline
      ∙ edited_alike (edits_of edits) held.tree (tree_without_data cached_nodes) (outline_alike (contents log) cached_nodes)

  pub formed_after : IsTrue (fits limits (edited_by held edits)) → IsFormed limits (stamp (run + 1) 0) (tree_without_data new)
  formed_after fit = formed_alike limits (stamp (run + 1) 0) (edited_by held edits) (tree_without_data new) (outline_after (λ n. [])) (change.formed fit)

  pub known_after : AreKnownNodes (data_end_by version log.size) limits.nodes new outcome.places
  known_after = record {
    are_cached_nodes = subst (λ (n : ℕ). AreCached n (mark_by (148 + n) outcome.places) new) known.are_cached_nodes.count comes.cached_nodes;
    forms = comes.forms;
    whole = omega (arith, known.whole, comes.as_many);
  }

  pub may_settle : CanBecome cached_nodes new
  may_settle = can_settle held edits change (contents log) cached_nodes new refl comes.made limits.nodes (mark_by (148 + limits.nodes) places)
      (mark_by (148 + limits.nodes) outcome.places) known.are_cached_nodes known_after.are_cached_nodes (own_places new comes.cached_nodes.apart)

  -- the parents in memory are those of the cached nodes after it
  pub parents_behind : IsTrue (fits limits (edited_by held edits)) → (parents behind : List ℕ)
      → AreParents cached_nodes parents → PutsParent new parents behind (put_by edits) → AreParents new behind
  parents_behind fit parents behind are puts =
      parents_after held edits change (contents log) limits.nodes (mark_by (148 + limits.nodes) places) (mark_by (148 + limits.nodes) outcome.places) cached_nodes new refl
      known.are_cached_nodes known_after.are_cached_nodes comes.made comes.outline limits (stamp (run + 1) 0) (formed_after fit) parents are behind puts

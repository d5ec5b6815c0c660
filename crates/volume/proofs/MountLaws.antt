-- A restart count that is raised, with the version.
use Rattle.std.proofs.Common.{ℕ, [], ◌∷◌, ◌≡◌, ◌≤◌, ◌+◌, ◌<◌, ◌⊎◌, ◌^◌, Bool, Option, inl, inr, refl, sym, ap, ◌∙◌, subst, arith, eqb, if◌then◌else◌}
use Rattle.std.specs.Prelude.{IsTrue}
use Rattle.std.proofs.lemmas.Bool.{and_parts, eqb-true, lt-leb}
use Rattle.disk.specs.declared.update.Update.{Update}
use Rattle.disk.specs.Moments.{Image, History, AddsOnly, put, applied}
use Rattle.disk.proofs.MomentLemmas.{AddsOnly-weaken}
use Rattle.inode.specs.declared.node.Form.{Form}
use Rattle.inode.specs.declared.node.Form.TheVariants as forms
use Rattle.journal.specs.declared.layout.LogArea.{LogArea}
use Rattle.journal.specs.Commit.{AddsEither}
use Rattle.journal.specs.Settled.{Settles, AreSame}
use Rattle.journal.proofs.Images.{put_same, put_other}
use Rattle.layout.specs.CachedNodes.{node_sector}
use Rattle.layout.specs.Rewriting.{all_second, IsRewritten, in_form}
use Rattle.seats.specs.declared.sizes.SeatSizes.{SeatSizes}
use Rattle.layout.specs.Stands as layout
use Rattle.layout.specs.Stands.{By, HasRegion, IsMark, IsNumber, Kept, MayHaveSeats, Version, data_end_by, is_spare_in, limits_by, log_by, marking_by, served, size_by, spare_in, version_1, version_by, sizes_by, AreKept}
use Rattle.layout.specs.declared.versions.VersionNumber.{VersionNumber}
use Rattle.layout.specs.declared.versions.VersionNumber.TheVariants.{One, Two, Three}
use Rattle.layout.proofs.SeatLaws.{kept_later, version_region}
use Rattle.layout.proofs.Rewriting.{form_stays, rewritten_cached_nodes, rewritten_stands}
use Rattle.model_tree.specs.Seats.Seats.{Seats}
use Rattle.model_tree.specs.Trees.Tree.{Tree}
use Rattle.volume.specs.Mounts.{AllHaveMoved, IsRaisedTo, StandsForEither, StandsIn}
use Rattle.volume.specs.Superblock.{HasSizes, superblock}
use Rattle.volume.specs.declared.mount.Superblock.{Superblock}
use Rattle.volume.proofs.StandLaws.{cached_nodes_same, is_number, is_served, same_log, tree_same}

abbrev pub first_update : VersionNumber → (sectors nodes run : ℕ) → Update
first_update version sectors nodes run = record { target = 0; content = superblock version sectors nodes run }

-- What a version has in common with the one in which it is served

pub same_limits : (version : VersionNumber) (size nodes : ℕ) → limits_by (served version) size nodes ≡ limits_by version size nodes
same_limits One size nodes = refl
same_limits Two size nodes = refl
same_limits (Three s) size nodes = refl

pub same_data_end : (version : VersionNumber) (size : ℕ) → data_end_by (served version) size ≡ data_end_by version size
same_data_end One size = refl
same_data_end Two size = refl
same_data_end (Three s) size = refl

pub same_size : (version : VersionNumber) (size nodes : ℕ) → size_by (served version) size nodes ≡ size_by version size nodes
same_size One size nodes = refl
same_size Two size nodes = refl
same_size (Three s) size nodes = refl

same_marking : (version : VersionNumber) → marking_by (served version) ≡ marking_by version
same_marking One = refl
same_marking Two = refl
same_marking (Three s) = refl

same_spares : (version : VersionNumber) (seats : Seats) (n : ℕ) → is_spare_in (served version) seats n ≡ is_spare_in version seats n
same_spares One seats n = refl
same_spares Two seats n = refl
same_spares (Three s) seats n = refl

-- version 1 has no seats to keep
same_spare : (version : VersionNumber) (mark : Option ℕ) (seats : Seats) (n : ℕ) → MayHaveSeats version mark seats → spare_in version mark seats n ≡ spare_in (served version) mark seats n
same_spare One mark seats n none = ap (λ (s : Seats). spare_in Two mark s n) (sym none)
same_spare Two mark seats n may = refl
same_spare (Three s) mark seats n may = refl

-- a first sector can be written that has the sizes of the volume
pub has_sizes : (version : VersionNumber) (sectors nodes : ℕ) → IsNumber version → IsTrue (size_by version sectors nodes) → HasSizes version sectors nodes
has_sizes One sectors nodes number sized = tt
has_sizes Two sectors nodes number sized = tt
has_sizes (Three s) sectors nodes number sized =
    let both = and_parts (eqb s.geometry.sectors sectors) (eqb s.geometry.nodes nodes) sized in
    (number, eqb-true s.geometry.sectors sectors both.0, eqb-true s.geometry.nodes nodes both.1)

-- Once the nodes have moved

all_two : (version : VersionNumber) (nodes : ℕ) (mark : Option ℕ) (seats : Seats) → AllHaveMoved version nodes mark → (place : ℕ) → place < nodes
    → (version_by version mark seats).form place ≡ forms.Two
all_two One nodes mark seats moved place within =
    ap (λ (m : Option ℕ). (version_1 m).form place) moved
    ∙ ap (λ (past : Bool). let form : Form = if past then forms.One else forms.Two in form) (lt-leb nodes place within)
all_two Two nodes mark seats moved place within = refl
all_two (Three s) nodes mark seats moved place within = refl

served_sizes : (version : VersionNumber) → sizes_by (served version) ≡ sizes_by version
served_sizes One = refl
served_sizes Two = refl
served_sizes (Three s) = refl

served_two : (version : VersionNumber) (mark : Option ℕ) (seats : Seats) (place : ℕ) → (version_by (served version) mark seats).form place ≡ forms.Two
served_two One mark seats place = refl
served_two Two mark seats place = refl
served_two (Three s) mark seats place = refl

may_after : (version : VersionNumber) (nodes : ℕ) (mark : Option ℕ) (seats : Seats) → AllHaveMoved version nodes mark → MayHaveSeats version mark seats → MayHaveSeats (served version) mark seats
may_after One nodes mark seats moved none = subst (λ (m : Option ℕ). MayHaveSeats Two m seats) (sym moved) none
may_after Two nodes mark seats moved may = may
may_after (Three s) nodes mark seats moved may = may

mark_moved : (version : VersionNumber) (nodes : ℕ) (mark : Option ℕ) → AllHaveMoved version nodes mark → IsMark (served version) nodes mark
mark_moved One nodes mark moved = subst (IsMark Two nodes) (sym moved) refl
mark_moved Two nodes mark moved = moved
mark_moved (Three s) nodes mark moved = moved

-- a mark of version 1 that counts all places, or one of another version
mark_before : (version : VersionNumber) (nodes : ℕ) (mark : Option ℕ) → 0 < nodes → AllHaveMoved version nodes mark → IsMark version nodes mark
mark_before One nodes mark some moved = subst (IsMark One nodes) (sym moved) (some, omega arith)
mark_before Two nodes mark some moved = moved
mark_before (Three s) nodes mark some moved = moved

module _ (found : Superblock) (base : Image) (number : IsNumber found.version) (counted : found.run + 1 < 2 ^ 32) where
  abbrev version : VersionNumber
  version = served found.version

  abbrev update : Update
  update = first_update version found.sectors found.nodes (found.run + 1)

  abbrev raised : Image
  raised = put base update

  served_number : IsNumber version
  served_number = is_number version (is_served found.version number)

  others : (n : ℕ) → 98 ≤ n → raised n ≡ base n
  others n above = put_other base update n (λ same. omega (arith, same, above))

  module _ (mark : Option ℕ) (kept : Kept) (moved : AllHaveMoved found.version found.nodes mark) (stood : StandsIn found mark base kept) where
    abbrev tree : Tree
    tree = kept.tree

    abbrev was : Version
    was = version_by found.version mark kept.seats

    abbrev is : Version
    is = version_by version mark kept.seats

    stands : layout.TreeStands was found.sectors found.nodes base found.run tree
    stands = stood.stands

    sized_now : IsTrue (size_by version found.sectors found.nodes)
    sized_now = subst IsTrue (sym (same_size found.version found.sectors found.nodes)) stands.sized

    region : HasRegion is found.sectors found.nodes
    region = version_region version mark kept.seats found.sectors found.nodes served_number sized_now

    -- the count is raised, the version is the one in which it is served, and nothing else changes
    is_rewritten : IsRewritten was is found.sectors found.nodes (found.run + 1) base raised
    is_rewritten = record {
      sized = sized_now;
      region = region;
      first = put_same base update 0 refl;
      limits = same_limits found.version found.sectors found.nodes;
      others = record {
        marking = same_marking found.version;
        data_end = same_data_end found.version found.sectors;
        roomy = λ place within. inr (served_two found.version mark kept.seats place);
        bitmap = λ n low high. others n low;
        spare = λ n is_so. (let beside = region.spare n is_so in others n beside.from_first
            ∙ (stands.laid.spare n (subst IsTrue (same_spares found.version kept.seats n) is_so) ∙ same_spare found.version mark kept.seats n stood.may));
        nodes_are = λ place within. others (node_sector place) (omega arith)
            ∙ (sym (form_stays was found.sectors found.nodes found.run base tree place stands within)
            ∙ ap (λ (form : Form). in_form form (base (node_sector place)))
            (all_two found.version found.nodes mark kept.seats moved place within ∙ sym (served_two found.version mark kept.seats place)));
        region = λ n low high. others n (omega (arith, low));
      };
    }

    raised_to : IsRaisedTo mark found kept base raised
    raised_to = record {
      may = may_after found.version found.nodes mark kept.seats moved stood.may;
      keeps = subst (λ (sizes : SeatSizes). AreKept sizes (found.run + 1) kept.seats) (sym (served_sizes found.version))
          (kept_later (sizes_by found.version) found.run (found.run + 1) kept.seats (omega arith) stood.keeps);
      stands = rewritten_stands was is found.sectors found.nodes found.run (found.run + 1) base raised tree stands (omega arith) counted is_rewritten;
      cached_nodes = rewritten_cached_nodes was is found.sectors found.nodes found.run (found.run + 1) base raised tree stands is_rewritten;
    }

    pub raised_base : (after : Image) → AreSame (log_by found.version found.sectors).end raised after → IsRaisedTo mark found kept base after
    raised_base after alike =
        let same : AreSame (log_by version found.sectors).end raised after = subst (λ (l : LogArea). AreSame l.end raised after) (sym (same_log found.version found.sectors)) alike in
        record {
          may = raised_to.may;
          keeps = raised_to.keeps;
          stands = tree_same is found.sectors found.nodes raised after (found.run + 1) tree same raised_to.stands;
          cached_nodes = ap all_second (cached_nodes_same is found.sectors found.nodes raised after (found.run + 1) tree same raised_to.stands) ∙ raised_to.cached_nodes;
        }

    pub raise_moments : (old new : History) → AddsEither (log_by found.version found.sectors) (update ∷ []) base old new
        → AddsOnly (StandsForEither found kept) old new
    raise_moments old new moments = AddsOnly-weaken
        (λ image. Settles (log_by found.version found.sectors) image base ⊎ Settles (log_by found.version found.sectors) image (applied (update ∷ []) base))
        (StandsForEither found kept) old new
        (λ image either. elim either [
          | inl settles ↦ inl ∣ (
            record {
              base = base;
              settles = settles;
              stands = record {
                version = was;
                is_version = By found.version mark kept.seats number (mark_before found.version found.nodes mark stands.region.some moved) stood.may;
                keeps = stood.keeps;
                stands = stands;
              };
            },
            refl,
          ) ∣₁
          | inr settles ↦ inr ∣ (
            record {
              base = raised;
              settles = subst (λ (l : LogArea). Settles l image raised) (sym (same_log found.version found.sectors)) settles;
              stands = record {
                version = is;
                is_version = By version mark kept.seats served_number (mark_moved found.version found.nodes mark moved) raised_to.may;
                keeps = raised_to.keeps;
                stands = raised_to.stands;
              };
            },
            refl,
          ) ∣₁
        ]) moments

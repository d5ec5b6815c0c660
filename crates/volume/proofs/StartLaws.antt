-- A run that begins on the nodes that were read.
use Rattle.std.proofs.Common.{◌≡◌, ◌≤◌, ◌<◌, ◌+◌, ◌-◌, ◌*◌, ◌⊎◌, ◌∙◌, ℕ, Bool, true, false, List, [], Option, Some, None, is_some, length, inl, inr, refl, sym, ap, subst, arith, mul-add}
use Rattle.std.proofs.Math.Logic.{∥∥₁_map}
use Rattle.std.specs.Prelude.{IsTrue, OnOk, Result, Ok, Err}
use Rattle.std.specs.Option.{unwrap_or}
use Rattle.disk.specs.Moments.{Image, History, AddsOnly, moment}
use Rattle.disk.proofs.MomentLemmas.{AddsOnly-weaken, AddsOnly-join}
use Rattle.journal.specs.Layout.{log_at_start}
use Rattle.journal.specs.declared.layout.LogArea.{LogArea}
use Rattle.journal.specs.Calls.{IsSafe}
use Rattle.journal.specs.Log.{Log, MakesAtMost, StandsForPrefix}
use Rattle.journal.specs.Settled.{Settles}
use Rattle.geometry.specs.declared.superblock.Superblock as large
use Rattle.layout.specs.CachedNodes.{CachedNode, cached_nodes_in}
use Rattle.layout.specs.Rewriting.{all_second}
use Rattle.layout.specs.Stands as layout
use Rattle.layout.specs.Stands.{By, HaveCurrentForms, HaveForms, IsMark, IsNumber, IsVersion, Kept, MayHaveSeats, StandsNow, Version, bare, current_version, log_by, mark_held, moved_by, number_of_version, served, size_by, version_1, version_2, version_by}
use Rattle.layout.specs.declared.versions.VersionNumber.{VersionNumber}
use Rattle.layout.specs.declared.versions.VersionNumber.TheVariants.{One, Two, Three}
use Rattle.layout.proofs.KeptLaws.{same_kept, version_parts}
use Rattle.layout.proofs.FirstLaws.{few_nodes}
use Rattle.layout.proofs.MarkOnce.{stands_told, number_told}
use Rattle.layout.proofs.Rewriting.{current_second}
use Rattle.layout.proofs.SeatLaws.{version_region}
use Rattle.migration.proofs.Committing.{no_prefix}
use Rattle.migration.specs.Migrations.{BeginsMoving, StandsStill, AddsStill, HasMovedAll, Rests, StaysInPlace, transaction_cost}
use Rattle.migration.specs.Plans.{transactions_for}
use Rattle.model_tree.specs.Seats.Seats.{Seats, no_seats}
use Rattle.model_tree.specs.Trees.Tree.{Tree}
use Rattle.volume.specs.Loads.{AreLoaded, HoldsVolume, read_as}
use Rattle.volume.specs.Mounts.{AddsRaised, IsAtRest, AllHaveMoved, IsRaisedTo, IsVolumeOf, RaisesSafely, StandsForEither, StandsIn, StandsOn, begin_cost, moving_transactions}
use Rattle.volume.specs.Stands.{StandsForIn}
use Rattle.volume.specs.Starts.{HasMovedTo, IsCleared, ServesFrom, StandsInServed, is_marked, moved_mark}
use Rattle.volume.specs.VolumeState.{flush_cost}
use Rattle.volume.specs.declared.mount.Superblock.{Superblock}
use Rattle.volume.proofs.StandLaws.{is_number, is_served, placed_on, same_log, settles_placed, keeps_by}

-- In versions 1 and 2 the log is before the sectors that transactions write

early_by : (version : VersionNumber) (size : ℕ) → number_of_version version ≤ 2 → log_by version size ≡ log_at_start size
early_by One size early = refl
early_by Two size early = refl
early_by (Three s) size early = absurd (omega (arith, early))

early_log : (nodes : ℕ) (version : Version) (seats : Seats) (size : ℕ) → IsVersion nodes version seats → version.number ≤ 2 → version.log size ≡ log_at_start size
early_log nodes version seats size is early =
    let parts = version_parts nodes version seats is in
    ap (λ (v : Version). v.log size) parts.same ∙ early_by parts.number size (subst (λ (v : Version). v.number ≤ 2) parts.same early)

pub early_placed : (version : VersionNumber) (area : LogArea) (size : ℕ) → number_of_version version ≤ 2 → area ≡ log_by version size → area ≡ log_at_start size
early_placed version area size early placed = placed ∙ early_by version size early

-- an image that still holds the tree, as a migration sees it, represents it
still_is : (number : ℕ) (area : LogArea) (size nodes run : ℕ) (tree : Tree) (image : Image) → number ≤ 2 → area ≡ log_at_start size → StandsStill number area size nodes run tree image
    → StandsForIn number size nodes run (bare tree) image
still_is number area size nodes run tree image early placed still = ∥∥₁_map still (λ is. (
  record {
    base = is.base;
    settles = subst (λ (l : LogArea). Settles l image is.base) (placed ∙ sym (early_log nodes is.stands.version no_seats size is.stands.is_version (omega (arith, is.number_is, early)))) is.settles;
    stands = is.stands;
  },
  is.number_is,
))

pub still_for : (number size nodes run : ℕ) (tree : Tree) (old new : Log) → number ≤ 2 → size ≡ old.size → old.area ≡ log_at_start old.size → AddsStill number nodes run tree old new
    → AddsOnly (StandsForIn number size nodes run (bare tree)) old.history new.history
still_for number size nodes run tree old new early same placed adds = AddsOnly-weaken (StandsStill number old.area old.size nodes run tree) (StandsForIn number size nodes run (bare tree)) old.history new.history
    (λ image still. subst (λ (s : ℕ). StandsForIn number s nodes run (bare tree) image) (sym same) (still_is number old.area old.size nodes run tree image early placed still)) adds

pub or_else_zero : (mark : Option ℕ) → unwrap_or mark 0 ≡ moved_by mark
or_else_zero None = refl
or_else_zero (Some moved) = refl

pub so_moves : {T E : Type 0} (result : Result T E) (P Q : Type 0) → (P → Q) → OnOk result P → OnOk result Q
so_moves (Ok done) P Q so is = so is
so_moves (Err fault) P Q so is = tt

pub ends_at_rest : {T E : Type 0} (version : VersionNumber) (old log : Log) (result : Result T E) → old.area ≡ log_by version old.size → StaysInPlace old log → OnOk result (Rests log) → OnOk result (IsAtRest version log)
ends_at_rest version old log result placed stays is = so_moves result (Rests log) (IsAtRest version log)
    (λ rests. record { up = rests.up; listed = rests.listed; placed = placed_on version log.area old.area log.size old.size stays.area stays.size placed }) is

-- so a migration may begin
pub may_migrate : (version : VersionNumber) (log : Log) → number_of_version version ≤ 2 → IsAtRest version log → Rests log
may_migrate version log early rests = record { up = rests.up; listed = rests.listed; whole = ap (λ (area : LogArea). area.end) (early_placed version log.area log.size early rests.placed) }

one_not_two : One ≡ Two → ⊥
one_not_two same = cc

pub one_early : (version : VersionNumber) → version ≡ One → number_of_version version ≤ 2
one_early version one = omega (arith, ap number_of_version one)

pub two_early : (version : VersionNumber) → version ≡ Two → number_of_version version ≤ 2
two_early version two = omega (arith, ap number_of_version two)

-- Nodes of version 1 move
module _ (keeps_word : Type 0) (found : Superblock) (mark : Option ℕ) (cached_nodes : List (Option CachedNode)) (seats : Seats) (places : List Bool) (old new : Log)
    (size : found.sectors ≡ old.size) (placed : old.area ≡ log_by found.version old.size) (one : found.version ≡ One) (loaded : AreLoaded keeps_word found old.base mark cached_nodes seats places) where
  count : length cached_nodes ≡ found.nodes
  count = loaded.known.are_cached_nodes.count

  as_one : (kept : Kept) → StandsIn found mark old.base kept → layout.TreeStands (version_1 mark) old.size (length cached_nodes) old.base found.run kept.tree
  as_one kept stands =
      subst (λ (s : ℕ). layout.TreeStands (version_1 mark) s (length cached_nodes) old.base found.run kept.tree) size
      (subst (λ (n : ℕ). layout.TreeStands (version_1 mark) found.sectors n old.base found.run kept.tree) (sym count)
      (subst (λ (v : VersionNumber). layout.TreeStands (version_by v mark kept.seats) found.sectors found.nodes old.base found.run kept.tree) one stands.stands))

  -- what is held in version 1 has no seat
  is_bare : (kept : Kept) → StandsIn found mark old.base kept → kept.seats ≡ no_seats
  is_bare kept stands = subst (λ (v : VersionNumber). MayHaveSeats v mark kept.seats) one stands.may

  as_bare : (kept : Kept) → StandsIn found mark old.base kept → bare kept.tree ≡ kept
  as_bare kept stands = same_kept (bare kept.tree) kept refl (sym (is_bare kept stands))

  pub begins : keeps_word → (kept : Kept) → StandsIn found mark old.base kept → BeginsMoving mark (moved_by mark) found.run kept.tree cached_nodes old
  begins k kept stands = record {
    marked = subst (λ (n : ℕ). IsMark One n mark) (sym count) (subst (λ (v : VersionNumber). IsMark v found.nodes mark) one loaded.marked);
    told = refl;
    stands = as_one kept stands;
    read = loaded.read k ∙ ap (λ (n : ℕ). all_second (cached_nodes_in n old.base)) (sym count);
  }

  pub moves_safely : (kept : Kept) → StandsIn found mark old.base kept → AddsStill 1 (length cached_nodes) found.run kept.tree old new
      → AddsOnly (StandsForIn (number_of_version found.version) found.sectors found.nodes found.run kept) old.history new.history
  moves_safely kept stands adds = subst (λ (v : VersionNumber). AddsOnly (StandsForIn (number_of_version v) found.sectors found.nodes found.run kept) old.history new.history) (sym one)
      (subst (λ (n : ℕ). AddsOnly (StandsForIn 1 found.sectors n found.run kept) old.history new.history) count
      (subst (λ (of : Kept). AddsOnly (StandsForIn 1 found.sectors (length cached_nodes) found.run of) old.history new.history) (as_bare kept stands)
      (still_for 1 found.sectors (length cached_nodes) found.run kept.tree old new (omega arith) size (early_placed found.version old.area old.size (one_early found.version one) placed) adds)))

  pub moved_to : HasMovedAll (moved_by mark) cached_nodes old new → keeps_word → (kept : Kept) → StandsIn found mark old.base kept → HasMovedTo found mark kept old.base new.base
  moved_to has k kept stands =
      let tree = kept.tree in
      let is = has mark found.run tree (begins k kept stands) in
      record {
        stands = record {
          may = subst (λ (v : VersionNumber). MayHaveSeats v (moved_mark v found.nodes mark) kept.seats) (sym one) (is_bare kept stands);
          keeps = stands.keeps;
          stands = subst (λ (v : VersionNumber). layout.TreeStands (version_by v (moved_mark v found.nodes mark) kept.seats) found.sectors found.nodes new.base found.run tree) (sym one)
              (subst (λ (n : ℕ). layout.TreeStands (version_1 (Some n)) found.sectors n new.base found.run tree) count
              (subst (λ (s : ℕ). layout.TreeStands (version_1 (Some (length cached_nodes))) s (length cached_nodes) new.base found.run tree) (sym size) is.stands));
        };
        cached_nodes = subst (λ (n : ℕ). all_second (cached_nodes_in n new.base) ≡ all_second (cached_nodes_in n old.base)) count is.cached_nodes;
      }

-- those of a version that is served stay

pub second_stays : (version : VersionNumber) → (version ≡ Two) ⊎ ((s : large.Superblock) × (version ≡ Three s)) → version ≡ served version
second_stays version (inl two) = two ∙ ap served (sym two)
second_stays version (inr three) = three.1 ∙ ap served (sym three.1)

unmoved : (version : VersionNumber) (nodes : ℕ) (mark : Option ℕ) → version ≡ served version → mark ≡ moved_mark version nodes mark
unmoved One nodes mark stays = absurd (one_not_two stays)
unmoved Two nodes mark stays = refl
unmoved (Three s) nodes mark stays = refl

pub stay_moved : (found : Superblock) (mark : Option ℕ) (kept : Kept) (base : Image) → found.version ≡ served found.version → StandsIn found mark base kept → HasMovedTo found mark kept base base
stay_moved found mark kept base stays stands = record {
  stands = subst (λ (m : Option ℕ). StandsIn found m base kept) (unmoved found.version found.nodes mark stays) stands;
  cached_nodes = refl;
}

-- The commit record was written again, and the volume still holds what it held
module _ (keeps_word : Type 0) (found : Superblock) (mark : Option ℕ) (old new : Log) (size : found.sectors ≡ old.size) (number : IsNumber found.version) (marked : IsMark found.version found.nodes mark)
    (listed : old.list ≡ []) (placed : old.area ≡ log_by found.version old.size) (safe : IsSafe keeps_word old new) where
  pub rewritten_moments : keeps_word → (kept : Kept) → StandsIn found mark old.base kept
      → AddsOnly (StandsForIn (number_of_version found.version) found.sectors found.nodes found.run kept) old.history new.history
  rewritten_moments k kept stands = AddsOnly-weaken (StandsForPrefix old.area old.base old.list)
      (StandsForIn (number_of_version found.version) found.sectors found.nodes found.run kept) old.history new.history
      (λ image prefix. ∣ (
        record {
          base = old.base;
          settles = settles_placed found.version old.area found.sectors image old.base (placed ∙ ap (log_by found.version) (sym size))
              (subst (Settles old.area image) (no_prefix old.list prefix.count old.base listed) prefix.settles);
          stands = record {
            version = version_by found.version mark kept.seats;
            is_version = By found.version mark kept.seats number marked stands.may;
            keeps = stands.keeps;
            stands = stands.stands;
          };
        },
        refl,
      ) ∣₁)
      (safe.moments k)

-- Then the mark is one of the version that is served

moved_all : (version : VersionNumber) (nodes : ℕ) (mark : Option ℕ) → IsMark version nodes mark → AllHaveMoved version nodes (moved_mark version nodes mark)
moved_all One nodes mark is = refl
moved_all Two nodes mark is = is
moved_all (Three s) nodes mark is = is

moved_is : (version : VersionNumber) (nodes : ℕ) (mark : Option ℕ) → IsMark version nodes mark → IsMark (served version) nodes (moved_mark version nodes mark)
moved_is One nodes mark is = refl
moved_is Two nodes mark is = is
moved_is (Three s) nodes mark is = is

-- version 3 has none
pub still_marked : (version : VersionNumber) (nodes : ℕ) (mark : Option ℕ) → IsMark version nodes mark → is_some (moved_mark version nodes mark) ≡ is_marked version mark
still_marked One nodes mark is = refl
still_marked Two nodes None is = refl
still_marked Two nodes (Some moved) is = refl
still_marked (Three s) nodes None is = refl
still_marked (Three s) nodes (Some moved) is = absurd is

pub marked_second : (version : VersionNumber) (mark : Option ℕ) → IsTrue (is_marked version mark) → served version ≡ Two
marked_second One mark is = refl
marked_second Two mark is = refl
marked_second (Three s) mark is = absurd (cc)

-- a node of a version that is served has the form that it has in the current version
second_forms : (version : VersionNumber) (seats : Seats) (cached_nodes : List (Option CachedNode)) → HaveForms (version_by (served version) None seats) cached_nodes → HaveCurrentForms cached_nodes
second_forms One seats cached_nodes forms = forms
second_forms Two seats cached_nodes forms = forms
second_forms (Three s) seats cached_nodes forms = forms

-- a volume has a node behind the mark
pub some_room : (found : Superblock) (size : ℕ) → IsVolumeOf size found → 148 < size
some_room found size volume =
    let region = version_region found.version None no_seats found.sectors found.nodes volume.number volume.sized in
    omega (arith, region.some, region.behind, region.inside, region.within, volume.size)

-- The run begins: the nodes are moved, the count is raised, the mark is removed
module _ (found : Superblock) (mark : Option ℕ) (old : Log) (number : IsNumber found.version) (sized : IsTrue (size_by found.version found.sectors found.nodes))
    (marked : IsMark found.version found.nodes mark) (marks : old.base 147 ≡ mark_held mark) (holds : HoldsVolume found old.size old.base) where
  abbrev then_mark : Option ℕ
  then_mark = moved_mark found.version found.nodes mark

  -- what the base holds, it holds in the version and with the mark that were found
  told : (kept : Kept) → StandsOn found old.base kept → StandsIn found mark old.base kept
  told kept stands =
      let is = stands_told found.version found.sectors found.nodes old.base found.run kept found.sectors found.nodes found.run number sized holds.first stands
      mark (few_nodes stands.version found.sectors found.nodes stands.stands.region) marked marks in
      let same = number_told found.version found.sectors found.nodes old.base found.run kept found.sectors found.nodes found.run number sized holds.first stands in
      let parts = version_parts found.nodes stands.version kept.seats stands.is_version in
      record { may = is.may; keeps = keeps_by found.nodes stands.version kept.seats parts found.version found.run same stands.keeps; stands = is.stands }

  pub has_moved : AllHaveMoved found.version found.nodes then_mark
  has_moved = moved_all found.version found.nodes mark marked

  pub mark_is : IsMark (served found.version) found.nodes then_mark
  mark_is = moved_is found.version found.nodes mark marked

  module _ (moved : Log)
      (moments : (kept : Kept) → StandsIn found mark old.base kept
      → AddsOnly (StandsForIn (number_of_version found.version) found.sectors found.nodes found.run kept) old.history moved.history) where
    first_part : (kept : Kept) → StandsIn found mark old.base kept → AddsOnly (StandsForEither found kept) old.history moved.history
    first_part kept stands = AddsOnly-weaken (StandsForIn (number_of_version found.version) found.sectors found.nodes found.run kept) (StandsForEither found kept) old.history moved.history
        (λ image is. inl is) (moments kept stands)

    pub after_moves : AddsRaised found old.base old.history moved.history
    after_moves kept stands = first_part kept (told kept stands)

    module _ (moves : (kept : Kept) → StandsIn found mark old.base kept → HasMovedTo found mark kept old.base moved.base)
        (raised : Log) (raises : RaisesSafely found moved raised.history) where
      both_parts : (kept : Kept) → StandsIn found mark old.base kept → AddsOnly (StandsForEither found kept) old.history raised.history
      both_parts kept stands = AddsOnly-join (StandsForEither found kept) old.history moved.history raised.history
          (first_part kept stands) (raises.moments then_mark kept has_moved (moves kept stands).stands)

      pub after_raise : AddsRaised found old.base old.history raised.history
      after_raise kept stands = both_parts kept (told kept stands)

      module _ (size : found.sectors ≡ raised.size)
          (rises : (kept : Kept) → StandsIn found then_mark moved.base kept → IsRaisedTo then_mark found kept moved.base raised.base) where
        raised_to : (kept : Kept) → StandsIn found mark old.base kept → IsRaisedTo then_mark found kept moved.base raised.base
        raised_to kept stands = rises kept (moves kept stands).stands

        abbrev now : VersionNumber
        now = served found.version

        served_stands : (kept : Kept) → StandsIn found mark old.base kept → StandsInServed now then_mark raised.size found.nodes (found.run + 1) raised.base kept
        served_stands kept stands =
            let is = raised_to kept stands in
            record {
              is_number = is_number now (is_served found.version number);
              marked = mark_is;
              may = is.may;
              keeps = is.keeps;
              stands = subst (λ (s : ℕ). layout.TreeStands (version_by now then_mark kept.seats) s found.nodes raised.base (found.run + 1) kept.tree) size is.stands;
            }

        pub after_unmark : (new : History)
            → ((kept : Kept) → StandsInServed now then_mark raised.size found.nodes (found.run + 1) raised.base kept
            → AddsOnly (StandsForIn (number_of_version now) raised.size found.nodes (found.run + 1) kept) raised.history new)
            → AddsRaised found old.base old.history new
        after_unmark new clears kept stands =
            let at = told kept stands in
            AddsOnly-join (StandsForEither found kept) old.history raised.history new
            (both_parts kept at)
            (AddsOnly-weaken (StandsForIn (number_of_version now) found.sectors found.nodes (found.run + 1) kept) (StandsForEither found kept) raised.history new
            (λ image is. inr is)
            (subst (λ (s : ℕ). AddsOnly (StandsForIn (number_of_version now) s found.nodes (found.run + 1) kept) raised.history new) (sym size)
            (clears kept (served_stands kept at))))

        -- the moments go on
        pub unmark_later : (new : History)
            → ((kept : Kept) → StandsInServed now then_mark raised.size found.nodes (found.run + 1) raised.base kept
            → AddsOnly (StandsForIn (number_of_version now) raised.size found.nodes (found.run + 1) kept) raised.history new)
            → (kept : Kept) → StandsIn found mark old.base kept → moment raised.history ≤ moment new
        unmark_later new clears kept stands = (clears kept (served_stands kept stands)).later

        -- and the nodes that were read are served
        pub serves_from : (cached_nodes : List (Option CachedNode)) (seats : Seats) (new : Log) → cached_nodes ≡ all_second (cached_nodes_in found.nodes old.base) → StandsIn found mark old.base (read_as old.base cached_nodes seats)
            → ((kept : Kept) → StandsInServed now then_mark raised.size found.nodes (found.run + 1) raised.base kept → IsCleared now found.nodes (found.run + 1) kept raised new)
            → ServesFrom found cached_nodes seats old.base new.base
        serves_from cached_nodes seats new read stood clears =
            let kept = read_as old.base cached_nodes seats in
            let cleared = clears kept (served_stands kept stood) in
            let stands : StandsNow now found.sectors found.nodes new.base (found.run + 1) kept =
            subst (λ (s : ℕ). StandsNow now s found.nodes new.base (found.run + 1) kept) (sym size) cleared.stands in
            record {
              read = read ∙ (sym (cleared.cached_nodes ∙ ((raised_to kept stood).cached_nodes ∙ (moves kept stood).cached_nodes))
                  ∙ current_second (cached_nodes_in found.nodes new.base) (second_forms found.version seats (cached_nodes_in found.nodes new.base) stands.stands.laid.forms));
              stands = stands;
            }

-- What it costs to begin a run

-- one flush of a volume of version 1 or 2
few_flushed : (version : VersionNumber) (area : LogArea) (size : ℕ) → area ≡ log_by version size → transaction_cost area ≡ flush_cost version size
few_flushed version area size placed = ap transaction_cost placed

-- the transactions that move the nodes of version 1
pub moved_few : (version : VersionNumber) (nodes count moved size : ℕ) (old new : Log) → version ≡ One → count ≡ nodes → old.area ≡ log_by version old.size
    → MakesAtMost (2 + transactions_for (count - moved) * transaction_cost old.area) old new → MakesAtMost (2 + flush_cost version size * moving_transactions version nodes) old new
moved_few One nodes count moved size old new one same placed few =
    let cost = few_flushed One old.area old.size placed in
    let fewer : transactions_for (count - moved) ≤ transactions_for nodes = omega (arith, same) in
    let all : MakesAtMost (2 + transactions_for (count - moved) * 198) old new =
    subst (λ (n : ℕ). MakesAtMost (2 + transactions_for (count - moved) * n) old new) cost few in
    omega (arith, all, fewer)
moved_few Two nodes count moved size old new one same placed few = absurd (one_not_two (sym one))
moved_few (Three s) nodes count moved size old new one same placed few = absurd (cc)

-- the other versions have none
none_move : (version : VersionNumber) (nodes : ℕ) → version ≡ served version → moving_transactions version nodes ≡ 0
none_move One nodes stays = absurd (one_not_two stays)
none_move Two nodes stays = refl
none_move (Three s) nodes stays = refl

few_more : (count more : ℕ) (old new : Log) → MakesAtMost count old new → MakesAtMost (count + more) old new
few_more count more old new few = omega (arith, few)

pub unmoved_few : (version : VersionNumber) (nodes size : ℕ) (old new : Log) → MakesAtMost 2 old new → MakesAtMost (2 + flush_cost version size * moving_transactions version nodes) old new
unmoved_few version nodes size old new few = few_more 2 (flush_cost version size * moving_transactions version nodes) old new few

-- the one that removes the mark
pub cleared_few : (version : VersionNumber) (old new : Log) → old.area ≡ log_by version old.size → MakesAtMost (transaction_cost old.area) old new → MakesAtMost (flush_cost version old.size) old new
cleared_few version old new placed few = subst (λ (n : ℕ). MakesAtMost n old new) (few_flushed version old.area old.size placed) few

-- together
start_sum : (flush moving first moved raised last : ℕ) → moved ≤ first + (2 + flush * moving) → raised ≤ moved + 2 → last ≤ raised + flush → last ≤ first + (4 + flush * (moving + 1))
start_sum flush moving first moved raised last moves raises clears = omega (arith, moves, raises, clears, mul-add flush moving 1)

same_flush : (version : VersionNumber) (size : ℕ) → flush_cost (served version) size ≡ flush_cost version size
same_flush version size = ap transaction_cost (same_log version size)

pub start_few : (found : Superblock) (size : ℕ) (old moved raised new : Log) → found.sectors ≡ size → MakesAtMost (2 + flush_cost found.version found.sectors * moving_transactions found.version found.nodes) old moved
    → moment raised.history ≤ moment moved.history + 2 → MakesAtMost (flush_cost (served found.version) size) raised new → MakesAtMost (begin_cost found) old new
start_few found size old moved raised new same moves raises clears =
    let last : MakesAtMost (flush_cost found.version found.sectors) raised new = subst (λ (n : ℕ). MakesAtMost n raised new)
    (ap (flush_cost (served found.version)) (sym same) ∙ same_flush found.version found.sectors) clears in
    start_sum (flush_cost found.version found.sectors) (moving_transactions found.version found.nodes) (moment old.history) (moment moved.history) (moment raised.history) (moment new.history) moves raises last

-- and if it stops before the mark is removed
pub stop_few : (found : Superblock) (old moved : Log) (last : ℕ) → MakesAtMost (2 + flush_cost found.version found.sectors * moving_transactions found.version found.nodes) old moved
    → last ≤ moment moved.history + 2 → last ≤ moment old.history + begin_cost found
stop_few found old moved last moves few =
    start_sum (flush_cost found.version found.sectors) (moving_transactions found.version found.nodes) (moment old.history) (moment moved.history) last last moves few (omega arith)

-- if no node moves and there is no mark, a run begins with at most two writes and two syncs

unmarked_none : (version : VersionNumber) (mark : Option ℕ) → version ≡ served version → mark ≡ None → is_marked version mark ≡ false
unmarked_none One mark stays none = absurd (one_not_two stays)
unmarked_none Two mark stays none = ap (is_marked Two) none
unmarked_none (Three s) mark stays none = refl

-- and at most two, if it stops before sector 0
pub stop_brief : (version : VersionNumber) (nodes size : ℕ) (old moved : Log) → version ≡ served version → MakesAtMost (2 + flush_cost version size * moving_transactions version nodes) old moved
    → moment moved.history ≤ moment old.history + 2
stop_brief version nodes size old moved stays few =
    let least : MakesAtMost (2 + flush_cost version size * 0) old moved = subst (λ (n : ℕ). MakesAtMost (2 + flush_cost version size * n) old moved) (none_move version nodes stays) few in
    omega (arith, least)

pub start_brief : (version : VersionNumber) (nodes size : ℕ) (mark : Option ℕ) (old moved raised new : Log) → version ≡ served version → mark ≡ None
    → MakesAtMost (2 + flush_cost version size * moving_transactions version nodes) old moved → moment raised.history ≤ moment moved.history + 2 → (is_marked version mark ≡ false → new ≡ raised)
    → moment new.history ≤ moment old.history + 4
start_brief version nodes size mark old moved raised new stays none few more same =
    let least = stop_brief version nodes size old moved stays few in
    let is : moment new.history ≡ moment raised.history = ap (λ (log : Log). moment log.history) (same (unmarked_none version mark stays none)) in
    omega (arith, least, more, is)

-- Removing the mark

-- if there is one, no seat is kept
marked_bare : (mark : Option ℕ) (seats : Seats) → is_some mark ≡ true → MayHaveSeats Two mark seats → seats ≡ no_seats
marked_bare None seats some may = absurd (cc)
marked_bare (Some moved) seats some may = may

module _ (mark : Option ℕ) (size nodes run : ℕ) (base : Image) (kept : Kept) (some : is_some mark ≡ true) (stands : StandsInServed Two mark size nodes run base kept) where
  none_kept : kept.seats ≡ no_seats
  none_kept = marked_bare mark kept.seats some stands.may

  pub is_bare_kept : bare kept.tree ≡ kept
  is_bare_kept = same_kept (bare kept.tree) kept refl (sym none_kept)

  pub bare_second : layout.TreeStands (version_2 mark no_seats) size nodes base run kept.tree
  bare_second = subst (λ (seats : Seats). layout.TreeStands (version_2 mark seats) size nodes base run kept.tree) none_kept stands.stands

  pub bare_now : (image : Image) → layout.TreeStands (current_version no_seats) size nodes image run kept.tree → StandsNow Two size nodes image run kept
  bare_now image is = record {
    is_number = tt;
    may = tt;
    keeps = stands.keeps;
    stands = subst (λ (seats : Seats). layout.TreeStands (current_version seats) size nodes image run kept.tree) (sym none_kept) is;
  }

-- if there is none, it is held with no mark

no_mark : (version : VersionNumber) (mark : Option ℕ) (size nodes run : ℕ) (base : Image) (kept : Kept) → is_some mark ≡ false → StandsInServed version mark size nodes run base kept → StandsNow version size nodes base run kept
no_mark version None size nodes run base kept none stands = record { is_number = stands.is_number; may = stands.may; keeps = stands.keeps; stands = stands.stands }
no_mark version (Some moved) size nodes run base kept none stands = absurd (cc)

pub unmarked_cleared : (version : VersionNumber) (mark : Option ℕ) (nodes run : ℕ) (kept : Kept) (log : Log) → is_some mark ≡ false → StandsInServed version mark log.size nodes run log.base kept
    → IsCleared version nodes run kept log log
unmarked_cleared version mark nodes run kept log none stands = record { stands = no_mark version mark log.size nodes run log.base kept none stands; cached_nodes = refl }

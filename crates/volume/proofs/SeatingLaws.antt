-- Seats that are edited: a transaction of their sectors.
use Rattle.std.proofs.Common.{◌≡◌, ◌≤◌, ◌<◌, ◌+◌, ◌-◌, ◌/◌, ◌%◌, ◌&&◌, ◌⊎◌, ℕ, true, false, List, Option, Some, None, get_or, leb, length, ltb, inl, inr, ⊎_elim, refl, sym, ap, ◌∙◌, arith}
use Rattle.std.proofs.Math.Logic.{∥∥₁_elim}
use Rattle.std.proofs.lemmas.Bool.{and_parts, cases_eq, cases_lt, leb-true, ltb-true, lt-ltb, or_cases}
use Rattle.std.proofs.lemmas.List.{get_or_past}
use Rattle.std.specs.Prelude.{IfErr, IsTrue, IsErrOf, OnOk, Result, Ok, Err}
use Rattle.disk.specs.Moments.{Image, applied}
use Rattle.disk.specs.declared.update.Update.{Update}
use Rattle.geometry.specs.Places.{seats_start}
use Rattle.geometry.specs.declared.superblock.Superblock.{Superblock}
use Rattle.inode.specs.declared.node.Form.TheVariants as forms
use Rattle.journal.specs.Log.{Log, AnswersByDevice, contents}
use Rattle.journal.specs.declared.fault.JournalFault.{JournalFault}
use Rattle.journal.specs.declared.fault.JournalFault.TheVariants as faults
use Rattle.layout.specs.CachedNodes.{CachedNode, cached_nodes_in, node_sector, tree_of}
use Rattle.layout.specs.Large.{is_of_seats, large_sizes}
use Rattle.layout.specs.Rewriting.{IsRewritten}
use Rattle.layout.specs.Stands as layout
use Rattle.layout.specs.Stands.{HaveCurrentForms, HaveForms, HoldSeats, MayHaveSeats, StandsNow, data_end_by, five_places, form_by, is_before_nodes, is_spare_in, seats_at, seats_from, sizes_by, spare_by, spare_in, version_by}
use Rattle.layout.specs.Versions.{IsNumber, IsServed}
use Rattle.layout.specs.declared.versions.VersionNumber.{VersionNumber}
use Rattle.layout.specs.declared.versions.VersionNumber.TheVariants as numbers
use Rattle.layout.proofs.FirstLaws.{before_nodes}
use Rattle.layout.proofs.Rewriting.{current_second, form_stays, rewritten_cached_nodes, rewritten_stands}
use Rattle.layout.proofs.SeatLaws.{behind_nodes, holds_seats, is_seat, seat_spare, spare_seats, version_region}
use Rattle.model_tree.specs.Seats.SeatEdits.{SeatEdit, AreEdits, edited_all}
use Rattle.model_tree.specs.Seats.Seats.{Seats}
use Rattle.model_tree.specs.Trees.Tree.{Tree}
use Rattle.volume.specs.SeatTransactions.{AreUpdates}
use Rattle.volume.specs.SeatUpdates.{slots_by}
use Rattle.seats.specs.Encoding.{ArePlaces, is_determined, is_determined_in, seat_sector, seats_sector}
use Rattle.seats.specs.Sizes.{all_sectors}
use Rattle.volume.specs.Known.{IsServing, kept_in_image}
use Rattle.volume.proofs.ApplyLaws.{StandsWith}
use Rattle.volume.proofs.ChangeLaws.{StandsWith-prop}
use Rattle.volume.proofs.SeatPlaces.{seats_from_100}
use Rattle.volume.proofs.ServeLaws.{up_answered}
use Rattle.volume.proofs.StandLaws.{is_number}

-- A version in which volumes are served has nodes of form two and may have seats

second_form : (version : VersionNumber) (place : ℕ) → IsServed version → form_by version None place ≡ forms.Two
second_form numbers.One place served = absurd served
second_form numbers.Two place served = refl
second_form (numbers.Three s) place served = refl

second_forms : (version : VersionNumber) (seats : Seats) (cached_nodes : List (Option CachedNode)) → IsServed version → HaveForms (version_by version None seats) cached_nodes → HaveCurrentForms cached_nodes
second_forms version seats cached_nodes served have place cached there = have place cached there ∙ second_form version place served

may_seat : (version : VersionNumber) (seats : Seats) → IsServed version → MayHaveSeats version None seats
may_seat numbers.One seats served = absurd served
may_seat numbers.Two seats served = tt
may_seat (numbers.Three s) seats served = tt

-- The sectors of seats, and the others

abbrev Beside : VersionNumber → ℕ → Type 0
Beside version n = (n < seats_from version) ⊎ (seats_from version + all_sectors (sizes_by version) ≤ n)

-- nodes and the data region are behind them, or in version 3 in front of them
beside_region : (version : VersionNumber) (size n : ℕ) → 148 ≤ n → n < data_end_by version size → Beside version n
beside_region numbers.One size n low high = inr (let past : 145 ≤ n = omega (arith, low) in past)
beside_region numbers.Two size n low high = inr (let past : 145 ≤ n = omega (arith, low) in past)
beside_region (numbers.Three s) size n low high = inl high

-- the two sectors behind the seats of version 2 are those of no seat
behind_seats : (seats : Seats) (n : ℕ) → length seats ≡ 5 → 45 ≤ n → n < 47 → seats_sector five_places n seats ≡ seat_sector (n % 9) None
behind_seats seats n five low high = ap (seat_sector (n % 9)) (get_or_past seats (n / 9) None (omega (arith, five, low)))

-- What the spare sectors hold after the transaction, in each version
module _ (was is : Seats) (image now : Image) where
  abbrev Others : VersionNumber → Type 0
  Others version = (n : ℕ) → Beside version n → now n ≡ image n

  abbrev AreSpare : VersionNumber → Seats → Image → Type 0
  AreSpare version seats image = (n : ℕ) → IsTrue (is_spare_in version seats n) → image n ≡ spare_in version None seats n

  second_spare : length was ≡ 5 → length is ≡ 5 → Others numbers.Two → HoldSeats numbers.Two now is → AreSpare numbers.Two was image → AreSpare numbers.Two is now
  second_spare five_was five others held spare n is_so = let both = before_nodes n is_so in let low = both.0 in let high = both.1 in ⊎_elim
      (λ (mark : n ≡ 147). others n (inr (let past : 145 ≤ n = omega (arith, mark) in past)) ∙ (spare n is_so ∙ (ap (spare_by was None) mark ∙ sym (ap (spare_by is None) mark))))
      (λ (other : n ≡ 147 → ⊥). ⊎_elim
      (λ (seat : n < 145). ap now (let e : n ≡ 100 + (n - 100) = omega (arith, low) in e)
      ∙ (held (n - 100) (is_seat numbers.Two (n - 100) is (omega (arith, seat, low)) (whole ((n - 100) % 9) (get_or is ((n - 100) / 9) None))) ∙ sym (spare_seats is None n other)))
      (λ (past : 145 ≤ n). others n (inr past) ∙ (spare n is_so ∙ (spare_seats was None n other
      ∙ (behind_seats was (n - 100) five_was (omega (arith, past)) (below n high other low)
      ∙ (sym (behind_seats is (n - 100) five (omega (arith, past)) (below n high other low)) ∙ sym (spare_seats is None n other))))))
      (cases_lt n 145))
      (cases_eq n 147)
    where
      below : (n : ℕ) → n < 148 → (n ≡ 147 → ⊥) → 100 ≤ n → n - 100 < 47
      below n high other low = ⊎_elim (λ (less : n < 147). omega (arith, less, low)) (λ (no : 147 ≤ n). absurd (other (omega (arith, no, high)))) (cases_lt n 147)

      whole : (k : ℕ) (seat : _) → IsTrue (is_determined true k seat)
      whole k None = refl
      whole k (Some seat) = refl

  module _ (s : Superblock) (served : IsServed (numbers.Three s)) (others : Others (numbers.Three s)) (held : HoldSeats (numbers.Three s) now is) (spare : AreSpare (numbers.Three s) was image) where
    abbrev first : ℕ
    first = seats_start s.geometry

    -- the zeros in front of the nodes
    zeros_spare : (n : ℕ) → IsTrue (leb 98 n && ltb n 148) → now n ≡ spare_in (numbers.Three s) None is n
    zeros_spare n zeros =
        let low : n < 148 = ltb-true n 148 (and_parts (leb 98 n) (ltb n 148) zeros).1 in
        others n (inl (omega (arith, low, behind_nodes s.geometry served.fits)))
        ∙ (spare n (rw zeros refl) ∙ (rw (lt-ltb n 148 low) refl))

    -- the seats that are determined
    seats_spare : (n : ℕ) → IsTrue (is_of_seats s.geometry is n) → now n ≡ spare_in (numbers.Three s) None is n
    seats_spare n there =
        let behind = first + all_sectors (large_sizes s.geometry) in
        let both = and_parts (leb first n && ltb n behind) (is_determined_in (large_sizes s.geometry) false (n - first) is) there in
        let ends = and_parts (leb first n) (ltb n behind) both.0 in
        let low : first ≤ n = leb-true first n ends.0 in
        let high : n < behind = ltb-true n behind ends.1 in
        let within : n - first < all_sectors (large_sizes s.geometry) = omega (arith, low, high) in
        let at : n ≡ first + (n - first) = omega (arith, low) in
        ap now at ∙ (held (n - first) (is_seat (numbers.Three s) (n - first) is within both.1)
        ∙ (sym (seat_spare (numbers.Three s) None (n - first) is served tt within) ∙ sym (ap (spare_in (numbers.Three s) None is) at)))

    large_spare : AreSpare (numbers.Three s) is now
    large_spare n is_so = elim (or_cases (leb 98 n && ltb n 148) (is_of_seats s.geometry is n) is_so) [
      | inl zeros ↦ zeros_spare n zeros
      | inr there ↦ seats_spare n there
    ]

  spare_then : (version : VersionNumber) → IsServed version → ArePlaces (sizes_by version) was → ArePlaces (sizes_by version) is → Others version → HoldSeats version now is → AreSpare version was image → AreSpare version is now
  spare_then numbers.One served before after others held spare = absurd served
  spare_then numbers.Two served before after others held spare = second_spare before.count after.count others held spare
  spare_then (numbers.Three s) served before after others held spare = large_spare s served others held spare

-- What the sectors hold after the transaction: the same cached nodes and tree, with the edited
-- seats
module _ (version : VersionNumber) (served : IsServed version) (nodes run : ℕ) (log : Log) (cached_nodes : List (Option CachedNode)) (edits : List SeatEdit) (updates : List Update) (are : AreUpdates version edits updates)
    (read : cached_nodes ≡ cached_nodes_in nodes (contents log)) (stood : StandsNow version log.size nodes (contents log) run (kept_in_image version (contents log) cached_nodes))
    (can : AreEdits run (slots_by version) edits (seats_at version (contents log))) where
  abbrev image : Image
  image = contents log

  abbrev now : Image
  now = applied updates image

  abbrev was : Seats
  was = seats_at version image

  abbrev is : Seats
  is = edited_all edits was

  abbrev old_version : layout.Version
  old_version = version_by version None was

  abbrev new_version : layout.Version
  new_version = version_by version None is

  abbrev tree : Tree
  tree = tree_of image cached_nodes

  number : IsNumber version
  number = is_number version served

  stands : layout.TreeStands old_version log.size nodes image run tree
  stands = stood.stands

  holds : HoldSeats version image was
  holds = holds_seats version None was image number stood.may stands.laid.spare

  places : ArePlaces (sizes_by version) is
  places = (are.edited image was stood.keeps.places can.can).places

  held : HoldSeats version now is
  held = (are.edited image was stood.keeps.places can.can).lays holds

  -- a node's place is within the data region's end
  node_is : (place : ℕ) → place < nodes → now (node_sector place) ≡ image (node_sector place)
  node_is place within = are.others image (node_sector place) (beside_region version log.size (node_sector place) (omega arith) (omega (arith, within, stands.region.behind)))

  in_front : (n : ℕ) → n < 100 → now n ≡ image n
  in_front n low = are.others image n (inl (omega (arith, low, seats_from_100 version number)))

  rewrites : IsRewritten old_version new_version log.size nodes run image now
  rewrites = record {
    sized = stands.sized;
    region = version_region version None is log.size nodes number stands.sized;
    first = in_front 0 (omega arith) ∙ stands.first;
    limits = refl;
    others = record {
      marking = refl;
      data_end = refl;
      roomy = λ place within. inr (second_form version place served);
      bitmap = λ n low high. in_front n high;
      spare = spare_then was is image now version served stood.keeps.places places (are.others image) held stands.laid.spare;
      nodes_are = λ place within. node_is place within ∙ sym (form_stays old_version log.size nodes run image tree place stands within);
      region = λ n low high. are.others image n (beside_region version log.size n (omega (arith, low)) high);
    };
  }

  now_stands : layout.TreeStands new_version log.size nodes now run tree
  now_stands = rewritten_stands old_version new_version log.size nodes run run image now tree stands (omega arith) stands.counted rewrites

  same_cached_nodes : cached_nodes_in nodes now ≡ cached_nodes_in nodes image
  same_cached_nodes =
      sym (current_second (cached_nodes_in nodes now) (second_forms version is (cached_nodes_in nodes now) served now_stands.laid.forms))
      ∙ (rewritten_cached_nodes old_version new_version log.size nodes run run image now tree stands rewrites
      ∙ current_second (cached_nodes_in nodes image) (second_forms version was (cached_nodes_in nodes image) served stands.laid.forms))

  pub seated_with : StandsWith version nodes run log updates cached_nodes (record { tree = tree; seats = is })
  seated_with = record {
    read = read ∙ sym same_cached_nodes;
    tree = ap (tree_of now) (read ∙ sym same_cached_nodes) ∙ sym now_stands.tree_is;
    stands = ∣ record { is_number = number; may = may_seat version is served; keeps = record { places = places; of_runs = can.of_runs }; stands = now_stands } ∣₁;
  }

-- if a volume serves
pub seats_behind : (version : VersionNumber) → IsServed version → (nodes run : ℕ) (log : Log) (cached_nodes : List (Option CachedNode)) (edits : List SeatEdit) (updates : List Update) → AreUpdates version edits updates
    → AreEdits run (slots_by version) edits (seats_at version (contents log)) → ∥ IsServing version log nodes run cached_nodes ∥₁
    → StandsWith version nodes run log updates cached_nodes (record { tree = tree_of (contents log) cached_nodes; seats = edited_all edits (seats_at version (contents log)) })
seats_behind version is_served nodes run log cached_nodes edits updates are can serving =
    ∥∥₁_elim serving (StandsWith-prop version nodes run log updates cached_nodes _) (λ served.
    ∥∥₁_elim served.stands (StandsWith-prop version nodes run log updates cached_nodes _) (λ stood.
    seated_with version is_served nodes run log cached_nodes edits updates are served.read stood can))

-- a transaction that is small enough is refused only because of the device
either_fault : (fault : JournalFault) → (fault ≡ faults.TooMany → ⊥) → (fault ≡ faults.TooMany) ⊎ ((fault ≡ faults.Fault) ⊎ (fault ≡ faults.Down))
    → (fault ≡ faults.Fault) ⊎ (fault ≡ faults.Down)
either_fault fault few refuses = ⊎_elim (λ (many : fault ≡ faults.TooMany). absurd (few many)) (λ (rest : (fault ≡ faults.Fault) ⊎ (fault ≡ faults.Down)). rest) refuses

-- so a call that leaves the journal up has taken it
pub up_applied : (keeps_word : Type 0) (old new : Log) (before after : ℕ) (P : Type 0) (result : Result (Unit {0}) JournalFault) → OnOk result P
    → AnswersByDevice old new before after result → IfErr result (λ fault. (fault ≡ faults.TooMany) ⊎ ((fault ≡ faults.Fault) ⊎ (fault ≡ faults.Down)))
    → (IsErrOf result faults.TooMany → ⊥) → new.is_down ≡ false → P
up_applied keeps_word old new before after P result applied answers refuses few is_up =
    (up_answered keeps_word old new before after P result applied answers (for_device result refuses few) is_up).0
  where
    for_device : (result : Result (Unit {0}) JournalFault) → IfErr result (λ fault. (fault ≡ faults.TooMany) ⊎ ((fault ≡ faults.Fault) ⊎ (fault ≡ faults.Down)))
        → (IsErrOf result faults.TooMany → ⊥) → IfErr result (λ fault. (fault ≡ faults.Fault) ⊎ (fault ≡ faults.Down))
    for_device (Ok done) refuses few = tt
    for_device (Err fault) refuses few = either_fault fault (λ many. few (ap Err many)) refuses

use Rattle.std.proofs.Common.{◌≡◌, ◌≤◌, ◌+◌, ◌∙◌, ℕ, Bool, List, length, replicate, false, sym, ap, subst, arith}
use Rattle.std.specs.Prelude.{Err}
use Rattle.std.proofs.lemmas.Bool.{false≢true}
use Rattle.std.proofs.lemmas.List.{length-replicate}
use Rattle.layout.specs.Laid.{AreNumbered}
use Rattle.layout.specs.Stands.{HoldSeats, IsLaid, data_end_by, form_by, mark_held, marking_by, seats_from, sizes_by, version_by}
use Rattle.layout.specs.declared.versions.Marking.{Marking}
use Rattle.layout.proofs.SeatLaws.{holds_seats}
use Rattle.model_tree.specs.Seats.SeatViews.{seats_view}
use Rattle.seats.specs.Sizes.{all_sectors}
use Rattle.volume_load.specs.declared.fault.ScanFault.{ScanFault}
use Rattle.volume_load.specs.Seating.{MayStand}
use Rattle.volume_load.specs.Sectors.{AreSpare, HaveBits, ShowMarks, zeros_from}
use Rattle.volume_load.specs.Volumes.{IsRead}
use Rattle.volume_load.proofs.SeatingLaws.{seats_within}
use Rattle.volume_load.proofs.SectorLaws.{same_fault}
use Rattle.volume_load.proofs.SpareLaws.{mark_there, zeros_there}
use Rattle.volume_load.proofs.VolumeLaws.{can_here, have_bits, is_read, laid_here, one_table}
use Rattle.volume_load.proofs.volume.read_volume.Goals as goal

places_counted : (count : ℕ) (places : List Bool) → places ≡ replicate count false → length places ≡ count
places_counted count places is = ap (λ (l : List Bool). length l) is ∙ length-replicate count false

pub returns-in_err-mark-clause-damaged : goal.returns-in_err-mark-clause-damaged
returns-in_err-mark-clause-damaged g c = λ word is other seats cached_nodes one may keeps there few.
    c.in_err-mark.ensures.damaged word (ap (λ (e : ScanFault). Err e) (same_fault c.from_residual.result c.in_err-mark.field-0.0 c.from_residual.ensures.1 is)) other one
    (mark_there c.args.number c.args.nodes other seats (g.S.Sectors.image (g.S.Sectors.kept c.args.sectors.now)) one there.spare)

pub returns-in_err-cached_nodes-clause-damaged : goal.returns-in_err-cached_nodes-clause-damaged
returns-in_err-cached_nodes-clause-damaged g c = λ word is other seats cached_nodes one may keeps there few.
    let number = c.args.number in
    let mark = c.in_ok-mark.mark in
    let image = g.S.Sectors.image (g.S.Sectors.kept c.read_mark.new.sectors) in
    let laid = subst (λ kept. IsLaid (version_by number other seats) c.args.size c.args.nodes (g.S.Sectors.image kept) cached_nodes) (sym c.in_ok-mark.ensures.kept) there in
    let stands = subst (λ kept. g.S.Sectors.image kept 147 ≡ mark_held mark) (sym c.in_ok-mark.ensures.kept) (c.in_ok-mark.ensures.found word) in
    let count = length c.in_ok-places.places in
    let sized : data_end_by number c.args.size ≡ 148 + c.args.nodes + count = c.data_sectors-count.ensures.count ∙ ap (λ (n : ℕ). 148 + c.args.nodes + n) (sym (places_counted c.data_sectors-count.result c.in_ok-places.places c.in_ok-places.ensures)) in
    let can = can_here number mark other seats image c.args.size c.args.nodes cached_nodes (omega arith) c.in_ok-mark.ensures.marked stands one may laid g.S.Sectors.keeps_word count sized few in
    c.in_err-cached_nodes.ensures.damaged word (ap (λ (e : ScanFault). Err e) (same_fault c.from_residual-in_err-cached_nodes.result c.in_err-cached_nodes.field-0.0 c.from_residual-in_err-cached_nodes.ensures.1 is)) cached_nodes can

pub returns-then-not-branch-clause-damaged : goal.returns-then-not-branch-clause-damaged
returns-then-not-branch-clause-damaged g c = λ word is other seats cached_nodes one may keeps there few.
    let number = c.args.number in
    let mark = c.in_ok-mark.mark in
    let image = g.S.Sectors.image (g.S.Sectors.kept c.read_mark.new.sectors) in
    let laid = subst (λ kept. IsLaid (version_by number other seats) c.args.size c.args.nodes (g.S.Sectors.image kept) cached_nodes) (sym c.in_ok-mark.ensures.kept) there in
    let stands = subst (λ kept. g.S.Sectors.image kept 147 ≡ mark_held mark) (sym c.in_ok-mark.ensures.kept) (c.in_ok-mark.ensures.found word) in
    let count = length c.in_ok-places.places in
    let sized : data_end_by number c.args.size ≡ 148 + c.args.nodes + count = c.data_sectors-count.ensures.count ∙ ap (λ (n : ℕ). 148 + c.args.nodes + n) (sym (places_counted c.data_sectors-count.result c.in_ok-places.places c.in_ok-places.ensures)) in
    let can = can_here number mark other seats image c.args.size c.args.nodes cached_nodes (omega arith) c.in_ok-mark.ensures.marked stands one may laid g.S.Sectors.keeps_word count sized few in
    let same = one_table g.S.Sectors.keeps_word (form_by number mark) image c.args.nodes count c.in_ok-cached_nodes.cached_nodes.items cached_nodes c.read_table.new.places word c.in_ok-cached_nodes.ensures.found can in
    false≢true (sym c.if-not-branch.true ∙ c.in_ok-are_numbered.ensures.1 (subst AreNumbered (sym same ∙ sym c.deref.ensures.value) laid.laid.apart))

pub returns-in_err-check_bitmap-clause-damaged : goal.returns-in_err-check_bitmap-clause-damaged
returns-in_err-check_bitmap-clause-damaged g c = λ word is other seats cached_nodes one may keeps there few.
    let number = c.args.number in
    let mark = c.in_ok-mark.mark in
    let image = g.S.Sectors.image (g.S.Sectors.kept c.read_mark.new.sectors) in
    let laid = subst (λ kept. IsLaid (version_by number other seats) c.args.size c.args.nodes (g.S.Sectors.image kept) cached_nodes) (sym c.in_ok-mark.ensures.kept) there in
    let stands = subst (λ kept. g.S.Sectors.image kept 147 ≡ mark_held mark) (sym c.in_ok-mark.ensures.kept) (c.in_ok-mark.ensures.found word) in
    let count = length c.in_ok-places.places in
    let sized : data_end_by number c.args.size ≡ 148 + c.args.nodes + count = c.data_sectors-count.ensures.count ∙ ap (λ (n : ℕ). 148 + c.args.nodes + n) (sym (places_counted c.data_sectors-count.result c.in_ok-places.places c.in_ok-places.ensures)) in
    let can = can_here number mark other seats image c.args.size c.args.nodes cached_nodes (omega arith) c.in_ok-mark.ensures.marked stands one may laid g.S.Sectors.keeps_word count sized few in
    let bits = have_bits (marking_by number) g.S.Sectors.keeps_word (form_by number mark) image c.args.nodes count c.in_ok-cached_nodes.cached_nodes.items cached_nodes c.read_table.new.places word c.in_ok-cached_nodes.ensures.found can laid.laid in
    c.in_err-check_bitmap.ensures.damaged word (ap (λ (e : ScanFault). Err e) (same_fault c.from_residual-in_err-check_bitmap.result c.in_err-check_bitmap.field-0.0 c.from_residual-in_err-check_bitmap.ensures.1 is))
    (subst (λ (m : Marking). HaveBits m (g.S.Sectors.image (g.S.Sectors.kept c.read_table.new.sectors)) c.read_table.new.places) (sym c.marking.ensures)
    (subst (λ kept. HaveBits (marking_by number) (g.S.Sectors.image kept) c.read_table.new.places) (sym c.in_ok-cached_nodes.ensures.kept) bits))

pub returns-in_err-check_spare-clause-damaged : goal.returns-in_err-check_spare-clause-damaged
returns-in_err-check_spare-clause-damaged g c = λ word is other seats cached_nodes one may keeps there few.
    let kept = c.in_ok-check_bitmap.ensures.kept ∙ c.in_ok-cached_nodes.ensures.kept ∙ c.in_ok-mark.ensures.kept in
    let zeros = zeros_there c.args.number other seats (g.S.Sectors.image (g.S.Sectors.kept c.args.sectors.now)) may keeps.places there.spare in
    c.in_err-check_spare.ensures.damaged word (ap (λ (e : ScanFault). Err e) (same_fault c.from_residual-in_err-check_spare.result c.in_err-check_spare.field-0.0 c.from_residual-in_err-check_spare.ensures.1 is))
    (subst (λ (first : ℕ). AreSpare first (g.S.Sectors.image (g.S.Sectors.kept c.check_bitmap.new.sectors))) (sym c.zeros_from.ensures)
    (subst (λ moved. AreSpare (zeros_from c.args.number) (g.S.Sectors.image moved)) (sym kept) zeros))

pub returns-in_err-seats-clause-damaged : goal.returns-in_err-seats-clause-damaged
returns-in_err-seats-clause-damaged g c = λ word is other seats cached_nodes one may keeps there few.
    let number = c.args.number in
    let mark = c.in_ok-mark.mark in
    let image = g.S.Sectors.image (g.S.Sectors.kept c.args.sectors.now) in
    let kept = c.in_ok-check_spare.ensures.kept ∙ c.in_ok-check_bitmap.ensures.kept ∙ c.in_ok-cached_nodes.ensures.kept ∙ c.in_ok-mark.ensures.kept in
    let here = laid_here number mark other seats image c.args.size c.args.nodes cached_nodes (omega arith) c.in_ok-mark.ensures.marked (c.in_ok-mark.ensures.found word) one may there in
    let stands : MayStand (sizes_by number) c.args.run c.may_keep.result seats = record { kept = keeps; none = (c.may_keep.ensures.may seats).0 here.may } in
    c.in_err-seats.ensures.damaged word (ap (λ (e : ScanFault). Err e) (same_fault c.from_residual-in_err-seats.result c.in_err-seats.field-0.0 c.from_residual-in_err-seats.ensures.1 is)) seats stands
    (subst (λ moved. HoldSeats number (g.S.Sectors.image moved) seats) (sym kept) (holds_seats number other seats image c.requires.number may there.spare))

pub read_seats-requires-clause-within : goal.read_seats-requires-clause-within
read_seats-requires-clause-within g c =
    let within = seats_within c.args.number c.args.size c.args.nodes c.requires.number c.requires.sized in
    subst (λ kept. seats_from c.args.number + all_sectors (sizes_by c.args.number) ≤ g.S.Sectors.size kept) (sym (c.in_ok-check_spare.ensures.kept ∙ c.in_ok-check_bitmap.ensures.kept ∙ c.in_ok-cached_nodes.ensures.kept ∙ c.in_ok-mark.ensures.kept))
    (omega (arith, within, c.requires.size))

pub returns-clause-found : goal.returns-clause-found
returns-clause-found g c =
    let keeps = g.S.Sectors.keeps_word in
    let number = c.args.number in
    let mark = c.in_ok-mark.mark in
    let image = g.S.Sectors.image (g.S.Sectors.kept c.read_mark.new.sectors) in
    let places = c.read_table.new.places in
    let count = length c.in_ok-places.places in
    let counted : count ≡ c.data_sectors-count.result = places_counted c.data_sectors-count.result c.in_ok-places.places c.in_ok-places.ensures in
    let sized : data_end_by number c.args.size ≡ 148 + c.args.nodes + count = c.data_sectors-count.ensures.count ∙ ap (λ (n : ℕ). 148 + c.args.nodes + n) (sym counted) in
    let apart = subst AreNumbered c.deref.ensures.value (c.in_ok-are_numbered.ensures.0 c.if-not-branch.false) in
    let first = c.in_ok-cached_nodes.ensures.kept in
    let third = c.in_ok-check_bitmap.ensures.kept ∙ first in
    let shown = subst (λ kept. keeps → ShowMarks (marking_by number) (g.S.Sectors.image kept) places) first
    (subst (λ (m : Marking). keeps → ShowMarks m (g.S.Sectors.image (g.S.Sectors.kept c.read_table.new.sectors)) places) c.marking.ensures c.in_ok-check_bitmap.ensures.found) in
    let fourth = c.in_ok-check_spare.ensures.kept ∙ third in
    let seats = seats_view c.in_ok-seats.seats in
    let stands = c.in_ok-seats.ensures.stands in
    let may = (c.may_keep.ensures.may seats).1 stands.none in
    let holds = subst (λ kept. keeps → HoldSeats number (g.S.Sectors.image kept) seats) fourth c.in_ok-seats.ensures.found in
    let spare = subst (λ kept. keeps → AreSpare (zeros_from number) (g.S.Sectors.image kept)) third
    (subst (λ (n : ℕ). keeps → AreSpare n (g.S.Sectors.image (g.S.Sectors.kept c.check_bitmap.new.sectors))) c.zeros_from.ensures c.in_ok-check_spare.ensures.found) in
    let there = subst (λ kept. keeps → g.S.Sectors.image kept 147 ≡ mark_held mark) (sym c.in_ok-mark.ensures.kept) c.in_ok-mark.ensures.found in
    let read = is_read keeps number c.args.run mark seats image c.args.size c.args.nodes count c.in_ok-cached_nodes.cached_nodes.items places c.requires.number sized (λ in_sectors. let few = c.data_sectors-count.ensures.few in_sectors in omega (arith, counted, few)) c.in_ok-mark.ensures.marked may stands.kept c.in_ok-cached_nodes.ensures.found apart shown there holds spare in
    subst (λ kept. IsRead keeps c.args.size c.args.nodes number c.args.run mark seats (g.S.Sectors.image kept) c.in_ok-cached_nodes.cached_nodes.items places) c.in_ok-mark.ensures.kept read

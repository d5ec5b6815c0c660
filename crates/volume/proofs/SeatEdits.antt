-- What the edits of all places write, in one transaction.
use Rattle.std.proofs.Common.{◌≡◌, ◌≤◌, ◌<◌, ◌+◌, ◌*◌, ◌/◌, ◌%◌, ◌⊎◌, ◌++◌, ℕ, zero, suc, Bool, true, false, if◌then◌else◌, List, [], ◌∷◌, Option, Some, None, length, map, min, get_or, set, take, inl, inr, refl, sym, ap, ap₂, ◌∙◌, subst, arith, ⊎_elim}
use Rattle.std.specs.List.{AllByRecursion}
use Rattle.std.proofs.lemmas.Bool.{cases_lt}
use Rattle.std.proofs.lemmas.List.{take-map, take_all, append-nil, append_assoc, length-append, length-map, length-set, length-take-le, map_more}
use Rattle.disk.specs.declared.update.Update.{Update}
use Rattle.disk.specs.Moments.{Image, put, applied}
use Rattle.journal.specs.Layout.{targets}
use Rattle.journal.proofs.Images.{Out, Fit, Out-join, applied_out}
use Rattle.journal.proofs.Lists.{targets_of-Fit}
use Rattle.layout.specs.Versions.{HoldSeats, IsNumber, frees_whole, seats_from, sizes_by}
use Rattle.layout.specs.declared.versions.VersionNumber.{VersionNumber}
use Rattle.layout.proofs.SeatLaws.{is_seat, seat_determined, within_seats}
use Rattle.model_tree.specs.Seats.SeatEdits.{SeatEdit, Stays, Frees, Takes, Holds, CanEdit, CanEditAll, edit_view, edits_view, edited_seat, edited_all}
use Rattle.model_tree.specs.Seats.Seats.{HeldReply, Seat, Seats}
use Rattle.model_tree.specs.declared.seats.SeatEdit as code_edit
use Rattle.model_tree.specs.declared.seat_edits.SeatEdits as code
use Rattle.model_tree.specs.declared.seats.SeatEdit.TheVariants as kinds
use Rattle.seats.specs.Encoding.{ArePlaces, IsHeld, IsSeatPlace, IsSeat, IsSlot, is_determined, seat_sector}
use Rattle.seats.specs.Sizes.{all_sectors}
use Rattle.seats.specs.declared.sizes.SeatSizes.{SeatSizes}
use Rattle.seats.proofs.Every.{every_held, every_seat}
use Rattle.seats.proofs.Places.{apart_again, determined_of_place, next_place, part_within, place_within, sector_of_place, within_places}
use Rattle.model_tree.specs.Seats.SeatWrites.{writes_of}
use Rattle.std.proofs.Math.Nat.{mul-le-mul_left, mul_comm}
use Rattle.volume.specs.SeatTransactions.{AreUpdates, most_updates}
use Rattle.volume.specs.SeatUpdates.{edit_updates, freed_sectors, place_start, sectors_by, slots_by, updates_by, updates_from}
use Rattle.volume.proofs.SeatPlaces.{HoldsAt, edit_out, edit_fit, edit_short, edit_there, seats_from_100, wide}
use Rattle.volume.proofs.SeatRows.{length-row}

pub applied-append : (a b : List Update) (image : Image) → applied (a ++ b) image ≡ applied b (applied a image)
applied-append [] b image = refl
applied-append (u ∷ a) b image = applied-append a b (put image u)

targets-append : (a b : List Update) → targets (a ++ b) ≡ targets a ++ targets b
targets-append [] b = refl
targets-append (u ∷ a) b = ap (λ (ts : List ℕ). u.target ∷ ts) (targets-append a b)

-- the edit of one place more
updates-push : (version : VersionNumber) (place : ℕ) (edits : List SeatEdit) (edit : SeatEdit)
    → updates_from version place (edits ++ edit ∷ []) ≡ updates_from version place edits ++ edit_updates version (place + length edits) edit
updates-push version place [] edit =
    append-nil (edit_updates version place edit) ∙ ap (λ (p : ℕ). edit_updates version p edit) (let q : place ≡ place + 0 = omega arith in q)
updates-push version place (first ∷ edits) edit =
    ap (λ (us : List Update). edit_updates version place first ++ us)
    (updates-push version (suc place) edits edit
    ∙ ap (λ (p : ℕ). updates_from version (suc place) edits ++ edit_updates version p edit) (let q : suc place + length edits ≡ place + suc (length edits) = omega arith in q))
    ∙ sym (append_assoc (edit_updates version place first) (updates_from version (suc place) edits) (edit_updates version (place + length (first ∷ edits)) edit))

pub updates_more : (version : VersionNumber) (edits : List code_edit.SeatEdit) (i : ℕ) (edit : code_edit.SeatEdit) (now next : List Update) → i < length edits → edit ≡ get_or edits i edit
    → now ≡ updates_from version 0 (map edit_view (take i edits)) → next ≡ now ++ edit_updates version i (edit_view edit) → next ≡ updates_from version 0 (map edit_view (take (i + 1) edits))
updates_more version edits i edit now next low is before push =
    let done : List SeatEdit = map edit_view (take i edits) in
    let count : length done ≡ i = length-map (take i edits) edit_view ∙ length-take-le i edits (omega arith) in
    push
    ∙ ap₂ (λ (us : List Update) (p : ℕ). us ++ edit_updates version p (edit_view edit)) before (let q : i ≡ 0 + length done = omega arith in q)
    ∙ sym (updates-push version 0 done (edit_view edit))
    ∙ ap (λ (one : code_edit.SeatEdit). updates_from version 0 (done ++ edit_view one ∷ [])) is
    ∙ ap (updates_from version 0) (sym (map_more edit_view edits i edit low))

Fit-join : (size : ℕ) (a b : List ℕ) → Fit size a → Fit size b → ((n : ℕ) → Out b n ⊎ Out a n) → Fit size (a ++ b)
Fit-join size [] b fit rest apart = rest
Fit-join size (t ∷ a) b fit rest apart = (
  fit.0,
  fit.1,
  Out-join a b t fit.2 (⊎_elim (λ (o : Out b t). o) (λ (o : Out (t ∷ a) t). absurd (o.0 refl)) (apart t)),
  Fit-join size a b fit.3 rest (λ n. ⊎_elim (λ (o : Out b n). inl o) (λ (o : Out (t ∷ a) n). inr o.1) (apart n)),
)

-- How many of the edits write a seat or a reply

abbrev pub writes_in : SeatEdit → ℕ
writes_in Stays = 0
writes_in Frees = 0
writes_in (Takes seat) = 1
writes_in (Holds slot held) = 1

abbrev pub writes_in_all : List SeatEdit → ℕ
writes_in_all [] = 0
writes_in_all (edit ∷ edits) = writes_in edit + writes_in_all edits

writes_viewed : (edits : List code_edit.SeatEdit) → writes_in_all (map edit_view edits) ≡ writes_of edits
writes_viewed [] = refl
writes_viewed (kinds.Stays ∷ edits) = ap (λ (n : ℕ). 0 + n) (writes_viewed edits)
writes_viewed (kinds.Frees ∷ edits) = ap (λ (n : ℕ). 0 + n) (writes_viewed edits)
writes_viewed (kinds.Takes seat ∷ edits) = ap (λ (n : ℕ). 1 + n) (writes_viewed edits)
writes_viewed (kinds.Holds slot held ∷ edits) = ap (λ (n : ℕ). 1 + n) (writes_viewed edits)

writes_taken : (n : ℕ) (edits : List SeatEdit) → writes_in_all (take n edits) ≤ writes_in_all edits
writes_taken zero edits = let none : writes_in_all (take zero edits) ≡ 0 = refl in omega (arith, none)
writes_taken (suc n) [] = omega arith
writes_taken (suc n) (edit ∷ edits) = omega (arith, writes_taken n edits)

length-take : {A : Type 0} (n : ℕ) (l : List A) → length (take n l) ≤ n
length-take zero l = omega arith
length-take (suc n) [] = omega arith
length-take (suc n) (x ∷ l) = omega (arith, length-take n l)

-- Products

mul_zero : (w : ℕ) → w * 0 ≡ 0
mul_zero w = grind arith

mul_one : (w : ℕ) → w * 1 ≡ w
mul_one w = grind arith

mul_add : (w a b : ℕ) → w * (a + b) ≡ w * a + w * b
mul_add w a b = grind arith

-- Which sectors

module _ (version : VersionNumber) where
  abbrev first : ℕ
  first = seats_from version

  abbrev w : ℕ
  w = sectors_by version

  abbrev at : ℕ → ℕ
  at place = place_start version place

  -- the place behind this one begins where it ends
  next : (place : ℕ) → place_start version (suc place) ≡ place_start version place + sectors_by version
  next place = omega (arith, next_place w place)

  -- so do `n` places behind it
  abbrev end_of : (place n : ℕ) → ℕ
  end_of place n = place_start version place + sectors_by version * n

  end_none : (place : ℕ) → end_of place 0 ≡ at place
  end_none place = omega (arith, mul_zero w)

  end_more : (place n : ℕ) → end_of place (suc n) ≡ end_of (suc place) n
  end_more place n = omega (arith, next place, next_place w n)

  later : (place n : ℕ) → at place ≤ end_of place n
  later place n = omega arith

  pub all_out : (place : ℕ) (edits : List SeatEdit) (n : ℕ) → (n < place_start version place) ⊎ (place_start version place + sectors_by version * length edits ≤ n) → Out (targets (updates_from version place edits)) n
  all_out place [] n far = tt
  all_out place (edit ∷ edits) n far =
      let more = end_more place (length edits) in
      let following = next place in
      subst (λ (ts : List ℕ). Out ts n) (sym (targets-append (edit_updates version place edit) (updates_from version (suc place) edits)))
      (Out-join (targets (edit_updates version place edit)) (targets (updates_from version (suc place) edits)) n
      (edit_out version place edit n (⊎_elim (λ (low : n < at place). inl low) (λ (high : end_of place (suc (length edits)) ≤ n). inr (omega (arith, high, more, following, later (suc place) (length edits)))) far))
      (all_out (suc place) edits n (⊎_elim (λ (low : n < at place). inl (omega (arith, low, following))) (λ (high : end_of place (suc (length edits)) ≤ n). inr (omega (arith, high, more))) far)))

  -- a sector of this place, behind the places before it
  rest_out : (place : ℕ) (edits : List SeatEdit) (n : ℕ) → n < place_start version place + sectors_by version → Out (targets (updates_from version (suc place) edits)) n
  rest_out place edits n low = all_out (suc place) edits n (inl (omega (arith, low, next place)))

  pub all_fit : (size place : ℕ) (edits : List SeatEdit) → 98 ≤ seats_from version → place_start version place + sectors_by version * length edits ≤ size → Fit size (targets (updates_from version place edits))
  all_fit size place [] above below = tt
  all_fit size place (edit ∷ edits) above below =
      let more = end_more place (length edits) in
      let following = next place in
      subst (Fit size) (sym (targets-append (edit_updates version place edit) (updates_from version (suc place) edits)))
      (Fit-join size (targets (edit_updates version place edit)) (targets (updates_from version (suc place) edits))
      (edit_fit version place size edit above (omega (arith, below, more, following, later (suc place) (length edits)))) (all_fit size (suc place) edits above (omega (arith, below, more)))
      (λ n. ⊎_elim
      (λ (low : n < at place + w). inl (rest_out place edits n low))
      (λ (high : at place + w ≤ n). inr (edit_out version place edit n (inr high)))
      (cases_lt n (at place + w))))

  -- How many they are

  pub all_short : (place : ℕ) (edits : List SeatEdit) → length (updates_from version place edits) ≤ sectors_by version * length edits
  all_short place [] = omega (arith, mul_zero w)
  all_short place (edit ∷ edits) =
      omega (arith, length-append (edit_updates version place edit) (updates_from version (suc place) edits), edit_short version place edit, all_short (suc place) edits, next_place w (length edits))

  -- if freeing a place writes one sector
  module _ (one : frees_whole version ≡ false) where
    edit_few : (place : ℕ) (edit : SeatEdit) → length (edit_updates version place edit) ≤ 1 + sectors_by version * writes_in edit
    edit_few place Stays = omega arith
    edit_few place Frees =
        let single : freed_sectors version ≡ 1 = ap (λ (whole : Bool). if whole then sectors_by version else 1) one in
        omega (arith, length-row (at place) (freed_sectors version) (λ k. seat_sector k None), single)
    edit_few place (Takes seat) = omega (arith, edit_short version place (Takes seat), mul_one w)
    edit_few place (Holds slot held) = omega (arith, edit_short version place (Holds slot held), mul_one w)

    pub all_few : (place : ℕ) (edits : List SeatEdit) → length (updates_from version place edits) ≤ length edits + sectors_by version * writes_in_all edits
    all_few place [] = omega arith
    all_few place (edit ∷ edits) =
        let both : w * (writes_in edit + writes_in_all edits) ≡ w * writes_in edit + w * writes_in_all edits = mul_add w (writes_in edit) (writes_in_all edits) in
        omega (arith, length-append (edit_updates version place edit) (updates_from version (suc place) edits), edit_few place edit, all_few (suc place) edits, both)

  -- What they hold then

  -- each determined sector of the places from this one on is that of its seat
  abbrev pub Lays : (place : ℕ) → Seats → Image → Type 0
  Lays place seats image = (j k : ℕ) → j < length seats → k < sectors_by version → HoldsAt version (place + j) k (get_or seats j None) image

  all_there : (place : ℕ) (edits : List SeatEdit) (seats : Seats) (image : Image) → AllByRecursion (IsSeatPlace (slots_by version)) seats → CanEditAll (slots_by version) edits seats → Lays place seats image
      → (j k : ℕ) → j < length seats → k < sectors_by version → HoldsAt version (place + j) k (get_or (edited_all edits seats) j None) (applied (updates_from version place edits) image)
  all_there place [] seats image are can lays j k low small = lays j k low small
  all_there place (edit ∷ edits) [] image are can lays j k low small = absurd can
  all_there place (edit ∷ edits) (old ∷ seats) image are can lays zero k low small = λ determined.
      let one : List Update = edit_updates version place edit in
      let rest : List Update = updates_from version (suc place) edits in
      let here : at (place + 0) + k ≡ at place + k = ap (λ (p : ℕ). at p + k) (let e : place + 0 ≡ place = omega arith in e) in
      ap (λ (i : Image). i (at (place + 0) + k)) (applied-append one rest image)
      ∙ applied_out rest (applied one image) (at (place + 0) + k) (rest_out place edits (at (place + 0) + k) (omega (arith, here, small)))
      ∙ ap (applied one image) here
      ∙ edit_there version place edit old k image are.0 can.0 small (λ was. ap image (sym here) ∙ lays zero k (omega arith) small was) determined
  all_there place (edit ∷ edits) (old ∷ seats) image are can lays (suc j) k low small = λ determined.
      let one : List Update = edit_updates version place edit in
      let rest : List Update = updates_from version (suc place) edits in
      let same : (i : ℕ) (m : ℕ) → at (place + suc i) + m ≡ at (suc place + i) + m = λ i m. ap (λ (p : ℕ). at p + m) (let e : place + suc i ≡ suc place + i = omega arith in e) in
      ap (λ (i : Image). i (at (place + suc j) + k)) (applied-append one rest image)
      ∙ ap (applied rest (applied one image)) (same j k)
      ∙ all_there (suc place) edits seats (applied one image) are.1 can.1
      (λ i m near few was.
      applied_out one image (at (suc place + i) + m) (edit_out version place edit (at (suc place + i) + m) (inr (omega (arith, next place, behind (suc place) i))))
      ∙ ap image (sym (same i m)) ∙ lays (suc i) m (omega arith) few was)
      j k (omega arith) small determined
    where
      behind : (p i : ℕ) → place_start version p ≤ place_start version (p + i)
      behind p i = omega (arith, mul_add w p i)

-- Whatever the code holds can be encoded

abbrev pub IsEdit : SeatEdit → Type 0
IsEdit Stays = Unit {0}
IsEdit Frees = Unit {0}
IsEdit (Takes seat) = IsSeat 8 seat
IsEdit (Holds slot held) = IsHeld held

each_edit : (edits : List code_edit.SeatEdit) → AllByRecursion IsEdit (map edit_view edits)
each_edit [] = tt
each_edit (kinds.Stays ∷ edits) = (tt, each_edit edits)
each_edit (kinds.Frees ∷ edits) = (tt, each_edit edits)
each_edit (kinds.Takes seat ∷ edits) = (every_seat 8 seat (omega (arith, seat.few, seat.slots.ok)), each_edit edits)
each_edit (kinds.Holds slot held ∷ edits) = (every_held held, each_edit edits)

slots_set : (slots : List (Option HeldReply)) (i : ℕ) (held : HeldReply) → AllByRecursion IsSlot slots → IsHeld held → AllByRecursion IsSlot (set slots i (Some held))
slots_set [] i held all is = tt
slots_set (slot ∷ slots) zero held all is = (is, all.1)
slots_set (slot ∷ slots) (suc i) held all is = (all.0, slots_set slots i held all.1 is)

module _ (slots : ℕ) where
  roomy : (seat : Seat) → IsSeat 8 seat → length seat.slots ≤ slots → IsSeat slots seat
  roomy seat is few = record { session = is.session; owner = is.owner; principal = is.principal; some = is.some; few = few; each = is.each }

  edited_place : (edit : SeatEdit) (old : Option Seat) → IsEdit edit → CanEdit slots edit old → IsSeatPlace slots old → IsSeatPlace slots (edited_seat edit old)
  edited_place Stays old edit can is = is
  edited_place Frees old edit can is = tt
  edited_place (Takes seat) old edit can is = roomy seat edit can
  edited_place (Holds slot held) None edit can is = tt
  edited_place (Holds slot held) (Some seat) edit can is =
      let same = length-set seat.slots slot (Some held) in
      record {
        session = is.session;
        owner = is.owner;
        principal = is.principal;
        some = omega (arith, is.some, same);
        few = omega (arith, is.few, same);
        each = slots_set seat.slots slot held is.each edit;
      }

  edited_places : (edits : List SeatEdit) (seats : Seats) → AllByRecursion IsEdit edits → CanEditAll slots edits seats → AllByRecursion (IsSeatPlace slots) seats → AllByRecursion (IsSeatPlace slots) (edited_all edits seats)
  edited_places [] seats are can places = places
  edited_places (edit ∷ edits) [] are can places = tt
  edited_places (edit ∷ edits) (old ∷ seats) are can places = (edited_place edit old are.0 can.0 places.0, edited_places edits seats are.1 can.1 places.1)

length-edited_all : (edits : List SeatEdit) (seats : Seats) → length (edited_all edits seats) ≡ length seats
length-edited_all [] seats = refl
length-edited_all (edit ∷ edits) [] = refl
length-edited_all (edit ∷ edits) (old ∷ seats) = ap suc (length-edited_all edits seats)

-- there is one edit for each place at most
few_edits : (slots : ℕ) (edits : List SeatEdit) (seats : Seats) → CanEditAll slots edits seats → length edits ≤ length seats
few_edits slots [] seats can = omega arith
few_edits slots (edit ∷ edits) [] can = absurd can
few_edits slots (edit ∷ edits) (place ∷ seats) can = omega (arith, few_edits slots edits seats can.1)

-- The whole transaction

pub edited_seats : (sizes : SeatSizes) (edits : List SeatEdit) (seats : Seats) → AllByRecursion IsEdit edits → CanEditAll sizes.slots edits seats → ArePlaces sizes seats → ArePlaces sizes (edited_all edits seats)
edited_seats sizes edits seats are can places = record {
  count = length-edited_all edits seats ∙ places.count;
  each = edited_places sizes.slots edits seats are can places.each;
}

module _ (version : VersionNumber) (number : IsNumber version) where
  abbrev sizes : SeatSizes
  sizes = sizes_by version

  abbrev parts : ℕ
  parts = sectors_by version

  some_parts : 0 < sectors_by version
  some_parts = omega (arith, wide version)

  -- a sector of all is determined by its place
  lays_held : (seats : Seats) (image : Image) → length seats ≡ sizes.places → HoldSeats version image seats → Lays version 0 seats image
  lays_held seats image count hold j k low small determined =
      let n : ℕ = parts * j + k in
      let there : place_start version (0 + j) + k ≡ seats_from version + (parts * j + k) = omega arith in
      let within : n < all_sectors sizes = within_places parts sizes.places j k (omega (arith, low, count)) small in
      ap image there ∙ hold n (is_seat version n seats within (determined_of_place sizes seats (frees_whole version) j k small ∙ determined))
      ∙ sector_of_place sizes seats j k small

  holds_laid : (seats : Seats) (image : Image) → length seats ≡ sizes.places → Lays version 0 seats image → HoldSeats version image seats
  holds_laid seats image count lays n is =
      let low = within_seats version n seats is in
      let place = place_within parts sizes.places n some_parts low in
      let there : seats_from version + n ≡ place_start version (0 + n / parts) + n % parts = omega (arith, apart_again parts n) in
      ap image there ∙ lays (n / parts) (n % parts) (omega (arith, place, count)) (part_within parts n some_parts) (seat_determined version n seats is)

  -- edits past the last place are none
  all_taken : (edits : List SeatEdit) (seats : Seats) → length seats ≡ sizes.places → CanEditAll (slots_by version) edits seats → take sizes.places edits ≡ edits
  all_taken edits seats count can = take_all sizes.places edits (omega (arith, count, few_edits (slots_by version) edits seats can))

  pub edited_held : (edits : List SeatEdit) (seats : Seats) (image : Image) → ArePlaces sizes seats → CanEditAll (slots_by version) edits seats → HoldSeats version image seats
      → HoldSeats version (applied (updates_by version edits) image) (edited_all edits seats)
  edited_held edits seats image places can hold =
      let whole = all_taken edits seats places.count can in
      subst (λ (es : List SeatEdit). HoldSeats version (applied (updates_from version 0 es) image) (edited_all edits seats)) (sym whole)
      (holds_laid (edited_all edits seats) (applied (updates_from version 0 edits) image) (length-edited_all edits seats ∙ places.count)
      (λ j k low small. all_there version 0 edits seats image places.each can (lays_held seats image places.count hold) j k (omega (arith, length-edited_all edits seats, low)) small))

  -- there are at most as many edits as places
  abbrev done : List SeatEdit → List SeatEdit
  done edits = take sizes.places edits

  done_few : (edits : List SeatEdit) → length (done edits) ≤ sizes.places
  done_few edits = length-take sizes.places edits

  first_at : place_start version 0 ≡ seats_from version
  first_at = omega (arith, mul_zero parts)

  done_end : (edits : List SeatEdit) → place_start version 0 + parts * length (done edits) ≤ seats_from version + all_sectors sizes
  done_end edits =
      let most : parts * length (done edits) ≤ parts * sizes.places = mul-le-mul_left parts (done_few edits) in
      let all : all_sectors sizes ≡ parts * sizes.places = mul_comm sizes.places parts in
      omega (arith, first_at, most, all)

  -- how many sectors the transaction has
  few_updates : (edits : List SeatEdit) → writes_in_all edits ≤ 1 → length (updates_by version edits) ≤ most_updates version
  few_updates edits one = by_way (frees_whole version) refl
    where
      by_way : (whole : Bool) → frees_whole version ≡ whole → length (updates_by version edits) ≤ (if whole then all_sectors sizes else parts + sizes.places)
      by_way true is = omega (arith, all_short version 0 (done edits), done_end edits, first_at)
      by_way false is =
          let writes : writes_in_all (done edits) ≤ 1 = omega (arith, one, writes_taken sizes.places edits) in
          let most : parts * writes_in_all (done edits) ≤ parts * 1 = mul-le-mul_left parts writes in
          omega (arith, all_few version is 0 (done edits), done_few edits, most, mul_one parts)

  -- the transaction of these edits
  are_updates : (edits : List SeatEdit) → writes_in_all edits ≤ 1 → AllByRecursion IsEdit edits → AreUpdates version edits (updates_by version edits)
  are_updates edits one are = record {
    few = few_updates edits one;
    targets_are = λ size large. targets_of-Fit size (targets (updates_by version edits)) (all_fit version size 0 (done edits) (omega (arith, seats_from_100 version number)) (omega (arith, done_end edits, large)));
    others = λ image n far. applied_out (updates_by version edits) image n
        (all_out version 0 (done edits) n (⊎_elim (λ (low : n < seats_from version). inl (omega (arith, low, first_at))) (λ (high : seats_from version + all_sectors sizes ≤ n). inr (omega (arith, high, done_end edits))) far));
    edited = λ image seats places can. record {
      places = edited_seats sizes edits seats are can places;
      lays = edited_held edits seats image places can;
    };
  }

-- the edits up to the last place, as they are pushed
taken_to : (edits : List code_edit.SeatEdit) (count places : ℕ) → count ≡ min (length edits) places → take count (map edit_view edits) ≡ take places (map edit_view edits)
taken_to edits count places is = ⊎_elim
    (λ (fewer : length edits < places).
    take_all count (map edit_view edits) (omega (arith, is, fewer, length-map edits edit_view))
    ∙ sym (take_all places (map edit_view edits) (omega (arith, fewer, length-map edits edit_view))))
    (λ (more : places ≤ length edits). ap (λ (n : ℕ). take n (map edit_view edits)) (let e : count ≡ places = omega (arith, is, more) in e))
    (cases_lt (length edits) places)

pub all_pushed : (version : VersionNumber) (edits : List code_edit.SeatEdit) (count : ℕ) → (let sizes = sizes_by version in count ≡ min (length edits) sizes.places)
    → updates_from version 0 (map edit_view (take count edits)) ≡ updates_by version (map edit_view edits)
all_pushed version edits count is =
    let sizes = sizes_by version in
    ap (updates_from version 0) (sym (take-map edit_view count edits) ∙ taken_to edits count sizes.places is)

pub every_transaction : (version : VersionNumber) → IsNumber version → (edits : code.SeatEdits) → AreUpdates version (edits_view edits) (updates_by version (edits_view edits))
every_transaction version number edits =
    are_updates version number (edits_view edits) (omega (arith, edits.one, writes_viewed edits.list.items)) (each_edit edits.list.items)

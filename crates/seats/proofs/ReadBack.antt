-- What is read from the sectors of seats is what was encoded there.
use Rattle.std.proofs.Common.{◌≡◌, ◌≤◌, ◌+◌, ◌-◌, ◌*◌, ℕ, zero, suc, Bool, true, false, ◌==◌, if◌then◌else◌, List, [], ◌∷◌, ◌++◌, Option, Some, None, length, get_or, take, drop, replicate, refl, sym, ap, ◌∙◌, arith, eq-eqb}
use Rattle.std.specs.Prelude.{slice_index, Result, Err}
use Rattle.std.specs.Int.{w32, from_be_bytes}
use Rattle.std.specs.List.{AllByRecursion}
use Rattle.std.proofs.lemmas.Bool.{ne_eqb}
use Rattle.std.proofs.lemmas.List.{take_at}
use Rattle.std.proofs.lemmas.List.FromFn.{fill_by_all}
use Rattle.std.proofs.lemmas.Nat.{from_be_bytes-to_be_bytes_4}
use Rattle.model_tree.specs.Seats.Seats.{HeldReply, Seat, Seats}
use Rattle.seats.specs.declared.fault.SeatFault.{SeatFault}
use Rattle.seats.specs.Encoding.{AreSectorsOf, HoldPlace, IsHeld, IsSeatPlace, IsSeat, IsSlot, held_prefix, is_determined, slot_at, slot_text}
use Rattle.seats.specs.Reading.{SeatsReadBack, held_in, seat_from, seat_in, seats_in, slot_in, slots_in, taken_from, text_from}
use Rattle.seats.specs.Sizes.{place_sectors}
use Rattle.seats.proofs.Parts.{body_of, text_apart, free_sector}
use Rattle.seats.proofs.Places.{place_held}
use Rattle.seats.proofs.Sectors.{number_zero, mark_there, session_there, principal_there, count_there, owner_there, head_there, slot_at_is, slot_there}

-- Slots

pub slot_none : (text : List ℕ) → (from_be_bytes w32 text ≡ 1 → ⊥) → slot_in text ≡ None
unfolding slot_in
slot_none text other =
    let apart : from_be_bytes w32 text == 1 ≡ false = ne_eqb (from_be_bytes w32 text) 1 other in
    ap (λ (b : Bool). if b then Some (held_in text) else None) apart

pub slot_some : (text : List ℕ) → from_be_bytes w32 text ≡ 1 → slot_in text ≡ Some (held_in text)
unfolding slot_in
slot_some text e =
    let same : from_be_bytes w32 text == 1 ≡ true = eq-eqb (from_be_bytes w32 text) 1 e in
    ap (λ (b : Bool). if b then Some (held_in text) else None) same

pub same_held : (number uid : ℕ) (result : List ℕ) (held : HeldReply) → number ≡ held.number → uid ≡ held.uid → result ≡ held.result
    → (let made : HeldReply = record { number = number; uid = uid; result = result } in made ≡ held)
same_held number uid result held a b c = rw (a, b, c) refl

held-back : (held : HeldReply) → IsHeld held → held_in (slot_text (Some held)) ≡ held
held-back held is =
    let text : List ℕ = held_prefix held ++ body_of held in
    let count : from_be_bytes w32 (drop 12 text) ≡ length held.result = from_be_bytes-to_be_bytes_4 (length held.result) (omega (arith, is.result)) in
    ap held_in (text_apart held)
    ∙ same_held (from_be_bytes w32 (drop 4 text)) (from_be_bytes w32 (drop 8 text)) (take (from_be_bytes w32 (drop 12 text)) (drop 24 text)) held
    (from_be_bytes-to_be_bytes_4 held.number is.number) (from_be_bytes-to_be_bytes_4 held.uid is.uid)
    (ap (λ (n : ℕ). take n (body_of held)) count ∙ take_at held.result (replicate (16360 - length held.result) 0) (length held.result) refl)

slot-back : (slot : Option HeldReply) → IsSlot slot → slot_in (slot_text slot) ≡ slot
unfolding slot_text
slot-back None is = slot_none (slot_text None) (λ e. let none : from_be_bytes w32 (drop 0 (slot_text None)) ≡ 0 = number_zero 16384 0 (omega arith) in absurd (omega arith))
slot-back (Some held) is =
    let one : from_be_bytes w32 (slot_text (Some held)) ≡ 1 = ap (from_be_bytes w32) (text_apart held) in
    slot_some (slot_text (Some held)) one ∙ ap (λ (x : HeldReply). Some x) (held-back held is)

-- no encoded length is more than a slot has room for
pub length_fits : (slot : Option HeldReply) → IsSlot slot → from_be_bytes w32 (drop 12 (slot_text slot)) ≤ 16360
unfolding slot_text
length_fits None is = let none : from_be_bytes w32 (drop 12 (slot_text None)) ≡ 0 = number_zero 16384 12 (omega arith) in omega arith
length_fits (Some held) is =
    let count : from_be_bytes w32 (drop 12 (slot_text (Some held))) ≡ length held.result =
    ap (λ (text : List ℕ). from_be_bytes w32 (drop 12 text)) (text_apart held) ∙ from_be_bytes-to_be_bytes_4 (length held.result) (omega (arith, is.result)) in
    omega (arith, is.result)

slots-back : (room : ℕ) (seat : Seat) (is : IsSeat room seat) (sectors : ℕ → List ℕ) → AreSectorsOf room sectors (Some seat) → slots_in (length seat.slots) sectors ≡ seat.slots
slots-back room seat is sectors encoded =
    sym (fill_by_all (λ (slot : ℕ). slot_in (text_from sectors (1 + 4 * slot))) seat.slots (length seat.slots) None refl
    (λ slot low.
    sym (ap slot_in (slot_there room seat is sectors encoded slot (omega (arith, low, is.few)))
    ∙ slot-back (slot_at slot seat) (slot_at_is room seat is sectors encoded slot))))

-- Places

pub same_seat : (session owner : List ℕ) (principal : ℕ) (slots : List (Option HeldReply)) (seat : Seat) → session ≡ seat.session → owner ≡ seat.owner → principal ≡ seat.principal → slots ≡ seat.slots
    → (let made : Seat = record { session = session; owner = owner; principal = principal; slots = slots } in made ≡ seat)
same_seat session owner principal slots seat a b c d = rw (a, b, c, d) refl

taken-back : (room : ℕ) (seat : Seat) (sectors : ℕ → List ℕ) → room ≤ 8 → IsSeat room seat → AreSectorsOf room sectors (Some seat) → taken_from sectors ≡ seat
taken-back room seat sectors few is encoded =
    let head = head_there room seat is sectors encoded in
    let count : from_be_bytes w32 (drop 24 (sectors 0)) ≡ length seat.slots = ap (λ (h : List ℕ). from_be_bytes w32 (drop 24 h)) head ∙ count_there room few seat is in
    same_seat (take 16 (drop 4 (sectors 0))) (take (from_be_bytes w32 (drop 28 (sectors 0))) (drop 32 (sectors 0))) (from_be_bytes w32 (drop 20 (sectors 0))) (slots_in (from_be_bytes w32 (drop 24 (sectors 0))) sectors) seat
    (ap (λ (h : List ℕ). take 16 (drop 4 h)) head ∙ session_there room few seat is)
    (ap (λ (h : List ℕ). take (from_be_bytes w32 (drop 28 h)) (drop 32 h)) head ∙ owner_there room few seat is)
    (ap (λ (h : List ℕ). from_be_bytes w32 (drop 20 h)) head ∙ principal_there room few seat is)
    (ap (λ (n : ℕ). slots_in n sectors) count ∙ slots-back room seat is sectors encoded)

pub place_none : (sectors : ℕ → List ℕ) → (slice_index (sectors 0) 0 ≡ 83 → ⊥) → seat_in sectors ≡ None
unfolding seat_in
place_none sectors other =
    let apart : slice_index (sectors 0) 0 == 83 ≡ false = ne_eqb (slice_index (sectors 0) 0) 83 other in
    ap (λ (b : Bool). if b then Some (taken_from sectors) else None) apart

pub place_some : (sectors : ℕ → List ℕ) → slice_index (sectors 0) 0 ≡ 83 → seat_in sectors ≡ Some (taken_from sectors)
unfolding seat_in
place_some sectors e =
    let same : slice_index (sectors 0) 0 == 83 ≡ true = eq-eqb (slice_index (sectors 0) 0) 83 e in
    ap (λ (b : Bool). if b then Some (taken_from sectors) else None) same

-- the sectors of a taken place are all determined
pub all_taken : (room : ℕ) (whole : Bool) (seat : Seat) (sectors : ℕ → List ℕ) → HoldPlace room whole sectors (Some seat) → AreSectorsOf room sectors (Some seat)
all_taken room whole seat sectors encoded k few = encoded k few refl

-- the first sector of a place is
first_determined : (whole : Bool) (place : Option Seat) → is_determined whole 0 place ≡ true
first_determined true None = refl
first_determined false None = refl
first_determined whole (Some seat) = refl

-- the sectors of a free place begin with no S
pub no_mark : (room : ℕ) (whole : Bool) (sectors : ℕ → List ℕ) → HoldPlace room whole sectors None → slice_index (sectors 0) 0 ≡ 83 → ⊥
no_mark room whole sectors encoded e =
    let zeros : sectors 0 ≡ replicate 4096 0 = encoded 0 (omega arith) (first_determined whole None) ∙ free_sector 0 in
    let none : slice_index (sectors 0) 0 ≡ 0 = ap (λ (s : List ℕ). slice_index s 0) zeros in
    absurd (omega arith)

pub place-back : (room : ℕ) (whole : Bool) (place : Option Seat) (sectors : ℕ → List ℕ) → room ≤ 8 → IsSeatPlace room place → HoldPlace room whole sectors place → seat_in sectors ≡ place
place-back room whole None sectors few is encoded = place_none sectors (no_mark room whole sectors encoded)
place-back room whole (Some seat) sectors few is encoded =
    let all = all_taken room whole seat sectors encoded in
    let mark : slice_index (sectors 0) 0 ≡ 83 = ap (λ (h : List ℕ). slice_index h 0) (head_there room seat is sectors all) ∙ mark_there room few seat is in
    place_some sectors mark ∙ ap (λ (s : Seat). Some s) (taken-back room seat sectors few is all)

-- if no seat has these sectors, no place has them
pub no_place : (room : ℕ) (sectors : ℕ → List ℕ) → slice_index (sectors 0) 0 ≡ 83 → ((seat : Seat) → IsSeat room seat → AreSectorsOf room sectors (Some seat) → ⊥)
    → (whole : Bool) (place : Option Seat) → IsSeatPlace room place → HoldPlace room whole sectors place → ⊥
no_place room sectors mark none whole None is encoded = no_mark room whole sectors encoded mark
no_place room sectors mark none whole (Some seat) is encoded = none seat is (all_taken room whole seat sectors encoded)

-- All places

pub place_is : (room : ℕ) (seats : Seats) (k : ℕ) → AllByRecursion (IsSeatPlace room) seats → IsSeatPlace room (get_or seats k None)
place_is room [] k all = tt
place_is room (place ∷ seats) zero all = all.0
place_is room (place ∷ seats) (suc k) all = place_is room seats k all.1

pub seats-back : SeatsReadBack
unfolding seats_in
seats-back sizes whole seats sectors fits are encoded =
    sym (fill_by_all (λ (place : ℕ). seat_from sectors (place_sectors sizes * place)) seats sizes.places None are.count
    (λ place low.
    sym (place-back sizes.slots whole (get_or seats place None) (λ (k : ℕ). sectors (place_sectors sizes * place + k)) fits.few_slots
    (place_is sizes.slots seats place are.each) (place_held sizes seats whole sectors encoded place low))))

-- a result has only one fault
pub err_is : {A : Type 0} (x y : SeatFault) → (let r : Result A SeatFault = Err x in r ≡ Err y) → x ≡ y
err_is x y e = cc

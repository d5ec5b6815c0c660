-- The parts of a slot's text, and of a seat's first sector.
use Rattle.std.proofs.Common.{◌≡◌, ◌≤◌, ◌<◌, ◌+◌, ◌-◌, ◌*◌, ◌/◌, ◌%◌, ℕ, zero, suc, Bool, false, ◌==◌, if◌then◌else◌, List, [], ◌∷◌, ◌++◌, Some, None, length, take, drop, replicate, refl, sym, ap, ap₂, ◌∙◌, arith, append_assoc}
use Rattle.std.proofs.lemmas.List.{length-drop, take_all, drop_all, take-replicate, drop-replicate, replicate-append-replicate}
use Rattle.std.proofs.lemmas.Bool.{ne_eqb}
use Rattle.std.proofs.Math.Seq.{drop-append-add}
use Rattle.model_tree.specs.Seats.Seats.{HeldReply, Seat}
use Rattle.seats.specs.Padding.{padded}
use Rattle.seats.specs.Encoding.{head_prefix, head_sector, held_prefix, part_of, seat_sector, slot_at, slot_text}

pub take-padded : (m z : ℕ) (ys : List ℕ) → m ≤ length ys + z → take m (ys ++ replicate z 0) ≡ padded m ys
take-padded m z [] h =
    let none : take {A = ℕ} m [] ≡ [] = take_all m [] (omega arith) in
    let less : m - 0 ≡ m = omega arith in
    take-replicate m z 0 (omega arith) ∙ sym (ap₂ (λ (a : List ℕ) (n : ℕ). a ++ replicate n 0) none less)
take-padded zero z (y ∷ ys) h = let none : 0 - length (y ∷ ys) ≡ 0 = omega arith in sym (ap (λ (n : ℕ). replicate {A = ℕ} n 0) none)
take-padded (suc m) z (y ∷ ys) h =
    let less : suc m - length (y ∷ ys) ≡ m - length ys = omega arith in
    ap (λ (a : List ℕ). y ∷ a) (take-padded m z ys (omega arith) ∙ sym (ap (λ (n : ℕ). take m ys ++ replicate n 0) less))

pub drop-padded : (f z : ℕ) (xs : List ℕ) → drop f (xs ++ replicate z 0) ≡ drop f xs ++ replicate (z - (f - length xs)) 0
drop-padded f z [] =
    let none : drop {A = ℕ} f [] ≡ [] = drop_all f [] (omega arith) in
    let less : z - (f - 0) ≡ z - f = omega arith in
    ◌∙◌ {b = replicate (z - f) 0} (drop-replicate f z 0) (sym (ap₂ (λ (a : List ℕ) (n : ℕ). a ++ replicate n 0) none less))
drop-padded zero z (x ∷ xs) = let less : z ≡ z - (0 - length (x ∷ xs)) = omega arith in ap (λ (n : ℕ). x ∷ (xs ++ replicate n 0)) less
drop-padded (suc f) z (x ∷ xs) =
    let less : z - (f - length xs) ≡ z - (suc f - length (x ∷ xs)) = omega arith in
    drop-padded f z xs ∙ ap (λ (n : ℕ). drop f xs ++ replicate n 0) less

-- `m` bytes, from a place on, of a text that has zeros after it
pub window : (f m z : ℕ) (xs : List ℕ) → f + m ≤ length xs + z → take m (drop f (xs ++ replicate z 0)) ≡ padded m (drop f xs)
window f m z xs h =
    let rest : length (drop f xs) ≡ length xs - f = length-drop f xs in
    ap (take m) (drop-padded f z xs) ∙ take-padded m (z - (f - length xs)) (drop f xs) (omega arith)

pub drop_past : (p q : List ℕ) (n m : ℕ) → n ≡ length p + m → drop n (p ++ q) ≡ drop m q
drop_past p q n m e = ap (λ (i : ℕ). drop i (p ++ q)) e ∙ drop-append-add p q m

abbrev pub body_of : HeldReply → List ℕ
body_of held = held.result ++ replicate (16360 - length held.result) 0

pub text_apart : (held : HeldReply) → slot_text (Some held) ≡ held_prefix held ++ body_of held
unfolding slot_text
text_apart held = append_assoc (held_prefix held) held.result (replicate (16360 - length held.result) 0)

pub first_part_is : (held : HeldReply) → length held.result ≤ 16360 → part_of 0 (slot_text (Some held)) ≡ held_prefix held ++ padded 4072 held.result
first_part_is held short =
    ap (take 4096) (text_apart held)
    ∙ ap (λ (rest : List ℕ). held_prefix held ++ rest) (take-padded 4072 (16360 - length held.result) held.result (omega arith))

pub later_part_is : (held : HeldReply) (k : ℕ) → length held.result ≤ 16360 → 0 < k → k < 4
    → part_of k (slot_text (Some held)) ≡ padded 4096 (drop (4096 * k - 24) held.result)
later_part_is held k short some few =
    ap (λ (text : List ℕ). take 4096 (drop (4096 * k) text)) (text_apart held)
    ∙ ap (take 4096) (drop_past (held_prefix held) (body_of held) (4096 * k) (4096 * k - 24) (omega arith))
    ∙ window (4096 * k - 24) 4096 (16360 - length held.result) held.result (omega arith)

padded_owner : (owner : List ℕ) → length owner ≤ 1024 → padded 4064 owner ≡ owner ++ (replicate (1024 - length owner) 0 ++ replicate 3040 0)
padded_owner owner short =
    let more : 4064 - length owner ≡ 1024 - length owner + 3040 = omega arith in
    ap₂ (λ (a : List ℕ) (n : ℕ). a ++ replicate n 0) (take_all 4064 owner (omega arith)) more
    ∙ ap (λ (zeros : List ℕ). owner ++ zeros) (sym (replicate-append-replicate (1024 - length owner) 3040 0))

pub head_is : (seat : Seat) → length seat.owner ≤ 1024 → head_prefix seat ++ padded 4064 seat.owner ≡ head_sector seat
unfolding head_sector
head_is seat short =
    let zeros : List ℕ = replicate (1024 - length seat.owner) 0 in
    ap (λ (rest : List ℕ). head_prefix seat ++ rest) (padded_owner seat.owner short)
    ∙ sym (append_assoc (head_prefix seat ++ seat.owner) zeros (replicate 3040 0) ∙ append_assoc (head_prefix seat) seat.owner (zeros ++ replicate 3040 0))

-- the sectors of a slot for which nothing is held
pub part_of_none : (k : ℕ) → k < 4 → part_of k (slot_text None) ≡ replicate 4096 0
unfolding slot_text
part_of_none k few = ap (take 4096) (drop-replicate (4096 * k) 16384 0) ∙ take-replicate 4096 (16384 - 4096 * k) 0 (omega arith)

-- the sectors of a seat
pub free_sector : (k : ℕ) → seat_sector k None ≡ replicate 4096 0
unfolding seat_sector
free_sector k = refl

pub first_sector : (seat : Seat) → seat_sector 0 (Some seat) ≡ head_sector seat
unfolding seat_sector
first_sector seat = refl

pub slot_sector_at : (k : ℕ) (seat : Seat) → 0 < k → seat_sector k (Some seat) ≡ part_of ((k - 1) % 4) (slot_text (slot_at ((k - 1) / 4) seat))
unfolding seat_sector
slot_sector_at k seat h =
    let apart : k == 0 ≡ false = ne_eqb k 0 (λ e. absurd (omega arith)) in
    ap (λ (b : Bool). if b then head_sector seat else part_of ((k - 1) % 4) (slot_text (slot_at ((k - 1) / 4) seat))) apart

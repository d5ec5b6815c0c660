-- What the sectors of a seat hold: its numbers, and the texts of its slots.
use Rattle.std.proofs.Common.{◌≡◌, ◌≤◌, ◌<◌, ◌+◌, ◌-◌, ◌*◌, ◌/◌, ◌%◌, ℕ, zero, suc, List, [], ◌∷◌, ◌++◌, Option, Some, None, length, get_or, take, drop, replicate, refl, sym, ap, ap₂, ◌∙◌, arith, append_assoc}
use Rattle.std.specs.Prelude.{codes, slice_index}
use Rattle.std.specs.Int.{w32, to_be_bytes, from_be_bytes}
use Rattle.std.specs.List.{AllByRecursion, flat_map}
use Rattle.std.proofs.lemmas.List.{append-nil, length-append, length-drop, length-replicate, get_or-drop, get_or_append_left, get_or-replicate, take_all, take_at, drop_at, drop-drop, drop_more, take-append-drop}
use Rattle.std.proofs.lemmas.Nat.{from_be_bytes-to_be_bytes_4}
use Rattle.model_tree.specs.Seats.Seats.{HeldReply, Seat}
use Rattle.seats.specs.Encoding.{AreSectorsOf, IsSeat, IsSlot, head_sector, held_prefix, part_of, sector_of, slot_at, slot_text}
use Rattle.seats.specs.Reading.{text_from}
use Rattle.seats.proofs.Parts.{body_of, first_sector, slot_sector_at}

-- Numbers

same_number : (a b : List ℕ) → ((i : ℕ) → i < 4 → get_or a i 0 ≡ get_or b i 0) → from_be_bytes w32 a ≡ from_be_bytes w32 b
same_number a b same =
    let e0 : get_or a 0 0 ≡ get_or b 0 0 = same 0 (omega arith) in
    let e1 : get_or a 1 0 ≡ get_or b 1 0 = same 1 (omega arith) in
    let e2 : get_or a 2 0 ≡ get_or b 2 0 = same 2 (omega arith) in
    let e3 : get_or a 3 0 ≡ get_or b 3 0 = same 3 (omega arith) in
    rw (e0, e1, e2, e3) refl

-- a number that lies in the first of two parts
pub number_prefix : (head rest : List ℕ) (at : ℕ) → at + 4 ≤ length head → from_be_bytes w32 (drop at (head ++ rest)) ≡ from_be_bytes w32 (drop at head)
number_prefix head rest at h = same_number (drop at (head ++ rest)) (drop at head)
    (λ i few. get_or-drop at (head ++ rest) i 0 ∙ get_or_append_left head rest 0 (at + i) (omega arith) ∙ sym (get_or-drop at head i 0))

pub number_zero : (n at : ℕ) → at + 4 ≤ n → from_be_bytes w32 (drop at (replicate n 0)) ≡ 0
number_zero n at h = same_number (drop at (replicate n 0)) (0 ∷ 0 ∷ 0 ∷ 0 ∷ [])
    (λ i few. get_or-drop at (replicate n 0) i 0 ∙ get_or-replicate n (at + i) 0 0 (omega arith) ∙ sym (get_or-replicate 4 i 0 0 few))

-- The text of a slot

pub text_numbers : (sectors : ℕ → List ℕ) (first at : ℕ) → length (sectors first) ≡ 4096 → at + 4 ≤ 4096
    → from_be_bytes w32 (drop at (text_from sectors first)) ≡ from_be_bytes w32 (drop at (sectors first))
text_numbers sectors first at len h =
    let apart : text_from sectors first ≡ sectors first ++ (sectors (first + 1) ++ (sectors (first + 2) ++ sectors (first + 3))) =
    append_assoc (sectors first ++ sectors (first + 1)) (sectors (first + 2)) (sectors (first + 3))
    ∙ append_assoc (sectors first) (sectors (first + 1)) (sectors (first + 2) ++ sectors (first + 3)) in
    ap (λ (text : List ℕ). from_be_bytes w32 (drop at text)) apart
    ∙ number_prefix (sectors first) (sectors (first + 1) ++ (sectors (first + 2) ++ sectors (first + 3))) at (omega arith)

-- four sectors of a list, end to end
module _ (sectors : List (List ℕ)) (first : ℕ) (h : first + 4 ≤ length sectors) where
  sector : (k next : ℕ) → k < 4 → next ≡ first + k + 1 → drop (first + k) sectors ≡ get_or sectors (first + k) [] ∷ drop next sectors
  sector k next few e = drop_more sectors (first + k) [] (omega arith) ∙ ap (λ (n : ℕ). get_or sectors (first + k) [] ∷ drop n sectors) (sym e)

  four : take 4 (drop first sectors) ≡ sector_of sectors first ∷ sector_of sectors (first + 1) ∷ sector_of sectors (first + 2) ∷ sector_of sectors (first + 3) ∷ []
  four =
      let at : List ℕ → List (List ℕ) → List (List ℕ) = λ s rest. s ∷ rest in
      let zero : drop first sectors ≡ sector_of sectors first ∷ drop (first + 1) sectors = drop_more sectors first [] (omega arith) in
      ap (take 4) (zero ∙ ap (at (sector_of sectors first)) (sector 1 (first + 2) (omega arith) (omega arith)
      ∙ ap (at (sector_of sectors (first + 1))) (sector 2 (first + 3) (omega arith) (omega arith)
      ∙ ap (at (sector_of sectors (first + 2))) (sector 3 (first + 4) (omega arith) (omega arith)))))

  pub flattened : flat_map (λ (s : List ℕ). s) (take (first + 4 - first) (drop first sectors)) ≡ text_from (sector_of sectors) first
  flattened =
      let count : first + 4 - first ≡ 4 = omega arith in
      ap (λ (n : ℕ). flat_map (λ (s : List ℕ). s) (take n (drop first sectors))) count
      ∙ ap (flat_map (λ (s : List ℕ). s)) four
      ∙ simp (append-nil, append_assoc)

pub length-slot_text : (slot : Option HeldReply) → IsSlot slot → length (slot_text slot) ≡ 16384
unfolding slot_text
length-slot_text None is = length-replicate {A = ℕ} 16384 0
length-slot_text (Some held) is =
    ap length (append_assoc (held_prefix held) held.result (replicate (16360 - length held.result) 0))
    ∙ omega (arith, is.result, length-append held.result (replicate (16360 - length held.result) 0), length-replicate {A = ℕ} (16360 - length held.result) 0, length-append (held_prefix held) (body_of held))

-- The parts of a text, end to end

split : (w n m : ℕ) (text rest : List ℕ) → m ≡ n + w → rest ≡ drop m text → take w (drop n text) ++ rest ≡ drop n text
split w n m text rest e is =
    ap (λ (x : List ℕ). take w (drop n text) ++ x) (is ∙ ap (λ (i : ℕ). drop i text) e ∙ sym (drop-drop w n text))
    ∙ take-append-drop w (drop n text)

parts_over : (w b c d : ℕ) (text : List ℕ) → b ≡ 0 + w → c ≡ b + w → d ≡ c + w → length text ≡ d + w
    → take w (drop 0 text) ++ take w (drop b text) ++ take w (drop c text) ++ take w (drop d text) ≡ text
parts_over w b c d text at_b at_c at_d len =
    let last : take w (drop d text) ≡ drop d text = take_all w (drop d text) (omega (arith, length-drop d text)) in
    append_assoc (take w (drop 0 text) ++ take w (drop b text)) (take w (drop c text)) (take w (drop d text))
    ∙ append_assoc (take w (drop 0 text)) (take w (drop b text)) (take w (drop c text) ++ take w (drop d text))
    ∙ split w 0 b text (take w (drop b text) ++ (take w (drop c text) ++ take w (drop d text))) at_b
    (split w b c text (take w (drop c text) ++ take w (drop d text)) at_c (split w c d text (take w (drop d text)) at_d last))

pub parts_whole : (text : List ℕ) → length text ≡ 16384 → part_of 0 text ++ part_of 1 text ++ part_of 2 text ++ part_of 3 text ≡ text
parts_whole text len = parts_over 4096 4096 8192 12288 text (omega arith) (omega arith) (omega arith) len

-- The first sector of a seat

abbrev pub numbers_of : Seat → List ℕ
numbers_of seat = to_be_bytes w32 seat.principal ++ to_be_bytes w32 (length seat.slots) ++ to_be_bytes w32 (length seat.owner)

abbrev pub owner_on : Seat → List ℕ
owner_on seat = seat.owner ++ (replicate (1024 - length seat.owner) 0 ++ replicate 3040 0)

regroup : (s p n l o z w : List ℕ) → s ++ p ++ n ++ l ++ o ++ z ++ w ≡ s ++ ((p ++ n ++ l) ++ (o ++ (z ++ w)))
regroup s p n l o z w = simp append_assoc

pub head_apart : (seat : Seat) → head_sector seat ≡ codes "SESS" ++ (seat.session ++ (numbers_of seat ++ owner_on seat))
unfolding head_sector
head_apart seat = ap (λ (rest : List ℕ). codes "SESS" ++ rest)
    (regroup seat.session (to_be_bytes w32 seat.principal) (to_be_bytes w32 (length seat.slots)) (to_be_bytes w32 (length seat.owner)) seat.owner (replicate (1024 - length seat.owner) 0) (replicate 3040 0))

module _ (room : ℕ) (few_slots : room ≤ 8) (seat : Seat) (is : IsSeat room seat) where
  pub mark_there : slice_index (head_sector seat) 0 ≡ 83
  mark_there = ap (λ (head : List ℕ). slice_index head 0) (head_apart seat)

  from_session : drop 4 (head_sector seat) ≡ seat.session ++ (numbers_of seat ++ owner_on seat)
  from_session = ap (drop 4) (head_apart seat)

  from_numbers : drop 20 (head_sector seat) ≡ numbers_of seat ++ owner_on seat
  from_numbers = sym (drop-drop 16 4 (head_sector seat)) ∙ ap (drop 16) from_session ∙ drop_at seat.session (numbers_of seat ++ owner_on seat) 16 is.session

  pub session_there : take 16 (drop 4 (head_sector seat)) ≡ seat.session
  session_there = ap (take 16) from_session ∙ take_at seat.session (numbers_of seat ++ owner_on seat) 16 is.session

  pub principal_there : from_be_bytes w32 (drop 20 (head_sector seat)) ≡ seat.principal
  principal_there = ap (from_be_bytes w32) from_numbers ∙ from_be_bytes-to_be_bytes_4 seat.principal is.principal

  pub count_there : from_be_bytes w32 (drop 24 (head_sector seat)) ≡ length seat.slots
  count_there =
      ap (from_be_bytes w32) (sym (drop-drop 4 20 (head_sector seat)) ∙ ap (drop 4) from_numbers)
      ∙ from_be_bytes-to_be_bytes_4 (length seat.slots) (omega (arith, few_slots, is.few))

  pub length_there : from_be_bytes w32 (drop 28 (head_sector seat)) ≡ length seat.owner
  length_there =
      ap (from_be_bytes w32) (sym (drop-drop 8 20 (head_sector seat)) ∙ ap (drop 8) from_numbers)
      ∙ from_be_bytes-to_be_bytes_4 (length seat.owner) (omega (arith, is.owner))

  pub owner_there : take (from_be_bytes w32 (drop 28 (head_sector seat))) (drop 32 (head_sector seat)) ≡ seat.owner
  owner_there =
      ap₂ (λ (n : ℕ) (rest : List ℕ). take n rest) length_there (sym (drop-drop 12 20 (head_sector seat)) ∙ ap (drop 12) from_numbers)
      ∙ take_at seat.owner (replicate (1024 - length seat.owner) 0 ++ replicate 3040 0) (length seat.owner) refl

-- The slots of a seat

pub slot_is : (slots : List (Option HeldReply)) (k : ℕ) → AllByRecursion IsSlot slots → IsSlot (get_or slots k None)
slot_is [] k all = tt
slot_is (slot ∷ slots) zero all = all.0
slot_is (slot ∷ slots) (suc k) all = slot_is slots k all.1

module _ (room : ℕ) (seat : Seat) (is : IsSeat room seat) (sectors : ℕ → List ℕ) (encoded : AreSectorsOf room sectors (Some seat)) where
  pub head_there : sectors 0 ≡ head_sector seat
  head_there = encoded 0 (omega arith) ∙ first_sector seat

  pub slot_at_is : (k : ℕ) → IsSlot (slot_at k seat)
  slot_at_is k = slot_is seat.slots k is.each

  -- a part of a slot
  there : (slot part n : ℕ) → slot < room → part < 4 → n ≡ 1 + 4 * slot + part → sectors n ≡ part_of part (slot_text (slot_at slot seat))
  there slot part n low few e =
      let rest : (n - 1) % 4 ≡ part = omega arith in
      let of : (n - 1) / 4 ≡ slot = omega arith in
      encoded n (omega arith) ∙ slot_sector_at n seat (omega arith)
      ∙ ap₂ (λ (i j : ℕ). part_of i (slot_text (slot_at j seat))) rest of

  joined : (text : List ℕ) (first : ℕ) → sectors first ≡ part_of 0 text → sectors (first + 1) ≡ part_of 1 text → sectors (first + 2) ≡ part_of 2 text → sectors (first + 3) ≡ part_of 3 text
      → length text ≡ 16384 → text_from sectors first ≡ text
  joined text first a b c d len = ap₂ (λ (x y : List ℕ). x ++ y) (ap₂ (λ (x y : List ℕ). x ++ y) (ap₂ (λ (x y : List ℕ). x ++ y) a b) c) d ∙ parts_whole text len

  pub slot_there : (slot : ℕ) → slot < room → text_from sectors (1 + 4 * slot) ≡ slot_text (slot_at slot seat)
  slot_there slot low = joined (slot_text (slot_at slot seat)) (1 + 4 * slot)
      (there slot 0 (1 + 4 * slot) low (omega arith) (omega arith)) (there slot 1 (1 + 4 * slot + 1) low (omega arith) (omega arith))
      (there slot 2 (1 + 4 * slot + 2) low (omega arith) (omega arith)) (there slot 3 (1 + 4 * slot + 3) low (omega arith) (omega arith))
      (length-slot_text (slot_at slot seat) (slot_at_is slot))

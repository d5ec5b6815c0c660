-- Records in blocks: one is read, changed, put after the last, and the last is removed.
use Rattle.std.proofs.Common.{◌≡◌, ◌<◌, ◌≤◌, ◌+◌, ◌-◌, ◌*◌, ◌/◌, ◌%◌, ◌∙◌, ℕ, zero, suc, List, [], ◌∷◌, ◌++◌, length, get_or, set, take, map, refl, sym, ap, subst, arith, append_assoc}
use Rattle.std.proofs.lemmas.List.{append-nil, length-append, length-take, length-set, length-map, get_or-map, map-set, map_push, take-map, map_push, take-map, length_push, get_or_append_left, get_or-append-add, set-append_left, set-append_right, take-append-le, take_all, take_at, take-take, get_or-take}
use Rattle.directory.specs.Records.{Record}
use Rattle.directory.specs.Blocks.{joined, AreFilled}

abbrev Blocks : Type 0
Blocks = List (List Record)

take_past : (block rest : List Record) (n m : ℕ) → n ≡ length block + m → take n (block ++ rest) ≡ block ++ take m rest
take_past [] rest n m is = ap (λ k. take k rest) (let same : n ≡ m = omega (arith, is) in same)
take_past (x ∷ block) rest zero m is = absurd (omega (arith, is))
take_past (x ∷ block) rest (suc n) m is = ap (λ l. x ∷ l) (take_past block rest n m (omega (arith, is)))

take_set : (n : ℕ) (xs : List Record) (i : ℕ) (v : Record) → take n (set xs i v) ≡ set (take n xs) i v
take_set zero xs i v = refl
take_set (suc n) [] i v = refl
take_set (suc n) (x ∷ xs) zero v = refl
take_set (suc n) (x ∷ xs) (suc i) v = ap (λ l. x ∷ l) (take_set n xs i v)

pub holds : (bs : Blocks) (count : ℕ) → AreFilled count bs → count ≤ length (joined bs)
holds [] count filled = omega (arith, filled)
holds (b ∷ bs) count filled = omega (arith, length-append b (joined bs), filled.1, filled.2, holds bs (count - 15) filled.3)

pub counted : (bs : Blocks) (count : ℕ) → AreFilled count bs → length (take count (joined bs)) ≡ count
counted bs count filled = omega (arith, length-take count (joined bs), holds bs count filled)

-- The place of a record in its block

pub there : (bs : Blocks) (count k j : ℕ) (e : List Record) → AreFilled count bs → j < 15 → 15 * k + j < count → (k < length bs) × (j < length (get_or bs k e))
there [] count k j e filled low within = absurd (omega (arith, filled))
there (b ∷ bs) count zero j e filled low within = (omega arith, omega (arith, filled.1))
there (b ∷ bs) count (suc k) j e filled low within =
    let rest = there bs (count - 15) k j e filled.3 low (omega arith) in
    (omega (arith, rest.0), rest.1)

read_joined : (bs : Blocks) (count k j : ℕ) (e : List Record) (d : Record) → AreFilled count bs → j < 15 → 15 * k + j < count
    → get_or (joined bs) (15 * k + j) d ≡ get_or (get_or bs k e) j d
read_joined [] count k j e d filled low within = absurd (omega (arith, filled))
read_joined (b ∷ bs) count zero j e d filled low within =
    ap (λ i. get_or (b ++ joined bs) i d) (let same : 15 * 0 + j ≡ j = omega arith in same)
    ∙ get_or_append_left b (joined bs) d j (omega (arith, filled.1))
read_joined (b ∷ bs) count (suc k) j e d filled low within =
    let place : 15 * suc k + j ≡ length b + (15 * k + j) = omega (arith, filled.1, filled.2) in
    ap (λ i. get_or (b ++ joined bs) i d) place
    ∙ (get_or-append-add b (joined bs) (15 * k + j) d ∙ read_joined bs (count - 15) k j e d filled.3 low (omega arith))

pub read : (bs : Blocks) (count place k j : ℕ) (e : List Record) (d : Record) → AreFilled count bs → place ≡ 15 * k + j → j < 15 → place < count
    → get_or (take count (joined bs)) place d ≡ get_or (get_or bs k e) j d
read bs count place k j e d filled is low within =
    get_or-take count (joined bs) place d within ∙ (ap (λ i. get_or (joined bs) i d) is ∙ read_joined bs count k j e d filled low (omega (arith, is)))

-- A record changes

set_joined : (bs : Blocks) (count k j : ℕ) (e : List Record) (v : Record) → AreFilled count bs → j < 15 → 15 * k + j < count
    → joined (set bs k (set (get_or bs k e) j v)) ≡ set (joined bs) (15 * k + j) v
set_joined [] count k j e v filled low within = absurd (omega (arith, filled))
set_joined (b ∷ bs) count zero j e v filled low within =
    sym (ap (λ i. set (b ++ joined bs) i v) (let same : 15 * 0 + j ≡ j = omega arith in same)
    ∙ set-append_left b (joined bs) j v (omega (arith, filled.1)))
set_joined (b ∷ bs) count (suc k) j e v filled low within =
    let full : length b ≡ 15 = omega (arith, filled.1, filled.2) in
    let place : 15 * suc k + j - 15 ≡ 15 * k + j = omega arith in
    ap (λ l. b ++ l) (set_joined bs (count - 15) k j e v filled.3 low (omega arith))
    ∙ sym (set-append_right b (joined bs) 15 (15 * suc k + j) v full (omega arith) ∙ ap (λ i. b ++ set (joined bs) i v) place)

pub changed : (bs : Blocks) (count place k j : ℕ) (e : List Record) (v : Record) → AreFilled count bs → place ≡ 15 * k + j → j < 15 → place < count
    → take count (joined (set bs k (set (get_or bs k e) j v))) ≡ set (take count (joined bs)) place v
changed bs count place k j e v filled is low within =
    ap (take count) (set_joined bs count k j e v filled low (omega (arith, is)) ∙ ap (λ i. set (joined bs) i v) (sym is))
    ∙ take_set count (joined bs) place v

pub filled_set : (bs : Blocks) (count k : ℕ) (c e : List Record) → AreFilled count bs → length c ≡ length (get_or bs k e) → k < length bs → AreFilled count (set bs k c)
filled_set [] count k c e filled same within = absurd (omega arith)
filled_set (b ∷ bs) count zero c e filled same within = (filled.0, omega (arith, filled.1, same), omega (arith, filled.2, same), filled.3)
filled_set (b ∷ bs) count (suc k) c e filled same within =
    (filled.0, filled.1, filled.2, filled_set bs (count - 15) k c e filled.3 same (omega arith))

-- One more, in its own block

all_full : (bs : Blocks) (count k : ℕ) → AreFilled count bs → length bs ≤ k → 15 * k ≤ count → length (joined bs) ≡ count
all_full [] count k filled past low = omega (arith, filled)
all_full (b ∷ bs) count zero filled past low = absurd (omega arith)
all_full (b ∷ bs) count (suc k) filled past low =
    omega (arith, length-append b (joined bs), all_full bs (count - 15) k filled.3 (omega arith) (omega arith), filled.1, filled.2)

pub filled_more : (bs : Blocks) (count k : ℕ) (c : List Record) → AreFilled count bs → length bs ≤ k → 15 * k ≤ count → length c ≡ 1 → AreFilled (count + 1) (bs ++ c ∷ [])
filled_more [] count k c filled past low one = (omega arith, omega (arith, filled, one), omega (arith, one), omega (arith, filled))
filled_more (b ∷ bs) count zero c filled past low one = absurd (omega arith)
filled_more (b ∷ bs) count (suc k) c filled past low one =
    let rest = filled_more bs (count - 15) k c filled.3 (omega arith) (omega arith) one in
    let many : count - 15 + 1 ≡ count + 1 - 15 = omega arith in
    (omega arith, omega (arith, filled.1), filled.2, subst (λ n. AreFilled n (bs ++ c ∷ [])) many rest)

joined_push : (bs : Blocks) (c : List Record) → joined (bs ++ c ∷ []) ≡ joined bs ++ c
joined_push [] c = append-nil c
joined_push (b ∷ bs) c = ap (λ l. b ++ l) (joined_push bs c) ∙ sym (append_assoc b (joined bs) c)

pub more : (bs : Blocks) (count k : ℕ) (v : Record) → AreFilled count bs → length bs ≤ k → 15 * k ≤ count
    → take (count + 1) (joined (bs ++ (v ∷ []) ∷ [])) ≡ take count (joined bs) ++ v ∷ []
more bs count k v filled past low =
    let all : length (joined bs) ≡ count = all_full bs count k filled past low in
    ap (take (count + 1)) (joined_push bs (v ∷ []))
    ∙ (take_all (count + 1) (joined bs ++ v ∷ []) (omega (arith, all, length_push (joined bs) v))
    ∙ ap (λ l. l ++ v ∷ []) (sym (take_all count (joined bs) (omega (arith, all)))))

-- One more, in the last block

pub filled_end : (bs : Blocks) (count k j : ℕ) (c : List Record) → AreFilled count bs → count ≡ 15 * k + j → j < 15 → k < length bs → length c ≡ j + 1 → AreFilled (count + 1) (set bs k c)
filled_end [] count k j c filled is low within long = absurd (omega arith)
filled_end (b ∷ bs) count zero j c filled is low within long =
    let none : count - 15 ≡ count + 1 - 15 = omega (arith, is) in
    (omega arith, omega (arith, is, long), omega (arith, long), subst (λ n. AreFilled n bs) none filled.3)
filled_end (b ∷ bs) count (suc k) j c filled is low within long =
    let rest = filled_end bs (count - 15) k j c filled.3 (omega (arith, is)) low (omega arith) long in
    let many : count - 15 + 1 ≡ count + 1 - 15 = omega (arith, is) in
    (omega arith, omega (arith, is, filled.1), filled.2, subst (λ n. AreFilled n (set bs k c)) many rest)

pub ended : (bs : Blocks) (count k j : ℕ) (e : List Record) (v : Record) → AreFilled count bs → count ≡ 15 * k + j → j < 15 → k < length bs
    → take (count + 1) (joined (set bs k (take j (get_or bs k e) ++ v ∷ []))) ≡ take count (joined bs) ++ v ∷ []
ended [] count k j e v filled is low within = absurd (omega arith)
ended (b ∷ bs) count zero j e v filled is low within =
    let same : count ≡ j = omega (arith, is) in
    let inside : count ≤ length b = omega (arith, filled.1, same) in
    let long : length (take j b ++ v ∷ []) ≡ count + 1 = omega (arith, length_push (take j b) v, length-take j b, same, inside) in
    take_at (take j b ++ v ∷ []) (joined bs) (count + 1) long
    ∙ ap (λ l. l ++ v ∷ []) (sym (take-append-le count b (joined bs) inside ∙ ap (λ n. take n b) same))
ended (b ∷ bs) count (suc k) j e v filled is low within =
    let full : length b ≡ 15 = omega (arith, filled.1, filled.2, is) in
    take_past b (joined (set bs k (take j (get_or bs k e) ++ v ∷ []))) (count + 1) (count - 15 + 1) (omega (arith, full, is))
    ∙ (ap (λ l. b ++ l) (ended bs (count - 15) k j e v filled.3 (omega (arith, is)) low (omega arith))
    ∙ (sym (append_assoc b (take (count - 15) (joined bs)) (v ∷ []))
    ∙ ap (λ l. l ++ v ∷ []) (sym (take_past b (joined bs) count (count - 15) (omega (arith, full, is))))))

-- The last is removed

pub filled_less : (bs : Blocks) (count k j : ℕ) → AreFilled (count + 1) bs → count ≡ 15 * k + j → 0 < j → j < 15 → AreFilled count bs
filled_less [] count k j filled is some low = absurd (omega (arith, filled))
filled_less (b ∷ bs) count zero j filled is some low =
    let none : count + 1 - 15 ≡ count - 15 = omega (arith, is) in
    (omega (arith, is), omega (arith, filled.1), filled.2, subst (λ n. AreFilled n bs) none filled.3)
filled_less (b ∷ bs) count (suc k) j filled is some low =
    let many : count + 1 - 15 ≡ count - 15 + 1 = omega (arith, is) in
    (omega (arith, is), omega (arith, filled.1), filled.2, filled_less bs (count - 15) k j (subst (λ n. AreFilled n bs) many filled.3) (omega (arith, is)) some low)

pub filled_cut : (bs : Blocks) (count k : ℕ) → AreFilled (count + 1) bs → count ≡ 15 * k → AreFilled count (take k bs)
filled_cut bs count zero filled is = omega (arith, is)
filled_cut [] count (suc k) filled is = absurd (omega (arith, filled))
filled_cut (b ∷ bs) count (suc k) filled is =
    let many : count + 1 - 15 ≡ count - 15 + 1 = omega (arith, is) in
    (omega (arith, is), omega (arith, filled.1), filled.2, filled_cut bs (count - 15) k (subst (λ n. AreFilled n bs) many filled.3) (omega (arith, is)))

pub cut_same : (bs : Blocks) (count k : ℕ) → AreFilled (count + 1) bs → count ≡ 15 * k → take count (joined (take k bs)) ≡ take count (joined bs)
cut_same bs count zero filled is =
    let none : count ≡ 0 = omega (arith, is) in
    ap (λ n. take n (joined (take 0 bs))) none ∙ sym (ap (λ n. take n (joined bs)) none)
cut_same [] count (suc k) filled is = absurd (omega (arith, filled))
cut_same (b ∷ bs) count (suc k) filled is =
    let full : length b ≡ 15 = omega (arith, filled.1, filled.2, is) in
    let many : count + 1 - 15 ≡ count - 15 + 1 = omega (arith, is) in
    take_past b (joined (take k bs)) count (count - 15) (omega (arith, full, is))
    ∙ (ap (λ l. b ++ l) (cut_same bs (count - 15) k (subst (λ n. AreFilled n bs) many filled.3) (omega (arith, is)))
    ∙ sym (take_past b (joined bs) count (count - 15) (omega (arith, full, is))))

-- Blocks that something holds

module _ {X : Type 0} (f : X → List Record) (items : List X) (count : ℕ) (filled : AreFilled count (map f items)) (place : ℕ) (within : place < count) where
  split : place ≡ 15 * (place / 15) + place % 15
  split = omega arith

  low : place % 15 < 15
  low = omega arith

  pub block_there : place / 15 < length items
  block_there = omega (arith, (there (map f items) count (place / 15) (place % 15) [] filled low (omega (arith, split, within))).0, length-map items f)

  module _ (block : X) (is : block ≡ get_or items (place / 15) block) where
    its_block : get_or (map f items) (place / 15) [] ≡ f block
    its_block = get_or-map f items (place / 15) block [] block_there ∙ ap f (sym is)

    pub record_there : place % 15 < length (f block)
    record_there =
        subst (λ (b : List Record). place % 15 < length b) its_block
        (there (map f items) count (place / 15) (place % 15) [] filled low (omega (arith, split, within))).1

    pub record_read : (d : Record) → get_or (take count (joined (map f items))) place d ≡ get_or (f block) (place % 15) d
    record_read d =
        read (map f items) count place (place / 15) (place % 15) [] d filled split low within ∙ ap (λ (b : List Record). get_or b (place % 15) d) its_block

    module _ (made : X) (v : Record) (made_is : f made ≡ set (f block) (place % 15) v) where
      set_blocks : map f (set items (place / 15) made) ≡ set (map f items) (place / 15) (set (get_or (map f items) (place / 15) []) (place % 15) v)
      set_blocks =
          map-set f items (place / 15) made
          ∙ ap (set (map f items) (place / 15)) (made_is ∙ ap (λ (b : List Record). set b (place % 15) v) (sym its_block))

      pub record_set : take count (joined (map f (set items (place / 15) made))) ≡ set (take count (joined (map f items))) place v
      record_set =
          ap (λ bs. take count (joined bs)) set_blocks ∙ changed (map f items) count place (place / 15) (place % 15) [] v filled split low within

      pub record_set_filled : AreFilled count (map f (set items (place / 15) made))
      record_set_filled =
          subst (AreFilled count) (sym set_blocks)
          (filled_set (map f items) count (place / 15) (set (get_or (map f items) (place / 15) []) (place % 15) v) [] filled
          (length-set (get_or (map f items) (place / 15) []) (place % 15) v) (omega (arith, block_there, length-map items f)))

room : (bs : Blocks) (count k j : ℕ) (e : List Record) → AreFilled count bs → count ≡ 15 * k + j → j < 15 → k < length bs → j ≤ length (get_or bs k e)
room [] count k j e filled is low within = absurd (omega arith)
room (b ∷ bs) count zero j e filled is low within = omega (arith, is, filled.1)
room (b ∷ bs) count (suc k) j e filled is low within = room bs (count - 15) k j e filled.3 (omega (arith, is)) low (omega arith)

module _ {X : Type 0} (f : X → List Record) (items : List X) (count : ℕ) (filled : AreFilled count (map f items)) where
  count_split : count ≡ 15 * (count / 15) + count % 15
  count_split = omega arith

  count_low : count % 15 < 15
  count_low = omega arith

  module _ (within : count / 15 < length items) (block : X) (is : block ≡ get_or items (count / 15) block) where
    last_block : get_or (map f items) (count / 15) [] ≡ f block
    last_block = get_or-map f items (count / 15) block [] within ∙ ap f (sym is)

    pub last_room : count % 15 ≤ length (f block)
    last_room =
        subst (λ (b : List Record). count % 15 ≤ length b) last_block
        (room (map f items) count (count / 15) (count % 15) [] filled count_split count_low (omega (arith, within, length-map items f)))

    module _ (made : X) (v : Record) (made_is : f made ≡ take (count % 15) (f block) ++ v ∷ []) where
      end_blocks : map f (set items (count / 15) made) ≡ set (map f items) (count / 15) (take (count % 15) (get_or (map f items) (count / 15) []) ++ v ∷ [])
      end_blocks =
          map-set f items (count / 15) made
          ∙ ap (set (map f items) (count / 15)) (made_is ∙ ap (λ (b : List Record). take (count % 15) b ++ v ∷ []) (sym last_block))

      pub end_filled : AreFilled (count + 1) (map f (set items (count / 15) made))
      end_filled =
          subst (AreFilled (count + 1)) (sym (map-set f items (count / 15) made))
          (filled_end (map f items) count (count / 15) (count % 15) (f made) filled count_split count_low (omega (arith, within, length-map items f))
          (ap length made_is ∙ omega (arith, length_push (take (count % 15) (f block)) v, length-take (count % 15) (f block), last_room)))

      pub end_is : take (count + 1) (joined (map f (set items (count / 15) made))) ≡ take count (joined (map f items)) ++ v ∷ []
      end_is =
          ap (λ bs. take (count + 1) (joined bs)) end_blocks
          ∙ ended (map f items) count (count / 15) (count % 15) [] v filled count_split count_low (omega (arith, within, length-map items f))

  module _ (past : length items ≤ count / 15) (made : X) (v : Record) (made_is : f made ≡ v ∷ []) where
    more_blocks : map f (items ++ made ∷ []) ≡ map f items ++ (v ∷ []) ∷ []
    more_blocks = map_push f items made ∙ ap (λ (b : List Record). map f items ++ b ∷ []) made_is

    pub push_filled : AreFilled (count + 1) (map f (items ++ made ∷ []))
    push_filled =
        subst (AreFilled (count + 1)) (sym more_blocks)
        (filled_more (map f items) count (count / 15) (v ∷ []) filled (omega (arith, past, length-map items f)) (omega (arith, count_split)) refl)

    pub push_is : take (count + 1) (joined (map f (items ++ made ∷ []))) ≡ take count (joined (map f items)) ++ v ∷ []
    push_is =
        ap (λ bs. take (count + 1) (joined bs)) more_blocks
        ∙ more (map f items) count (count / 15) v filled (omega (arith, past, length-map items f)) (omega (arith, count_split))

module _ {X : Type 0} (f : X → List Record) (items : List X) (count : ℕ) (some : 0 < count) (filled : AreFilled count (map f items)) where
  was : count ≡ count - 1 + 1
  was = omega (arith, some)

  filled_was : AreFilled (count - 1 + 1) (map f items)
  filled_was = subst (λ n. AreFilled n (map f items)) was filled

  shorter : take (count - 1) (joined (map f items)) ≡ take (length (take count (joined (map f items))) - 1) (take count (joined (map f items)))
  shorter =
      let len : length (take count (joined (map f items))) ≡ count = counted (map f items) count filled in
      sym (take-take (count - 1) count (joined (map f items)) (omega arith))
      ∙ ap (λ n. take (n - 1) (take count (joined (map f items)))) (sym len)

  module _ (even : (count - 1) % 15 ≡ 0) (kept : List X) (kept_is : kept ≡ take ((count - 1) / 15) items) where
    full : count - 1 ≡ 15 * ((count - 1) / 15)
    full = omega (arith, even)

    cut_blocks : map f kept ≡ take ((count - 1) / 15) (map f items)
    cut_blocks = ap (map f) kept_is ∙ sym (take-map f ((count - 1) / 15) items)

    pub cut_filled : AreFilled (count - 1) (map f kept)
    cut_filled = subst (AreFilled (count - 1)) (sym cut_blocks) (filled_cut (map f items) (count - 1) ((count - 1) / 15) filled_was full)

    pub cut_is : take (count - 1) (joined (map f kept)) ≡ take (length (take count (joined (map f items))) - 1) (take count (joined (map f items)))
    cut_is =
        ap (λ bs. take (count - 1) (joined bs)) cut_blocks
        ∙ (cut_same (map f items) (count - 1) ((count - 1) / 15) filled_was full ∙ shorter)

  module _ (odd : (count - 1) % 15 ≡ 0 → ⊥) where
    pub less_filled : AreFilled (count - 1) (map f items)
    less_filled =
        let some_left : 0 < (count - 1) % 15 = above ((count - 1) % 15) odd in
        filled_less (map f items) (count - 1) ((count - 1) / 15) ((count - 1) % 15) filled_was (omega arith) some_left (omega arith)
      where
        above : (n : ℕ) → (n ≡ 0 → ⊥) → 0 < n
        above zero never = absurd (never refl)
        above (suc n) never = omega arith

    pub less_is : take (count - 1) (joined (map f items)) ≡ take (length (take count (joined (map f items))) - 1) (take count (joined (map f items)))
    less_is = shorter

-- The numbers of a bitmap's attributes, one bit and one word after the other.
use Rattle.std.proofs.Common.{ℕ, Bool, true, false, List, [], ◌∷◌, ◌++◌, ◌≡◌, ◌≢◌, ◌+◌, ◌*◌, ◌==◌, add-one, zero-add, ne_eqb, eq-eqb, zero, suc, map, filter, cond, length, sym, ap, ◌∙◌, arith}
use Rattle.std.proofs.lemmas.List.{append-nil, append_assoc, map-append}
use Rattle.std.proofs.lemmas.List.Elements.{filter-append}
use Rattle.std.specs.List.{range_with_len}
use Rattle.std.specs.Int.{bit_at}
use Rattle.model.specs.Attributes.Attribute.{attributes_of_word, attributes_from}

-- the numbers of a range, one more
range-more : (a n : ℕ) → range_with_len a (n + 1) ≡ range_with_len a n ++ (a + n) ∷ []
range-more a n = rw add-one (go a n)
  where
    go : (a n : ℕ) → range_with_len a (suc n) ≡ range_with_len a n ++ (a + n) ∷ []
    go a zero = ap (λ m. m ∷ []) (omega arith)
    go a (suc n) =
        let next : (a + 1) + n ≡ a + suc n = omega arith in
        ap (λ l. a ∷ l) (go (a + 1) n ∙ ap (λ m. range_with_len (a + 1) n ++ m ∷ []) next)

-- the attributes of a word, one more bit
pub bits-more : (first word bit : ℕ) (is_set : Bool) → (bit_at word bit == 1) ≡ is_set
    → map (λ bit. first + bit) (filter (λ bit. bit_at word bit == 1) (range_with_len 0 (bit + 1)))
    ≡ map (λ bit. first + bit) (filter (λ bit. bit_at word bit == 1) (range_with_len 0 bit)) ++ cond is_set ((first + bit) ∷ []) []
bits-more first word bit is_set same =
    let is_there = λ (b : ℕ). bit_at word b == 1 in
    let number = λ (b : ℕ). first + b in
    ap (λ l. map number (filter is_there l)) (range-more 0 bit)
    ∙ (ap (map number) (filter-append is_there (range_with_len 0 bit) ((0 + bit) ∷ []))
    ∙ (map-append number (filter is_there (range_with_len 0 bit)) (filter is_there ((0 + bit) ∷ []))
    ∙ ap (λ l. map number (filter is_there (range_with_len 0 bit)) ++ l) (last is_set same)))
  where
    last : (is_set : Bool) → (bit_at word bit == 1) ≡ is_set
        → map (λ bit. first + bit) (filter (λ bit. bit_at word bit == 1) ((0 + bit) ∷ [])) ≡ cond is_set ((first + bit) ∷ []) []
    last true same = simp (zero-add, same)
    last false same = simp (zero-add, same)

-- a bit that is set is put after the others, another one is not
pub bit-put : (first word bit : ℕ) (before old new : List ℕ)
    → old ≡ before ++ map (λ bit. first + bit) (filter (λ bit. bit_at word bit == 1) (range_with_len 0 bit))
    → bit_at word bit ≡ 1 → new ≡ old ++ (first + bit) ∷ []
    → new ≡ before ++ map (λ bit. first + bit) (filter (λ bit. bit_at word bit == 1) (range_with_len 0 (bit + 1)))
bit-put first word bit before old new was set put =
    put ∙ (ap (λ l. l ++ (first + bit) ∷ []) was
    ∙ (append_assoc before _ ((first + bit) ∷ [])
    ∙ ap (λ l. before ++ l) (sym (bits-more first word bit true (eq-eqb _ _ set)))))

pub bit-passed : (first word bit : ℕ) (before old : List ℕ)
    → old ≡ before ++ map (λ bit. first + bit) (filter (λ bit. bit_at word bit == 1) (range_with_len 0 bit))
    → bit_at word bit ≢ 1
    → old ≡ before ++ map (λ bit. first + bit) (filter (λ bit. bit_at word bit == 1) (range_with_len 0 (bit + 1)))
bit-passed first word bit before old was clear =
    was ∙ ap (λ l. before ++ l) (sym (bits-more first word bit false (ne_eqb _ _ clear) ∙ append-nil _))

-- the attributes of a bitmap, one more word
pub words-more : (first word : ℕ) (words : List ℕ)
    → attributes_from first (words ++ word ∷ []) ≡ attributes_from first words ++ attributes_of_word (first + 32 * length words) word
words-more first word [] =
    let same : first ≡ first + 32 * 0 = omega arith in
    append-nil (attributes_of_word first word) ∙ ap (λ n. attributes_of_word n word) same
words-more first word (next ∷ words) =
    let same : (first + 32) + 32 * length words ≡ first + 32 * suc (length words) = omega arith in
    ap (λ l. attributes_of_word first next ++ l)
    (words-more (first + 32) word words ∙ ap (λ n. attributes_from (first + 32) words ++ attributes_of_word n word) same)
    ∙ sym (append_assoc (attributes_of_word first next) (attributes_from (first + 32) words) (attributes_of_word (first + 32 * suc (length words)) word))

-- Records of one width that are written one after the other from an offset on, and read from there.
use Rattle.std.specs.Prelude.{◌≡◌, ◌≤◌, ◌<◌, ◌+◌, ◌*◌, ℕ, zero, suc, List, [], ◌∷◌, ◌++◌, length, take, drop, replicate}
use Rattle.std.specs.List.{flat_map, AllByRecursion}
use Rattle.std.proofs.Common.{sym, ap, ◌∙◌, arith, append_assoc, get_or}
use Rattle.std.proofs.lemmas.List.{append-nil, length-replicate, length_push, drop-drop, take_more, take_all}
use Rattle.std.proofs.lemmas.List.Concat.{flat_map-append}
use Rattle.sector.specs.Records.{AreWide, drop-record}

-- `new` begins with the first `base` bytes of `old` and the first n records
pub record AreWritten {A : Type 0} (encoding : A → List ℕ) (width base : ℕ) (old new : List ℕ)
    (xs : List A) (n : ℕ) : Type 0 where
  pub prefix : take (base + width * n) new ≡ take base old ++ flat_map encoding (take n xs)
  pub len : length new ≡ 4096

-- if P holds of each, it holds of the k-th
pub each_at : {A : Type 0} (P : A → Type 0) (xs : List A) (k : ℕ) (d : A) → AllByRecursion P xs
    → k < length xs → P (get_or xs k d)
each_at P [] k d all h = absurd (omega arith)
each_at P (x ∷ xs) zero d all h = all.0
each_at P (x ∷ xs) (suc k) d all h = each_at P xs k d all.1 (omega arith)

pub each_push : {A : Type 0} (P : A → Type 0) (xs : List A) (x : A) → AllByRecursion P xs → P x
    → AllByRecursion P (xs ++ x ∷ [])
each_push P [] x all is = (is, tt)
each_push P (y ∷ xs) x all is = (all.0, each_push P xs x all.1 is)

module _ {A : Type 0} (encoding : A → List ℕ) (width base : ℕ) where
  pub AreWritten-more : (old mid new : List ℕ) (xs : List A) (n at : ℕ) (x : A)
      → AreWritten encoding width base old mid xs n → n < length xs → x ≡ get_or xs n x
      → at ≡ base + width * n
      → take (at + width) new ≡ take at mid ++ encoding x → length new ≡ 4096
      → AreWritten encoding width base old new xs (n + 1)
  AreWritten-more old mid new xs n at x far h is place prefix len =
      let end : base + width * (n + 1) ≡ at + width = omega arith in
      let more : take (n + 1) xs ≡ take n xs ++ x ∷ [] = take_more xs n x h ∙ ap (λ (y : A). take n xs ++ y ∷ []) (sym is) in
      let encoded : flat_map encoding (take (n + 1) xs)
      ≡ flat_map encoding (take n xs) ++ encoding x =
      ap (flat_map encoding) more ∙ flat_map-append encoding (take n xs) (x ∷ [])
      ∙ ap (λ (bytes : List ℕ). flat_map encoding (take n xs) ++ bytes) (append-nil (encoding x)) in
      record {
        prefix =
            ap (λ (i : ℕ). take i new) end ∙ prefix ∙ ap (λ (i : ℕ). take i mid ++ encoding x) place
            ∙ ap (λ (bytes : List ℕ). bytes ++ encoding x) far.prefix
            ∙ append_assoc (take base old) (flat_map encoding (take n xs)) (encoding x)
            ∙ ap (λ (bytes : List ℕ). take base old ++ bytes) (sym encoded);
        len = len;
      }

  -- all records, and zeros after them
  pub AreWritten-zeros : (old mid new : List ℕ) (xs : List A) (end count : ℕ)
      → AreWritten encoding width base old mid xs (length xs) → end ≡ base + width * length xs
      → take (end + length (replicate {A = ℕ} count 0)) new ≡ take end mid ++ replicate count 0
      → take (end + count) new ≡ take base old ++ (flat_map encoding xs ++ replicate count 0)
  AreWritten-zeros old mid new xs end count far place prefix =
      let counted : length (replicate {A = ℕ} count 0) ≡ count = length-replicate count 0 in
      let all : take (length xs) xs ≡ xs = take_all (length xs) xs (omega arith) in
      ap (λ (i : ℕ). take (end + i) new) (sym counted) ∙ prefix
      ∙ ap (λ (i : ℕ). take i mid ++ replicate count 0) place
      ∙ ap (λ (bytes : List ℕ). bytes ++ replicate count 0) far.prefix
      ∙ append_assoc (take base old) (flat_map encoding (take (length xs) xs)) (replicate count 0)
      ∙ ap (λ (ys : List A). take base old ++ (flat_map encoding ys ++ replicate count 0)) all

-- `xs` are the first n of the `count` records from `base` on: if `count` records are stored there,
-- they begin with these.
pub record AreRead {A : Type 0} (encoding : A → List ℕ) (P : A → Type 0) (base count : ℕ)
    (sector : List ℕ) (xs : List A) (n : ℕ) : Type 0 where
  pub len : length xs ≡ n
  pub each : AllByRecursion P xs
  pub only : (others : List A) (rest : List ℕ) → AllByRecursion P others → length others ≡ count
      → drop base sector ≡ flat_map encoding others ++ rest → xs ≡ take n others

module _ {A : Type 0} (encoding : A → List ℕ) (P : A → Type 0) (width : ℕ)
    (wide : AreWide encoding width) (base count : ℕ) (sector : List ℕ) (xs : List A) (n : ℕ)
    (far : AreRead encoding P base count sector xs n) where
  -- the n-th record, if `count` records are stored from `base` on
  there : (others : List A) (rest : List ℕ) (d : A) (at : ℕ) → length others ≡ count
      → drop base sector ≡ flat_map encoding others ++ rest → n < count → at ≡ base + width * n
      → drop at sector ≡ encoding (get_or others n d) ++ (flat_map encoding (drop (n + 1) others)
      ++ rest)
  there others rest d at many e h place =
      ap (λ (i : ℕ). drop i sector) place ∙ sym (drop-drop (width * n) base sector)
      ∙ ap (drop (width * n)) e ∙ drop-record encoding width wide n others rest d (omega arith)

  pub AreRead-more : (x : A) (at : ℕ) → P x → n < count → at ≡ base + width * n
      → ((other : A) (rest : List ℕ) → P other → drop at sector ≡ encoding other ++ rest
      → x ≡ other)
      → AreRead encoding P base count sector (xs ++ x ∷ []) (n + 1)
  AreRead-more x at is h place same = record {
    len = length_push xs x ∙ omega (arith, far.len);
    each = each_push P xs x far.each is;
    only = λ others rest all many e.
        let x_is : x ≡ get_or others n x = same (get_or others n x) (flat_map encoding (drop (n + 1) others) ++ rest) (each_at P others n x all (omega arith)) (there others rest x at many e h place) in
        ap (λ (ys : List A). ys ++ x ∷ []) (far.only others rest all many e)
        ∙ ap (λ (y : A). take n others ++ y ∷ []) x_is
        ∙ sym (take_more others n x (omega arith));
  }

  -- if no record is stored at the n-th place, `count` records are not stored from `base` on
  pub none_there : (d : A) (at : ℕ) → n < count → at ≡ base + width * n
      → ((other : A) (rest : List ℕ) → P other → drop at sector ≡ encoding other ++ rest → ⊥)
      → (others : List A) (rest : List ℕ) → AllByRecursion P others → length others ≡ count
      → drop base sector ≡ flat_map encoding others ++ rest → ⊥
  none_there d at h place nowhere others rest all many e =
      nowhere (get_or others n d) (flat_map encoding (drop (n + 1) others) ++ rest)
      (each_at P others n d all (omega arith)) (there others rest d at many e h place)

  pub AreRead-all : count ≤ n → (others : List A) (rest : List ℕ) → AllByRecursion P others
      → length others ≡ count → drop base sector ≡ flat_map encoding others ++ rest → xs ≡ others
  AreRead-all le others rest all many e =
      far.only others rest all many e ∙ take_all n others (omega arith)

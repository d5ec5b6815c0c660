-- Records of one width, end to end.
use Rattle.std.specs.Prelude.{◌≡◌, ◌≤◌, ◌<◌, ◌+◌, ◌*◌, ℕ, zero, suc, List, [], ◌∷◌, ◌++◌, length, drop}
use Rattle.std.specs.List.{flat_map, AllByRecursion}
use Rattle.std.proofs.Common.{refl, sym, ap, ap₂, ◌∙◌, arith, append_assoc, get_or}
use Rattle.std.proofs.lemmas.List.{length-append, drop_at, drop-drop, drop_more}

-- every record is encoded in `width` bytes
abbrev pub AreWide : {A : Type 0} → (A → List ℕ) → ℕ → Type 0
AreWide {A = A} encoding width = (record_ : A) → length (encoding record_) ≡ width

-- The first `count` records of these bytes, whatever the bytes are: each is read at its offset.
abbrev pub records_at_prefix : {A : Type 0} → (List ℕ → A) → (width count : ℕ) → List ℕ → List A
records_at_prefix read width zero bytes = []
records_at_prefix read width (suc count) bytes =
    read bytes ∷ records_at_prefix read width count (drop width bytes)

module _ {A : Type 0} (encoding : A → List ℕ) (width : ℕ) (wide : AreWide encoding width) where
  pub length-records : (xs : List A) → length (flat_map encoding xs) ≡ width * length xs
  length-records [] = omega arith
  length-records (x ∷ xs) =
      omega (arith, length-append (encoding x) (flat_map encoding xs), wide x, length-records xs)

  -- the records from the k-th on
  pub drop-records : (k : ℕ) (xs : List A) (rest : List ℕ) → k ≤ length xs
      → drop (width * k) (flat_map encoding xs ++ rest) ≡ flat_map encoding (drop k xs) ++ rest
  drop-records zero xs rest h = let e : width * 0 ≡ 0 = omega arith in rw e refl
  drop-records (suc k) [] rest h = absurd (omega arith)
  drop-records (suc k) (x ∷ xs) rest h =
      let moved : width * suc k ≡ width + width * k = omega arith in
      let behind : drop width ((encoding x ++ flat_map encoding xs) ++ rest)
      ≡ flat_map encoding xs ++ rest =
      ap (drop width) (append_assoc (encoding x) (flat_map encoding xs) rest)
      ∙ drop_at (encoding x) (flat_map encoding xs ++ rest) width (wide x) in
      rw moved (sym (drop-drop (width * k) width ((encoding x ++ flat_map encoding xs) ++ rest))
      ∙ ap (drop (width * k)) behind ∙ drop-records k xs rest (omega arith))

  -- the k-th record, and what follows it
  pub drop-record : (k : ℕ) (xs : List A) (rest : List ℕ) (d : A) → k < length xs
      → drop (width * k) (flat_map encoding xs ++ rest)
      ≡ encoding (get_or xs k d) ++ (flat_map encoding (drop (k + 1) xs) ++ rest)
  drop-record k xs rest d h =
      drop-records k xs rest (omega arith)
      ∙ ap (λ (ys : List A). flat_map encoding ys ++ rest) (drop_more xs k d h)
      ∙ append_assoc (encoding (get_or xs k d)) (flat_map encoding (drop (k + 1) xs)) rest

  -- after the last one
  pub drop-records_all : (xs : List A) (rest : List ℕ)
      → drop (width * length xs) (flat_map encoding xs ++ rest) ≡ rest
  drop-records_all xs rest =
      drop_at (flat_map encoding xs) rest (width * length xs) (length-records xs)

  -- if each record is read back from its encoding, so is a list of them
  pub records-back : (read : List ℕ → A) (P : A → Type 0)
      → ((x : A) (rest : List ℕ) → P x → read (encoding x ++ rest) ≡ x)
      → (xs : List A) (rest : List ℕ) → AllByRecursion P xs
      → records_at_prefix read width (length xs) (flat_map encoding xs ++ rest) ≡ xs
  records-back read P back [] rest all = refl
  records-back read P back (x ∷ xs) rest all =
      let apart : (encoding x ++ flat_map encoding xs) ++ rest ≡ encoding x ++
      (flat_map encoding xs ++ rest) = append_assoc (encoding x) (flat_map encoding xs) rest in
      rw apart (ap₂ (λ (y : A) (ys : List A). y ∷ ys) (back x (flat_map encoding xs ++ rest) all.0)
      (ap (records_at_prefix read width (length xs))
      (drop_at (encoding x) (flat_map encoding xs ++ rest) width (wide x))
      ∙ records-back read P back xs rest all.1))

-- Records in a sector.
use Rattle.std.specs.Rc.{rc_slice_items}
use Rattle.directory.specs.declared.fault.RecordsFault.{RecordsFault}
use Rattle.std.proofs.Common.{Result, Err, ◌≡◌, ◌<◌, ◌≤◌, ◌+◌, ◌-◌, ◌*◌, min, ℕ, zero, suc, List, [], ◌∷◌, ◌++◌, length, get_or, take, drop, map, replicate, refl, sym, ap, ◌∙◌, arith, append_assoc}
use Rattle.std.specs.List.{flat_map, AllByRecursion}
use Rattle.std.specs.Int.{w64, to_be_bytes}
use Rattle.std.proofs.lemmas.List.{take_min, drop_min, length-drop, length-append, length-replicate, length-take, get_or-drop, drop-drop, take_at, take_all, length-map, replicate-append-replicate}
use Rattle.sector.specs.Placed.{IsNumberAt}
use Rattle.sector.specs.Records.{AreWide}
use Rattle.directory.specs.declared.entry.Entry.{Entry}
use Rattle.directory.specs.Records.{Record, record_of, record_from, IsRecord}
use Rattle.directory.specs.Encoding.{record_bytes, name_bytes, directory_sector}

length_of : (name zeros : List ℕ) → length zeros ≡ 255 → length (take 255 (name ++ zeros)) ≡ 255
length_of name zeros long = omega (arith, length-take 255 (name ++ zeros), length-append name zeros)

pub length-name_bytes : (name : List ℕ) → length (name_bytes name) ≡ 255
unfolding name_bytes
length-name_bytes name = length_of name (replicate 255 0) refl

pub records_wide : AreWide record_bytes 272
records_wide entry = let n = length-name_bytes entry.1.name in omega (arith, n)

-- a name that fits is itself and zeros
pub name_bytes-fits : (name : List ℕ) → length name ≤ 255 → name_bytes name ≡ name ++ replicate (255 - length name) 0
unfolding name_bytes
name_bytes-fits name few =
    let k = 255 - length name in
    let count : 255 ≡ k + length name = omega arith in
    let zeros : List ℕ = replicate k 0 in
    let others : List ℕ = replicate (length name) 0 in
    let len : length (name ++ zeros) ≡ 255 = omega (arith, length-append name zeros, length-replicate {A = ℕ} k 0) in
    ap (λ (n : ℕ). take 255 (name ++ replicate n 0)) count
    ∙ ap (λ (x : List ℕ). take 255 (name ++ x)) (sym (replicate-append-replicate k (length name) 0))
    ∙ ap (take 255) (sym (append_assoc name zeros others)) ∙ take_at (name ++ zeros) others 255 len

abbrev pub entry_bytes : Entry → List ℕ
entry_bytes entry = record_bytes (record_of entry)

pub flat_map-records : (entries : List Entry) → flat_map entry_bytes entries ≡ flat_map record_bytes (map record_of entries)
flat_map-records [] = refl
flat_map-records (e ∷ entries) = ap (λ (bytes : List ℕ). record_bytes (record_of e) ++ bytes) (flat_map-records entries)

-- ---- writing a record

regroup : (s a b c n z : List ℕ) → s ++ a ++ b ++ c ++ n ++ z ≡ s ++ (a ++ b ++ c ++ (n ++ z))
regroup s a b c n z = simp append_assoc

module _ (s0 s1 s2 s3 s4 s5 a b c name : List ℕ) (at : ℕ) (few : length name ≤ 255) where
  pub chain : take (at + 8) s1 ≡ take at s0 ++ a → take (at + 8 + 8) s2 ≡ take (at + 8) s1 ++ b → take (at + 16 + 1) s3 ≡ take (at + 16) s2 ++ c → take (at + 17 + length name) s4 ≡ take (at + 17) s3 ++ name
      → take (at + 17 + length name + length (replicate {A = ℕ} (255 - length name) 0)) s5 ≡ take (at + 17 + length name) s4 ++ replicate (255 - length name) 0
      → take (at + 272) s5 ≡ take at s0 ++ (a ++ b ++ c ++ name_bytes name)
  chain f1 f2 f3 f4 f5 =
      let zeros : List ℕ = replicate (255 - length name) 0 in
      let e2 : at + 16 ≡ at + 8 + 8 = omega arith in
      let e3 : at + 17 ≡ at + 16 + 1 = omega arith in
      let e5 : at + 272 ≡ at + 17 + length name + length zeros = omega (arith, length-replicate {A = ℕ} (255 - length name) 0) in
      let p2 : take (at + 16) s2 ≡ take at s0 ++ a ++ b = ap (λ (i : ℕ). take i s2) e2 ∙ f2 ∙ ap (λ (x : List ℕ). x ++ b) f1 in
      let p3 : take (at + 17) s3 ≡ take at s0 ++ a ++ b ++ c = ap (λ (i : ℕ). take i s3) e3 ∙ f3 ∙ ap (λ (x : List ℕ). x ++ c) p2 in
      let p4 : take (at + 17 + length name) s4 ≡ take at s0 ++ a ++ b ++ c ++ name = f4 ∙ ap (λ (x : List ℕ). x ++ name) p3 in
      let p5 : take (at + 272) s5 ≡ take at s0 ++ a ++ b ++ c ++ name ++ zeros = ap (λ (i : ℕ). take i s5) e5 ∙ f5 ∙ ap (λ (x : List ℕ). x ++ zeros) p4 in
      let whole : name_bytes name ≡ name ++ zeros = name_bytes-fits name few in
      p5 ∙ regroup (take at s0) a b c name zeros ∙ ap (λ (x : List ℕ). take at s0 ++ (a ++ b ++ c ++ x)) (sym whole)

-- ---- reading a record

module _ (sector : List ℕ) (at : ℕ) (other : Record) (rest : List ℕ) (fits : IsRecord other) (there : drop at sector ≡ record_bytes other ++ rest) where
  pub length_there : get_or sector (at + 16) 0 ≡ length other.1.name
  length_there = sym (get_or-drop at sector 16 0) ∙ ap (λ (xs : List ℕ). get_or xs 16 0) there

  pub number_there : (n : ℕ) → IsNumberAt 8 sector at n → n ≡ other.1.number
  number_there n reads = reads other.1.number (drop 8 (record_bytes other ++ rest)) fits.number there

  pub stamp_there : (n : ℕ) → IsNumberAt 8 sector (at + 8) n → n ≡ other.0
  stamp_there n reads = reads other.0 (drop 16 (record_bytes other ++ rest)) fits.stamp (sym (drop-drop 8 at sector) ∙ ap (drop 8) there)

  pub name_there : (n : ℕ) → n ≡ length other.1.name → take n (drop (at + 17) sector) ≡ other.1.name
  name_there n len =
      let zeros : List ℕ = replicate (255 - length other.1.name) 0 in
      let behind : drop (at + 17) sector ≡ name_bytes other.1.name ++ rest = sym (drop-drop 17 at sector) ∙ ap (drop 17) there in
      let encoded : drop (at + 17) sector ≡ other.1.name ++ (zeros ++ rest) = behind ∙ ap (λ (x : List ℕ). x ++ rest) (name_bytes-fits other.1.name fits.few) ∙ append_assoc other.1.name zeros rest in
      ap (take n) encoded ∙ take_at other.1.name (zeros ++ rest) n (sym len)

pub same_record : (stamp number : ℕ) (name : List ℕ) (other : Record) → stamp ≡ other.0 → name ≡ other.1.name → number ≡ other.1.number → record_from stamp name number ≡ other
same_record stamp number name other a b c = rw (a, b, c) refl

-- ---- the sector

pub directory_sector-written : (names : List Record) (entries : List Entry) (new : List ℕ) (end count : ℕ) → names ≡ map record_of entries → end ≡ 272 * length entries → length entries ≤ 15 → count ≡ 4096 - end → length new ≡ 4096
    → take (end + count) new ≡ flat_map entry_bytes entries ++ replicate count 0 → new ≡ directory_sector names
unfolding directory_sector
directory_sector-written names entries new end count is place few rest len prefix =
    let n : length (map record_of entries) ≡ length entries = length-map entries record_of in
    let whole : take (end + count) new ≡ new = take_all (end + count) new (omega arith) in
    let zeros : count ≡ 4096 - 272 * length (map record_of entries) = omega arith in
    sym whole ∙ prefix ∙ ap (λ (bytes : List ℕ). bytes ++ replicate count 0) (flat_map-records entries) ∙ ap (λ (k : ℕ). flat_map record_bytes (map record_of entries) ++ replicate k 0) zeros
    ∙ ap (λ (rs : List Record). flat_map record_bytes rs ++ replicate (4096 - 272 * length rs) 0) (sym is)

pub sector_written : (names : List Record) (new : List ℕ) (end count : ℕ) → end ≡ 272 * length names → length names ≤ 15 → count ≡ 4096 - end → length new ≡ 4096
    → take (end + count) new ≡ flat_map record_bytes names ++ replicate count 0 → new ≡ directory_sector names
unfolding directory_sector
sector_written names new end count place few rest len prefix =
    let whole : take (end + count) new ≡ new = take_all (end + count) new (omega arith) in
    let zeros : count ≡ 4096 - 272 * length names = omega arith in
    sym whole ∙ prefix ∙ ap (λ (k : ℕ). flat_map record_bytes names ++ replicate k 0) zeros

pub records_there : (others : List Record) (sector : List ℕ) → sector ≡ directory_sector others → drop 0 sector ≡ flat_map record_bytes others ++ replicate (4096 - 272 * length others) 0
unfolding directory_sector
records_there others sector e = e

pub name_fits : (entries : List Entry) (i : ℕ) (entry : Entry) → AllByRecursion IsRecord (map record_of entries) → i < length entries → entry ≡ get_or entries i entry → length (rc_slice_items entry.name) ≤ 255
name_fits [] i entry all h is = absurd (omega arith)
name_fits (e ∷ entries) zero entry all h is = let few : length (rc_slice_items (get_or (e ∷ entries) 0 entry).name) ≤ 255 = all.0.few in let same : length (rc_slice_items entry.name) ≡ length (rc_slice_items (get_or (e ∷ entries) 0 entry).name) = ap (λ (x : Entry). length (rc_slice_items x.name)) is in omega arith
name_fits (e ∷ entries) (suc i) entry all h is = name_fits entries i entry all.1 (omega arith) is

-- a part of records

-- the records from `first` on, at most 15, however the part is cut to what is there
pub same_part : (names : List Record) (first from to : ℕ) → from ≡ min first (length names) → to ≡ min (length names) (from + 15) → take (to - from) (drop from names) ≡ take 15 (drop first names)
same_part names first from to a b =
    let dropped : drop from names ≡ drop first names = ap (λ (n : ℕ). drop n names) a ∙ drop_min first names in
    let len : length (drop first names) ≡ length names - first = length-drop first names in
    let count : to - from ≡ min 15 (length (drop first names)) = omega arith in
    ap (λ (n : ℕ). take n (drop from names)) count ∙ ap (take (min 15 (length (drop first names)))) dropped ∙ take_min 15 (drop first names)

-- a record's parts, by its name
pub record_parts : (s : List ℕ) (number stamp k : ℕ) (bytes name : List ℕ) → k ≡ length name → bytes ≡ name
    → s ++ (to_be_bytes w64 number ++ to_be_bytes w64 stamp ++ (k ∷ []) ++ name_bytes bytes) ≡ s ++ record_bytes (record_from stamp name number)
record_parts s number stamp k bytes name a b = rw (a, b) refl

-- the fault of a result that has none but this one
pub err_is : {A : Type 0} (x y : RecordsFault) → (let r : Result A RecordsFault = Err x in r ≡ Err y) → x ≡ y
err_is x y e = cc

-- Entries, written and read.
use Rattle.std.proofs.Common.{Vec, Global, Result, Ok, Err, IfOk, subst, ◌≡◌, ◌<◌, ◌≤◌, ◌+◌, ◌-◌, ◌*◌, ◌^◌, ℕ, zero, suc, List, [], ◌∷◌, ◌++◌, length, get_or, take, drop, refl, sym, ap, ap₂, ◌∙◌, arith, append_assoc, inl, inr}
use Rattle.std.specs.List.{AllByRecursion}
use Rattle.std.specs.Int.{w32, to_be_bytes, from_be_bytes}
use Rattle.std.proofs.Math.Seq.{take-add}
use Rattle.std.proofs.lemmas.List.{append-nil, drop_all, take_all, length-append, length_push, length-take-le, length-drop, take-append-drop, drop_at, drop-drop, get_or-drop, take_more}
use Rattle.std.proofs.lemmas.List.Concat.{flat_map-append}
use Rattle.std.proofs.lemmas.Nat.{be_bytes_4, from_be_bytes-to_be_bytes_4}
use Rattle.sector.specs.Placed.{Places}
use Rattle.sector.specs.Records.{AreWide, records-back}
use Rattle.sector.specs.Written.{each_push}
use Rattle.extent_tree.specs.declared.entry.Entry.{Entry}
use Rattle.extent_tree.specs.Entries.{EachWithin, IsEntry, AreEntries}
use Rattle.extent_tree.specs.Encoding.{entry_bytes, entries_bytes, entry_in, entries_in, IsEncodable, EntriesReadBack}

-- ---- bytes that are written one after the other

pub Places-none : (sector : List ℕ) (at : ℕ) → length sector ≡ 4096 → Places sector sector at []
Places-none sector at len =
    let same : at + 0 ≡ at = omega arith in
    record {
      whole = sym (ap₂ (λ (x y : List ℕ). x ++ y) (append-nil (take at sector)) (ap (λ (i : ℕ). drop i sector) same) ∙ take-append-drop at sector);
      prefix = ap (λ (i : ℕ). take i sector) same ∙ sym (append-nil (take at sector));
      len = len;
    }

pub Places-append : (old mid new : List ℕ) (at next : ℕ) (xs ys : List ℕ) → Places old mid at xs → Places mid new next ys → next ≡ at + length xs → at ≤ length old → Places old new at (xs ++ ys)
Places-append old mid new at next xs ys first second place within =
    let end : at + length (xs ++ ys) ≡ next + length ys = omega (arith, length-append xs ys) in
    let end' : at + length xs + length ys ≡ at + length (xs ++ ys) = omega (arith, length-append xs ys) in
    let begun : take next mid ≡ take at old ++ xs = ap (λ (i : ℕ). take i mid) place ∙ first.prefix in
    let long : length (take at old ++ xs) ≡ next = omega (arith, length-append (take at old) xs, length-take-le at old within) in
    let rest : drop (next + length ys) mid ≡ drop (at + length (xs ++ ys)) old =
    sym (drop-drop (length ys) next mid)
    ∙ ap (drop (length ys)) (ap (drop next) first.whole ∙ drop_at (take at old ++ xs) (drop (at + length xs) old) next long)
    ∙ drop-drop (length ys) (at + length xs) old ∙ ap (λ (i : ℕ). drop i old) end' in
    record {
      whole =
          second.whole ∙ ap₂ (λ (x y : List ℕ). x ++ ys ++ y) begun rest
          ∙ ap (λ (x : List ℕ). x ++ drop (at + length (xs ++ ys)) old) (append_assoc (take at old) xs ys);
      prefix =
          ap (λ (i : ℕ). take i new) end ∙ second.prefix ∙ ap (λ (x : List ℕ). x ++ ys) begun
          ∙ append_assoc (take at old) xs ys;
      len = second.len;
    }

pub wide : AreWide entry_bytes 8
wide entry = refl

length-entries : (entries : List Entry) → length (entries_bytes entries) ≡ 8 * length entries
length-entries [] = omega arith
length-entries (x ∷ xs) = omega (arith, length-append (entry_bytes x) (entries_bytes xs), wide x, length-entries xs)

bytes-push : (entries : List Entry) (entry : Entry) → entries_bytes (entries ++ entry ∷ []) ≡ entries_bytes entries ++ entry_bytes entry
bytes-push entries entry =
    flat_map-append entry_bytes entries (entry ∷ [])
    ∙ ap (λ (bytes : List ℕ). entries_bytes entries ++ bytes) (append-nil (entry_bytes entry))

-- one more entry is written
pub Places-more : (old mid new : List ℕ) (at next i : ℕ) (entries : List Entry) (entry : Entry) → Places old mid at (entries_bytes (take i entries)) → i < length entries → entry ≡ get_or entries i entry
    → next ≡ at + 8 * i → Places mid new next (entry_bytes entry) → at ≤ length old → Places old new at (entries_bytes (take (i + 1) entries))
Places-more old mid new at next i entries entry far h is place put within =
    let more : take (i + 1) entries ≡ take i entries ++ entry ∷ [] = take_more entries i entry h ∙ ap (λ (y : Entry). take i entries ++ y ∷ []) (sym is) in
    let bytes : entries_bytes (take (i + 1) entries) ≡ entries_bytes (take i entries) ++ entry_bytes entry = ap entries_bytes more ∙ bytes-push (take i entries) entry in
    let so_far : length (take i entries) ≡ i = length-take-le i entries (omega arith) in
    let end : next ≡ at + length (entries_bytes (take i entries)) = omega (arith, length-entries (take i entries)) in
    rw bytes (Places-append old mid new at next (entries_bytes (take i entries)) (entry_bytes entry) far put end within)

-- ---- reading

bytes_4 : (a b c d : ℕ) → a < 256 → b < 256 → c < 256 → d < 256 → (i : ℕ) → get_or (a ∷ b ∷ c ∷ d ∷ []) i 0 < 256
bytes_4 a b c d ha hb hc hd zero = ha
bytes_4 a b c d ha hb hc hd (suc zero) = hb
bytes_4 a b c d ha hb hc hd (suc (suc zero)) = hc
bytes_4 a b c d ha hb hc hd (suc (suc (suc zero))) = hd
bytes_4 a b c d ha hb hc hd (suc (suc (suc (suc i)))) = omega arith

number_copied : (bytes : List ℕ) → 4 ≤ length bytes → ((i : ℕ) → get_or bytes i 0 < 256) → to_be_bytes w32 (from_be_bytes w32 bytes) ≡ take 4 bytes
number_copied [] len each = absurd (omega arith)
number_copied (a ∷ []) len each = absurd (omega arith)
number_copied (a ∷ b ∷ []) len each = absurd (omega arith)
number_copied (a ∷ b ∷ c ∷ []) len each = absurd (omega arith)
number_copied (a ∷ b ∷ c ∷ d ∷ rest) len each =
    be_bytes_4 (a ∷ b ∷ c ∷ d ∷ []) (from_be_bytes w32 (a ∷ b ∷ c ∷ d ∷ rest)) refl (bytes_4 a b c d (each 0) (each 1) (each 2) (each 3)) refl

-- eight bytes are those of the entry in them
pub entry_copied : (bytes : List ℕ) → 8 ≤ length bytes → ((i : ℕ) → get_or bytes i 0 < 256) → entry_bytes (entry_in bytes) ≡ take 8 bytes
entry_copied bytes len each =
    let low : to_be_bytes w32 (from_be_bytes w32 bytes) ≡ take 4 bytes = number_copied bytes (omega arith) each in
    let each' = λ (i : ℕ). let e : get_or (drop 4 bytes) i 0 ≡ get_or bytes (4 + i) 0 = get_or-drop 4 bytes i 0 in let h : get_or bytes (4 + i) 0 < 256 = each (4 + i) in let r : get_or (drop 4 bytes) i 0 < 256 = omega arith in r in
    let high : to_be_bytes w32 (from_be_bytes w32 (drop 4 bytes)) ≡ take 4 (drop 4 bytes) = number_copied (drop 4 bytes) (omega (arith, length-drop 4 bytes)) each' in
    ap₂ (λ (x y : List ℕ). x ++ y) low high ∙ sym (take-add 4 4 bytes)

-- an entry that is read number by number
pub entry_read : (sector : List ℕ) (at low high : ℕ) → low ≡ from_be_bytes w32 (drop at sector) → high ≡ from_be_bytes w32 (drop (at + 4) sector) → at + 8 ≤ length sector → ((i : ℕ) → get_or sector i 0 < 256)
    → to_be_bytes w32 low ++ to_be_bytes w32 high ≡ take 8 (drop at sector)
entry_read sector at low high first second within each =
    let each' = λ (k : ℕ). let e : get_or (drop at sector) k 0 ≡ get_or sector (at + k) 0 = get_or-drop at sector k 0 in let h : get_or sector (at + k) 0 < 256 = each (at + k) in let r : get_or (drop at sector) k 0 < 256 = omega arith in r in
    let second' : high ≡ from_be_bytes w32 (drop 4 (drop at sector)) = second ∙ ap (from_be_bytes w32) (sym (drop-drop 4 at sector)) in
    ap₂ (λ (x y : List ℕ). x ++ y) (ap (to_be_bytes w32) first) (ap (to_be_bytes w32) second')
    ∙ entry_copied (drop at sector) (omega (arith, length-drop at sector)) each'

-- the first i entries from place `at` on
pub record AreCopied (sector : List ℕ) (at i : ℕ) (entries : List Entry) : Type 0 where
  pub len : length entries ≡ i
  pub bytes : entries_bytes entries ≡ take (8 * i) (drop at sector)
  pub encodable : AllByRecursion IsEncodable entries

pub AreCopied-none : (sector : List ℕ) (at : ℕ) → AreCopied sector at 0 []
AreCopied-none sector at = record { len = refl; bytes = refl; encodable = tt }

pub AreCopied-more : (sector : List ℕ) (at next i : ℕ) (entries : List Entry) (entry : Entry) → AreCopied sector at i entries → entry_bytes entry ≡ take 8 (drop next sector) → IsEncodable entry → next ≡ at + 8 * i
    → AreCopied sector at (i + 1) (entries ++ entry ∷ [])
AreCopied-more sector at next i entries entry far last fits place =
    let many : 8 * (i + 1) ≡ 8 * i + 8 = omega arith in
    let there : drop next sector ≡ drop (8 * i) (drop at sector) = ap (λ (k : ℕ). drop k sector) place ∙ sym (drop-drop (8 * i) at sector) in
    record {
      len = length_push entries entry ∙ omega (arith, far.len);
      bytes =
          bytes-push entries entry ∙ ap₂ (λ (x y : List ℕ). x ++ y) far.bytes (last ∙ ap (take 8) there)
          ∙ sym (take-add (8 * i) 8 (drop at sector)) ∙ ap (λ (k : ℕ). take k (drop at sector)) (sym many);
      encodable = each_push IsEncodable entries entry far.encodable fits;
    }

same_entry : (sector length : ℕ) (entry : Entry) → sector ≡ entry.sector → length ≡ entry.length → (let made : Entry = record { sector = sector; length = length } in made ≡ entry)
same_entry sector length entry a b = rw (a, b) refl

entry-back : (entry : Entry) (rest : List ℕ) → IsEncodable entry → entry_in (entry_bytes entry ++ rest) ≡ entry
entry-back entry rest is = same_entry _ _ entry (from_be_bytes-to_be_bytes_4 entry.sector is.sector) (from_be_bytes-to_be_bytes_4 entry.length is.length)

pub entries-back : EntriesReadBack
unfolding entries_in
entries-back entries rest all = records-back entry_bytes 8 wide entry_in IsEncodable entry-back entries rest all

-- entries of the same bytes are the same
pub one_list : (xs ys : List Entry) → length xs ≡ length ys → AllByRecursion IsEncodable xs → AllByRecursion IsEncodable ys → entries_bytes xs ≡ entries_bytes ys → xs ≡ ys
one_list xs ys len all_xs all_ys e =
    sym (entries-back xs [] all_xs) ∙ ap₂ entries_in len (ap (λ (bytes : List ℕ). bytes ++ []) e)
    ∙ entries-back ys [] all_ys

encodable_of : (e count : ℕ) (entry : Entry) → IsEntry e count entry → IsEncodable entry
encodable_of e count entry (inl is) = record { sector = omega (arith, is.sector); length = omega (arith, is.length) }
encodable_of e count entry (inr (inl is)) = record { sector = is.fits; length = omega (arith, is.length) }
encodable_of e count entry (inr (inr is)) = record { sector = omega (arith, is.fits, is.some); length = omega (arith, is.fits, is.sector) }

-- entries can be encoded
pub each_encodable : (e span count : ℕ) (entries : List Entry) → EachWithin (IsEntry e) span count entries → AllByRecursion IsEncodable entries
each_encodable e span count [] h = tt
each_encodable e span count (x ∷ xs) h = (encodable_of e _ x h.0, each_encodable e span (count - span) xs h.1)

-- bytes that no other entries have, if these are none
pub none_there : (e count : ℕ) (bytes : List ℕ) (xs ys : List Entry) → length xs ≡ length ys → AllByRecursion IsEncodable xs → entries_bytes xs ≡ bytes → (AreEntries e count xs → ⊥) → AreEntries e count ys
    → entries_bytes ys ≡ bytes → ⊥
none_there e count bytes xs ys len all here refused are there =
    refused (subst (AreEntries e count) (sym (one_list xs ys len all (each_encodable e (512 ^ e) count ys are) (here ∙ sym there))) are)

-- ---- index sectors

-- 512 entries are a whole sector
pub index_written : (old new : List ℕ) (entries : List Entry) → Places old new 0 (entries_bytes entries) → length old ≡ 4096 → length entries ≡ 512 → new ≡ entries_bytes entries
index_written old new entries put len many =
    let past : length old ≤ 0 + length (entries_bytes entries) = omega (arith, length-entries entries) in
    put.whole ∙ ap (λ (x : List ℕ). entries_bytes entries ++ x) (drop_all (0 + length (entries_bytes entries)) old past)
    ∙ append-nil (entries_bytes entries)

pub index_read : {E : Type 0} → (r : Result (Vec Entry Global) E) (sector : List ℕ) → length sector ≡ 4096 → IfOk r (λ entries. entries_bytes entries.items ≡ take 4096 (drop 0 sector)) → IfOk r (λ entries. sector ≡ entries_bytes entries.items)
index_read (Ok entries) sector len h = sym (h ∙ take_all 4096 sector (omega arith))
index_read (Err e) sector len h = tt

pub index_there : (bytes sector : List ℕ) → length sector ≡ 4096 → sector ≡ bytes → bytes ≡ take 4096 (drop 0 sector)
index_there bytes sector len e = sym e ∙ sym (take_all 4096 sector (omega arith))

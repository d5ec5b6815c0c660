-- Stamps that are distinct as numbers.
use Rattle.std.proofs.Common.{◌≡◌, ◌≤◌, ◌<◌, ℕ, zero, suc, List, [], ◌∷◌, length, map, get_or, refl, sym, ap, subst, ◌∙◌, arith}
use Rattle.std.proofs.lemmas.List.{length-map}
use Rattle.std.specs.List.{AllByRecursion}
use Rattle.directory.specs.declared.entry.Entry.{Entry}
use Rattle.directory.specs.Records.{Record, record_of, record_from, stamp_of, ApartBy, NamesStamped}
use Rattle.layout.specs.Marks.{times}
use Rattle.volume_load.proofs.NumberLaws.{times-twice, once}

stamps_seen : (entries : List Entry) → map stamp_of (map record_of entries) ≡ map (λ (entry : Entry). entry.stamp) entries
stamps_seen [] = refl
stamps_seen (entry ∷ entries) = ap (λ rest. entry.stamp ∷ rest) (stamps_seen entries)

stamp_at : (names : List Record) (i : ℕ) (d : Record) → i < length names → get_or (map stamp_of names) i 0 ≡ stamp_of (get_or names i d)
stamp_at [] i d h = absurd (omega arith)
stamp_at (x ∷ names) zero d h = refl
stamp_at (x ∷ names) (suc i) d h = stamp_at names i d (omega arith)

long : (names : List Record) → length (map stamp_of names) ≡ length names
long names = length-map names stamp_of

once_apart : (names : List Record) → ((n : ℕ) → times n (map stamp_of names) ≤ 1) → ApartBy stamp_of names
once_apart names once i j d before h same =
    let n = stamp_of (get_or names j d) in
    omega (arith, once n, times-twice n (map stamp_of names) i j before (omega (arith, long names)) (stamp_at names i d (omega arith) ∙ same) (stamp_at names j d h))

apart_once : (names : List Record) → ApartBy stamp_of names → (n : ℕ) → times n (map stamp_of names) ≤ 1
apart_once names apart n = once (map stamp_of names) (λ i j before h same. apart i j (record_from 0 [] 0) before (omega (arith, long names)) (sym (stamp_at names i (record_from 0 [] 0) (omega (arith, long names))) ∙ same ∙ stamp_at names j (record_from 0 [] 0) (omega (arith, long names)))) n

pub stamped_so : (entries : List Entry) → AllByRecursion (λ (entry : Record). 0 < entry.0) (map record_of entries) → ((n : ℕ) → times n (map (λ (entry : Entry). entry.stamp) entries) ≤ 1) → NamesStamped (map record_of entries)
stamped_so entries above once = record { above = above; apart = once_apart (map record_of entries) (λ n. subst (λ (l : List ℕ). times n l ≤ 1) (sym (stamps_seen entries)) (once n)) }

pub apart_so : (entries : List Entry) → NamesStamped (map record_of entries) → (n : ℕ) → times n (map (λ (entry : Entry). entry.stamp) entries) ≤ 1
apart_so entries stamped n = subst (λ (l : List ℕ). times n l ≤ 1) (stamps_seen entries) (apart_once (map record_of entries) stamped.apart n)

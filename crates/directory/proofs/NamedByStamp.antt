-- Names looked up in the map by stamp.
use Rattle.std.proofs.Common.{ℕ, Bool, true, false, List, [], ◌∷◌, ◌≡◌, ◌≢◌, ◌<◌, ◌∙◌, Option, Some, None, inl, inr, bytes_eq, eqb, length, get_or, refl, sym, ap, arith}
use Rattle.std.proofs.lemmas.Bool.{cases_order, eqb-true, true≢false}
use Rattle.std.proofs.lemmas.Option.{same_Some}
use Rattle.model_tree.specs.Trees.Keyed.{Keyed, at, IsAbove}
use Rattle.model_tree.specs.Trees.Tree.{DirEntry, entry_of, found_or}
use Rattle.model_tree.proofs.Trees.KeyedLaws.{at-first, at-rest, at-above, some≢none}
use Rattle.directory.specs.Records.{Record, name_of, stamp_of, ApartBy}
use Rattle.directory.specs.Listing.{by_stamp}
use Rattle.directory.proofs.ByStamp.{IsRising, rising_above, rising_by_stamp, at-by_stamp}
use Rattle.directory.proofs.MapLaws.{Stands, some_stands, its_own, none_has}
use Rattle.directory.proofs.Places.{bytes_eq-true, bytes_eq-same}
use Rattle.directory.proofs.RecordMaps.{first_named, first_stamped, eqb-same, entry_of-first, entry_in, at-first_stamped}

-- A map whose keys rise

above_at : (entry : Record) (rest : Keyed DirEntry) (key : ℕ) (value : DirEntry) → IsAbove entry.0 rest → at key rest ≡ Some value → at key (entry ∷ rest) ≡ Some value
above_at entry rest key value above is =
    let high : entry.0 < key = at-above rest entry.0 key value above is in
    at-rest entry.0 key entry.1 rest (omega arith) ∙ is

named_none : (name : List ℕ) (entries : Keyed DirEntry) → IsRising entries
    → ((key : ℕ) (value : DirEntry) → at key entries ≡ Some value → value.name ≢ name) → entry_of name entries ≡ None
named_none name [] rising none = refl
named_none name (entry ∷ rest) rising none = step (bytes_eq name entry.1.name) refl
    (named_none name rest (rising_above rest entry.0 rising) (λ key value is. none key value (above_at entry rest key value rising is)))
  where
    step : (b : Bool) → bytes_eq name entry.1.name ≡ b → entry_of name rest ≡ None → found_or b entry (entry_of name rest) ≡ None
    step true told others = absurd (none entry.0 entry.1 (at-first entry.0 entry.0 entry.1 rest refl) (sym (bytes_eq-true name entry.1.name told)))
    step false told others = others

named_some : (name : List ℕ) (entries : Keyed DirEntry) (stamp : ℕ) (found : DirEntry) → IsRising entries → at stamp entries ≡ Some found → found.name ≡ name
    → ((key : ℕ) (value : DirEntry) → at key entries ≡ Some value → value.name ≡ name → key ≡ stamp) → entry_of name entries ≡ Some (stamp, found)
named_some name [] stamp found rising is named once = absurd (some≢none found (sym is))
named_some name (entry ∷ rest) stamp found rising is named once = step (bytes_eq name entry.1.name) refl
    (λ there. named_some name rest stamp found (rising_above rest entry.0 rising) there named
    (λ key value is' named'. once key value (above_at entry rest key value rising is') named'))
  where
    step : (b : Bool) → bytes_eq name entry.1.name ≡ b → (at stamp rest ≡ Some found → entry_of name rest ≡ Some (stamp, found))
        → found_or b entry (entry_of name rest) ≡ Some (stamp, found)
    step true told others =
        let one : entry.0 ≡ stamp = once entry.0 entry.1 (at-first entry.0 entry.0 entry.1 rest refl) (sym (bytes_eq-true name entry.1.name told)) in
        let its : entry.1 ≡ found = same_Some entry.1 found (sym (at-first entry.0 stamp entry.1 rest (sym one)) ∙ is) in
        ap (λ (e : Record). Some e) (ap (λ k. (k, entry.1)) one ∙ ap (λ v. (stamp, v)) its)
    step false told others =
        let apart : stamp ≢ entry.0 = λ same.
        let its : entry.1 ≡ found = same_Some entry.1 found (sym (at-first entry.0 stamp entry.1 rest same) ∙ is) in
        true≢false (sym (ap (bytes_eq name) (ap (λ (e : DirEntry). e.name) its ∙ named) ∙ bytes_eq-same name) ∙ told) in
        others (sym (at-rest entry.0 stamp entry.1 rest apart) ∙ is)

-- The records

record Holds (xs : List Record) (key : ℕ) (value : DirEntry) (d : Record) : Type 0 where
  pub place : ℕ
  pub within : place < length xs
  pub is : get_or xs place d ≡ (key, value)

held : (xs : List Record) (key : ℕ) (value : DirEntry) (d : Record) → at key xs ≡ Some value → Holds xs key value d
held xs key value d is = step (first_stamped key xs) refl (sym (at-first_stamped key xs) ∙ is)
  where
    step : (found : Option Record) → first_stamped key xs ≡ found → entry_in found ≡ Some value → Holds xs key value d
    step None none told = absurd (some≢none value (sym told))
    step (Some found) some told =
        let at = some_stands stamp_of eqb eqb-true eqb-same key xs found d some in
        let one : found.1 ≡ value = same_Some found.1 value told in
        record { place = at.place; within = at.within; is = at.here ∙ (ap (λ k. (k, found.1)) at.has ∙ ap (λ v. (key, v)) one) }

-- if names are apart and stamps are apart, a name is found in the map as it is among the records
pub entry_of-by_stamp : (name : List ℕ) (xs : List Record) → ApartBy name_of xs → ApartBy stamp_of xs → entry_of name (by_stamp xs) ≡ entry_of name xs
entry_of-by_stamp name xs names stamps = step (first_named name xs) refl ∙ sym (entry_of-first name xs)
  where
    nameless : Record
    nameless = (0, record { name = []; number = 0 })

    once : (found : Record) → Stands name_of bytes_eq bytes_eq-true bytes_eq-same name xs found found → (key : ℕ) (value : DirEntry) → at key (by_stamp xs) ≡ Some value
        → value.name ≡ name → key ≡ found.0
    once found at key value is named =
        let held_at = held xs key value found (sym (at-by_stamp key xs) ∙ is) in
        let same_name : name_of (get_or xs held_at.place found) ≡ name_of (get_or xs at.place found) =
        ap name_of held_at.is ∙ (named ∙ (sym at.has ∙ sym (ap name_of at.here))) in
        elim (cases_order held_at.place at.place) [
          | inl one ↦ sym (ap stamp_of held_at.is) ∙ (ap (λ i. stamp_of (get_or xs i found)) one ∙ ap stamp_of at.here)
          | inr off ↦ elim off [
            | inl before ↦ absurd (names held_at.place at.place found before at.within same_name)
            | inr behind ↦ absurd (names at.place held_at.place found behind held_at.within (sym same_name))
          ]
        ]

    stands_at : (found : Record) → Stands name_of bytes_eq bytes_eq-true bytes_eq-same name xs found found → at found.0 (by_stamp xs) ≡ Some found.1
    stands_at found at =
        at-by_stamp found.0 xs
        ∙ (at-first_stamped found.0 xs
        ∙ ap entry_in (ap (λ k. first_stamped k xs) (sym (ap stamp_of at.here)) ∙ (its_own stamp_of eqb eqb-true eqb-same xs at.place found stamps at.within ∙ ap (λ (r : Record). Some r) at.here)))

    step : (found : Option Record) → first_named name xs ≡ found → entry_of name (by_stamp xs) ≡ first_named name xs
    step None none = named_none name (by_stamp xs) (rising_by_stamp xs) (λ key value is named.
        let held_at = held xs key value nameless (sym (at-by_stamp key xs) ∙ is) in
        none_has name_of bytes_eq bytes_eq-true bytes_eq-same name xs held_at.place nameless none held_at.within (ap name_of held_at.is ∙ named)) ∙ sym none
    step (Some found) some =
        let at = some_stands name_of bytes_eq bytes_eq-true bytes_eq-same name xs found found some in
        named_some name (by_stamp xs) found.0 found.1 (rising_by_stamp xs) (stands_at found at) at.has (once found at) ∙ sym some

-- What a change of records does to the map from names, and to the map by stamp.
use Rattle.std.proofs.Common.{ℕ, Bool, true, false, List, [], ◌∷◌, ◌++◌, ◌≡◌, ◌≢◌, ◌<◌, ◌≤◌, ◌-◌, ◌∙◌, Option, Some, None, ◌⊎◌, inl, inr, bytes_eq, eqb, length, get_or, set, refl, sym, ap, subst, arith}
use Rattle.std.specs.Prelude.{option_map}
use Rattle.std.specs.List.{AllByRecursion}
use Rattle.std.proofs.lemmas.Bool.{cases_eq, cases_lt, eqb-true, eq-eqb}
use Rattle.std.proofs.lemmas.List.{get_or_default}
use Rattle.std.proofs.lemmas.Option.{slice_get-get_or, slice_get_past}
use Rattle.model_tree.specs.Trees.Keyed.{Keyed, at, here_or, with, without, IsAbove}
use Rattle.model_tree.specs.Trees.Tree.{DirEntry, entry_of, found_or}
use Rattle.model_tree.proofs.Trees.KeyedLaws.{only_map, at-with_same, at-with_other, at-without_same, at-without_other, IsAbove-with, IsAbove-without, some≢none}
use Rattle.directory.specs.Records.{Record, record_from, place_of, with_record, without_place, name_of, stamp_of, ApartBy, NamesStamped}
use Rattle.directory.specs.Listing.{by_stamp, without_entry, PutsByStamp, RemovesByStamp}
use Rattle.directory.proofs.ByStamp.{at-by_stamp}
use Rattle.directory.proofs.Kept.{each_take, each_set, moved_apart, set_apart, push_apart}
use Rattle.directory.proofs.MapLaws.{first, none_has, taken_gone, others_stay, set_other, set_fresh, set_same, set_gone, push_other, push_fresh}
use Rattle.directory.proofs.Places.{bytes_eq-true, bytes_eq-same, named_there, entry_of-place, with_record-set, with_record-push}
use Rattle.sector.specs.Written.{each_at, each_push}

-- The two keys

abbrev pub first_named : List ℕ → List Record → Option Record
first_named = first name_of bytes_eq bytes_eq-true bytes_eq-same

pub eqb-same : (n : ℕ) → eqb n n ≡ true
eqb-same n = eq-eqb n n refl

abbrev pub first_stamped : ℕ → List Record → Option Record
first_stamped = first stamp_of eqb eqb-true eqb-same

pub entry_of-first : (name : List ℕ) (xs : List Record) → entry_of name xs ≡ first_named name xs
entry_of-first name [] = refl
entry_of-first name (x ∷ xs) = ap (found_or (bytes_eq name x.1.name) x) (entry_of-first name xs)

abbrev pub entry_in : Option Record → Option DirEntry
entry_in found = option_map (λ entry. entry.1) found

pub at-first_stamped : (stamp : ℕ) (xs : List Record) → at stamp xs ≡ entry_in (first_stamped stamp xs)
at-first_stamped stamp [] = refl
at-first_stamped stamp (x ∷ xs) = ap (here_or (eqb stamp x.0) x.1) (at-first_stamped stamp xs) ∙ step (eqb stamp x.0) (first_stamped stamp xs)
  where
    step : (b : Bool) (found : Option Record) → here_or b x.1 (entry_in found) ≡ entry_in (found_or b x found)
    step true found = refl
    step false found = refl

-- Stamps above 0

above_by_stamp : (xs : List Record) → AllByRecursion (λ entry. 0 < entry.0) xs → IsAbove 0 (by_stamp xs)
above_by_stamp [] all = tt
above_by_stamp (x ∷ xs) all = IsAbove-with (by_stamp xs) x.0 0 x.1 (above_by_stamp xs all.1) all.0

pub found_at_place : (name : List ℕ) (xs : List Record) (d : Record) → place_of name xs < length xs → entry_of name xs ≡ Some (get_or xs (place_of name xs) d)
found_at_place name xs d within = entry_of-place name xs ∙ slice_get-get_or xs (place_of name xs) d within

none_in : (found : Option Record) → entry_in found ≡ None → found ≡ None
none_in None none = refl
none_in (Some entry) none = absurd (some≢none entry.1 none)

-- a name whose place is after the last record has no entry
pub absent_name : (name : List ℕ) (xs : List Record) → length xs ≤ place_of name xs → entry_of name xs ≡ None
absent_name name xs past = entry_of-place name xs ∙ slice_get_past xs (place_of name xs) past

-- A name is removed

module _ (name : List ℕ) (xs : List Record) (within : place_of name xs < length xs) where
  abbrev place : ℕ
  place = place_of name xs

  abbrev last : Record
  last = get_or xs (length xs - 1) (record_from 0 [] 0)

  last_is : last ≡ get_or xs (length xs - 1) last
  last_is = get_or_default xs (length xs - 1) (record_from 0 [] 0) last (omega arith)

  here : (d : Record) → name_of (get_or xs place d) ≡ name
  here d = named_there name xs d within

  pub removed_gone : ApartBy name_of xs → entry_of name (without_place xs place) ≡ None
  removed_gone apart =
      entry_of-first name (without_place xs place)
      ∙ (ap (λ n. first_named n (without_place xs place)) (sym (here last))
      ∙ taken_gone name_of bytes_eq bytes_eq-true bytes_eq-same xs place within last last_is apart last)

  pub removed_others : ApartBy name_of xs → (other : List ℕ) → other ≢ name → entry_of other (without_place xs place) ≡ entry_of other xs
  removed_others apart other differs =
      entry_of-first other (without_place xs place)
      ∙ (others_stay name_of bytes_eq bytes_eq-true bytes_eq-same xs place within last last_is apart other last (λ same. differs (same ∙ here last))
      ∙ sym (entry_of-first other xs))

  removed_above : AllByRecursion (λ (entry : Record). 0 < entry.0) xs → AllByRecursion (λ (entry : Record). 0 < entry.0) (without_place xs place)
  removed_above all =
      each_take (λ (entry : Record). 0 < entry.0) (length xs - 1) (set xs place last)
      (each_set (λ (entry : Record). 0 < entry.0) xs place last all
      (let P : Record → Type 0 = λ entry. 0 < entry.0 in
      subst P (sym last_is) (each_at P xs (length xs - 1) last all (omega arith))))

  removed_stamped : NamesStamped xs → NamesStamped (without_place xs place)
  removed_stamped stamped = record {
    above = removed_above stamped.above;
    apart = moved_apart xs place within last last_is stamp_of stamped.apart;
  }

  removed_by_stamp : NamesStamped xs → by_stamp (without_place xs place) ≡ without_entry (by_stamp xs) (entry_of name xs)
  removed_by_stamp stamped =
      let ys = without_place xs place in
      let stamp = stamp_of (get_or xs place last) in
      only_map 0 (by_stamp ys) (without (by_stamp xs) stamp) (above_by_stamp ys (removed_above stamped.above))
      (IsAbove-without (by_stamp xs) stamp 0 (above_by_stamp xs stamped.above))
      (λ key. at-by_stamp key ys ∙ (at-first_stamped key ys ∙ step key (cases_eq key stamp)))
      ∙ ap (without_entry (by_stamp xs)) (sym (found_at_place name xs last within))
    where
      step : (key : ℕ) → ((key ≡ stamp_of (get_or xs place last)) ⊎ (key ≢ stamp_of (get_or xs place last)))
          → entry_in (first_stamped key (without_place xs place)) ≡ at key (without (by_stamp xs) (stamp_of (get_or xs place last)))
      step key (inl same) =
          ap (λ k. entry_in (first_stamped k (without_place xs place))) same
          ∙ (ap entry_in (taken_gone stamp_of eqb eqb-true eqb-same xs place within last last_is stamped.apart last)
          ∙ (sym (at-without_same (by_stamp xs) (stamp_of (get_or xs place last)))
          ∙ ap (λ k. at k (without (by_stamp xs) (stamp_of (get_or xs place last)))) (sym same)))
      step key (inr differs) =
          ap entry_in (others_stay stamp_of eqb eqb-true eqb-same xs place within last last_is stamped.apart key last differs)
          ∙ (sym (at-first_stamped key xs) ∙ (sym (at-by_stamp key xs)
          ∙ sym (at-without_other (by_stamp xs) (stamp_of (get_or xs place last)) key differs)))

  pub removes_by_stamp : NamesStamped xs → RemovesByStamp xs (without_place xs place) name
  removes_by_stamp stamped = record { stamped = removed_stamped stamped; entries = removed_by_stamp stamped }

-- A name is put

module _ (xs : List Record) (new : Record) (apart : ApartBy name_of xs) where
  abbrev target : ℕ
  target = place_of (name_of new) xs

  -- in the place of its record, or after the last
  data Put : Type 0 where
    Replaced : target < length xs → with_record xs new ≡ set xs target new → Put
    Added : length xs ≤ target → with_record xs new ≡ xs ++ new ∷ [] → Put

  is_put : Put
  is_put = elim (cases_lt target (length xs)) [
    | inl within ↦ Replaced within (with_record-set xs new within)
    | inr past ↦ Added past (with_record-push xs new past)
  ]

  not_named : length xs ≤ target → first_named (name_of new) xs ≡ None
  not_named past = sym (entry_of-first (name_of new) xs) ∙ (entry_of-place (name_of new) xs ∙ slice_get_past xs target past)

  pub put_found : entry_of (name_of new) (with_record xs new) ≡ Some new
  put_found = entry_of-first (name_of new) (with_record xs new) ∙ go is_put
    where
      go : Put → first_named (name_of new) (with_record xs new) ≡ Some new
      go (Replaced within is) =
          ap (first_named (name_of new)) is ∙ set_same name_of bytes_eq bytes_eq-true bytes_eq-same xs target new new apart within (named_there (name_of new) xs new within)
      go (Added past is) = ap (first_named (name_of new)) is ∙ push_fresh name_of bytes_eq bytes_eq-true bytes_eq-same xs new (not_named past)

  pub put_others : (other : List ℕ) → other ≢ name_of new → entry_of other (with_record xs new) ≡ entry_of other xs
  put_others other differs = entry_of-first other (with_record xs new) ∙ (go is_put ∙ sym (entry_of-first other xs))
    where
      go : Put → first_named other (with_record xs new) ≡ first_named other xs
      go (Replaced within is) =
          ap (first_named other) is
          ∙ set_other name_of bytes_eq bytes_eq-true bytes_eq-same other xs target new new within differs (λ same. differs (same ∙ named_there (name_of new) xs new within))
      go (Added past is) = ap (first_named other) is ∙ push_other name_of bytes_eq bytes_eq-true bytes_eq-same other xs new differs

  -- with a stamp that none has
  module _ (stamped : NamesStamped xs) (high : 0 < stamp_of new) (fresh : at (stamp_of new) xs ≡ None) where
    no_stamp : first_stamped (stamp_of new) xs ≡ None
    no_stamp = none_in (first_stamped (stamp_of new) xs) (sym (at-first_stamped (stamp_of new) xs) ∙ fresh)

    there_differs : target < length xs → stamp_of new ≢ stamp_of (get_or xs target new)
    there_differs within same = none_has stamp_of eqb eqb-true eqb-same (stamp_of new) xs target new no_stamp within (sym same)

    module _ (within : target < length xs) where
      abbrev old : ℕ
      old = stamp_of (get_or xs target new)

      abbrev rest : Keyed DirEntry
      rest = without (by_stamp xs) old

      replaced_other : (key : ℕ) → key ≢ stamp_of new → entry_in (first_stamped key (set xs target new)) ≡ at key rest
      replaced_other key differs = elim (cases_eq key old) [
        | inl same ↦
            ap (λ k. entry_in (first_stamped k (set xs target new))) same
            ∙ (ap entry_in (set_gone stamp_of eqb eqb-true eqb-same xs target new new stamped.apart within (there_differs within))
            ∙ (sym (at-without_same (by_stamp xs) old) ∙ ap (λ k. at k rest) (sym same)))
        | inr away ↦
            ap entry_in (set_other stamp_of eqb eqb-true eqb-same key xs target new new within differs away)
            ∙ (sym (at-first_stamped key xs) ∙ (sym (at-by_stamp key xs) ∙ sym (at-without_other (by_stamp xs) old key away)))
      ]

      replaced_at : (key : ℕ) → entry_in (first_stamped key (set xs target new)) ≡ at key (with rest (stamp_of new) new.1)
      replaced_at key = elim (cases_eq key (stamp_of new)) [
        | inl same ↦
            ap (λ k. entry_in (first_stamped k (set xs target new))) same
            ∙ (ap entry_in (set_fresh stamp_of eqb eqb-true eqb-same xs target new within no_stamp)
            ∙ (sym (at-with_same rest (stamp_of new) new.1) ∙ ap (λ k. at k (with rest (stamp_of new) new.1)) (sym same)))
        | inr differs ↦ replaced_other key differs ∙ sym (at-with_other rest (stamp_of new) key new.1 differs)
      ]

      replaced : by_stamp (set xs target new) ≡ with rest (stamp_of new) new.1
      replaced =
          let P : Record → Type 0 = λ entry. 0 < entry.0 in
          only_map 0 (by_stamp (set xs target new)) (with rest (stamp_of new) new.1)
          (above_by_stamp (set xs target new) (each_set P xs target new stamped.above high))
          (IsAbove-with rest (stamp_of new) 0 new.1 (IsAbove-without (by_stamp xs) old 0 (above_by_stamp xs stamped.above)) high)
          (λ key. at-by_stamp key (set xs target new) ∙ (at-first_stamped key (set xs target new) ∙ replaced_at key))

    added_at : (key : ℕ) → entry_in (first_stamped key (xs ++ new ∷ [])) ≡ at key (with (by_stamp xs) (stamp_of new) new.1)
    added_at key = elim (cases_eq key (stamp_of new)) [
      | inl same ↦
          ap (λ k. entry_in (first_stamped k (xs ++ new ∷ []))) same
          ∙ (ap entry_in (push_fresh stamp_of eqb eqb-true eqb-same xs new no_stamp)
          ∙ (sym (at-with_same (by_stamp xs) (stamp_of new) new.1) ∙ ap (λ k. at k (with (by_stamp xs) (stamp_of new) new.1)) (sym same)))
      | inr differs ↦
          ap entry_in (push_other stamp_of eqb eqb-true eqb-same key xs new differs)
          ∙ (sym (at-first_stamped key xs) ∙ (sym (at-by_stamp key xs) ∙ sym (at-with_other (by_stamp xs) (stamp_of new) key new.1 differs)))
    ]

    added : by_stamp (xs ++ new ∷ []) ≡ with (by_stamp xs) (stamp_of new) new.1
    added =
        let P : Record → Type 0 = λ entry. 0 < entry.0 in
        only_map 0 (by_stamp (xs ++ new ∷ [])) (with (by_stamp xs) (stamp_of new) new.1)
        (above_by_stamp (xs ++ new ∷ []) (each_push P xs new stamped.above high))
        (IsAbove-with (by_stamp xs) (stamp_of new) 0 new.1 (above_by_stamp xs stamped.above) high)
        (λ key. at-by_stamp key (xs ++ new ∷ []) ∙ (at-first_stamped key (xs ++ new ∷ []) ∙ added_at key))

    put_by_stamp : by_stamp (with_record xs new) ≡ with (without_entry (by_stamp xs) (entry_of (name_of new) xs)) (stamp_of new) new.1
    put_by_stamp = go is_put
      where
        go : Put → by_stamp (with_record xs new) ≡ with (without_entry (by_stamp xs) (entry_of (name_of new) xs)) (stamp_of new) new.1
        go (Replaced within is) =
            ap by_stamp is
            ∙ (replaced within ∙ ap (λ o. with (without_entry (by_stamp xs) o) (stamp_of new) new.1) (sym (found_at_place (name_of new) xs new within)))
        go (Added past is) =
            ap by_stamp is
            ∙ (added ∙ ap (λ o. with (without_entry (by_stamp xs) o) (stamp_of new) new.1) (sym (entry_of-first (name_of new) xs ∙ not_named past)))

    no_other : (i : ℕ) (d : Record) → i < length xs → stamp_of (get_or xs i d) ≢ stamp_of new
    no_other i d h = none_has stamp_of eqb eqb-true eqb-same (stamp_of new) xs i d no_stamp h

    put_stamped : NamesStamped (with_record xs new)
    put_stamped = go is_put
      where
        go : Put → NamesStamped (with_record xs new)
        go (Replaced within is) =
            subst NamesStamped (sym is) (record {
              above = each_set (λ (entry : Record). 0 < entry.0) xs target new stamped.above high;
              apart = set_apart stamp_of xs new no_other stamped.apart target within;
            })
        go (Added past is) =
            subst NamesStamped (sym is) (record {
              above = each_push (λ (entry : Record). 0 < entry.0) xs new stamped.above high;
              apart = push_apart stamp_of xs new no_other stamped.apart;
            })

    pub puts_by_stamp : PutsByStamp xs (with_record xs new) new
    puts_by_stamp = record { stamped = put_stamped; entries = put_by_stamp }

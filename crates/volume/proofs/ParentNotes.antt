-- Names are noted one after the other.
use Rattle.std.proofs.Common.{◌≡◌, ◌≢◌, ◌<◌, ◌+◌, ◌++◌, ℕ, suc, List, [], ◌∷◌, Option, Some, length, get_or, set, take, refl, sym, ap, subst, ◌∙◌, arith, inl, inr, eqb, eq-eqb, ne_eqb}
use Rattle.std.proofs.lemmas.Bool.{cases_eq}
use Rattle.std.proofs.lemmas.List.{length-set, get_or-set_same, get_or-set_other, get_or-map, length-map}
use Rattle.std.proofs.lemmas.Option.{same_Some}
use Rattle.directory.specs.Records.{Record}
use Rattle.node_table.specs.Tables.{node_number_at, HasNoNode, HaveOwnPlaces}
use Rattle.node_table.proofs.TableLaws.{within-numbered}
use Rattle.layout.specs.CachedNodes.{CachedNode}
use Rattle.layout.specs.Marks.{once_if, times}
use Rattle.layout.specs.SumLaws.{numbers_of}
use Rattle.layout.proofs.NumberLaws.{times-append}
use Rattle.model_tree.specs.Trees.Tree.{root}
use Rattle.tree_check.specs.Trees.{led_at, IsOneTree}
use Rattle.tree_check.proofs.Sums.{take-one}
use Rattle.volume.specs.ParentNotes.{IsNoted}
use Rattle.volume.specs.ParentIndex.{PlaceLeadsTo, AreParents}
use Rattle.volume.proofs.ParentLinks.{no_root, one_place}

-- One name

module _ (cached_nodes : List (Option CachedNode)) (old now numbers : List ℕ) (directory number : ℕ) (noted : IsNoted cached_nodes old now numbers directory) where
  times-one : (n : ℕ) → times n (numbers ++ number ∷ []) ≡ times n numbers + once_if (eqb n number)
  times-one n = omega (arith, times-append n numbers (number ∷ []))

  here : (n : ℕ) → n ≡ number → once_if (eqb n number) ≡ 1
  here n same = rw (eq-eqb n number same) refl

  off : (n : ℕ) → n ≢ number → once_if (eqb n number) ≡ 0
  off n apart = rw (ne_eqb n number apart) refl

  note-found : HaveOwnPlaces cached_nodes → (place : ℕ) → node_number_at cached_nodes place ≡ Some number → place < length now
      → IsNoted cached_nodes old (set now place directory) (numbers ++ number ∷ []) directory
  note-found own place is inside = record {
    count = length-set now place directory ∙ noted.count;
    led = λ p n there some. elim (cases_eq n number) [
      | inl same ↦
          let at : p ≡ place = own p place number (there ∙ ap Some same) is in
          ap (λ k. get_or (set now place directory) k 0) at ∙ get_or-set_same now place directory 0 inside
      | inr apart ↦
          get_or-set_other now place p directory 0 (λ at. apart (same_Some n number (sym there ∙ ap (node_number_at cached_nodes) at ∙ is)))
          ∙ noted.led p n there (omega (arith, some, times-one n, off n apart))
    ];
    others = λ p n there none. elim (cases_eq n number) [
      | inl same ↦ absurd (omega (arith, none, times-one n, here n same))
      | inr apart ↦
          get_or-set_other now place p directory 0 (λ at. apart (same_Some n number (sym there ∙ ap (node_number_at cached_nodes) at ∙ is)))
          ∙ noted.others p n there (omega (arith, none, times-one n, off n apart))
    ];
  }

  note-none : HasNoNode cached_nodes number → IsNoted cached_nodes old now (numbers ++ number ∷ []) directory
  note-none lack = record {
    count = noted.count;
    led = λ p n there some. elim (cases_eq n number) [
      | inl same ↦ absurd (lack p (there ∙ ap Some same))
      | inr apart ↦ noted.led p n there (omega (arith, some, times-one n, off n apart))
    ];
    others = λ p n there none. noted.others p n there (omega (arith, none, times-one n));
  }

module _ (cached_nodes : List (Option CachedNode)) (old now : List ℕ) (directory i : ℕ) (names : List Record) (one : Record) (inside : i < length names) (is : (d : Record) → get_or names i d ≡ one)
    (noted : IsNoted cached_nodes old now (take i (numbers_of names)) directory) where
  number-is : get_or (numbers_of names) i 0 ≡ one.1.number
  number-is = get_or-map (λ (r : Record). r.1.number) names i one 0 inside ∙ ap (λ (r : Record). r.1.number) (is one)

  one-more : take (i + 1) (numbers_of names) ≡ take i (numbers_of names) ++ one.1.number ∷ []
  one-more =
      let all = numbers_of names in
      let within : i < length all = omega (arith, inside, length-map names (λ (r : Record). r.1.number)) in
      (let e : i + 1 ≡ suc i = omega arith in ap (λ n. take n all) e)
      ∙ (take-one all i 0 within ∙ ap (λ n. take i all ++ n ∷ []) number-is)

  pub next-found : HaveOwnPlaces cached_nodes → (place : ℕ) → node_number_at cached_nodes place ≡ Some one.1.number → place < length now
      → (new : List ℕ) → new ≡ set now place directory → IsNoted cached_nodes old new (take (i + 1) (numbers_of names)) directory
  next-found own place there low new set_is =
      subst (λ numbers. IsNoted cached_nodes old new numbers directory) (sym one-more)
      (subst (λ list. IsNoted cached_nodes old list (take i (numbers_of names) ++ one.1.number ∷ []) directory) (sym set_is)
      (note-found cached_nodes old now (take i (numbers_of names)) directory one.1.number noted own place there low))

  pub next-none : HasNoNode cached_nodes one.1.number → (new : List ℕ) → new ≡ now → IsNoted cached_nodes old new (take (i + 1) (numbers_of names)) directory
  next-none lack new same =
      subst (λ numbers. IsNoted cached_nodes old new numbers directory) (sym one-more)
      (subst (λ list. IsNoted cached_nodes old list (take i (numbers_of names) ++ one.1.number ∷ []) directory) (sym same)
      (note-none cached_nodes old now (take i (numbers_of names)) directory one.1.number noted lack))

-- One directory after another: those before a place

pub record AreNoted (cached_nodes : List (Option CachedNode)) (parents : List ℕ) (prefix : ℕ) : Type 0 where
  pub count : length parents ≡ length cached_nodes
  pub named : (place number of directory : ℕ) → of < prefix → node_number_at cached_nodes place ≡ Some number
      → node_number_at cached_nodes of ≡ Some directory → PlaceLeadsTo cached_nodes of number → get_or parents place 0 ≡ directory
  pub nameless : (place number : ℕ) → node_number_at cached_nodes place ≡ Some number
      → ((of : ℕ) → of < prefix → times number (led_at cached_nodes of) ≡ 0) → get_or parents place 0 ≡ 0

module _ (cached_nodes : List (Option CachedNode)) (tree : IsOneTree cached_nodes) (own : HaveOwnPlaces cached_nodes) (prefix : ℕ) (now : List ℕ) (noted : AreNoted cached_nodes now prefix) where
  pub free-place : led_at cached_nodes prefix ≡ [] → AreNoted cached_nodes now (prefix + 1)
  free-place none = record {
    count = noted.count;
    named = λ p n of directory low there at leads. elim (cases_eq of prefix) [
      | inl same ↦
          let empty : times n (led_at cached_nodes of) ≡ 0 = ap (λ k. times n (led_at cached_nodes k)) same ∙ ap (times n) none in
          absurd (omega (arith, leads, empty))
      | inr apart ↦ noted.named p n of directory (omega (arith, low, apart)) there at leads
    ];
    nameless = λ p n there all. noted.nameless p n there (λ of low. all of (omega (arith, low)));
  }

  pub directory-noted : (new numbers : List ℕ) (directory : ℕ) → node_number_at cached_nodes prefix ≡ Some directory → led_at cached_nodes prefix ≡ numbers
      → IsNoted cached_nodes now new numbers directory → AreNoted cached_nodes new (prefix + 1)
  directory-noted new numbers directory there_is led_is one = record {
    count = one.count ∙ noted.count;
    named = λ p n of of_number low there at leads. elim (cases_eq (times n numbers) 0) [
      | inl none ↦
          let empty : times n (led_at cached_nodes prefix) ≡ 0 = ap (times n) led_is ∙ none in
          let apart : of ≢ prefix = λ same. (let both : times n (led_at cached_nodes of) ≡ 0 = ap (λ k. times n (led_at cached_nodes k)) same ∙ empty in omega (arith, leads, both)) in
          one.others p n there none ∙ noted.named p n of of_number (omega (arith, low, apart)) there at leads
      | inr some ↦
          let led : times n (led_at cached_nodes prefix) ≡ times n numbers = ap (times n) led_is in
          let same : prefix ≡ of = one_place cached_nodes tree own n prefix of (omega (arith, led, some)) leads in
          one.led p n there (omega (arith, some)) ∙ same_Some directory of_number (sym there_is ∙ ap (node_number_at cached_nodes) same ∙ at)
    ];
    nameless = λ p n there all.
        (let empty : times n numbers ≡ 0 = ap (times n) (sym led_is) ∙ all prefix (omega arith) in
        one.others p n there empty ∙ noted.nameless p n there (λ of low. all of (omega (arith, low))));
  }

pub all-noted : (cached_nodes : List (Option CachedNode)) (parents : List ℕ) (prefix : ℕ) → IsOneTree cached_nodes → length cached_nodes ≡ prefix → AreNoted cached_nodes parents prefix → AreParents cached_nodes parents
all-noted cached_nodes parents prefix tree all noted = record {
  count = noted.count;
  named = λ p n directory there has.
      noted.named p n has.place directory (omega (arith, within-numbered cached_nodes has.place directory has.there, all)) there has.there has.leads;
  rooted = λ p there. noted.nameless p root there (λ of low. elim (cases_eq (times root (led_at cached_nodes of)) 0) [
    | inl none ↦ none
    | inr some ↦ absurd (no_root cached_nodes tree of (omega (arith, some)))
  ]);
}

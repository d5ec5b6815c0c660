-- The landings that are tried, one more at a time.
use Rattle.std.proofs.Common.{suc, ◌≡◌, ℕ, ◌+◌, ◌<◌, ◌≤◌, cond, List, [], ◌∷◌, ◌++◌, length, get_or, take, drop, sym, ◌∙◌, ap, add-one, append_assoc, drop-cons, map, Vec, Global}
use Rattle.std.proofs.Math.Seq.{take-suc}
use Rattle.std.proofs.lemmas.List.{append-nil, drop_all, map-append}
use Rattle.std.proofs.lemmas.List.Sums.{fold_more}
use Rattle.std.proofs.lemmas.Grind.{flat_map-append}
use Rattle.disk.specs.declared.landing.Landed.{Landed}
use Rattle.disk.specs.declared.landing.Unsynced.{Unsynced}
use Rattle.disk.specs.declared.trial.Edge.{Edge}
use Rattle.disk.specs.Landing.{choices_to, extended, every_landing}
use Rattle.disk.specs.Trial.{edge_landing_of, lands, lists_of}

-- one landing with each choice for the sector
choices_for : Unsynced → List Landed → List (List Landed)
choices_for u one = map (λ choice. one ++ choice ∷ []) (choices_to u.sector u.contents)

pub extended-more : (landings : List (Vec Landed Global)) (u : Unsynced) (i : ℕ) (item : Vec Landed Global) (one : List Landed) (before longer : List (List Landed))
    → i < length landings → item ≡ get_or landings i item → one ≡ item.items → before ≡ extended (lists_of (take i landings)) u
    → longer ≡ before ++ map (λ choice. one ++ choice ∷ []) (choices_to u.sector u.contents) → longer ≡ extended (lists_of (take (i + 1) landings)) u
unfolding choices_for
extended-more landings u i item one before longer inside is is_one before_is step =
    let taken : take (i + 1) landings ≡ take i landings ++ item ∷ [] = rw add-one (take-suc landings i item inside ∙ ap (λ x. take i landings ++ x ∷ []) (sym is)) in
    let first : List (List Landed) = extended (lists_of (take i landings)) u in
    let parts : extended (lists_of (take i landings ++ item ∷ [])) u ≡ first ++ choices_for u item.items =
    ap (λ lists. extended lists u) (map-append (λ (landing : Vec Landed Global). landing.items) (take i landings) (item ∷ []))
    ∙ flat_map-append (choices_for u) (lists_of (take i landings)) (item.items ∷ [])
    ∙ ap (λ rest. first ++ rest) (append-nil (choices_for u item.items)) in
    step ∙ ap (λ b. b ++ choices_for u one) before_is ∙ ap (λ o. first ++ choices_for u o) is_one ∙ sym parts ∙ ap (λ ls. extended (lists_of ls) u) (sym taken)

pub every_landing-more : (sectors : List Unsynced) (i : ℕ) (d : Unsynced) (before longer : List (List Landed)) → i < length sectors
    → longer ≡ extended before (get_or sectors i d) → before ≡ every_landing (take i sectors) → longer ≡ every_landing (take (i + 1) sectors)
every_landing-more sectors i d before longer inside step so_far =
    step ∙ ap (λ lists. extended lists (get_or sectors i d)) so_far ∙ sym (fold_more extended ([] ∷ []) sectors i d inside)

-- one more choice for the sector
pub choices-more : (one : List Landed) (sector k next : ℕ) (item : Vec Landed Global) (before longer : List (Vec Landed Global)) (first : List (List Landed)) → next ≡ suc k
    → longer ≡ before ++ item ∷ [] → item.items ≡ one ++ record { sector = sector; content = next } ∷ []
    → lists_of before ≡ first ++ map (λ choice. one ++ choice ∷ []) (choices_to sector k)
    → lists_of longer ≡ first ++ map (λ choice. one ++ choice ∷ []) (choices_to sector next)
choices-more one sector k next item before longer first is_next is_longer is_item so_far =
    let choose : Landed → List Landed = λ choice. one ++ choice ∷ [] in
    let last : Landed = record { sector = sector; content = suc k } in
    let chosen : List (List Landed) = map choose (choices_to sector k) in
    let is_last : item.items ≡ choose last = rw is_next at is_item in
    rw is_next (ap (λ landings. lists_of landings) is_longer
    ∙ map-append (λ (landing : Vec Landed Global). landing.items) before (item ∷ [])
    ∙ ap (λ lists. lists ++ item.items ∷ []) so_far
    ∙ append_assoc first chosen (item.items ∷ [])
    ∙ ap (λ list. first ++ (chosen ++ list ∷ [])) is_last
    ∙ ap (λ lists. first ++ lists) (sym (map-append choose (choices_to sector k) (last ∷ []))))

-- one more sector, which lands or stays
pub edge_landing-more : (edge : Edge) (sectors : List Unsynced) (i content : ℕ) (d : Unsynced) (before after : List Landed) → i < length sectors
    → content ≡ cond (lands edge i) (get_or sectors i d).contents 0 → after ≡ before ++ record { sector = (get_or sectors i d).sector; content = content } ∷ []
    → before ++ edge_landing_of edge i (drop i sectors) ≡ edge_landing_of edge 0 sectors
    → after ++ edge_landing_of edge (i + 1) (drop (i + 1) sectors) ≡ edge_landing_of edge 0 sectors
edge_landing-more edge sectors i content d before after inside is_content is_after so_far =
    let rest : List Landed = edge_landing_of edge (suc i) (drop (suc i) sectors) in
    let landed : Landed = record { sector = (get_or sectors i d).sector; content = content } in
    let this : Landed = record { sector = (get_or sectors i d).sector; content = cond (lands edge i) (get_or sectors i d).contents 0 } in
    let same : landed ≡ this = ap (λ (n : ℕ). let l : Landed = record { sector = (get_or sectors i d).sector; content = n } in l) is_content in
    rw add-one (ap (λ xs. xs ++ rest) is_after ∙ append_assoc before (landed ∷ []) rest ∙ ap (λ l. before ++ (l ∷ rest)) same
    ∙ ap (λ ls. before ++ edge_landing_of edge i ls) (sym (drop-cons sectors i d inside)) ∙ so_far)

pub edge_landing-all : (edge : Edge) (sectors : List Unsynced) (i : ℕ) (before : List Landed) → length sectors ≤ i
    → before ++ edge_landing_of edge i (drop i sectors) ≡ edge_landing_of edge 0 sectors → before ≡ edge_landing_of edge 0 sectors
edge_landing-all edge sectors i before past so_far =
    sym (append-nil before) ∙ ap (λ ls. before ++ edge_landing_of edge i ls) (sym (drop_all i sectors past)) ∙ so_far

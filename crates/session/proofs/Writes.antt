-- How many edits write a seat or a reply: none of those that free places, and one that is set among them.
use Rattle.std.proofs.Common.{◌≡◌, ◌≤◌, ℕ, zero, suc, ◌+◌, Bool, true, false, cond, List, [], ◌∷◌, ◌++◌, length, map, replicate, set, Option, None, Some, refl, sym, ap, ◌∙◌, arith}
use Rattle.std.proofs.lemmas.List.{length-map}
use Rattle.model_tree.specs.declared.seats.SeatEdit.{SeatEdit as Edit}
use Rattle.model_tree.specs.declared.seats.SeatEdit.TheVariants as kinds
use Rattle.model_tree.specs.Seats.Seats.{Seat, Seats}
use Rattle.model_tree.specs.Seats.SeatEdits.{SeatEdit, Stays, Frees, Takes, Holds, edit_view}
use Rattle.model_tree.specs.Seats.SeatWrites.{writes_by, writes_of}
use Rattle.session.specs.Seating.{freeing}

-- of what the edits represent
abbrev writes : SeatEdit → ℕ
writes Stays = 0
writes Frees = 0
writes (Takes seat) = 1
writes (Holds slot held) = 1

abbrev all_writes : List SeatEdit → ℕ
all_writes [] = 0
all_writes (edit ∷ edits) = writes edit + all_writes edits

writes_is : (edit : Edit) → writes_by edit ≡ writes (edit_view edit)
writes_is kinds.Stays = refl
writes_is kinds.Frees = refl
writes_is (kinds.Takes seat) = refl
writes_is (kinds.Holds slot held) = refl

all_writes_are : (edits : List Edit) → writes_of edits ≡ all_writes (map edit_view edits)
all_writes_are [] = refl
all_writes_are (edit ∷ edits) = ap (λ n. n + writes_of edits) (writes_is edit) ∙ ap (λ n. writes (edit_view edit) + n) (all_writes_are edits)

stay_none : (count : ℕ) → all_writes (replicate count Stays) ≡ 0
stay_none zero = refl
stay_none (suc count) = let rest = stay_none count in omega (arith, rest)

freeing_none : (gone : Seat → Bool) (seats : Seats) → all_writes (map (freeing gone) seats) ≡ 0
freeing_none gone [] = refl
freeing_none gone (None ∷ seats) = let rest = freeing_none gone seats in omega (arith, rest)
freeing_none gone (Some seat ∷ seats) = by_test (gone seat) ∙ freeing_none gone seats
  where
    by_test : (b : Bool) → writes (cond b Frees Stays) + all_writes (map (freeing gone) seats) ≡ all_writes (map (freeing gone) seats)
    by_test true = omega arith
    by_test false = omega arith

pub none_if_stay : (count : ℕ) (edits : List Edit) → map edit_view edits ≡ replicate count Stays → writes_of edits ≡ 0
none_if_stay count edits e = all_writes_are edits ∙ ap all_writes e ∙ stay_none count

pub none_if_freed : (gone : Seat → Bool) (seats : Seats) (edits : List Edit) → map edit_view edits ≡ map (freeing gone) seats → writes_of edits ≡ 0
none_if_freed gone seats edits e = all_writes_are edits ∙ ap all_writes e ∙ freeing_none gone seats

-- the first of those that free places

more_writes : (edits rest : List SeatEdit) → all_writes edits ≤ all_writes (edits ++ rest)
more_writes [] rest = omega arith
more_writes (edit ∷ edits) rest = let more = more_writes edits rest in omega (arith, more)

longer : {A : Type 0} (xs ys : List A) → length xs ≤ length (xs ++ ys)
longer [] ys = omega arith
longer (x ∷ xs) ys = let more = longer xs ys in omega (arith, more)

module _ (gone : Seat → Bool) (seats : Seats) (edits : List Edit) (rest : List SeatEdit) (e : (map edit_view edits ++ rest) ≡ map (freeing gone) seats) where
  pub none_if_freeing : writes_of edits ≡ 0
  none_if_freeing =
      let more = more_writes (map edit_view edits) rest in
      let same = all_writes_are edits in
      let all = ap all_writes e ∙ freeing_none gone seats in
      omega (arith, more, same, all)

  pub few_if_freeing : length edits ≤ length seats
  few_if_freeing =
      let more = longer (map edit_view edits) rest in
      let all = ap length e ∙ length-map seats (freeing gone) in
      omega (arith, more, all, length-map edits edit_view)

-- One of them is set

at_most_one : (edit : Edit) → writes_by edit ≤ 1
at_most_one kinds.Stays = omega arith
at_most_one kinds.Frees = omega arith
at_most_one (kinds.Takes seat) = omega arith
at_most_one (kinds.Holds slot held) = omega arith

pub one_if_set : (edits : List Edit) (i : ℕ) (edit : Edit) → writes_of edits ≡ 0 → writes_of (set edits i edit) ≤ 1
one_if_set [] i edit none = omega arith
one_if_set (first ∷ edits) zero edit none = let one = at_most_one edit in omega (arith, one, none)
one_if_set (first ∷ edits) (suc i) edit none =
    let rest = one_if_set edits i edit (omega (arith, none)) in
    omega (arith, rest, none)

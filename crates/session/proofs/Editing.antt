-- Edits that are made one after the other.
use Rattle.std.proofs.Common.{◌≡◌, ℕ, suc, ◌+◌, ◌<◌, ◌≤◌, ◌&&◌, List, [], ◌∷◌, ◌++◌, length, map, get_or, set, Option, refl, sym, ap, ◌∙◌, arith}
use Rattle.std.specs.List.{list_all, enumerate_from}
use Rattle.std.proofs.lemmas.List.FromFn.{get_or-enumerate_from}
use Rattle.model_tree.specs.declared.seats.SeatEdit.{SeatEdit as Edit}
use Rattle.model_tree.specs.Seats.Seats.{Seat, Seats}
use Rattle.model_tree.specs.Seats.SeatEdits.{SeatEdit, edited_seat, edited_all, edit_view, stays, all_stay}

pub all_stay_is : (edits : List Edit) → all_stay (map edit_view edits) ≡ list_all (λ edit. stays (edit_view edit)) edits
all_stay_is [] = refl
all_stay_is (edit ∷ edits) = ap (λ b. stays (edit_view edit) && b) (all_stay_is edits)

-- one more

pub edited_more : (edits : List SeatEdit) (edit : SeatEdit) (seats : Seats) (d : Option Seat) → length edits < length seats
    → edited_all (edits ++ edit ∷ []) seats ≡ set (edited_all edits seats) (length edits) (edited_seat edit (get_or (edited_all edits seats) (length edits) d))
edited_more [] edit [] d within = absurd (omega arith)
edited_more [] edit (place ∷ seats) d within = refl
edited_more (first ∷ edits) edit [] d within = absurd (omega arith)
edited_more (first ∷ edits) edit (place ∷ seats) d within = ap (λ (rest : Seats). edited_seat first place ∷ rest) (edited_more edits edit seats d (omega arith))

-- one past the last place
pub edited_past : (edits : List SeatEdit) (edit : SeatEdit) (seats : Seats) → length seats ≤ length edits → edited_all (edits ++ edit ∷ []) seats ≡ edited_all edits seats
edited_past [] edit [] past = refl
edited_past [] edit (place ∷ seats) past = absurd (omega arith)
edited_past (first ∷ edits) edit [] past = refl
edited_past (first ∷ edits) edit (place ∷ seats) past = ap (λ (rest : Seats). edited_seat first place ∷ rest) (edited_past edits edit seats (omega arith))

pub length_edited : (edits : List SeatEdit) (seats : Seats) → length (edited_all edits seats) ≡ length seats
length_edited [] seats = refl
length_edited (edit ∷ edits) [] = refl
length_edited (edit ∷ edits) (place ∷ seats) = ap suc (length_edited edits seats)

-- with their places

abbrev pub told : List (ℕ × Edit) → List SeatEdit
told yielded = map (λ p. edit_view p.1) yielded

told_pairs : (yielded : List (ℕ × Edit)) → told (map (λ p. (p.0, p.1)) yielded) ≡ told yielded
told_pairs [] = refl
told_pairs (p ∷ yielded) = ap (λ rest. edit_view p.1 ∷ rest) (told_pairs yielded)

told_from : (n : ℕ) (edits : List Edit) → told (enumerate_from n edits) ≡ map edit_view edits
told_from n [] = refl
told_from n (edit ∷ edits) = ap (λ rest. edit_view edit ∷ rest) (told_from (n + 1) edits)

pub told_all : (yielded : List (ℕ × Edit)) (edits : List Edit) → map (λ p. (p.0, p.1)) yielded ≡ enumerate_from 0 edits → told yielded ≡ map edit_view edits
told_all yielded edits e = sym (told_pairs yielded) ∙ ap told e ∙ told_from 0 edits

pub place_told : (edits : List Edit) (n : ℕ) (p : ℕ × Edit) → n < length (enumerate_from 0 edits) → p ≡ get_or (enumerate_from 0 edits) n p → n < length edits → p.0 ≡ n
place_told edits n p within e inside = ap (λ (q : ℕ × Edit). q.0) (e ∙ get_or-enumerate_from 0 edits n p inside) ∙ omega arith

-- The sectors of a seat that now holds a reply: the four of the slot are the reply's, and the
-- others are unchanged.
use Rattle.std.proofs.Common.{◌≡◌, ◌≢◌, ◌≤◌, ◌-◌, ◌/◌, ◌%◌, ℕ, zero, suc, ◌++◌, Option, Some, None, length, get_or, set, replicate, sym, ap, ◌∙◌, arith}
use Rattle.std.specs.Prelude.{codes}
use Rattle.std.specs.Int.{w32, to_be_bytes}
use Rattle.std.proofs.lemmas.List.{get_or-set_same, get_or-set_other, length-set}
use Rattle.model_tree.specs.Seats.Seats.{HeldReply, Seat, with_held}
use Rattle.model_tree.specs.Seats.SeatEdits.{Holds, HasSlot, edited_seat}
use Rattle.seats.specs.Encoding.{head_sector, part_of, seat_sector, slot_text}
use Rattle.seats.proofs.Parts.{first_sector, slot_sector_at}

pub held_sector : (slot : ℕ) (held : HeldReply) (place : Option Seat) (k : ℕ) → HasSlot slot place → 1 ≤ k → (k - 1) / 4 ≡ slot
    → seat_sector k (edited_seat (Holds slot held) place) ≡ part_of ((k - 1) % 4) (slot_text (Some held))
held_sector slot held None k has some at = absurd has
held_sector slot held (Some seat) k has some at =
    slot_sector_at k (with_held slot held seat) some
    ∙ ap (λ (x : Option HeldReply). part_of ((k - 1) % 4) (slot_text x))
    (ap (λ (n : ℕ). get_or (set seat.slots slot (Some held)) n None) at ∙ get_or-set_same seat.slots slot (Some held) None has)

head-held : (slot : ℕ) (held : HeldReply) (seat : Seat) → head_sector (with_held slot held seat) ≡ head_sector seat
unfolding head_sector
head-held slot held seat =
    ap (λ (n : ℕ). codes "SESS" ++ seat.session ++ to_be_bytes w32 seat.principal ++ to_be_bytes w32 n ++ to_be_bytes w32 (length seat.owner)
    ++ seat.owner ++ replicate (1024 - length seat.owner) 0 ++ replicate 3040 0) (length-set seat.slots slot (Some held))

pub kept_sector : (slot : ℕ) (held : HeldReply) (place : Option Seat) (k : ℕ) → HasSlot slot place → (1 ≤ k → (k - 1) / 4 ≡ slot → ⊥)
    → seat_sector k (edited_seat (Holds slot held) place) ≡ seat_sector k place
kept_sector slot held None k has other = absurd has
kept_sector slot held (Some seat) zero has other =
    first_sector (with_held slot held seat) ∙ head-held slot held seat ∙ sym (first_sector seat)
kept_sector slot held (Some seat) (suc k) has other =
    let apart : (suc k - 1) / 4 ≢ slot = other (omega arith) in
    slot_sector_at (suc k) (with_held slot held seat) (omega arith)
    ∙ ap (λ (x : Option HeldReply). part_of ((suc k - 1) % 4) (slot_text x)) (get_or-set_other seat.slots slot ((suc k - 1) / 4) (Some held) None apart)
    ∙ sym (slot_sector_at (suc k) seat (omega arith))

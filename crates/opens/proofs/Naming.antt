-- The open that a stateid names.
use Rattle.std.proofs.Common.{ℕ, Bool, true, false, ◌||◌, ◌-◌, ◌^◌, ◌≤◌, ◌≢◌, nat_le, List, [], ◌∷◌, length, map, take, Option, Some, None, ◌≡◌, ◌==◌, ◌&&◌, ◌∙◌, refl, ap, sym, arith, Bor, bytes_eq, ne_eqb}
use Rattle.std.specs.Prelude.{IfSome, find, is_none, if◌then◌else◌}
use Rattle.std.specs.Int.{w32, to_be_bytes}
use Rattle.model_tree.specs.Trees.Keyed.{at}
use Rattle.model.specs.Sessions.Opens.{Open, Opens}
use Rattle.model.specs.Sessions.StateIds.{is_like, is_table_full, open_like, open_named}
use Rattle.opens.specs.declared.open.Entry.{Entry}
use Rattle.opens.specs.Views.{entry_of, serial_in, IsAt, IsNamed}

-- an open that joins another finds room
pub is_not_full : (most : ℕ) (opens : Opens) (asked : Open) (like : ℕ × Open) → open_like opens asked ≡ Some like → false ≡ is_table_full most opens asked
is_not_full most opens asked like is =
    ap (λ found. is_none found && (nat_le most (length opens.known) || nat_le (2 ^ 64 - 1) opens.given)) (sym is)

-- and so one that joins none finds room if the table has it
pub is_full_then : (most : ℕ) (opens : Opens) (asked : Open) → open_like opens asked ≡ None → is_table_full most opens asked ≡ (nat_le most (length opens.known) || nat_le (2 ^ 64 - 1) opens.given)
is_full_then most opens asked is =
    ap (λ found. is_none found && (nat_le most (length opens.known) || nat_le (2 ^ 64 - 1) opens.given)) is

-- on a file that has another number than each entry none is joined

unlike : (client owner number : Bool) → number ≡ false → (client && (owner && number)) ≡ false
unlike true true number is = is
unlike true false number is = refl
unlike false owner number is = refl

none_like : (asked : Open) → ((entry : Entry) → entry.state.number ≢ asked.number) → (entries : List Entry) → find (is_like asked) (map entry_of entries) ≡ None
none_like asked apart [] = refl
none_like asked apart (entry ∷ entries) =
    rw (unlike (entry.state.client == asked.client) (bytes_eq entry.state.owner.items asked.owner) (entry.state.number == asked.number) (ne_eqb entry.state.number asked.number (apart entry)))
    (none_like asked apart entries)

pub none_like_0 : (asked : Open) → asked.number ≡ 0 → (entries : List Entry) → find (is_like asked) (map entry_of entries) ≡ None
none_like_0 asked zero entries = none_like asked (λ entry. let low = entry.numbered in omega (arith, low, zero)) entries

pub none_like_high : (asked : Open) → 2 ^ 64 ≤ asked.number → (entries : List Entry) → find (is_like asked) (map entry_of entries) ≡ None
none_like_high asked high entries = none_like asked (λ entry. let low = entry.state.numbered in omega (arith, low, high)) entries

pub named_at : (run serial : ℕ) (other : List ℕ) (opens : Opens) → (bytes_eq (take 4 other) (to_be_bytes w32 run) && (length other == 12)) ≡ true → serial_in other ≡ serial
    → open_named opens run other ≡ at serial opens.known
named_at run serial other opens ours is =
    ap (λ b. if b then at (serial_in other) opens.known else None) ours ∙ ap (λ n. at n opens.known) is

pub named_some : (run serial : ℕ) (other : List ℕ) (opens : Opens) (found : Option (Bor Entry)) → IfSome found (λ entry. IsAt serial opens entry.now)
    → open_named opens run other ≡ at serial opens.known → serial_in other ≡ serial → IfSome found (λ entry. IsNamed run other opens entry.now)
named_some run at_serial other opens None is same serial = tt
named_some run at_serial other opens (Some entry) is same serial = record { known = same ∙ is.known; serial_is = serial ∙ sym is.serial_is }

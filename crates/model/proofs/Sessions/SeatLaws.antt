-- Seats: what freeing, taking and holding make of the seat of a session.
use Rattle.std.proofs.Common.{◌≡◌, ℕ, zero, suc, ◌<◌, ◌⊎◌, inl, inr, Bool, true, false, cond, List, [], ◌∷◌, ◌++◌, length, get_or, Option, None, Some, is_some, refl, sym, ap, ◌∙◌, subst, arith, bytes_eq, get_or-set_same, get_or-set_other, length-set, length-append}
use Rattle.std.specs.List.{IsAmong}
use Rattle.std.proofs.lemmas.Bool.{true≢false}
use Rattle.std.proofs.lemmas.Slice.Eq.{bytes_eq-Decides}
use Rattle.model.specs.Server.Runs.{Stored, freed_between}
use Rattle.model.specs.Sessions.SeatRuns.{HoldsFrom}
use Rattle.model_tree.specs.Seats.Seats.{HeldReply, Seat, Seats, this_or, seat_of, has_seat, held_in, held_at, freed_if, freed, seated, with_held, holds_if, holding, SeatsApart}
use Rattle.model_tree.proofs.Facts.BytesLaws.{bytes_apart, bytes_same, bytes_differ}

-- Options

pub none_of_none : (o : Option Seat) → is_some o ≡ false → o ≡ None
none_of_none None e = refl
none_of_none (Some seat) e = absurd (true≢false e)

none_some : {A : Type 0} (seat : Seat) → None ≡ Some seat → A
none_some seat e = absurd (cc)

pub same_seat : (a b : Seat) → Some a ≡ Some b → a ≡ b
same_seat a b e = cc

-- The seat that is found

pub seat_found : (id : List ℕ) (seats : Seats) (seat : Seat) → seat_of id seats ≡ Some seat → seat.session ≡ id
seat_found id [] seat e = none_some seat e
seat_found id (None ∷ seats) seat e = seat_found id seats seat e
seat_found id (Some other ∷ seats) seat e = by_test (seat_found id seats seat) (bytes_eq other.session id) refl e
  where
    by_test : (seat_of id seats ≡ Some seat → seat.session ≡ id) → (b : Bool) → bytes_eq other.session id ≡ b
        → cond b (Some other) (seat_of id seats) ≡ Some seat → seat.session ≡ id
    by_test rest true is same = ap (λ (s : Seat). s.session) (sym (same_seat other seat same)) ∙ (bytes_eq-Decides other.session id).0 is
    by_test rest false is later = rest later

-- Freeing

module _ (gone : Seat → Bool) where
  pub freed_seat : (id : List ℕ) (seats : Seats) → SeatsApart seats → seat_of id (freed gone seats) ≡ freed_if gone (seat_of id seats)
  freed_seat id [] apart = refl
  freed_seat id (None ∷ seats) apart = freed_seat id seats apart
  freed_seat id (Some other ∷ seats) apart = by_tests (freed_seat id seats apart.1) (bytes_eq other.session id) (gone other) refl refl
    where
      none_later : other.session ≡ id → seat_of id seats ≡ None
      none_later same = subst (λ (i : List ℕ). seat_of i seats ≡ None) same (none_of_none (seat_of other.session seats) apart.0)

      by_tests : seat_of id (freed gone seats) ≡ freed_if gone (seat_of id seats) → (b g : Bool) → bytes_eq other.session id ≡ b → gone other ≡ g
          → this_or id (cond g None (Some other)) (seat_of id (freed gone seats)) ≡ freed_if gone (cond b (Some other) (seat_of id seats))
      by_tests later true true is goes =
          later
          ∙ (ap (freed_if gone) (none_later ((bytes_eq-Decides other.session id).0 is))
          ∙ sym (ap (λ (g : Bool). cond g None (Some other)) goes))
      by_tests later true false is stays =
          ap (λ (b : Bool). cond b (Some other) (seat_of id (freed gone seats))) is
          ∙ sym (ap (λ (g : Bool). cond g None (Some other)) stays)
      by_tests later false true is goes = later
      by_tests later false false is stays = ap (λ (b : Bool). cond b (Some other) (seat_of id (freed gone seats))) is ∙ later

  pub has_freed : (id : List ℕ) (seats : Seats) → SeatsApart seats → has_seat id seats ≡ false → has_seat id (freed gone seats) ≡ false
  has_freed id seats apart none =
      ap is_some (freed_seat id seats apart)
      ∙ ap (λ (o : Option Seat). is_some (freed_if gone o)) (none_of_none (seat_of id seats) none)

  pub apart_freed : (seats : Seats) → SeatsApart seats → SeatsApart (freed gone seats)
  apart_freed [] apart = tt
  apart_freed (None ∷ seats) apart = apart_freed seats apart
  apart_freed (Some other ∷ seats) apart = by_test (apart_freed seats apart.1) (gone other)
    where
      by_test : SeatsApart (freed gone seats) → (g : Bool) → SeatsApart (cond g None (Some other) ∷ freed gone seats)
      by_test rest true = rest
      by_test rest false = (has_freed other.session seats apart.1 apart.0, rest)

  freed_only : (o : Option Seat) (seat : Seat) → freed_if gone o ≡ Some seat → o ≡ Some seat
  freed_only None seat e = e
  freed_only (Some other) seat e = by_test (gone other) e
    where
      by_test : (g : Bool) → cond g None (Some other) ≡ Some seat → Some other ≡ Some seat
      by_test true e = none_some seat e
      by_test false e = e

  -- a seat that is there was there
  pub was_there : (id : List ℕ) (seats : Seats) (seat : Seat) → SeatsApart seats → seat_of id (freed gone seats) ≡ Some seat → seat_of id seats ≡ Some seat
  was_there id seats seat apart e = freed_only (seat_of id seats) seat (sym (freed_seat id seats apart) ∙ e)

  pub had_seat : (id : List ℕ) (seats : Seats) → SeatsApart seats → has_seat id (freed gone seats) ≡ true → has_seat id seats ≡ true
  had_seat id seats apart e = by_option (seat_of id seats) refl
    where
      by_option : (o : Option Seat) → seat_of id seats ≡ o → is_some o ≡ true
      by_option None is = absurd (true≢false (sym e ∙ has_freed id seats apart (ap is_some is)))
      by_option (Some seat) is = refl

  -- a seat stays, or it is gone
  pub stays_or_goes : (id : List ℕ) (seats : Seats) (seat : Seat) → SeatsApart seats → seat_of id seats ≡ Some seat
      → (seat_of id (freed gone seats) ≡ Some seat) ⊎ (has_seat id (freed gone seats) ≡ false)
  stays_or_goes id seats seat apart is = by_test (gone seat) refl
    where
      now : seat_of id (freed gone seats) ≡ cond (gone seat) None (Some seat)
      now = freed_seat id seats apart ∙ ap (freed_if gone) is

      by_test : (g : Bool) → gone seat ≡ g → (seat_of id (freed gone seats) ≡ Some seat) ⊎ (has_seat id (freed gone seats) ≡ false)
      by_test true goes = inr (ap is_some (now ∙ ap (λ (g : Bool). cond g None (Some seat)) goes))
      by_test false stays = inl (now ∙ ap (λ (g : Bool). cond g None (Some seat)) stays)

-- Taking the first free place

module _ (new : Seat) where
  pub seated_other : (id : List ℕ) (seats : Seats) → bytes_eq new.session id ≡ false → seat_of id (seated new seats) ≡ seat_of id seats
  seated_other id [] apart = refl
  seated_other id (None ∷ seats) apart = ap (λ (b : Bool). cond b (Some new) (seat_of id seats)) apart
  seated_other id (Some other ∷ seats) apart = ap (this_or id (Some other)) (seated_other id seats apart)

  pub seated_new : (seats : Seats) (found : Seat) → has_seat new.session seats ≡ false → seat_of new.session (seated new seats) ≡ Some found → found ≡ new
  seated_new [] found none e = none_some found e
  seated_new (None ∷ seats) found none e =
      sym (same_seat new found (sym (ap (λ (b : Bool). cond b (Some new) (seat_of new.session seats)) (bytes_same new.session new.session refl)) ∙ e))
  seated_new (Some other ∷ seats) found none e = by_test (seated_new seats found) (bytes_eq other.session new.session) none e
    where
      by_test : (has_seat new.session seats ≡ false → seat_of new.session (seated new seats) ≡ Some found → found ≡ new) → (b : Bool) → is_some (cond b (Some other) (seat_of new.session seats)) ≡ false
          → cond b (Some other) (seat_of new.session (seated new seats)) ≡ Some found → found ≡ new
      by_test rest true none e = absurd (true≢false none)
      by_test rest false none e = rest none e

  pub apart_seated : (seats : Seats) → SeatsApart seats → has_seat new.session seats ≡ false → SeatsApart (seated new seats)
  apart_seated [] apart none = tt
  apart_seated (None ∷ seats) apart none = (none, apart)
  apart_seated (Some other ∷ seats) apart none = by_test (apart_seated seats apart.1) (bytes_eq other.session new.session) refl none
    where
      by_test : (has_seat new.session seats ≡ false → SeatsApart (seated new seats)) → (b : Bool) → bytes_eq other.session new.session ≡ b → is_some (cond b (Some other) (seat_of new.session seats)) ≡ false
          → SeatsApart (Some other ∷ seated new seats)
      by_test rest true is none = absurd (true≢false none)
      by_test rest false is none = (
        ap is_some (seated_other other.session seats (bytes_apart new.session other.session (λ same. bytes_differ other.session new.session is (sym same)))) ∙ apart.0,
        rest none,
      )

-- Holding a reply

module _ (name : List ℕ) (place : ℕ) (held : HeldReply) where
  pub holding_seat : (id : List ℕ) (seats : Seats) → seat_of id (holding name place held seats) ≡ holds_if name place held (seat_of id seats)
  holding_seat id [] = refl
  holding_seat id (None ∷ seats) = holding_seat id seats
  holding_seat id (Some other ∷ seats) = by_tests (holding_seat id seats) (bytes_eq other.session id) (bytes_eq other.session name) refl refl
    where
      by_tests : seat_of id (holding name place held seats) ≡ holds_if name place held (seat_of id seats) → (b n : Bool) → bytes_eq other.session id ≡ b → bytes_eq other.session name ≡ n
          → this_or id (Some (cond n (with_held place held other) other)) (seat_of id (holding name place held seats))
          ≡ holds_if name place held (cond b (Some other) (seat_of id seats))
      by_tests later true true is named =
          ap (λ (b : Bool). cond b (Some (with_held place held other)) (seat_of id (holding name place held seats))) is
          ∙ sym (ap (λ (n : Bool). Some (cond n (with_held place held other) other)) named)
      by_tests later true false is named =
          ap (λ (b : Bool). cond b (Some other) (seat_of id (holding name place held seats))) is
          ∙ sym (ap (λ (n : Bool). Some (cond n (with_held place held other) other)) named)
      by_tests later false true is named =
          ap (λ (b : Bool). cond b (Some (with_held place held other)) (seat_of id (holding name place held seats))) is ∙ later
      by_tests later false false is named =
          ap (λ (b : Bool). cond b (Some other) (seat_of id (holding name place held seats))) is ∙ later

  some_still : (o : Option Seat) → is_some (holds_if name place held o) ≡ is_some o
  some_still None = refl
  some_still (Some seat) = refl

  pub has_holding : (id : List ℕ) (seats : Seats) → has_seat id (holding name place held seats) ≡ has_seat id seats
  has_holding id seats = ap is_some (holding_seat id seats) ∙ some_still (seat_of id seats)

  pub apart_holding : (seats : Seats) → SeatsApart seats → SeatsApart (holding name place held seats)
  apart_holding [] apart = tt
  apart_holding (None ∷ seats) apart = apart_holding seats apart
  apart_holding (Some other ∷ seats) apart = by_test (apart_holding seats apart.1) (bytes_eq other.session name)
    where
      by_test : SeatsApart (holding name place held seats) → (n : Bool) → SeatsApart (Some (cond n (with_held place held other) other) ∷ holding name place held seats)
      by_test rest true = (has_holding other.session seats ∙ apart.0, rest)
      by_test rest false = (has_holding other.session seats ∙ apart.0, rest)

  -- nothing is held for a session without a seat
  pub holding_none : (seats : Seats) → has_seat name seats ≡ false → holding name place held seats ≡ seats
  holding_none [] none = refl
  holding_none (None ∷ seats) none = ap (λ (rest : Seats). None ∷ rest) (holding_none seats none)
  holding_none (Some other ∷ seats) none = by_test (holding_none seats) (bytes_eq other.session name) none
    where
      by_test : (has_seat name seats ≡ false → holding name place held seats ≡ seats) → (n : Bool) → is_some (cond n (Some other) (seat_of name seats)) ≡ false
          → (Some (cond n (with_held place held other) other) ∷ holding name place held seats) ≡ (Some other ∷ seats)
      by_test rest true none = absurd (true≢false none)
      by_test rest false none = ap (λ (others : Seats). Some other ∷ others) (rest none)

  pub held_here : (seats : Seats) (seat : Seat) → seat_of name seats ≡ Some seat → place < length seat.slots
      → held_at name place (holding name place held seats) ≡ Some held
  held_here seats seat is within =
      ap (held_in place) (holding_seat name seats ∙ ap (holds_if name place held) is)
      ∙ (ap (λ (n : Bool). held_in place (Some (cond n (with_held place held seat) seat))) (bytes_same seat.session name (seat_found name seats seat is))
      ∙ get_or-set_same seat.slots place (Some held) None within)

  pub held_other : (id : List ℕ) (at : ℕ) (seats : Seats) → (id ≡ name → at ≡ place → ⊥)
      → held_at id at (holding name place held seats) ≡ held_at id at seats
  held_other id at seats other = ap (held_in at) (holding_seat id seats) ∙ by_option (seat_of id seats) refl
    where
      by_option : (o : Option Seat) → seat_of id seats ≡ o → held_in at (holds_if name place held o) ≡ held_in at o
      by_option None is = refl
      by_option (Some seat) is = by_test (bytes_eq seat.session name) refl
        where
          by_test : (n : Bool) → bytes_eq seat.session name ≡ n → held_in at (Some (cond n (with_held place held seat) seat)) ≡ held_in at (Some seat)
          by_test true named =
              let same : id ≡ name = sym (seat_found id seats seat is) ∙ (bytes_eq-Decides seat.session name).0 named in
              get_or-set_other seat.slots place at (Some held) None (λ here. other same here)
          by_test false named = refl

  -- a seat keeps its count of slots
  pub holding_was : (id : List ℕ) (seats : Seats) (seat : Seat) → seat_of id (holding name place held seats) ≡ Some seat
      → (old : Seat) × (seat_of id seats ≡ Some old) × (length seat.slots ≡ length old.slots)
  holding_was id seats seat e = by_option (seat_of id seats) refl
    where
      by_option : (o : Option Seat) → seat_of id seats ≡ o → (old : Seat) × (seat_of id seats ≡ Some old) × (length seat.slots ≡ length old.slots)
      by_option None is = none_some seat (sym (holding_seat id seats ∙ ap (holds_if name place held) is) ∙ e)
      by_option (Some old) is = (old, is, by_test (bytes_eq old.session name) (sym (holding_seat id seats ∙ ap (holds_if name place held) is) ∙ e))
        where
          by_test : (n : Bool) → Some (cond n (with_held place held old) old) ≡ Some seat → length seat.slots ≡ length old.slots
          by_test true same = ap (λ (s : Seat). length s.slots) (sym (same_seat (with_held place held old) seat same)) ∙ length-set old.slots place (Some held)
          by_test false same = ap (λ (s : Seat). length s.slots) (sym (same_seat old seat same))

-- If something is held, there is a seat
pub seat_holds : (id : List ℕ) (place : ℕ) (seats : Seats) (held : HeldReply) → held_at id place seats ≡ Some held → (seat : Seat) × (seat_of id seats ≡ Some seat)
seat_holds id place seats held e = by_option (seat_of id seats) refl
  where
    nothing : {A : Type 0} → None ≡ Some held → A
    nothing e = absurd (cc)

    by_option : (o : Option Seat) → seat_of id seats ≡ o → (seat : Seat) × (seat_of id seats ≡ Some seat)
    by_option None is = nothing (sym (ap (held_in place) is) ∙ e)
    by_option (Some seat) is = (seat, is)

-- .. and other seats that have the same there hold the same reply
pub holds_there : (old new : Seats) (stored : List Stored) (i : ℕ) (one : Stored) → HoldsFrom old stored i one
    → held_at one.session one.slot new ≡ held_at one.session one.slot old → HoldsFrom new stored i one
holds_there old new stored i one holds same = record {
  later = holds.later;
  behind = holds.behind;
  reply = holds.reply;
  stands = holds.stands;
  session = holds.session;
  slot = holds.slot;
  held = same ∙ holds.held;
}

-- Which seats are freed

pub among_first : {A : Type 0} (x : A) (xs : List A) (y : A) → y ≡ x → IsAmong (x ∷ xs) y
among_first x xs y same = (0, (omega arith, same))

pub among_rest : {A : Type 0} (x : A) (xs : List A) (y : A) → IsAmong xs y → IsAmong (x ∷ xs) y
among_rest x xs y among = let less = among.1.0 in (suc among.0, (omega (arith, less), among.1.1))

get_or_left : {A : Type 0} (xs ys : List A) (k : ℕ) (none : A) → k < length xs → get_or (xs ++ ys) k none ≡ get_or xs k none
get_or_left [] ys k none less = absurd (omega arith)
get_or_left (x ∷ xs) ys zero none less = refl
get_or_left (x ∷ xs) ys (suc k) none less = get_or_left xs ys k none (omega arith)

pub among_left : {A : Type 0} (xs ys : List A) (x : A) → IsAmong xs x → IsAmong (xs ++ ys) x
among_left xs ys x among =
    let less = among.1.0 in
    (among.0, (omega (arith, less, length-append xs ys), among.1.1 ∙ sym (get_or_left xs ys among.0 x less)))

pub among_right : {A : Type 0} (xs ys : List A) (x : A) → IsAmong ys x → IsAmong (xs ++ ys) x
among_right [] ys x among = among
among_right (first ∷ xs) ys x among = among_rest first (xs ++ ys) x (among_right xs ys x among)

pub freed_listed : (id : List ℕ) (old new : Seats) (seat : Seat) → seat_of id old ≡ Some seat → has_seat id new ≡ false → IsAmong (freed_between old new) id
freed_listed id [] new seat e gone = none_some seat e
freed_listed id (None ∷ old) new seat e gone = freed_listed id old new seat e gone
freed_listed id (Some other ∷ old) new seat e gone = by_test (λ later. freed_listed id old new seat later gone) (bytes_eq other.session id) refl e
  where
    stays_listed : (b : Bool) → IsAmong (freed_between old new) id → IsAmong (cond b (freed_between old new) (other.session ∷ freed_between old new)) id
    stays_listed true among = among
    stays_listed false among = among_rest other.session (freed_between old new) id among

    by_test : (seat_of id old ≡ Some seat → IsAmong (freed_between old new) id) → (b : Bool) → bytes_eq other.session id ≡ b
        → cond b (Some other) (seat_of id old) ≡ Some seat
        → IsAmong (cond (has_seat other.session new) (freed_between old new) (other.session ∷ freed_between old new)) id
    by_test rest true is same =
        let named : other.session ≡ id = (bytes_eq-Decides other.session id).0 is in
        let none : has_seat other.session new ≡ false = ap (λ (i : List ℕ). has_seat i new) named ∙ gone in
        subst (λ (b : Bool). IsAmong (cond b (freed_between old new) (other.session ∷ freed_between old new)) id) (sym none)
        (among_first other.session (freed_between old new) id (sym named))
    by_test rest false is later = stays_listed (has_seat other.session new) (rest later)

pub either_list : {A : Type 0} (xs ys : List A) (x : A) → IsAmong (xs ++ ys) x → IsAmong xs x ⊎ IsAmong ys x
either_list [] ys x among = inr among
either_list {A} (first ∷ xs) ys x among = by_place (either_list xs ys x) among.0 among.1.0 among.1.1
  where
    by_place : (IsAmong (xs ++ ys) x → IsAmong xs x ⊎ IsAmong ys x) → (place : ℕ) → place < length ((first ∷ xs) ++ ys) → x ≡ get_or ((first ∷ xs) ++ ys) place x → IsAmong (first ∷ xs) x ⊎ IsAmong ys x
    by_place later zero less e = inl (0, (omega arith, e))
    by_place later (suc place) less e = elim (later (place, (omega (arith, less), e))) [
      | inl before ↦ inl (let inside = before.1.0 in (suc before.0, (omega (arith, inside), before.1.1)))
      | inr after ↦ inr after
    ]

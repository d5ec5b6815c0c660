-- What an open's stateid means once it was returned.
use Rattle.std.proofs.Common.{ℕ, Bool, true, false, List, ◌++◌, ◌≡◌, ◌≢◌, ◌+◌, ◌-◌, ◌^◌, ◌⊎◌, ◌&&◌, ◌||◌, ◌==◌, if◌then◌else◌, inl, inr, refl, sym, ap, ◌∙◌, arith, take, drop, bytes_eq, nat_lt, ne_eqb, eq-eqb}
use Rattle.std.specs.Prelude.{Some, None}
use Rattle.std.specs.Int.{w32, w64, to_be_bytes, from_be_bytes}
use Rattle.std.proofs.lemmas.Bool.{lt-ltb, false_from_ne_true}
use Rattle.std.proofs.lemmas.Nat.{from_be_bytes-to_be_bytes_4, from_be_bytes-to_be_bytes_8}
use Rattle.std.proofs.lemmas.Slice.Eq.{bytes_eq-Decides}
use Rattle.model_tree.specs.declared.status.Status.TheVariants as status
use Rattle.model.specs.Operations.Context.{Context, current_number}
use Rattle.model_tree.specs.Trees.Keyed.{at}
use Rattle.model.specs.Sessions.Opens.{Opens, Open}
use Rattle.model.specs.Sessions.StateIds.{Anonymous, Refused, Names, found, by_meaning, by_open, by_seqid, carried, is_anonymous, is_current, upgraded, next_seqid, open_named, open_stateid, zeros}
use Rattle.model.specs.Sessions.StateIdLaws.{IsOwn, IsGiven, OpenStands, NewestIsFound, LowerIsOld, JoinedIsOld, NotOwnIsBad, OtherRunIsBad, EndedIsBad}
use Rattle.model_tree.proofs.Facts.BooleanLaws.{and_false}

-- The bytes of a stateid

abbrev other_of : (run serial : ℕ) → List ℕ
other_of run serial = to_be_bytes w32 run ++ to_be_bytes w64 serial

not_zeros : (run serial : ℕ) → IsGiven run serial → bytes_eq (other_of run serial) zeros ≡ false
not_zeros run serial given = false_from_ne_true (bytes_eq (other_of run serial) zeros) (λ same.
    let bytes : other_of run serial ≡ zeros = (bytes_eq-Decides (other_of run serial) zeros).0 same in
    let none : serial ≡ 0 = sym (from_be_bytes-to_be_bytes_8 serial given.small) ∙ ap (from_be_bytes w64) (ap (drop 4) bytes) in
    let some = given.some in
    absurd (omega arith))

-- it is neither the current stateid nor the anonymous one
is_meant : (opens : Opens) (context : Context) (run serial seqid : ℕ) → IsGiven run serial
    → found opens context (open_stateid run serial seqid) ≡ by_open context (open_stateid run serial seqid) (open_named opens context.run (other_of run serial))
unfolding found
is_meant opens context run serial seqid given =
    let special : bytes_eq (other_of run serial) zeros ≡ false = not_zeros run serial given in
    let state = open_stateid run serial seqid in
    let current : is_current state ≡ false = ap (λ b. (seqid == 1) && b) special ∙ and_false (seqid == 1) in
    let anonymous : is_anonymous state ≡ false = ap (λ b. (seqid == 0) && b) special ∙ and_false (seqid == 0) in
    ap (λ b. by_meaning opens context (if b then carried context.current else Some state)) current
    ∙ ap (λ b. if b then Anonymous else by_open context state (open_named opens context.run (other_of run serial))) anonymous

same_run : (run : ℕ) → bytes_eq (to_be_bytes w32 run) (to_be_bytes w32 run) ≡ true
same_run run = (bytes_eq-Decides (to_be_bytes w32 run) (to_be_bytes w32 run)).1 refl

serial_is : (run serial : ℕ) → IsGiven run serial → from_be_bytes w64 (drop 4 (other_of run serial)) ≡ serial
serial_is run serial given = from_be_bytes-to_be_bytes_8 serial given.small

named : (opens : Opens) (run serial : ℕ) → IsGiven run serial → open_named opens run (other_of run serial) ≡ at serial opens.known
named opens run serial given =
    let mine : bytes_eq (take 4 (other_of run serial)) (to_be_bytes w32 run) ≡ true = same_run run in
    rw mine (ap (λ key. at key opens.known) (serial_is run serial given))

id_context : (opens : Opens) (context : Context) (serial seqid : ℕ) (known : Open) → OpenStands opens context serial known
    → found opens context (open_stateid context.run serial seqid) ≡ by_open context (open_stateid context.run serial seqid) (Some known)
id_context opens context serial seqid known stands =
    is_meant opens context context.run serial seqid stands.given
    ∙ ap (by_open context (open_stateid context.run serial seqid)) (named opens context.run serial stands.given ∙ stands.there)

own_test : (context : Context) (known : Open) → IsOwn context known
    → (known.client == context.client && known.number == current_number context) ≡ true
own_test context known own =
    rw (eq-eqb known.client context.client own.client, eq-eqb known.number (current_number context) own.file) refl

pub own : (opens : Opens) (context : Context) (serial seqid : ℕ) (known : Open) → OpenStands opens context serial known → IsOwn context known
    → found opens context (open_stateid context.run serial seqid) ≡ by_seqid (open_stateid context.run serial seqid) known
own opens context serial seqid known stands mine =
    id_context opens context serial seqid known stands
    ∙ ap (λ b. if b then by_seqid (open_stateid context.run serial seqid) known else Refused status.BadStateId) (own_test context known mine)

-- The verdicts

or_true : (a : Bool) → (a || true) ≡ true
or_true true = refl
or_true false = refl

pub newest : NewestIsFound
newest opens context serial known stands mine =
    let same : (known.seqid == known.seqid) ≡ true = eq-eqb known.seqid known.seqid refl in
    own opens context serial known.seqid known stands mine
    ∙ (ap (λ b. if b then Names (from_be_bytes w64 (drop 4 (other_of context.run serial))) known
    else (if nat_lt known.seqid known.seqid then Refused status.OldStateId else Refused status.BadStateId))
    (ap (λ b. (known.seqid == 0) || b) same ∙ or_true (known.seqid == 0))
    ∙ ap (λ n. Names n known) (serial_is context.run serial stands.given))

pub lower : LowerIsOld
lower opens context serial known stands mine seqid some low =
    let apart : seqid ≢ known.seqid = omega arith in
    let not_any : seqid ≢ 0 = omega arith in
    own opens context serial seqid known stands mine
    ∙ rw (ne_eqb seqid 0 not_any, ne_eqb seqid known.seqid apart, lt-ltb seqid known.seqid low) refl

pub joined_old : JoinedIsOld
joined_old opens context serial access known stands mine some room =
    let apart : known.seqid ≢ 2 ^ 32 - 1 = omega arith in
    let next : next_seqid known.seqid ≡ known.seqid + 1 = rw (ne_eqb known.seqid (2 ^ 32 - 1) apart) refl in
    lower opens context serial (upgraded access known) stands (record { client = mine.client; file = mine.file }) known.seqid some
    (let same = next in omega arith)

not_own_test : (a b : Bool) → (a ≡ false) ⊎ (b ≡ false) → (a && b) ≡ false
not_own_test a b (inl first) = rw first refl
not_own_test a b (inr second) = rw second (and_false a)

pub not_own : NotOwnIsBad
not_own opens context serial known stands other seqid =
    id_context opens context serial seqid known stands
    ∙ ap (λ b. if b then by_seqid (open_stateid context.run serial seqid) known else Refused status.BadStateId)
    (not_own_test (known.client == context.client) (known.number == current_number context) (tests other))
  where
    tests : (known.client ≢ context.client) ⊎ (known.number ≢ current_number context)
        → ((known.client == context.client) ≡ false) ⊎ ((known.number == current_number context) ≡ false)
    tests (inl client) = inl (ne_eqb known.client context.client client)
    tests (inr file) = inr (ne_eqb known.number (current_number context) file)

pub other_run : OtherRunIsBad
other_run opens context run serial seqid given small apart =
    let foreign : bytes_eq (to_be_bytes w32 run) (to_be_bytes w32 context.run) ≡ false
    = false_from_ne_true (bytes_eq (to_be_bytes w32 run) (to_be_bytes w32 context.run)) (λ same.
    let bytes : to_be_bytes w32 run ≡ to_be_bytes w32 context.run
    = (bytes_eq-Decides (to_be_bytes w32 run) (to_be_bytes w32 context.run)).0 same in
    apart (sym (from_be_bytes-to_be_bytes_4 run given.counted) ∙ (ap (from_be_bytes w32) bytes ∙ from_be_bytes-to_be_bytes_4 context.run small))) in
    let none : open_named opens context.run (other_of run serial) ≡ None = rw foreign refl in
    is_meant opens context run serial seqid given ∙ ap (by_open context (open_stateid run serial seqid)) none

pub ended : EndedIsBad
ended opens context serial seqid given none =
    is_meant opens context context.run serial seqid given
    ∙ ap (by_open context (open_stateid context.run serial seqid)) (named opens context.run serial given ∙ none)

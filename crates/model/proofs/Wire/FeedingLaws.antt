-- Feeding a stream in pieces gives its records.
use Rattle.std.proofs.Common.{◌≡◌, ◌⊎◌, inl, inr, ℕ, zero, suc, ◌-◌, ◌<◌, ◌≤◌, ◌^◌, Bool, true, false, List, [], ◌∷◌, ◌++◌, length, take, drop, refl, sym, ap, subst, ◌∙◌, append_assoc, arith, cond}
use Rattle.std.specs.Prelude.{Option, Some, None}
use Rattle.std.proofs.lemmas.List.{append-nil, length-append, take_all}
use Rattle.std.proofs.lemmas.Bool.{cases_lt}
use Rattle.std.proofs.Math.Seq.{take-append_seam}
use Rattle.xdr.specs.Laws.{IsBytes}
use Rattle.model.specs.Wire.Record.{RecordLimits, RecordFault, Prefix, Partial, Refused, Whole, prefix, prefix_from, Stream, records, records_from, behind_prefix, fed, fed_by, IsSent, record_text, joined}
use Rattle.model.specs.Wire.Rpc.{read_call, is_call_read}
use Rattle.model.specs.Server.World.{Connection, Quiet, Waiting, Busy, Replied, Closed, arrived, arrives_at, taken_of, taken_at}
use Rattle.model.specs.Wire.Feeding.{FeedStep, Feeds, Releases, Feeding, nothing_fed, prefix_taken, let_go, gone, after_step, after_steps, AreBytes, IsRefusedBehind, IsFed, EveryFeeding}
use Rattle.model.proofs.Wire.RecordLaws.{records_by, fed_behind, every_fragmenting}
use Rattle.model.proofs.Wire.RecordOnly.{only_sent}

-- Bytes

append_bytes : (prefix rest : List ℕ) → IsBytes prefix → IsBytes rest → IsBytes (prefix ++ rest)
append_bytes [] rest prefix_are rest_are i = rest_are i
append_bytes (byte ∷ prefix) rest prefix_are rest_are zero = prefix_are zero
append_bytes (byte ∷ prefix) rest prefix_are rest_are (suc i) = append_bytes prefix rest (λ j. prefix_are (suc j)) rest_are i

-- The end of a record's bytes within the last piece

at_seam : (sent rest piece : List ℕ) → piece ≡ sent ++ rest → take (length piece - length rest) piece ≡ sent
at_seam sent rest piece is =
    let count : length (sent ++ rest) - length rest ≡ length sent = omega (arith, length-append sent rest) in
    ap (λ (p : List ℕ). take (length p - length rest) p) is
    ∙ (ap (λ (n : ℕ). take n (sent ++ rest)) count ∙ take-append_seam sent rest)

ends : (bytes piece sent rest : List ℕ) → bytes ++ piece ≡ sent ++ rest → length rest ≤ length piece
    → bytes ++ take (length piece - length rest) piece ≡ sent
ends [] piece sent rest same short = at_seam sent rest piece same
ends (byte ∷ bytes) piece [] rest same short =
    absurd (omega (arith, short, ap length same, length-append bytes piece))
ends (byte ∷ bytes) piece (first ∷ sent) rest same short =
    let head : byte ≡ first = ap (head_of 0) same in
    let tail : bytes ++ piece ≡ sent ++ rest = ap (drop 1) same in
    ap (λ (b : ℕ). b ∷ (bytes ++ take (length piece - length rest) piece)) head ∙ ap (λ (l : List ℕ). first ∷ l) (ends bytes piece sent rest tail short)
  where
    head_of : ℕ → List ℕ → ℕ
    head_of none [] = none
    head_of none (x ∷ xs) = x

-- the record ended earlier, if more bytes were left than the piece has
ended_before : (bytes piece sent rest : List ℕ) → bytes ++ piece ≡ sent ++ rest → length piece < length rest
    → (behind : List ℕ) × (bytes ≡ sent ++ behind)
ended_before bytes piece [] rest same long = (bytes, refl)
ended_before [] piece (first ∷ sent) rest same long =
    absurd (omega (arith, long, ap length same, length-append sent rest))
ended_before (byte ∷ bytes) piece (first ∷ sent) rest same long =
    let head : byte ≡ first = ap (head_of 0) same in
    let before = ended_before bytes piece sent rest (ap (drop 1) same) long in
    (before.0, ap (λ (b : ℕ). b ∷ bytes) head ∙ ap (λ (l : List ℕ). first ∷ l) before.1)
  where
    head_of : ℕ → List ℕ → ℕ
    head_of none [] = none
    head_of none (x ∷ xs) = x

module _ (limits : RecordLimits) (small : limits.bytes < 2 ^ 31) where
  -- what is sent is found at the start of whatever begins with it
  sent_prefix : (bytes one rest : List ℕ) (sent : IsSent limits bytes one rest) (behind : List ℕ)
      → prefix limits (record_text sent.earlier sent.last ++ behind) ≡ Whole one behind
  sent_prefix bytes one rest sent behind =
      let size : length (joined sent.earlier sent.last) ≤ limits.bytes = omega (arith, sent.size, ap length sent.whole) in
      every_fragmenting limits sent.earlier sent.last behind size (omega (arith, size, small)) sent.number
      ∙ ap (λ (r : List ℕ). Whole r behind) (sym sent.whole)

  partial_not : (one behind : List ℕ) → Whole one behind ≡ Partial → ⊥
  partial_not one behind same = cc

  -- the piece is taken up to the record's end
  whole_prefix : (bytes piece one rest : List ℕ) → IsBytes (bytes ++ piece) → prefix limits bytes ≡ Partial → prefix limits (bytes ++ piece) ≡ Whole one rest
      → prefix limits (bytes ++ take (length piece - length rest) piece) ≡ Whole one []
  whole_prefix bytes piece one rest are partial whole =
      by_length (only_sent limits (bytes ++ piece) one rest are whole) (cases_lt (length piece) (length rest))
    where
      by_length : IsSent limits (bytes ++ piece) one rest → (length piece < length rest) ⊎ (length rest ≤ length piece)
          → prefix limits (bytes ++ take (length piece - length rest) piece) ≡ Whole one []
      by_length sent (inr short) =
          let text = record_text sent.earlier sent.last in
          let cut : bytes ++ take (length piece - length rest) piece ≡ text ++ [] = ends bytes piece text rest sent.sent short ∙ sym (append-nil text) in
          ap (prefix limits) cut ∙ sent_prefix (bytes ++ piece) one rest sent []
      by_length sent (inl long) =
          let before = ended_before bytes piece (record_text sent.earlier sent.last) rest sent.sent long in
          absurd (partial_not one before.0 (sym (ap (prefix limits) before.1 ∙ sent_prefix (bytes ++ piece) one rest sent before.0) ∙ partial))

  -- What is kept from step to step: the law, and that the next record's bytes are part of one

  abbrev IsOpen : Connection → Type 0
  IsOpen (Quiet bytes) = (prefix limits bytes ≡ Partial) × IsBytes bytes
  IsOpen connection = Unit {0}

  abbrev Keeps : Connection → (taken : List ℕ) → (released : List (List ℕ)) → Type 0
  Keeps connection taken released = IsFed limits connection taken released × IsOpen connection

  abbrev stream_of : List (List ℕ) → List ℕ → Option RecordFault → Stream
  stream_of all rest fault = record { records = all; rest = rest; fault = fault }

  -- the records of the bytes with a piece after them
  further : (bytes taken : List ℕ) (released : List (List ℕ)) (piece : List ℕ) → records limits taken ≡ stream_of released bytes None
      → (this : Prefix) → prefix limits (bytes ++ piece) ≡ this
      → records limits (taken ++ piece) ≡ fed_by limits piece (stream_of released bytes None) None
      × (records limits (bytes ++ piece) ≡ behind_prefix (records limits) (bytes ++ piece) this)
  further bytes taken released piece is this prefix_is = (
    fed_behind limits (length taken) taken piece (omega arith) ∙ ap (λ (s : Stream). fed limits s piece) is,
    records_by limits (length (bytes ++ piece)) (bytes ++ piece) (omega arith) ∙ ap (behind_prefix (records limits) (bytes ++ piece)) prefix_is,
  )

  abbrev joined_to : List (List ℕ) → Stream → Stream
  joined_to released more = record more { records = released ++ more.records }

  joins : (bytes taken : List ℕ) (released : List (List ℕ)) (piece : List ℕ) → records limits taken ≡ stream_of released bytes None
      → (this : Prefix) → prefix limits (bytes ++ piece) ≡ this
      → records limits (taken ++ piece) ≡ joined_to released (behind_prefix (records limits) (bytes ++ piece) this)
  joins bytes taken released piece is this prefix_is =
      let both = further bytes taken released piece is this prefix_is in
      both.0 ∙ ap (joined_to released) both.1

  whole_feeds : (bytes taken : List ℕ) (released : List (List ℕ)) (piece one rest : List ℕ) → IsBytes bytes → IsBytes piece
      → prefix limits bytes ≡ Partial → records limits taken ≡ stream_of released bytes None → prefix limits (bytes ++ piece) ≡ Whole one rest
      → (is_call : Bool) → is_call_read (read_call one) ≡ is_call
      → Keeps (cond is_call (Waiting one) Closed)
      (taken ++ prefix_taken piece (taken_of piece (Whole one rest) (cond is_call (Waiting one) Closed))) released
  unfolding records_from
  whole_feeds bytes taken released piece one rest bytes_are piece_are partial is whole true call =
      let prefix_is = whole_prefix bytes piece one rest (append_bytes bytes piece bytes_are piece_are) partial whole in
      (joins bytes taken released (take (length piece - length rest) piece) is (Whole one []) prefix_is, tt)
  whole_feeds bytes taken released piece one rest bytes_are piece_are partial is whole false no_call =
      let all = joins bytes taken released piece is (Whole one rest) whole in (
        record {
          more = one ∷ (records limits rest).records;
          behind = ap (λ (s : Stream). s.records) all;
          why = inr (one, (records limits rest).records, refl, no_call);
        },
        tt,
      )

  quiet_feeds : (bytes taken : List ℕ) (released : List (List ℕ)) (piece : List ℕ) → IsBytes bytes → IsBytes piece
      → prefix limits bytes ≡ Partial → records limits taken ≡ stream_of released bytes None → (this : Prefix) → prefix limits (bytes ++ piece) ≡ this
      → Keeps (arrived (bytes ++ piece) this) (taken ++ prefix_taken piece (taken_of piece this (arrived (bytes ++ piece) this))) released
  quiet_feeds bytes taken released piece bytes_are piece_are partial is Partial prefix_is =
      let all = joins bytes taken released piece is Partial prefix_is in
      let none : stream_of (released ++ []) (bytes ++ piece) None ≡ stream_of released (bytes ++ piece) None =
      ap (λ (l : List (List ℕ)). stream_of l (bytes ++ piece) None) (append-nil released) in
      let whole_piece : take (length piece) piece ≡ piece = take_all (length piece) piece (omega arith) in
      (ap (λ (p : List ℕ). records limits (taken ++ p)) whole_piece ∙ (all ∙ none), (prefix_is, append_bytes bytes piece bytes_are piece_are))
  quiet_feeds bytes taken released piece bytes_are piece_are partial is (Refused fault) prefix_is =
      let all = joins bytes taken released piece is (Refused fault) prefix_is in (
        record {
          more = [];
          behind = ap (λ (s : Stream). s.records) all;
          why = inl (fault, ap (λ (s : Stream). s.fault) all, refl);
        },
        tt,
      )
  quiet_feeds bytes taken released piece bytes_are piece_are partial is (Whole one rest) prefix_is =
      whole_feeds bytes taken released piece one rest bytes_are piece_are partial is prefix_is (is_call_read (read_call one)) refl

  -- what is refused stays so

  stays_refused : (stream : Stream) (released : List (List ℕ)) (piece : List ℕ) (fault : Option RecordFault) → stream.fault ≡ fault
      → IsRefusedBehind stream released → IsRefusedBehind (fed_by limits piece stream fault) released
  stays_refused stream released piece (Some fault) is refused = refused
  stays_refused stream released piece None is refused = by_reason refused.why
    where
      no_fault : (fault : RecordFault) → None ≡ Some fault → ⊥
      no_fault fault same = cc

      later : List (List ℕ)
      later = (records limits (stream.rest ++ piece)).records

      by_reason : ((fault : RecordFault) × (stream.fault ≡ Some fault) × (refused.more ≡ []))
          ⊎ ((request : List ℕ) × (rest : List (List ℕ)) × (refused.more ≡ request ∷ rest) × (is_call_read (read_call request) ≡ false))
          → IsRefusedBehind (fed_by limits piece stream None) released
      by_reason (inl why) = absurd (no_fault why.0 (sym is ∙ why.1))
      by_reason (inr why) = record {
        more = refused.more ++ (records limits (stream.rest ++ piece)).records;
        behind = ap (λ (l : List (List ℕ)). l ++ (records limits (stream.rest ++ piece)).records) refused.behind
            ∙ append_assoc released refused.more (records limits (stream.rest ++ piece)).records;
        why = inr (
          why.0,
          why.1 ++ (records limits (stream.rest ++ piece)).records,
          ap (λ (l : List (List ℕ)). l ++ (records limits (stream.rest ++ piece)).records) why.2,
          why.3,
        );
      }

  feeds : (connection : Connection) (taken : List ℕ) (released : List (List ℕ)) (piece : List ℕ) → IsBytes piece → Keeps connection taken released
      → Keeps (arrives_at limits piece connection) (taken ++ prefix_taken piece (taken_at limits piece connection)) released
  unfolding taken_at
  feeds (Quiet bytes) taken released piece piece_are keeps =
      quiet_feeds bytes taken released piece keeps.1.1 piece_are keeps.1.0 keeps.0 (prefix limits (bytes ++ piece)) refl
  feeds (Waiting request) taken released piece piece_are keeps = (ap (records limits) (append-nil taken) ∙ keeps.0, tt)
  feeds Closed taken released piece piece_are keeps = (
    subst (λ (s : Stream). IsRefusedBehind s released) (sym (fed_behind limits (length taken) taken piece (omega arith)))
        (stays_refused (records limits taken) released piece (records limits taken).fault refl keeps.0),
    tt,
  )
  feeds (Busy request) taken released piece piece_are keeps = absurd keeps.0
  feeds (Replied reply) taken released piece piece_are keeps = absurd keeps.0

  releases : (connection : Connection) (taken : List ℕ) (released : List (List ℕ)) → Keeps connection taken released
      → Keeps (let_go connection) taken (released ++ gone connection)
  unfolding prefix_from
  releases (Quiet bytes) taken released keeps = subst (Keeps (Quiet bytes) taken) (sym (append-nil released)) keeps
  releases (Waiting request) taken released keeps = (keeps.0, (refl, λ i. omega arith))
  releases Closed taken released keeps = subst (Keeps Closed taken) (sym (append-nil released)) keeps
  releases (Busy request) taken released keeps = absurd keeps.0
  releases (Replied reply) taken released keeps = absurd keeps.0

  each_step : (feeding : Feeding) (steps : List FeedStep) → AreBytes steps → Keeps feeding.connection feeding.taken feeding.released
      → IsFed limits (after_steps limits feeding steps).connection (after_steps limits feeding steps).taken (after_steps limits feeding steps).released
  each_step feeding [] are keeps = keeps.0
  each_step feeding (Feeds piece ∷ steps) are keeps =
      each_step (after_step limits feeding (Feeds piece)) steps are.1 (feeds feeding.connection feeding.taken feeding.released piece are.0 keeps)
  each_step feeding (Releases ∷ steps) are keeps =
      each_step (after_step limits feeding Releases) steps are (releases feeding.connection feeding.taken feeding.released keeps)

  begins : Keeps (Quiet []) [] []
  unfolding prefix_from records_from
  begins = (refl, (refl, λ i. omega arith))

pub every_feeding : EveryFeeding
every_feeding limits steps small are = each_step limits small nothing_fed steps are (begins limits small)

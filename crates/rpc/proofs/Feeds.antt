-- What a piece does to a connection.
use Rattle.std.proofs.Common.{◌≡◌, ℕ, ◌≤◌, Bool, true, false, cond, List, [], ◌++◌, length, drop, Some, None, refl, ap, sym, ◌∙◌, arith}
use Rattle.model.specs.Wire.Record.{Prefix, Partial, Refused, Whole, prefix, prefix_from}
use Rattle.model.specs.Wire.Rpc.{read_call, is_call_read}
use Rattle.model.specs.Server.World.{Waiting, Closed, arrived, arrives_at, taken_of, taken_at}
use Rattle.rpc.specs.declared.fault.RecordFault.{RecordFault}
use Rattle.rpc.specs.declared.fault.RecordFault.TheVariants as faults
use Rattle.rpc.specs.declared.receive.Progress.TheVariants as progress
use Rattle.rpc.specs.declared.state.State.TheVariants as states
use Rattle.rpc.specs.Assembly.{record_limits, max_received, IsSoundBuffer, Assembly, Gathers, Holds, Refuses, connection_of, fault_in, fault_at, is_partial, RefusesPiece, Receives}

pub nothing_yet : is_partial (prefix record_limits []) ≡ true
unfolding prefix_from
nothing_yet = refl

-- an empty buffer that has room
pub stands_empty : (bytes : List ℕ) (spare : ℕ) → bytes ≡ [] → max_received ≤ spare → IsSoundBuffer states.Gathers bytes spare
stands_empty bytes spare is room = record {
  sound = ap (λ (all : List ℕ). is_partial (prefix record_limits all)) is ∙ nothing_yet;
  within = _;
  room = omega arith;
}

partial_in : (f : Prefix) → is_partial f ≡ true → f ≡ Partial
partial_in Partial is = refl
partial_in (Refused fault) is = absurd cc
partial_in (Whole request rest) is = absurd cc

pub partial : (bytes : List ℕ) → is_partial (prefix record_limits bytes) ≡ true → prefix record_limits bytes ≡ Partial
partial bytes is = partial_in (prefix record_limits bytes) is

-- The bytes that are taken

pub more_taken : (old : Assembly) (bytes piece new : List ℕ) → old ≡ Gathers bytes → Receives bytes piece progress.More new → taken_at record_limits piece (connection_of old) ≡ Some (length piece)
unfolding taken_at
more_taken old bytes piece new is r =
    ap (λ (a : Assembly). taken_at record_limits piece (connection_of a)) is
    ∙ ap (λ (f : Prefix). taken_of piece f (arrived (bytes ++ piece) f)) r.0

pub whole_taken : (old : Assembly) (bytes piece new : List ℕ) (n start : ℕ) → old ≡ Gathers bytes → Receives bytes piece (progress.Whole n start) new → taken_at record_limits piece (connection_of old) ≡ Some n
unfolding taken_at
whole_taken old bytes piece new n start is r =
    ap (λ (a : Assembly). taken_at record_limits piece (connection_of a)) is
    ∙ ap (λ (f : Prefix). taken_of piece f (arrived (bytes ++ piece) f)) r.1
    ∙ ap (λ (b : Bool). taken_of piece (Whole (drop start new) r.0) (cond b (Waiting (drop start new)) Closed)) r.3
    ∙ ap Some (sym r.2)

pub none_taken : (old : Assembly) (request piece : List ℕ) → old ≡ Holds request → taken_at record_limits piece (connection_of old) ≡ Some 0
unfolding taken_at
none_taken old request piece is = ap (λ (a : Assembly). taken_at record_limits piece (connection_of a)) is

-- Refusals

closes_by : (b : Bool) (request : List ℕ) (fault : RecordFault) → cond b None (Some faults.NotACall) ≡ Some fault → cond b (Waiting request) Closed ≡ Closed
closes_by true request fault is = absurd cc
closes_by false request fault is = refl

closes : (all : List ℕ) (f : Prefix) (fault : RecordFault) → fault_in f ≡ Some fault → arrived all f ≡ Closed
closes all Partial fault is = absurd cc
closes all (Refused why) fault is = refl
closes all (Whole request rest) fault is = closes_by (is_call_read (read_call request)) request fault is

none_by : (piece : List ℕ) (f : Prefix) → taken_of piece f Closed ≡ None
none_by piece Partial = refl
none_by piece (Refused why) = refl
none_by piece (Whole request rest) = refl

pub refused_by : (old : Assembly) (bytes piece : List ℕ) (fault : RecordFault) → old ≡ Gathers bytes → fault_in (prefix record_limits (bytes ++ piece)) ≡ Some fault → RefusesPiece piece old (Refuses fault) fault
unfolding taken_at
refused_by old bytes piece fault is why =
    let shut : arrived (bytes ++ piece) (prefix record_limits (bytes ++ piece)) ≡ Closed = closes (bytes ++ piece) (prefix record_limits (bytes ++ piece)) fault why in
    record {
      reason = ap (fault_at piece) is ∙ why;
      lasts = refl;
      none_taken = ap (λ (a : Assembly). taken_at record_limits piece (connection_of a)) is
          ∙ ap (taken_of piece (prefix record_limits (bytes ++ piece))) shut
          ∙ none_by piece (prefix record_limits (bytes ++ piece));
      closes = ap (λ (a : Assembly). arrives_at record_limits piece (connection_of a)) is ∙ shut;
    }

pub refused_before : (old : Assembly) (piece : List ℕ) (fault : RecordFault) → old ≡ Refuses fault → RefusesPiece piece old (Refuses fault) fault
unfolding taken_at
refused_before old piece fault is = record {
  reason = ap (fault_at piece) is;
  lasts = refl;
  none_taken = ap (λ (a : Assembly). taken_at record_limits piece (connection_of a)) is;
  closes = ap (λ (a : Assembly). arrives_at record_limits piece (connection_of a)) is;
}

-- The end of a record: after what had come before, and at the end of what is taken of the piece.
use Rattle.std.proofs.Common.{◌≡◌, ℕ, ◌+◌, ◌-◌, ◌<◌, ◌≤◌, inl, inr, true, List, [], ◌++◌, length, take, drop, Some, None, cond, refl, ap, sym, subst, ◌∙◌, arith}
use Rattle.std.proofs.lemmas.List.{length-append, length-drop, take-append-le, take_all, take_at, take-append-drop, append-nil, get_or_append_left, get_or-append_right}
use Rattle.std.proofs.lemmas.Bool.{cases_lt}
use Rattle.std.proofs.Math.Seq.{take-append-add}
use Rattle.xdr.specs.Laws.{IsBytes}
use Rattle.model.specs.Wire.Record.{Partial, Refused, Whole, Prefix, prefix, record_text, joined, IsSent}
use Rattle.model.specs.Wire.Rpc.{CallRead, NoCall, read_call, is_call_read}
use Rattle.model.proofs.Wire.RecordLaws.{every_fragmenting}
use Rattle.model.proofs.Wire.RecordOnly.{only_sent}
use Rattle.rpc.specs.declared.call.CallRead as code
use Rattle.rpc.specs.declared.call.CallRead.TheVariants as reads
use Rattle.rpc.specs.declared.fault.RecordFault.TheVariants as faults
use Rattle.rpc.specs.declared.scan.Scan.TheVariants as scans
use Rattle.rpc.specs.Assembly.{record_limits, scan_of, fault_in}
use Rattle.rpc.specs.Views.{call_read_view}

pub bytes_append : (old piece : List ℕ) → IsBytes old → IsBytes piece → IsBytes (old ++ piece)
bytes_append old piece first second = λ i.
    elim (cases_lt i (length old)) [
      | inl below ↦ subst (λ (n : ℕ). n < 256) (sym (get_or_append_left old piece 0 i below)) (first i)
      | inr above ↦ subst (λ (n : ℕ). n < 256) (sym (get_or-append_right old piece (length old) i 0 refl above)) (second (i - length old))
    ]

pub record Ended (old piece rest : List ℕ) (request : List ℕ) : Type 0 where
  pub behind : length old + length rest ≤ length (old ++ piece)
  pub whole : prefix record_limits (old ++ take (length (old ++ piece) - length rest - length old) piece) ≡ Whole request []

-- a record with this text is read whole, whatever follows
sent_again : (bytes request rest more : List ℕ) → (s : IsSent record_limits bytes request rest) → prefix record_limits (record_text s.earlier s.last ++ more) ≡ Whole request more
sent_again bytes request rest more s =
    let size : length request ≤ 16384 = s.size in
    let same : length (joined s.earlier s.last) ≡ length request = ap length (sym s.whole) in
    every_fragmenting record_limits s.earlier s.last more (omega arith) (omega arith) s.number ∙ ap (λ (one : List ℕ). Whole one more) (sym s.whole)

pub ended : (old piece request rest : List ℕ) → IsBytes (old ++ piece) → prefix record_limits old ≡ Partial → prefix record_limits (old ++ piece) ≡ Whole request rest → Ended old piece rest request
ended old piece request rest are partial e =
    let s = only_sent record_limits (old ++ piece) request rest are e in
    let text = record_text s.earlier s.last in
    let sent : old ++ piece ≡ text ++ rest = s.sent in
    let whole_length : length (old ++ piece) ≡ length text + length rest = ap length sent ∙ length-append text rest in
    elim (cases_lt (length old) (length text)) [
      | inl below ↦
          let n = length (old ++ piece) - length rest - length old in
          let sum : length old + n ≡ length text = omega arith in
          let is : old ++ take n piece ≡ text =
          sym (take-append-add old piece n) ∙ ap (λ (m : ℕ). take m (old ++ piece)) sum ∙ ap (take (length text)) sent ∙ take_at text rest (length text) refl in
          record {
            behind = omega arith;
            whole = ap (prefix record_limits) (is ∙ sym (append-nil text)) ∙ sent_again (old ++ piece) request rest [] s;
          }
      | inr above ↦
          let more = drop (length text) old in
          let is : text ≡ take (length text) old =
          sym (take_at text rest (length text) refl) ∙ ap (take (length text)) (sym sent) ∙ take-append-le (length text) old piece above in
          let all : text ++ more ≡ old = ap (λ (one : List ℕ). one ++ more) is ∙ take-append-drop (length text) old in
          let never : Partial ≡ Whole request more = sym partial ∙ ap (prefix record_limits) (sym all) ∙ sent_again (old ++ piece) request rest more s in
          absurd cc
    ]

-- what a search that found an end has found
pub record Found (bytes : List ℕ) (end : ℕ) : Type 0 where
  pub request : List ℕ
  pub rest : List ℕ
  pub is : prefix record_limits bytes ≡ Whole request rest
  pub at : end ≡ length bytes - length rest

found_in : (bytes : List ℕ) (end : ℕ) (prefix_is : Prefix) → prefix record_limits bytes ≡ prefix_is → scans.Whole end ≡ scan_of bytes prefix_is → Found bytes end
found_in bytes end Partial e is = absurd cc
found_in bytes end (Refused fault) e is = absurd cc
found_in bytes end (Whole request rest) e is = record { request = request; rest = rest; is = e; at = cc }

pub found : (bytes : List ℕ) (end : ℕ) → scans.Whole end ≡ scan_of bytes (prefix record_limits bytes) → Found bytes end
found bytes end is = found_in bytes end (prefix record_limits bytes) refl is

partial_in : (bytes : List ℕ) (prefix_is : Prefix) → scans.Partial ≡ scan_of bytes prefix_is → prefix_is ≡ Partial
partial_in bytes Partial is = refl
partial_in bytes (Refused fault) is = absurd cc
partial_in bytes (Whole request rest) is = absurd cc

-- a search that found no end, if the bytes before were read through a reference
pub partial_by : (old read piece : List ℕ) → read ≡ old → scans.Partial ≡ scan_of (read ++ piece) (prefix record_limits (read ++ piece)) → prefix record_limits (old ++ piece) ≡ Partial
partial_by old read piece same is =
    partial_in (old ++ piece) (prefix record_limits (old ++ piece))
    (subst (λ (all : List ℕ). scans.Partial ≡ scan_of (all ++ piece) (prefix record_limits (all ++ piece))) same is)

-- the whole record, up to this place, and what it holds
pub record Taken (old piece : List ℕ) (end : ℕ) : Type 0 where
  pub request : List ℕ
  pub rest : List ℕ
  pub is : prefix record_limits (old ++ piece) ≡ Whole request rest
  pub behind : length old ≤ end
  pub within : end - length old ≤ length piece
  pub count : end - length old ≡ length piece - length rest
  pub whole : prefix record_limits (old ++ take (end - length old) piece) ≡ Whole request []

pub taken : (old piece : List ℕ) (end : ℕ) → IsBytes old → IsBytes piece → prefix record_limits old ≡ Partial → scans.Whole end ≡ scan_of (old ++ piece) (prefix record_limits (old ++ piece)) → Taken old piece end
taken old piece end old_are piece_are partial is =
    let f = found (old ++ piece) end is in
    let e = ended old piece f.request f.rest (bytes_append old piece old_are piece_are) partial f.is in
    let behind = e.behind in
    let at = f.at in
    let both = length-append old piece in
    record {
      request = f.request;
      rest = f.rest;
      is = f.is;
      behind = omega arith;
      within = omega arith;
      count = omega arith;
      whole = ap (λ (n : ℕ). prefix record_limits (old ++ take (n - length old) piece)) at ∙ e.whole;
    }

-- the same, if the bytes before were read through a reference
pub taken_by : (old read piece : List ℕ) (end : ℕ) → read ≡ old → IsBytes read → IsBytes piece → prefix record_limits old ≡ Partial → scans.Whole end ≡ scan_of (read ++ piece) (prefix record_limits (read ++ piece))
    → Taken old piece end
taken_by old read piece end same read_are piece_are partial is =
    taken old piece end (subst IsBytes same read_are) piece_are partial
    (subst (λ (all : List ℕ). scans.Whole end ≡ scan_of (all ++ piece) (prefix record_limits (all ++ piece))) same is)

-- what is left after the prefix of the piece, and when it is whole
pub whole_there : (old piece after : List ℕ) (end len : ℕ) → (t : Taken old piece end) → len ≡ length old → after ≡ old ++ take (end - len) piece → prefix record_limits after ≡ Whole t.request []
whole_there old piece after end len t len_is after_is =
    ap (prefix record_limits) (after_is ∙ ap (λ (n : ℕ). old ++ take (end - n) piece) len_is) ∙ t.whole

pub same_request : (after request left : List ℕ) → prefix record_limits after ≡ Whole request [] → prefix record_limits after ≡ Whole left [] → request ≡ left
same_request after request left e f = let both : Whole request [] ≡ Whole left [] = sym e ∙ f in cc

-- a record that is read is a call
pub is_call : (request : List ℕ) (read : code.CallRead) → read_call request ≡ call_read_view read → is_call_read (read_call request) ≡ true
is_call request (reads.OtherVersion xid) is = ap is_call_read is
is_call request (reads.Calls call) is = ap is_call_read is

pub no_call : (bytes request rest : List ℕ) → prefix record_limits bytes ≡ Whole request rest → read_call request ≡ NoCall → fault_in (prefix record_limits bytes) ≡ Some faults.NotACall
no_call bytes request rest is none =
    ap fault_in is ∙ ap (λ (read : CallRead). cond (is_call_read read) None (Some faults.NotACall)) none

-- a slice from a place on, as it is taken
pub from_place : (bytes : List ℕ) (start : ℕ) → take (length bytes - start) (drop start bytes) ≡ drop start bytes
from_place bytes start = take_all (length bytes - start) (drop start bytes) (omega (arith, length-drop start bytes))

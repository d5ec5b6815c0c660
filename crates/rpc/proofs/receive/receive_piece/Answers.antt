use Rattle.std.proofs.Common.{◌≡◌, ◌-◌, ◌++◌, true, List, ℕ, drop, ap, sym, ◌∙◌, arith}
use Rattle.model.specs.Wire.Record.{Whole}
use Rattle.model.specs.Wire.Rpc.{read_call, is_call_read, NoCall}
use Rattle.rpc.proofs.Ends.{taken_by, partial_by, whole_there, same_request, is_call, no_call, from_place}
use Rattle.rpc.proofs.Rooms.{room_for_piece, room_for_prefix}
use Rattle.rpc.proofs.receive.receive_piece.Goals as goal

pub overflow_sub-taken : goal.overflow_sub-taken
overflow_sub-taken c =
    let t = taken_by c.args.bytes.now.items c.deref.result.now c.args.piece.now c.in-Whole.end c.deref.ensures c.scan_record.ensures.old_bytes c.scan_record.ensures.piece_bytes c.requires.partial c.in-Whole.ensures.end in
    let behind = t.behind in
    omega arith

pub drop_headers-start-requires : goal.drop_headers-start-requires
drop_headers-start-requires c =
    let old = c.args.bytes.now.items in
    let t = taken_by old c.deref.result.now c.args.piece.now c.in-Whole.end c.deref.ensures c.scan_record.ensures.old_bytes c.scan_record.ensures.piece_bytes c.requires.partial c.in-Whole.ensures.end in
    (t.request, whole_there old c.args.piece.now c.extend_reserved-in-Whole.new.self.items c.in-Whole.end c.len.result t c.len.ensures.value c.extend_reserved-in-Whole.ensures.items)

pub extend_reserved-requires : goal.extend_reserved-requires
extend_reserved-requires c =
    let old = c.args.bytes.now.items in
    room_for_piece old c.args.piece.now c.args.bytes.now.spare (partial_by old c.deref.result.now c.args.piece.now c.deref.ensures c.in-Partial.ensures.end) c.requires.room

pub extend_reserved-requires-in-Whole : goal.extend_reserved-requires-in-Whole
extend_reserved-requires-in-Whole c =
    let old = c.args.bytes.now.items in
    let t = taken_by old c.deref.result.now c.args.piece.now c.in-Whole.end c.deref.ensures c.scan_record.ensures.old_bytes c.scan_record.ensures.piece_bytes c.requires.partial c.in-Whole.ensures.end in
    let count = t.count in
    let len = c.len.ensures.value in
    room_for_prefix old c.args.piece.now t.rest t.request (c.in-Whole.end - c.len.result) c.args.bytes.now.spare t.is c.requires.room (omega arith)

pub returns-in-Ok-clause-received : goal.returns-in-Ok-clause-received
returns-in-Ok-clause-received c =
    let old = c.args.bytes.now.items in
    let piece = c.args.piece.now in
    let t = taken_by old c.deref.result.now piece c.in-Whole.end c.deref.ensures c.scan_record.ensures.old_bytes c.scan_record.ensures.piece_bytes c.requires.partial c.in-Whole.ensures.end in
    let after = c.extend_reserved-in-Whole.new.self.items in
    let start = c.drop_headers-start.result in
    let left = drop start c.drop_headers-start.new.bytes.items in
    let whole = whole_there old piece after c.in-Whole.end c.len.result t c.len.ensures.value c.extend_reserved-in-Whole.ensures.items in
    let same : t.request ≡ left = same_request after t.request left whole c.drop_headers-start.ensures.request in
    let count = t.count in
    let len = c.len.ensures.value in
    let read = drop start c.deref-in-Whole.result.now in
    let call : is_call_read (read_call read) ≡ true = is_call read c.in-Ok.field-0 (ap read_call (sym (from_place c.deref-in-Whole.result.now start)) ∙ c.in-Ok.ensures.read) in (
      t.rest,
      t.is ∙ ap (λ (request : List ℕ). Whole request t.rest) same,
      omega arith,
      ap (λ (bytes : List ℕ). is_call_read (read_call (drop start bytes))) (sym c.deref-in-Whole.ensures) ∙ call,
      c.drop_headers-start.ensures.within,
    )

pub returns-in-Err-clause-received : goal.returns-in-Err-clause-received
returns-in-Err-clause-received c =
    let old = c.args.bytes.now.items in
    let piece = c.args.piece.now in
    let t = taken_by old c.deref.result.now piece c.in-Whole.end c.deref.ensures c.scan_record.ensures.old_bytes c.scan_record.ensures.piece_bytes c.requires.partial c.in-Whole.ensures.end in
    let after = c.extend_reserved-in-Whole.new.self.items in
    let start = c.drop_headers-start.result in
    let left = drop start c.drop_headers-start.new.bytes.items in
    let whole = whole_there old piece after c.in-Whole.end c.len.result t c.len.ensures.value c.extend_reserved-in-Whole.ensures.items in
    let same : t.request ≡ left = same_request after t.request left whole c.drop_headers-start.ensures.request in
    let read = drop start c.deref-in-Whole.result.now in
    let none : read_call read ≡ NoCall = ap read_call (sym (from_place c.deref-in-Whole.result.now start)) ∙ c.in-Err.ensures.read.0 in
    no_call (old ++ piece) t.request t.rest t.is (ap read_call (same ∙ ap (drop start) (sym c.deref-in-Whole.ensures)) ∙ none)

use Rattle.std.proofs.Common.{◌≤◌, ◌<◌, ◌+◌, ◌%◌, ◌^◌, ◌++◌, drop, length, refl, arith}
use Rattle.std.proofs.lemmas.List.{length-append, length-drop}
use Rattle.rpc.proofs.Fragments.{waits, refuses_size, refuses_number, waits_body, brings}
use Rattle.rpc.proofs.fragment.fragment_at.Goals as goal

pub returns-then-left-lt-HEADER_BYTES : goal.returns-then-left-lt-HEADER_BYTES
returns-then-left-lt-HEADER_BYTES c = λ gathered size number.
    let all = c.args.old.now ++ c.args.piece.now in
    let left = length-drop c.args.place.at all in
    let both = length-append c.args.old.now c.args.piece.now in
    waits gathered (drop c.args.place.at all) (omega arith)

pub returns-then-place-size-gt-MAX_RECORD_BYTES : goal.returns-then-place-size-gt-MAX_RECORD_BYTES
returns-then-place-size-gt-MAX_RECORD_BYTES c = λ gathered size number.
    let all = c.args.old.now ++ c.args.piece.now in
    let left = length-drop c.args.place.at all in
    let both = length-append c.args.old.now c.args.piece.now in
    let long : 4 ≤ length (drop c.args.place.at all) = omega arith in
    (long, refuses_size gathered (drop c.args.place.at all) c.header_at-header.result long c.header_at-header.ensures (omega arith))

pub returns-then-place-ge-MAX_FRAGMENTS : goal.returns-then-place-ge-MAX_FRAGMENTS
returns-then-place-ge-MAX_FRAGMENTS c = λ gathered size number.
    let all = c.args.old.now ++ c.args.piece.now in
    let left = length-drop c.args.place.at all in
    let both = length-append c.args.old.now c.args.piece.now in
    let long : 4 ≤ length (drop c.args.place.at all) = omega arith in
    (long, refuses_number gathered (drop c.args.place.at all) c.header_at-header.result long c.header_at-header.ensures (omega arith) (omega arith))

pub returns-then-left-size : goal.returns-then-left-size
returns-then-left-size c = λ gathered size number.
    let all = c.args.old.now ++ c.args.piece.now in
    let left = length-drop c.args.place.at all in
    let both = length-append c.args.old.now c.args.piece.now in
    let long : 4 ≤ length (drop c.args.place.at all) = omega arith in
    waits_body gathered (drop c.args.place.at all) c.header_at-header.result long c.header_at-header.ensures (omega arith) (omega arith) (omega arith)

pub returns : goal.returns
returns c = λ gathered size number.
    let all = c.args.old.now ++ c.args.piece.now in
    let left = length-drop c.args.place.at all in
    let both = length-append c.args.old.now c.args.piece.now in
    let long : 4 ≤ length (drop c.args.place.at all) = omega arith in
    let whole : 4 + c.header_at-header.result % 2 ^ 31 ≤ length (drop c.args.place.at all) = omega arith in
    let small : length gathered.bytes + c.header_at-header.result % 2 ^ 31 ≤ 16384 = omega arith in
    let few : gathered.fragments < 64 = omega arith in
    (whole, small, few, brings gathered (drop c.args.place.at all) c.header_at-header.result _ long c.header_at-header.ensures small few whole refl)

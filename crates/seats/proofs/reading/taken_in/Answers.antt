use Rattle.std.proofs.Common.{◌≡◌, ◌∙◌, ℕ, List, drop, length, ap, arith, Err}
use Rattle.std.specs.Int.{w32, from_be_bytes}
use Rattle.std.proofs.lemmas.Result.{err_from_is_err_and}
use Rattle.seats.specs.Encoding.{sector_of}
use Rattle.seats.proofs.Sectors.{head_there, count_there, length_there}
use Rattle.seats.proofs.ReadBack.{err_is}
use Rattle.seats.proofs.reading.taken_in.Goals as goal

pub returns-then-count-eq0-clause-err : goal.returns-then-count-eq0-clause-err
returns-then-count-eq0-clause-err c = λ is seat fits encoded.
    let count : c.u32_at-count.result ≡ length seat.slots =
    c.u32_at-count.ensures.value ∙ ap (λ (h : List ℕ). from_be_bytes w32 (drop 24 h)) (head_there c.args.room seat fits (sector_of c.args.sectors.now) encoded) ∙ count_there c.args.room c.requires.few seat fits in
    omega (arith, fits.some)

pub returns-then-count-room-clause-err : goal.returns-then-count-room-clause-err
returns-then-count-room-clause-err c = λ is seat fits encoded.
    let count : c.u32_at-count.result ≡ length seat.slots =
    c.u32_at-count.ensures.value ∙ ap (λ (h : List ℕ). from_be_bytes w32 (drop 24 h)) (head_there c.args.room seat fits (sector_of c.args.sectors.now) encoded) ∙ count_there c.args.room c.requires.few seat fits in
    omega (arith, fits.few)

pub returns-then-len-gt-MAX_OWNER-clause-err : goal.returns-then-len-gt-MAX_OWNER-clause-err
returns-then-len-gt-MAX_OWNER-clause-err c = λ is seat fits encoded.
    let len : c.u32_at-len.result ≡ length seat.owner =
    c.u32_at-len.ensures.value ∙ ap (λ (h : List ℕ). from_be_bytes w32 (drop 28 h)) (head_there c.args.room seat fits (sector_of c.args.sectors.now) encoded) ∙ length_there c.args.room c.requires.few seat fits in
    omega (arith, fits.owner)

pub returns-in_err-slots-clause-err : goal.returns-in_err-slots-clause-err
returns-in_err-slots-clause-err c = λ is seat fits encoded.
    let p = err_from_is_err_and c.from_residual.result c.from_residual.ensures.1 in
    let fault = err_is _ _ (rw (p.1, p.2) at is) in
    c.in_err-slots.ensures.err (ap (λ x. Err x) fault) c.args.room seat (omega (arith, c.if-count-room.false)) fits encoded

use Rattle.std.proofs.Common.{◌≡◌, ℕ, ◌+◌, ◌%◌, ◌^◌, ◌≤◌, List, ◌++◌, length, take, drop, refl, sym, ap, ◌∙◌, rules, arith, le_refl, drop_at, length-take-le}
use Rattle.std.proofs.lemmas.Slice.{take-put_mid_below}
use borrow.Rule.Slice.PartMut.{put_mid, post_of}
use lib.Seq.{take-append-le}
use Rattle.client.proofs.Receiving.{no_header, too_big, too_many, cut_short, is_whole}
use Rattle.client.proofs.receive.fetch.Goals as goal

pub returns-in_default : goal.returns-in_default
returns-in_default g c = no_header _ _ _ _ _ c.in_default.ensures

pub returns-then-size-more-gt-MAX_RECORD_BYTES : goal.returns-then-size-more-gt-MAX_RECORD_BYTES
returns-then-size-more-gt-MAX_RECORD_BYTES g c = too_big _ _ _ _ c.in-Some.header _ c.in-Some.ensures c.if-size-more-gt-MAX_RECORD_BYTES.true

pub returns-then-fragments-ge-MAX_FRAGMENTS : goal.returns-then-fragments-ge-MAX_FRAGMENTS
returns-then-fragments-ge-MAX_FRAGMENTS g c =
    too_many _ _ _ _ c.in-Some.header _ c.in-Some.ensures (omega arith) c.if-fragments-ge-MAX_FRAGMENTS.true

-- what was read is at its place in the room
placed : (a k n : ℕ) (xs ys : List ℕ) → a ≤ length xs → n ≤ length ys → take n (drop a (put_mid a k xs ys)) ≡ take n ys
placed a k n xs ys within fits =
    let after = post_of a k xs in
    ap (take n) (drop_at (take a xs) (ys ++ after) a (length-take-le a xs within)) ∙ take-append-le n ys after fits

pub returns-then-fill-more : goal.returns-then-fill-more
returns-then-fill-more g c =
    let within : 4 + c.args.size ≤ length c.args.room.now = omega (arith, c.requires.room, c.requires.small) in
    let body = length-take-le c.fill.result c.fill.new.buf c.fill.ensures.bound in
    let short = c.if-fill-more.true in
    cut_short _ _ _ _ _ c.in-Some.header _ _ (take c.fill.result c.fill.new.buf) c.in-Some.ensures c.fill.ensures.bytes (omega arith) (omega arith) (omega arith)
    (take-put_mid_below _ _ _ _ _ (le_refl _) within) (search rules)

pub returns : goal.returns
returns g c =
    let within : 4 + c.args.size ≤ length c.args.room.now = omega (arith, c.requires.room, c.requires.small) in
    let body = length-take-le c.fill.result c.fill.new.buf c.fill.ensures.bound in
    let long : length c.fill.new.buf ≡ c.in-Some.header % 2 ^ 31 = search rules in
    let all : c.fill.result ≡ c.in-Some.header % 2 ^ 31 = omega (arith, long, c.fill.ensures.bound, c.if-fill-more.false) in
    is_whole _ _ _ _ _ c.in-Some.header _ _ _ (take c.fill.result c.fill.new.buf) c.in-Some.ensures c.fill.ensures.bytes (omega arith) (omega arith) (body ∙ all) refl
    (ap (λ (n : ℕ). take n c.fill.new.buf) all ∙ sym (placed _ _ (c.in-Some.header % 2 ^ 31) c.args.room.now c.fill.new.buf within (omega (arith, long))))
    (take-put_mid_below _ _ _ _ _ (le_refl _) within) (search rules)

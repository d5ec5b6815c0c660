use Rattle.std.proofs.Common.{◌≡◌, ◌≤◌, ◌<◌, ◌+◌, ◌++◌, ◌∷◌, [], ℕ, List, Ok, length, take, ap, ◌∙◌, arith}
use Rattle.std.specs.Prelude.{slice_set}
use Rattle.std.specs.Int.{w32}
use Rattle.std.proofs.lemmas.Result.{err_from_is_err_and}
use Rattle.std.proofs.lemmas.List.{take_all, take_more_set}
use Rattle.xdr.specs.Grammar.{number_at}
use Rattle.xdr.specs.Forms.{each_at}
use Rattle.xdr.proofs.Loops.{goes_on, ends, is_done}
use Rattle.xdr.proofs.words.fill_words.Goals as goal

pub returns-in_err-word : goal.returns-in_err-word
returns-in_err-word c =
    let p = err_from_is_err_and c.from_residual.result c.from_residual.ensures.1 in
    let i = c.loop-word.word-index in
    let lt : i < length c.args.words.now = omega arith in
    rw (p.1, p.2)
    (ends (λ bytes. number_at w32 bytes) (take i c.loop-word.words) (length c.args.words.now) i c.loop-word.at c.in_err-word.field-0.0
    (each_at (λ bytes. number_at w32 bytes) (length c.args.words.now) c.args.at) lt c.in_err-word.ensures.0 c.loop-word.invariant)

pub loop-word-preserved : goal.loop-word-preserved
loop-word-preserved c =
    let i = c.loop-word.word-index in
    let v = c.in_ok-word.field-0 in
    let lt : i < length c.args.words.now = omega arith in
    let within : i < length c.loop-word.words = omega arith in
    let taken : take (i + 1) (slice_set c.loop-word.words i v) ≡ take i c.loop-word.words ++ v ∷ [] = take_more_set c.loop-word.words i v within in
    rw taken
    (goes_on (λ bytes. number_at w32 bytes) (take i c.loop-word.words) (length c.args.words.now) i c.loop-word.at v c.read_u32.new.self
    (each_at (λ bytes. number_at w32 bytes) (length c.args.words.now) c.args.at) lt c.in_ok-word.ensures c.loop-word.invariant)

pub returns : goal.returns
returns c =
    let i = c.loop-word.word-index in
    let le : length c.args.words.now ≤ i = omega arith in
    let all : take i c.loop-word.words ≡ c.loop-word.words = take_all i c.loop-word.words (omega arith) in
    is_done (λ bytes. number_at w32 bytes) (take i c.loop-word.words) (length c.args.words.now) i c.loop-word.at
    (each_at (λ bytes. number_at w32 bytes) (length c.args.words.now) c.args.at) le c.loop-word.invariant
    ∙ ap (λ (words : List ℕ). Ok (words, c.loop-word.at)) all

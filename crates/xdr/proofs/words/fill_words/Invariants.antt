use Rattle.std.proofs.Common.{◌≡◌, ◌-◌, length, take}
use Rattle.std.specs.Int.{w32}
use Rattle.xdr.specs.Grammar.{number_at}
use Rattle.xdr.specs.Forms.{each_at}
use Rattle.xdr.proofs.Loops.{with_prefix}
use Rattle.xdr.proofs.words.fill_words.Given as goal

abbrev pub invariant-loop-word : goal.invariant-loop-word
invariant-loop-word l =
    with_prefix (take l.word-index l.words) (each_at (λ bytes. number_at w32 bytes) (length l.fn.words - l.word-index) l.at)
    ≡ each_at (λ bytes. number_at w32 bytes) (length l.fn.words) l.fn.at

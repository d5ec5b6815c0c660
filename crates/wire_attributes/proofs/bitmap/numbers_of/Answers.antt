use Rattle.std.proofs.Common.{◌≡◌, ◌∙◌, ◌+◌, ◌*◌, ◌++◌, sym, ap, length, take, get_or, arith, rules}
use Rattle.std.proofs.lemmas.List.{take_more, take_all, length-take-le}
use Rattle.model.specs.Attributes.Attribute.{attributes_from, attributes_of, attributes_of_word}
use Rattle.wire_attributes.proofs.Bits.{words-more}
use Rattle.wire_attributes.proofs.bitmap.numbers_of.Goals as goal

pub loop-word-preserved : goal.loop-word-preserved
loop-word-preserved c =
    let bitmap = c.args.bitmap.now in
    let i = c.loop-word.word-index in
    let word = get_or bitmap i 0 in
    let within = c.loop-word-test.true in
    let taken : length (take i bitmap) ≡ i = length-take-le i bitmap (omega arith) in
    let first : 0 + 32 * length (take i bitmap) ≡ c.loop-word.first = rw taken (omega arith) in
    let put : c.push_numbers.new.numbers.items ≡ c.loop-word.numbers.items ++ attributes_of_word c.loop-word.first word = search rules in
    record {
      next = omega arith;
      listed = put ∙ (ap (λ l. l ++ attributes_of_word c.loop-word.first word) c.loop-word.invariant.listed
          ∙ (ap (λ n. attributes_from 0 (take i bitmap) ++ attributes_of_word n word) (sym first)
          ∙ (sym (words-more 0 word (take i bitmap)) ∙ ap (attributes_from 0) (sym (take_more bitmap i 0 within)))));
    }

pub returns : goal.returns
unfolding attributes_of
returns c = c.loop-word.invariant.listed ∙ ap (attributes_from 0) (take_all c.loop-word.word-index c.args.bitmap.now c.loop-word-test.false)

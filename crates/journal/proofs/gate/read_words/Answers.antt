use Rattle.std.proofs.Common.{◌≡◌, ◌+◌, ◌*◌, ◌++◌, ◌∷◌, [], ℕ, List, arith, sym, ◌∙◌, ap, drop, take, length, ◌-◌, map}
use Rattle.std.specs.List.{range_with_len}
use Rattle.std.proofs.lemmas.List.{length-drop}
use Rattle.journal.proofs.GateBytes.{take_past}
use Rattle.byteorder.specs.Endian.{big_number}
use Rattle.journal.proofs.GateWords.{words_more}
use Rattle.journal.proofs.gate.read_words.Goals as goal

pub loop-i-preserved : goal.loop-i-preserved
loop-i-preserved c = record {
  named =
      let from : ℕ = 8 + 4 * c.loop-i.i in
      let rest : take (length c.args.sector.now - from) (drop from c.args.sector.now) ≡ drop from c.args.sector.now =
      take_past (drop from c.args.sector.now) (length c.args.sector.now - from) (omega (arith, length-drop from c.args.sector.now)) in
      let word : c.read_u32.result ≡ big_number 4 (drop from c.args.sector.now) =
      c.read_u32.ensures ∙ ap (λ (xs : List ℕ). big_number 4 xs) rest in
      c.push_reserved.ensures.items ∙ ap (λ (xs : List ℕ). xs ++ c.read_u32.result ∷ []) c.loop-i.invariant.named
      ∙ ap (λ (x : ℕ). map (λ i. big_number 4 (drop (8 + 4 * i) c.args.sector.now)) (range_with_len 0 c.loop-i.i) ++ x ∷ []) word
      ∙ sym (words_more (λ i. big_number 4 (drop (8 + 4 * i) c.args.sector.now)) c.loop-i.i);
  capacity = c.push_reserved.ensures.capacity ∙ c.loop-i.invariant.capacity;
  len = c.push_reserved.ensures.len ∙ ap (λ (n : ℕ). n + 1) c.loop-i.invariant.len;
}

use Rattle.std.proofs.Common.{List, Bool, false, get_or, ap, sym, ◌∙◌, arith}
use Rattle.std.proofs.lemmas.List.{get_or_past}
use Rattle.std.proofs.lemmas.Bool.{le-ltb}
use Rattle.freemap.specs.Places.{is_one, places_in}
use Rattle.freemap.proofs.Bits.{read_from, length-places_in, places_in-at}
use Rattle.freemap.proofs.bitmap.Bitmap.is_used.Goals as goal

pub returns-then-place-self : goal.returns-then-place-self
returns-then-place-self c =
    let old = c.self.inside in
    read_from c.is_set.result ∙ ap is_one (rw c.deref.ensures.value at c.is_set.ensures) ∙ sym (places_in-at old.bits.items old.count c.args.place false c.if-place-self.true)
    ∙ ap (λ (places : List Bool). get_or places c.args.place false) c.self.view_is

pub returns-else-place-self : goal.returns-else-place-self
returns-else-place-self c =
    let old = c.self.inside in
    le-ltb c.args.place old.count c.if-place-self.false
    ∙ sym (get_or_past (places_in old.bits.items old.count) c.args.place false (omega (arith, length-places_in old.bits.items old.count, c.if-place-self.false)))
    ∙ ap (λ (places : List Bool). get_or places c.args.place false) c.self.view_is

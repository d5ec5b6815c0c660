use Rattle.std.proofs.Common.{◌*◌, ◌∙◌, ℕ, List, sym, subst}
use Rattle.std.proofs.lemmas.Bool.{false≢true}
use Rattle.freemap.proofs.Laws.{one_encoding}
use Rattle.volume_load.specs.Sectors.{AreBits}
use Rattle.volume_load.proofs.volume.check_marks.Goals as goal

pub returns-then-not-are_same-clause-damaged : goal.returns-then-not-are_same-clause-damaged
returns-then-not-are_same-clause-damaged g c = λ word is shows.
    let first = 32768 * c.args.part in
    let bits = subst (λ (l : List ℕ). AreBits l c.args.places.now first) (sym (c.in_ok-content.ensures.content word)) shows in
    let same = one_encoding c.args.places.now first c.in_ok-content.content c.write_sector.new.sector c.are_same.ensures.bytes.0 c.are_same.ensures.bytes.1 (record { len = c.are_same.ensures.whole; bits = bits }) c.write_sector.ensures in
    false≢true (sym c.if-not-are_same.true ∙ c.are_same.ensures.same.1 same)

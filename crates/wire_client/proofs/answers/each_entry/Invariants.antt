use Rattle.std.proofs.Common.{map, ◌≡◌, ◌-◌, length}
use Rattle.xdr.specs.Forms.{links_at}
use Rattle.xdr.proofs.Loops.{with_prefix}
use Rattle.model.specs.Wire.WireAnswers.{entry}
use Rattle.wire.specs.AnswerViews.{entry_view}
use Rattle.wire_client.proofs.answers.each_entry.Given as goal

abbrev pub invariant-loop : goal.invariant-loop
invariant-loop l =
    with_prefix (map entry_view l.entries.items) (links_at entry.read (length l.fn.at - l.counter) l.at)
    ≡ links_at entry.read (length l.fn.at) l.fn.at

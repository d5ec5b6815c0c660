use Rattle.std.proofs.Common.{◌≡◌, ◌==◌, true, false, length, refl, sym, ◌∙◌}
use Rattle.peer.proofs.peer.Peer.gather.Goals as goal

pub returns-clause-does : goal.returns-clause-does
returns-clause-does g c = record {
  advances = c.hand_over.ensures.does;
  reads = λ gathers empty.
      let none : (length c.args.self.now.inbox == 0) ≡ true = rw empty refl in
      let some : (length c.args.self.now.inbox == 0) ≡ false = sym c.is_empty.ensures ∙ c.if-is_empty.false in
      let never : ⊥ = cc in
      absurd never;
}

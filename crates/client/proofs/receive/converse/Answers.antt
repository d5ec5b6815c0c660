use Rattle.std.proofs.Common.{◌≡◌, ℕ, ◌+◌, ◌^◌, List, [], ◌++◌, take, drop, inl, inr, refl, sym, ap, ◌∙◌, rules}
use Rattle.std.specs.Int.{w32, to_be_bytes}
use Rattle.std.proofs.KnownBytes.{Consumes-nil}
use Rattle.model.specs.Wire.Record.{framed}
use Rattle.client.proofs.Receiving.{none_yet, lent, put_length, headed}
use Rattle.client.proofs.receive.converse.Goals as goal

pub returns-then-not-send : goal.returns-then-not-send
returns-then-not-send g c =
    let s = c.send.ensures in
    inr (record {
      read = [];
      passes = record { sent = s.sent; unsent = s.unsent; parts = s.parts; writes = s.writes; reads = Consumes-nil _; order = inr refl };
      comes = rw none_yet refl;
    })

pub returns-in-Whole : goal.returns-in-Whole
returns-in-Whole g c =
    let s = c.send.ensures in
    let r = c.in-Whole.ensures in
    let size = c.in-Whole.size in
    let full : c.resize.new.self.len ≡ 16388 = search rules in
    let room = c.receive.new.room in
    let put = c.put_header.new.room in
    let put_is : put ≡ to_be_bytes w32 (2 ^ 31 + size) ++ drop 4 room =
    c.put_header.ensures ∙ ap (λ (bytes : List ℕ). to_be_bytes w32 (2 ^ 31 + size) ++ drop 4 bytes) (c.deref_mut-in-Whole.ensures.value ∙ lent _ room _ (r.long ∙ sym full)) in
    let record_is : c.truncate.new.self.items ≡ framed (take size (drop 4 room)) =
    c.truncate.ensures.items ∙ ap (take (4 + size)) (lent _ put _ (put_length size room put r.long put_is ∙ sym full)) ∙ headed size room put r.long r.is.0 put_is in
    inr (record {
      read = r.read;
      passes = record { sent = s.sent; unsent = s.unsent; parts = s.parts; writes = s.writes; reads = r.reads; order = inl (s.whole (search rules)) };
      comes = rw r.is.1 (refl, refl, record_is);
    })

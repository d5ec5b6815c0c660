use Rattle.std.proofs.Common.{◌≡◌, ap, sym, ◌∙◌, drop}
use Rattle.rpc.specs.declared.state.State.{State}
use Rattle.rpc.specs.Assembly.{Gathers, Holds, Refuses, assembly_of}
use Rattle.rpc.proofs.Feeds.{more_taken, whole_taken, none_taken, refused_by, refused_before}
use Rattle.rpc.proofs.assembler.Assembler.feed.Goals as goal

pub returns-in-More-clause-taken : goal.returns-in-More-clause-taken
returns-in-More-clause-taken c =
    let bytes = c.self.inside.buffer.items in
    let is : c.args.self.now ≡ Gathers bytes = sym c.self.view_is ∙ ap (λ (s : State). assembly_of s bytes) c.in-Gathers.is in
    more_taken c.args.self.now bytes c.args.piece.now c.receive_piece.new.bytes.items is c.in-More.ensures.received

pub returns-in-Whole-clause-taken : goal.returns-in-Whole-clause-taken
returns-in-Whole-clause-taken c =
    let bytes = c.self.inside.buffer.items in
    let is : c.args.self.now ≡ Gathers bytes = sym c.self.view_is ∙ ap (λ (s : State). assembly_of s bytes) c.in-Gathers.is in
    whole_taken c.args.self.now bytes c.args.piece.now c.receive_piece.new.bytes.items c.in-Whole.taken c.in-Whole.start is c.in-Whole.ensures.received

pub returns-in-Refused-clause-refused : goal.returns-in-Refused-clause-refused
returns-in-Refused-clause-refused c =
    let bytes = c.self.inside.buffer.items in
    let is : c.args.self.now ≡ Gathers bytes = sym c.self.view_is ∙ ap (λ (s : State). assembly_of s bytes) c.in-Gathers.is in
    refused_by c.args.self.now bytes c.args.piece.now c.in-Refused.fault is c.in-Refused.ensures.received

pub returns-in-Holds-clause-taken : goal.returns-in-Holds-clause-taken
returns-in-Holds-clause-taken c =
    let bytes = c.self.inside.buffer.items in
    let is : c.args.self.now ≡ Holds (drop c.in-Holds.start bytes) = sym c.self.view_is ∙ ap (λ (s : State). assembly_of s bytes) c.in-Holds.is in
    none_taken c.args.self.now (drop c.in-Holds.start bytes) c.args.piece.now is

pub returns-in-Refuses-clause-refused : goal.returns-in-Refuses-clause-refused
returns-in-Refuses-clause-refused c =
    let is : c.args.self.now ≡ Refuses c.in-Refuses.fault = sym c.self.view_is ∙ ap (λ (s : State). assembly_of s c.self.inside.buffer.items) c.in-Refuses.is in
    let same = refused_before c.args.self.now c.args.piece.now c.in-Refuses.fault is in
    record {
      reason = same.reason;
      lasts = is;
      none_taken = same.none_taken;
      closes = same.closes;
    }
